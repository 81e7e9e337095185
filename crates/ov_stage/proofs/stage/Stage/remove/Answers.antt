use Rattle.std.proofs.Common.{◌≡◌, None, sym, ap, subst, ◌∙◌}
use Rattle.std.specs.FinMap.{get, remove}
use Rattle.ov_stored.specs.Changing.{Delta, applied}
use Rattle.ov_stored.proofs.Added.{absent}
use Rattle.ov_specs.specs.rows.Database.{Database}
use Rattle.ov_stage.specs.Staging.{Differs, Stage}
use Rattle.ov_stage.proofs.Stages.{applied-insert, applied-remove, differs-insert, differs-remove, removed_differs}
use Rattle.ov_stage.proofs.stage.Stage.remove.Goals as goal

pub invariant_of-self : goal.invariant_of-self
invariant_of-self c =
    (subst (λ (d : Delta). Differs d c.self.inside.rows.now) (sym c.remove.ensures) (differs-remove c.self.inside.delta c.self.inside.rows.now c.args.key c.self.invariant.0), c.self.invariant.1)

pub returns-then-not-contains-clause-ok : goal.returns-then-not-contains-clause-ok
returns-then-not-contains-clause-ok c =
    let before = c.self.inside.rows.now in
    let with : Database → Stage = λ db. record { before = before; now = db } in
    let none : get before c.args.key ≡ None = absent before c.args.key (sym c.contains.ensures ∙ c.if-not-contains.true) in
    ap with (ap (λ (d : Delta). applied d before) c.remove.ensures ∙ applied-remove c.self.inside.delta before c.args.key None none)
    ∙ ap (λ (s : Stage). record s { now = remove s.now c.args.key }) c.self.view_is

pub invariant_of-self-2 : goal.invariant_of-self-2
invariant_of-self-2 c =
    let before = c.self.inside.rows.now in (
      subst (λ (d : Delta). Differs d before) (sym c.in_ok-insert.ensures.ok)
          (differs-insert c.self.inside.delta before c.args.key None c.self.invariant.0 (removed_differs before c.args.key (sym c.contains.ensures ∙ c.if-not-contains.false))),
      c.self.invariant.1,
    )

pub returns-clause-ok : goal.returns-clause-ok
returns-clause-ok c =
    let before = c.self.inside.rows.now in
    let with : Database → Stage = λ db. record { before = before; now = db } in
    ap with (ap (λ (d : Delta). applied d before) c.in_ok-insert.ensures.ok ∙ applied-insert c.self.inside.delta before c.args.key None)
    ∙ ap (λ (s : Stage). record s { now = remove s.now c.args.key }) c.self.view_is
