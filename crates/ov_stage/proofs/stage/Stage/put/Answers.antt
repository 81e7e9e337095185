use Rattle.std.proofs.Common.{◌≡◌, true, false, Some, sym, ap, subst, ◌∙◌}
use Rattle.std.specs.FinMap.{get, insert}
use Rattle.ov_stored.specs.Changing.{Delta, applied}
use Rattle.ov_specs.specs.rows.Database.{Database}
use Rattle.ov_specs.specs.rows.Version.{row_now}
use Rattle.ov_stage.specs.Staging.{Differs, Stage, has_columns}
use Rattle.ov_stage.proofs.Stages.{applied-insert, applied-remove, changed_differs, changed_is, differs-insert, differs-remove, former_is}
use Rattle.ov_stage.proofs.stage.Stage.put.Goals as goal

pub invariant_of-self : goal.invariant_of-self
invariant_of-self c =
    (subst (λ (d : Delta). Differs d c.self.inside.rows.now) (sym c.remove.ensures) (differs-remove c.self.inside.delta c.self.inside.rows.now c.args.key c.self.invariant.0), c.self.invariant.1)

pub returns-then-is_former-clause-ok : goal.returns-then-is_former-clause-ok
returns-then-is_former-clause-ok c =
    let before = c.self.inside.rows.now in
    let with : Database → Stage = λ db. record { before = before; now = db } in
    let former : has_columns c.args.columns (get before c.args.key) ≡ true = sym c.is_former.ensures ∙ c.if-is_former.true in
    ap with (ap (λ (d : Delta). applied d before) c.remove.ensures
    ∙ applied-remove c.self.inside.delta before c.args.key (Some (row_now before c.args.version c.args.key c.args.columns)) (former_is before c.args.version c.args.key c.args.columns former))
    ∙ ap (λ (s : Stage). record s { now = insert s.now c.args.key (row_now s.before c.args.version c.args.key c.args.columns) }) c.self.view_is

pub invariant_of-self-2 : goal.invariant_of-self-2
invariant_of-self-2 c =
    let before = c.self.inside.rows.now in
    let changed : has_columns c.args.columns (get before c.args.key) ≡ false = sym c.is_former.ensures ∙ c.if-is_former.false in (
      subst (λ (d : Delta). Differs d before) (sym c.in_ok-insert.ensures.ok)
          (differs-insert c.self.inside.delta before c.args.key (Some (record { version = c.args.version; columns = c.args.columns })) c.self.invariant.0 (changed_differs before c.args.version c.args.key c.args.columns changed)),
      c.self.invariant.1,
    )

pub returns-clause-ok : goal.returns-clause-ok
returns-clause-ok c =
    let before = c.self.inside.rows.now in
    let with : Database → Stage = λ db. record { before = before; now = db } in
    let changed : has_columns c.args.columns (get before c.args.key) ≡ false = sym c.is_former.ensures ∙ c.if-is_former.false in
    ap with (ap (λ (d : Delta). applied d before) c.in_ok-insert.ensures.ok
    ∙ applied-insert c.self.inside.delta before c.args.key (Some (record { version = c.args.version; columns = c.args.columns }))
    ∙ ap (insert (applied c.self.inside.delta before) c.args.key) (sym (changed_is before c.args.version c.args.key c.args.columns changed)))
    ∙ ap (λ (s : Stage). record s { now = insert s.now c.args.key (row_now s.before c.args.version c.args.key c.args.columns) }) c.self.view_is
