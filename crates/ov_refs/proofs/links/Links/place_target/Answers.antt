use Rattle.std.proofs.Common.{◌≡◌, ◌∷◌, [], ◌++◌, sym, ap, ◌∙◌}
use Rattle.ov_specs.specs.integrity.References.{Target, RowReference}
use Rattle.ov_refs.proofs.Placing.{placed-back, placed-adds, known-adds}
use Rattle.ov_refs.proofs.links.Links.place_target.Goals as goal

pub returns-then-has-clause-adds : goal.returns-then-has-clause-adds
returns-then-has-clause-adds c = known-adds c.args.from.now c.args.to.now c.args.self.now (sym c.has.ensures ∙ c.if-has.true)

pub returns-clause-back : goal.returns-clause-back
returns-clause-back c =
    let by = c.args.from.now in
    let target = c.args.to.now in
    let links = c.args.self.now in
    let one : RowReference = record { from = by; to = target } in
    let listed : c.push_reserved.new.self.items ≡ c.args.added.now.items ++ one ∷ [] =
    c.push_reserved.ensures.items ∙ (λ i. c.reserve.ensures.items i ++ (c.in_ok-reference.ensures ∙ ap (λ (t : Target). record { from = by; to = t }) c.in_ok-copied.ensures) i ∷ []) in
    placed-back by target links (sym c.has.ensures ∙ c.if-has.false) c.args.added.now.items c.push_reserved.new.self.items c.add_target.new.self listed
    c.in_ok-add_target.ensures.ok

pub returns-clause-adds : goal.returns-clause-adds
returns-clause-adds c =
    placed-adds c.args.from.now c.args.to.now c.args.self.now c.add_target.new.self c.in_ok-add_target.ensures.ok
