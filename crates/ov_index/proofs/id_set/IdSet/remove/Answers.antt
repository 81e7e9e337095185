use Rattle.std.proofs.Common.{◌≡◌, ap, subst, sym, ◌∙◌}
use Rattle.std.specs.FinMap.{remove}
use Rattle.ov_index.specs.Indexing.{Ascend, IdSet, set_of_ids}
use Rattle.ov_index.proofs.IdSets.{IsBetween, IsFoundAt, searched_between, searched_found, ascend-remove, set_of-remove, set_of-absent}
use Rattle.ov_index.proofs.id_set.IdSet.remove.Goals as goal

pub invariant_of-self : goal.invariant_of-self
invariant_of-self c = subst Ascend (sym c.remove.ensures.items) (ascend-remove c.self.inside.ids.items c.in-Ok.place c.self.invariant)

pub returns-in-Ok : goal.returns-in-Ok
returns-in-Ok c =
    let ids = c.self.inside.ids.items in
    let at : IsFoundAt ids c.args.id c.in-Ok.place = searched_found ids c.as_slice.result.now c.args.id c.in-Ok.place c.self.invariant c.as_slice.ensures c.in-Ok.ensures.bound c.in-Ok.ensures.position in
    ap set_of_ids c.remove.ensures.items ∙ set_of-remove ids c.self.invariant c.args.id c.in-Ok.place at ∙ ap (λ (set : IdSet). remove set c.args.id) c.self.view_is

pub returns-in_default : goal.returns-in_default
returns-in_default c =
    let ids = c.self.inside.ids.items in
    let at : IsBetween ids c.args.id c.in_default.field-0 = searched_between ids c.as_slice.result.now c.args.id c.in_default.field-0 c.self.invariant c.as_slice.ensures c.in_default.ensures.bound c.in_default.ensures.position in
    subst (λ (set : IdSet). set ≡ remove set c.args.id) c.self.view_is (set_of-absent ids c.self.invariant c.args.id c.in_default.field-0 at)
