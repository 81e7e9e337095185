use Rattle.std.proofs.Common.{◌≡◌, List, not, if◌then◌else◌, ap, sym, subst, ◌∙◌}
use Rattle.std.specs.Prelude.{OnOk, OnErr, Ok, Err, Result}
use Rattle.std.specs.FinMap.{contains_key, insert}
use Rattle.std.specs.Result.{is_ok}
use Rattle.ov_specs.specs.values.Uuid.{Uuid}
use Rattle.ov_index.specs.Indexing.{IdSet, set_of_ids}
use Rattle.ov_index.proofs.IdSets.{IsBetween, IsFoundAt, searched_between, searched_found, ascend-try, contains-searched, set_of-insert, set_of-again}
use Rattle.ov_index.proofs.id_set.IdSet.insert.Goals as goal

tried : {A E : Type 0} (r : Result A E) (new put old : List Uuid) → OnOk r (new ≡ put) → OnErr r (new ≡ old) → new ≡ (if is_ok r then put else old)
tried (Ok a) new put old ok err = ok
tried (Err e) new put old ok err = err

-- under OnErr the list is as the whole is
kept : {A E : Type 0} (r : Result A E) (P Q : Type 0) → (P → Q) → OnErr r P → OnErr r Q
kept (Ok a) P Q f p = tt
kept (Err e) P Q f p = f p

pub invariant_of-self-in-Err : goal.invariant_of-self-in-Err
invariant_of-self-in-Err c =
    let ids = c.self.inside.ids.items in
    let at : IsBetween ids c.args.id c.in-Err.place = searched_between ids c.as_slice.result.now c.args.id c.in-Err.place c.self.invariant c.as_slice.ensures c.in-Err.ensures.bound c.in-Err.ensures.position in
    ascend-try (is_ok c.insert.result) ids c.insert.new.self.items c.args.id c.in-Err.place c.self.invariant at
    (tried c.insert.result _ _ _ c.insert.ensures.ok (kept c.insert.result _ _ (λ same. ap (λ v. v.items) same) c.insert.ensures.err))

pub returns-in-Ok-clause-ok : goal.returns-in-Ok-clause-ok
returns-in-Ok-clause-ok c =
    let ids = c.self.inside.ids.items in
    let at : IsFoundAt ids c.args.id c.in-Ok.field-0 = searched_found ids c.as_slice.result.now c.args.id c.in-Ok.field-0 c.self.invariant c.as_slice.ensures c.in-Ok.ensures.bound c.in-Ok.ensures.position in
    subst (λ (set : IdSet). set ≡ insert set c.args.id tt) c.self.view_is (set_of-again ids c.self.invariant c.args.id c.in-Ok.field-0 at)

pub returns-in-Ok-clause-is_new : goal.returns-in-Ok-clause-is_new
returns-in-Ok-clause-is_new c =
    ap not (ap (λ r. is_ok r) (sym c.in-Ok.is) ∙ contains-searched c.self.inside.ids.items c.as_slice.result.now c.args.id c.binary_search.result c.self.invariant c.as_slice.ensures c.binary_search.ensures.bound c.binary_search.ensures.position
    ∙ ap (λ (set : IdSet). contains_key set c.args.id) c.self.view_is)

pub returns-in_ok-insert-in-Err-clause-ok : goal.returns-in_ok-insert-in-Err-clause-ok
returns-in_ok-insert-in-Err-clause-ok c =
    let ids = c.self.inside.ids.items in
    let at : IsBetween ids c.args.id c.in-Err.place = searched_between ids c.as_slice.result.now c.args.id c.in-Err.place c.self.invariant c.as_slice.ensures c.in-Err.ensures.bound c.in-Err.ensures.position in
    ap set_of_ids c.in_ok-insert-in-Err.ensures.ok ∙ set_of-insert ids c.self.invariant c.args.id c.in-Err.place at ∙ ap (λ (set : IdSet). insert set c.args.id tt) c.self.view_is

pub returns-in_ok-insert-in-Err-clause-is_new : goal.returns-in_ok-insert-in-Err-clause-is_new
returns-in_ok-insert-in-Err-clause-is_new c =
    ap not (ap (λ r. is_ok r) (sym c.in-Err.is) ∙ contains-searched c.self.inside.ids.items c.as_slice.result.now c.args.id c.binary_search.result c.self.invariant c.as_slice.ensures c.binary_search.ensures.bound c.binary_search.ensures.position
    ∙ ap (λ (set : IdSet). contains_key set c.args.id) c.self.view_is)
