-- The rows of a table with one more, and the first row that passes a test.
use Rattle.std.proofs.Common.{◌≡◌, List, [], ◌∷◌, find, filter, cond, Bool, true, false, not, ◌&&◌, ◌||◌, Option, Some, None, refl, sym, ap, ◌∙◌}
use Rattle.std.specs.declared.cmp.Ordering.{Ordering}
use Rattle.std.specs.declared.cmp.Ordering.TheVariants.{Less, Equal, Greater}
use Rattle.std.specs.Ordering.{is_eq, match_ordering}
use Rattle.std.specs.Cmp.{eq_by_cmp_equiv}
use Rattle.std.specs.List.{AllByRecursion, list_any}
use Rattle.sqlite.specs.Order.{Row, column, value_cmp}
use Rattle.sqlite_trees.specs.Tree.{rowid, put_row}
use Rattle.sqlite_trees.proofs.TreeLemmas.{all-put_row}
use Rattle.sqlite_trees.proofs.ListLemmas.{all_weaker, all_both}
use Rattle.sqlite_value.proofs.OrderLemmas.{value_cmp_total}
use Rattle.sqlite_rules.specs.Edit.{is_taken, are_fresh}
use Rattle.ov_specs.proofs.laws.Truths.{equal_is, right_fails}
use Rattle.ov_tables.specs.Holding.{IsNumbered}

pub not_taken : (rows : List Row) (new : Row) → are_fresh rows (new ∷ []) ≡ true → is_taken rows new ≡ false
not_taken rows new h = elim (is_taken rows new) as (λ b. (not b && true) ≡ true → b ≡ false) [ true ↦ λ e. absurd cc | false ↦ λ e. refl ] h

taken_first : (r new : Row) (b : Bool) → (is_eq (value_cmp (rowid r) (rowid new)) || b) ≡ false → value_cmp (rowid r) (rowid new) ≡ Equal → ⊥
taken_first r new b h e = let t : (is_eq Equal || b) ≡ false = rw e at h in cc

-- ---- numbers

-- a number that is not taken is that of no row
fresh_numbers : (new : Row) (rows : List Row) → is_taken rows new ≡ false → AllByRecursion (λ r. column r 0 ≡ column new 0 → ⊥) rows
fresh_numbers new [] fresh = tt
fresh_numbers new (r ∷ rows) fresh =
    (λ e. taken_first r new _ fresh (equal_is (value_cmp (rowid r) (rowid new)) (ap (λ v. is_eq (value_cmp v (rowid new))) e ∙ (eq_by_cmp_equiv value_cmp_total).refl (rowid new))), fresh_numbers new rows (right_fails _ _ fresh))

pub put_numbered : {X : Type 0} (is : Row → X) (new : Row) (rows : List Row) → is_taken rows new ≡ false → IsNumbered is rows → IsNumbered is (put_row new rows)
put_numbered is new rows fresh numbered =
    let apart = fresh_numbers new rows fresh in
    all-put_row _ new rows
    (all-put_row _ new rows (λ e. refl) (all_weaker _ _ (λ s no e. absurd (no e)) rows apart))
    (all_both _ _ _ (λ r no ones. all-put_row _ new rows (λ e. absurd (no (sym e))) ones) rows apart numbered)

-- ---- tests

module _ (p : Row → Bool) where
  -- two rows of which one passes are asked in either order
  swapped : (a b : Bool) (x y : Row) (z : Option Row) → (a ≡ true → b ≡ true → ⊥) → cond a (Some x) (cond b (Some y) z) ≡ cond b (Some y) (cond a (Some x) z)
  swapped true true x y z h = absurd (h refl refl)
  swapped true false x y z h = refl
  swapped false b x y z h = refl

  -- a new row is found where it passes and no other does
  pub find_put : (new : Row) (rows : List Row) → is_taken rows new ≡ false → AllByRecursion (λ r. p r ≡ true → p new ≡ true → ⊥) rows → find p (put_row new rows) ≡ cond (p new) (Some new) (find p rows)
  find_put new [] fresh none = refl
  find_put new (r ∷ rs) fresh none =
      let next = find_put new rs (right_fails _ _ fresh) none.1 in
      let P = λ (o : Ordering). value_cmp (rowid r) (rowid new) ≡ o
      → find p (match_ordering o (r ∷ put_row new rs) (new ∷ rs) (new ∷ r ∷ rs)) ≡ cond (p new) (Some new) (cond (p r) (Some r) (find p rs)) in
      elim (value_cmp (rowid r) (rowid new)) as P [
        | Less ↦ λ is. ap (cond (p r) (Some r)) next ∙ swapped (p r) (p new) r new (find p rs) none.0
        | Equal ↦ λ is. absurd (taken_first r new _ fresh is)
        | Greater ↦ λ is. refl
      ] refl

  -- the rows that pass are all kept
  pub find_kept : (q : Row → Bool) (rows : List Row) → AllByRecursion (λ r. p r ≡ true → q r ≡ true) rows → find p (filter q rows) ≡ find p rows
  find_kept q [] keeps = refl
  find_kept q (r ∷ rows) keeps = go (q r) refl (find_kept q rows keeps.1)
    where
      go : (a : Bool) → q r ≡ a → find p (filter q rows) ≡ find p rows → find p (cond {A = List Row} a (r ∷ filter q rows) (filter q rows)) ≡ cond (p r) (Some r) (find p rows)
      go true is e = ap (cond (p r) (Some r)) e
      go false is e = e ∙ at (p r) refl
        where
          at : (c : Bool) → p r ≡ c → find p rows ≡ cond c (Some r) (find p rows)
          at true passes = absurd (let clash : true ≡ false = sym (keeps.0 passes) ∙ is in cc)
          at false passes = refl

  -- no row that passes is kept
  pub find_gone : (q : Row → Bool) (rows : List Row) → AllByRecursion (λ r. p r ≡ true → q r ≡ false) rows → find p (filter q rows) ≡ None
  find_gone q [] goes = refl
  find_gone q (r ∷ rows) goes = go (q r) refl (find_gone q rows goes.1)
    where
      go : (a : Bool) → q r ≡ a → find p (filter q rows) ≡ None → find p (cond {A = List Row} a (r ∷ filter q rows) (filter q rows)) ≡ None
      go false is e = e
      go true is e = at (p r) refl
        where
          at : (c : Bool) → p r ≡ c → cond c (Some r) (find p (filter q rows)) ≡ None
          at true passes = absurd (let kept = goes.0 passes in let clash : true ≡ false = sym is ∙ kept in cc)
          at false passes = e

  -- where none is found, none passes
  pub none_passes : (rows : List Row) → find p rows ≡ None → AllByRecursion (λ r. p r ≡ false) rows
  none_passes [] h = tt
  none_passes (r ∷ rows) h =
      let both = elim (p r) as (λ b. cond b (Some r) (find p rows) ≡ None → (b ≡ false) × (find p rows ≡ None)) [ true ↦ λ n. absurd cc | false ↦ λ n. (refl, n) ] h in
      (both.0, none_passes rows both.1)

  pub passes_none : (rows : List Row) → AllByRecursion (λ r. p r ≡ false) rows → find p rows ≡ None
  passes_none [] all = refl
  passes_none (r ∷ rows) all = rw all.0 (passes_none rows all.1)

  -- whether any row passes is not changed by where the new one is put
  pub any_put : (new : Row) (rows : List Row) → is_taken rows new ≡ false → list_any p (put_row new rows) ≡ (p new || list_any p rows)
  any_put new [] fresh = refl
  any_put new (r ∷ rs) fresh =
      let next = any_put new rs (right_fails _ _ fresh) in
      let P = λ (o : Ordering). value_cmp (rowid r) (rowid new) ≡ o
      → list_any p (match_ordering o (r ∷ put_row new rs) (new ∷ rs) (new ∷ r ∷ rs)) ≡ (p new || (p r || list_any p rs)) in
      elim (value_cmp (rowid r) (rowid new)) as P [
        | Less ↦ λ is. ap (λ b. p r || b) next ∙ turned (p r) (p new) (list_any p rs)
        | Equal ↦ λ is. absurd (taken_first r new _ fresh is)
        | Greater ↦ λ is. refl
      ] refl
    where
      turned : (a b c : Bool) → (a || (b || c)) ≡ (b || (a || c))
      turned true true c = refl
      turned true false c = refl
      turned false b c = refl
