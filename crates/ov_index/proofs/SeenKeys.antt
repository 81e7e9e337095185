-- Maps of the code whose keys stand for those of the definitions: what is at a key, and what one change does.
use Rattle.std.proofs.Common.{◌≡◌, List, [], ◌∷◌, Bool, true, false, cond, T, Option, Some, refl, sym, ap, ◌∙◌}
use Rattle.std.specs.BTreeMap.{BTreeMap, UpdatesBy, is_at}
use Rattle.std.specs.Cmp.{IsTotalOrder, eq_by_cmp_equiv}
use Rattle.std.specs.FinMap.{IsAntisymmetric, find, is_sorted, get, entries, from_sorted, get-from_sorted, entries-from_sorted}
use Rattle.std.specs.FinMap.Entries.{below_all}
use Rattle.std.specs.Map.{lookup, KeepsOthers}
use Rattle.std.specs.Ordering.{eq_by_cmp}
use Rattle.std.specs.declared.cmp.Ordering.{Ordering}
use Rattle.ov_index.specs.Nested.{seen}
use Rattle.ov_specs.proofs.laws.Truths.{both_hold, left_holds, right_holds, equal_is}

module _ {A B : Type 0} (see : A → B) (R : B → B → Ordering) where
  -- the order of keys by what they stand for
  abbrev pub by_seen : A → A → Ordering
  by_seen a b = R (see a) (see b)

  same_key : IsAntisymmetric R → (a b : B) → eq_by_cmp R a b ≡ true → a ≡ b
  same_key exact a b tied = exact a b (equal_is _ tied)

  module _ {X : Type 0} where
    -- what is at the key
    abbrev pub found_at : B → List (A × X) → Option X
    found_at q es = lookup (is_at (λ a. R q (see a))) es

    -- those at this key are others, and those at no other key are
    abbrev pub Puts : List (A × X) → List (A × X) → B → Option X → Type 0
    Puts es es' key new = (q : B) → found_at q es' ≡ cond (eq_by_cmp R key q) new (found_at q es)

    seen_below : (a : A) (es : List (A × X)) → T (below_all by_seen a es) → T (below_all R (see a) (seen see es))
    seen_below a [] h = tt
    seen_below a (e ∷ es) h = both_hold _ _ (left_holds _ _ h) (seen_below a es (right_holds _ _ h))

    pub seen_sorted : (es : List (A × X)) → T (is_sorted by_seen es) → T (is_sorted R (seen see es))
    seen_sorted [] h = tt
    seen_sorted (e ∷ es) h = both_hold _ _ (seen_below e.0 es (left_holds _ _ h)) (seen_sorted es (right_holds _ _ h))

    find_seen : (q : B) (es : List (A × X)) → find R q (seen see es) ≡ found_at q es
    find_seen q [] = refl
    find_seen q (e ∷ es) = ap (cond (eq_by_cmp R q (see e.0)) (Some e.1)) (find_seen q es)

    pub get_seen : (es : List (A × X)) (q : B) → T (is_sorted by_seen es) → get (from_sorted {R = R} (seen see es)) q ≡ found_at q es
    get_seen es q h = get-from_sorted R (seen see es) q (seen_sorted es h) ∙ find_seen q es

    pub entries_seen : (es : List (A × X)) → T (is_sorted by_seen es) → entries (from_sorted {R = R} (seen see es)) ≡ seen see es
    entries_seen es h = entries-from_sorted R (seen see es) (seen_sorted es h)

    module _ (total : IsTotalOrder R) (exact : IsAntisymmetric R) where
      others : (es es' : List (A × X)) (key q : B) → KeepsOthers (eq_by_cmp by_seen) (is_at (λ a. R key (see a))) es es' → eq_by_cmp R key q ≡ false → found_at q es' ≡ found_at q es
      unfolding KeepsOthers
      others es es' key q keeps apart =
          keeps (is_at (λ a. R q (see a))) (λ x y. (eq_by_cmp_equiv total).congr q (see x) (see y))
          (λ a at. ap (λ b. eq_by_cmp R q b) (sym (same_key exact key (see a) at)) ∙ (eq_by_cmp_equiv total).symm q key ∙ apart)

      -- a change that keeps what is at all other keys
      pub puts_by : (es es' : List (A × X)) (key : B) (new : Option X) → found_at key es' ≡ new → KeepsOthers (eq_by_cmp by_seen) (is_at (λ a. R key (see a))) es es' → Puts es es' key new
      puts_by es es' key new here keeps q = by (eq_by_cmp R key q) refl
        where
          by : (b : Bool) → eq_by_cmp R key q ≡ b → found_at q es' ≡ cond b new (found_at q es)
          by true is = ap (λ k. found_at k es') (sym (same_key exact key q is)) ∙ here
          by false is = others es es' key q keeps is

      -- a change of a map of the code
      pub puts_of : (m n : BTreeMap A X) (key : B) (new : Option X) → UpdatesBy by_seen (λ a. R key (see a)) m n new → Puts m.entries n.entries key new
      puts_of m n key new changes = puts_by m.entries n.entries key new changes.1 changes.3

      -- the same, if the map was another one by name
      pub puts_from : (m before n : BTreeMap A X) (key : B) (new : Option X) → before ≡ m → UpdatesBy by_seen (λ a. R key (see a)) before n new → Puts m.entries n.entries key new
      puts_from m before n key new same changes q = puts_of before n key new changes q ∙ ap (λ (b : BTreeMap A X). cond (eq_by_cmp R key q) new (found_at q b.entries)) same

      -- a value that is put back changes nothing
      pub puts_same : (es es' : List (A × X)) (key : B) (old new : X) → Puts es es' key (Some new) → Some old ≡ found_at key es → new ≡ old → (q : B) → found_at q es' ≡ found_at q es
      puts_same es es' key old new puts is same q = puts q ∙ by (eq_by_cmp R key q) refl
        where
          by : (b : Bool) → eq_by_cmp R key q ≡ b → cond b (Some new) (found_at q es) ≡ found_at q es
          by true tied = ap (λ x. Some x) same ∙ is ∙ ap (λ k. found_at k es) (same_key exact key q tied)
          by false apart = refl
