-- Maps nested in a map as one map by both keys.
use Rattle.std.proofs.Common.{◌≡◌, List, [], ◌∷◌, ◌++◌, map, Bool, true, false, cond, T, ◌||◌, Some, None, refl, sym, ap, subst, ◌∙◌, Ordering, Less, Equal, Greater}
use Rattle.std.specs.Prelude.{option_and_then}
use Rattle.std.specs.Cmp.{IsTotalOrder, eq_by_cmp_equiv}
use Rattle.std.specs.FinMap.{FinMap, IsAntisymmetric, find, is_sorted, get, entries, entries_sorted, from_sorted, get-from_sorted, get-entries, entries-from_sorted}
use Rattle.std.specs.FinMap.Entries.{below_all}
use Rattle.std.specs.List.{list_any}
use Rattle.std.specs.Option.{option_or}
use Rattle.std.proofs.lemmas.List.Folds.{list_any-append}
use Rattle.std.specs.Ordering.{eq_by_cmp, is_eq, is_lt, ordering_then}
use Rattle.ov_index.specs.Nested.{seen, all_entries}
use Rattle.ov_index.proofs.SeenKeys.{by_seen, found_at}
use Rattle.ov_specs.proofs.laws.PutValues.{option_or-none}
use Rattle.ov_specs.proofs.laws.Truths.{both_hold, left_holds, right_holds, less_is, equal_is, not_tied}

below_both : {K X : Type 0} (Q : K → K → Ordering) (k : K) (xs ys : List (K × X)) → T (below_all Q k xs) → T (below_all Q k ys) → T (below_all Q k (xs ++ ys))
below_both Q k [] ys h p = p
below_both Q k (x ∷ xs) ys h p = both_hold _ _ (left_holds _ _ h) (below_both Q k xs ys (right_holds _ _ h) p)

-- keys are joined of two, of which the first is compared first
abbrev pub JoinsOrders : {B C K : Type 0} → (B → B → Ordering) → (C → C → Ordering) → (K → K → Ordering) → (B → C → K) → Type 0
JoinsOrders {B} {C} R S Q join = (a b : B) (c d : C) → Q (join a c) (join b d) ≡ ordering_then (R a b) (S c d)

within : {B C K : Type 0} (R : B → B → Ordering) (S : C → C → Ordering) (Q : K → K → Ordering) (join : B → C → K) → JoinsOrders R S Q join → IsTotalOrder R → (b : B) (c d : C) → Q (join b c) (join b d) ≡ S c d
within R S Q join law total b c d = law b b c d ∙ ap (λ o. ordering_then o (S c d)) (equal_is _ ((eq_by_cmp_equiv total).refl b))

module _ {A B C K X : Type 0} (see : A → B) (R : B → B → Ordering) (S : C → C → Ordering) (Q : K → K → Ordering) (join : B → C → K) (law : JoinsOrders R S Q join) (total : IsTotalOrder R) where
  -- the entries of a map by joined keys
  abbrev under : B → List (C × X) → List (K × X)
  under b = map (λ e. (join b e.0, e.1))

  abbrev all : List (A × FinMap S X) → List (K × X)
  all = all_entries (λ a c. join (see a) c)

  -- ---- order

  below_within : (b : B) (c : C) (es : List (C × X)) → T (below_all S c es) → T (below_all Q (join b c) (under b es))
  below_within b c [] h = tt
  below_within b c (e ∷ es) h = both_hold _ _ (subst (λ o. T (is_lt o)) (sym (within R S Q join law total b c e.0)) (left_holds _ _ h)) (below_within b c es (right_holds _ _ h))

  -- those of a later map come after
  below_later : (a b : B) (c : C) (es : List (C × X)) → R a b ≡ Less → T (below_all Q (join a c) (under b es))
  below_later a b c [] h = tt
  below_later a b c (e ∷ es) h = both_hold _ _ (subst (λ o. T (is_lt o)) (sym (law a b c e.0 ∙ ap (λ o. ordering_then o (S c e.0)) h)) tt) (below_later a b c es h)

  below_maps : (a : A) (c : C) (ms : List (A × FinMap S X)) → T (below_all (by_seen see R) a ms) → T (below_all Q (join (see a) c) (all ms))
  below_maps a c [] h = tt
  below_maps a c (m ∷ ms) h =
      below_both Q (join (see a) c) (under (see m.0) (entries m.1)) (all ms) (below_later (see a) (see m.0) c (entries m.1) (less_is _ (left_holds _ _ h))) (below_maps a c ms (right_holds _ _ h))

  sorted_both : (b : B) (es : List (C × X)) (ys : List (K × X)) → T (is_sorted S es) → ((c : C) → T (below_all Q (join b c) ys)) → T (is_sorted Q ys) → T (is_sorted Q (under b es ++ ys))
  sorted_both b [] ys h p k = k
  sorted_both b (e ∷ es) ys h p k =
      both_hold _ _ (below_both Q (join b e.0) (under b es) ys (below_within b e.0 es (left_holds _ _ h)) (p e.0)) (sorted_both b es ys (right_holds _ _ h) p k)

  -- all keys ascend
  pub all_sorted : (ms : List (A × FinMap S X)) → T (is_sorted (by_seen see R) ms) → T (is_sorted Q (all ms))
  all_sorted [] h = tt
  all_sorted (m ∷ ms) h =
      sorted_both (see m.0) (entries m.1) (all ms) (entries_sorted m.1) (λ c. below_maps m.0 c ms (left_holds _ _ h)) (all_sorted ms (right_holds _ _ h))

  pub entries_nested : (ms : List (A × FinMap S X)) → T (is_sorted (by_seen see R) ms) → entries (from_sorted {R = Q} (all ms)) ≡ all ms
  entries_nested ms h = entries-from_sorted Q (all ms) (all_sorted ms h)

  -- ---- what is at a key

  module _ (b : B) (c : C) (ys : List (K × X)) where
    find_apart : (n : B) (es : List (C × X)) → eq_by_cmp R b n ≡ false → find Q (join b c) (under n es ++ ys) ≡ find Q (join b c) ys
    find_apart n [] h = refl
    find_apart n (e ∷ es) h =
        ap (λ t. cond t (Some e.1) (find Q (join b c) (under n es ++ ys))) (ap is_eq (law b n c e.0) ∙ by (R b n) h) ∙ find_apart n es h
      where
        by : (o : Ordering) → is_eq o ≡ false → is_eq (ordering_then o (S c e.0)) ≡ false
        by Less p = refl
        by Equal p = cc
        by Greater p = refl

    find_within : (n : B) (es : List (C × X)) → R b n ≡ Equal → find Q (join b c) (under n es ++ ys) ≡ option_or (find S c es) (find Q (join b c) ys)
    find_within n [] h = refl
    find_within n (e ∷ es) h =
        ap (λ o. cond (is_eq o) (Some e.1) (find Q (join b c) (under n es ++ ys))) (law b n c e.0 ∙ ap (λ o. ordering_then o (S c e.0)) h)
        ∙ ap (cond (is_eq (S c e.0)) (Some e.1)) (find_within n es h)
        ∙ (elim (is_eq (S c e.0)) as (λ t. cond t (Some e.1) (option_or (find S c es) (find Q (join b c) ys)) ≡ option_or (cond t (Some e.1) (find S c es)) (find Q (join b c) ys)) [
          | true ↦ refl
          | false ↦ refl
        ])

  -- a key of an earlier map is in none of these
  find_earlier : (a : A) (c : C) (ms : List (A × FinMap S X)) → T (below_all (by_seen see R) a ms) → find Q (join (see a) c) (all ms) ≡ None
  find_earlier a c [] h = refl
  find_earlier a c (m ∷ ms) h = find_apart (see a) c (all ms) (see m.0) (entries m.1) (not_tied _ (left_holds _ _ h)) ∙ find_earlier a c ms (right_holds _ _ h)

  module _ (exact : IsAntisymmetric R) where
    find_nested : (b : B) (c : C) (ms : List (A × FinMap S X)) → T (is_sorted (by_seen see R) ms) → find Q (join b c) (all ms) ≡ option_and_then (λ m. get m c) (found_at see R b ms)
    find_nested b c [] h = refl
    find_nested b c (m ∷ ms) h = by (find_nested b c ms (right_holds _ _ h)) (eq_by_cmp R b (see m.0)) refl
      where
        by : find Q (join b c) (all ms) ≡ option_and_then (λ m. get m c) (found_at see R b ms) → (t : Bool) → eq_by_cmp R b (see m.0) ≡ t
            → find Q (join b c) (all (m ∷ ms)) ≡ option_and_then (λ m. get m c) (cond t (Some m.1) (found_at see R b ms))
        by others false is = find_apart b c (all ms) (see m.0) (entries m.1) is ∙ others
        by others true is =
            let tied = equal_is _ is in
            find_within b c (all ms) (see m.0) (entries m.1) tied
            ∙ ap (option_or (find S c (entries m.1))) (ap (λ n. find Q (join n c) (all ms)) (exact b (see m.0) tied) ∙ find_earlier m.0 c ms (left_holds _ _ h))
            ∙ option_or-none _ ∙ sym (get-entries m.1 c)

    -- what is at a key is what is in its map
    pub get_nested : (ms : List (A × FinMap S X)) (b : B) (c : C) → T (is_sorted (by_seen see R) ms) → get (from_sorted {R = Q} (all ms)) (join b c) ≡ option_and_then (λ m. get m c) (found_at see R b ms)
    get_nested ms b c h = get-from_sorted Q (all ms) (join b c) (all_sorted ms h) ∙ find_nested b c ms h

-- ---- what holds of one of all entries

pub any-map : {A B : Type 0} (test : B → Bool) (f : A → B) (xs : List A) → list_any test (map f xs) ≡ list_any (λ x. test (f x)) xs
any-map test f [] = refl
any-map test f (x ∷ xs) = ap (λ b. test (f x) || b) (any-map test f xs)

pub any_nested : {A C K X : Type 0} (S : C → C → Ordering) (join : A → C → K) (test : K × X → Bool) (ms : List (A × FinMap S X))
    → list_any test (all_entries join ms) ≡ list_any (λ m. list_any (λ e. test (join m.0 e.0, e.1)) (entries m.1)) ms
any_nested S join test [] = refl
any_nested S join test (m ∷ ms) =
    list_any-append test (map (λ e. (join m.0 e.0, e.1)) (entries m.1)) (all_entries join ms)
    ∙ (λ i. any-map test (λ e. (join m.0 e.0, e.1)) (entries m.1) i || any_nested S join test ms i)

pub any_seen : {A B X : Type 0} (see : A → B) (test : B × X → Bool) (es : List (A × X)) → list_any test (seen see es) ≡ list_any (λ e. test (see e.0, e.1)) es
any_seen see test es = any-map test (λ e. (see e.0, e.1)) es
