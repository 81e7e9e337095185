-- What two ascending lists of entries give by their keys alone: the same, if a key that is in only one of them gives nothing.
use Rattle.std.proofs.Common.{◌≡◌, List, [], ◌∷◌, map, filter, Bool, true, false, cond, T, Option, Some, None, is_some, option_map, refl, sym, ap, ◌∙◌, Ordering}
use Rattle.std.specs.Cmp.{IsTotalOrder}
use Rattle.std.specs.FinMap.{IsAntisymmetric, find, is_sorted, same_map, entries, from_sorted, entries-from_sorted, get-from_sorted}
use Rattle.std.specs.FinMap.Entries.{below_all}
use Rattle.std.specs.List.{filter_map, cons_option}
use Rattle.std.specs.Ordering.{eq_by_cmp}
use Rattle.ov_specs.proofs.laws.Truths.{both_hold, left_holds, right_holds, equal_is}

module _ {A B C : Type 0} (g : A → B) (kept : B → Bool) (f : B → Option C) where
  -- what is left of a list, then mapped
  pub filter_map-filter-map : (xs : List A) → filter_map f (filter kept (map g xs)) ≡ filter_map (λ x. cond (kept (g x)) (f (g x)) None) xs
  filter_map-filter-map [] = refl
  filter_map-filter-map (x ∷ xs) = by (kept (g x)) (filter_map-filter-map xs)
    where
      rest : List B
      rest = filter kept (map g xs)

      by : (b : Bool) → filter_map f rest ≡ filter_map (λ y. cond (kept (g y)) (f (g y)) None) xs
          → filter_map f (cond b (g x ∷ rest) rest) ≡ cons_option (cond b (f (g x)) None) (filter_map (λ y. cond (kept (g y)) (f (g y)) None) xs)
      by true same = ap (cons_option (f (g x))) same
      by false same = same

module _ {K B : Type 0} (R : K → K → Ordering) (total : IsTotalOrder R) (exact : IsAntisymmetric R) (f : K → Option B) where
  module _ {X : Type 0} where
    -- what the key of an element gives, with the key
    abbrev given : K × X → Option (K × B)
    given e = option_map (λ b. (e.0, b)) (f e.0)

    keyed : List (K × X) → List (K × B)
    keyed es = filter_map given es

    below-keyed : (k : K) (es : List (K × X)) → T (below_all R k es) → T (below_all R k (keyed es))
    unfolding keyed
    below-keyed k [] h = tt
    below-keyed k (e ∷ es) h = by (f e.0) (below-keyed k es (right_holds _ _ h))
      where
        by : (o : Option B) → T (below_all R k (filter_map given es)) → T (below_all R k (cons_option (option_map (λ b. (e.0, b)) o) (filter_map given es)))
        by None rest = rest
        by (Some b) rest = both_hold _ _ (left_holds _ _ h) rest

    sorted-keyed : (es : List (K × X)) → T (is_sorted R es) → T (is_sorted R (keyed es))
    unfolding keyed
    sorted-keyed [] h = tt
    sorted-keyed (e ∷ es) h = by (f e.0) (sorted-keyed es (right_holds _ _ h))
      where
        by : (o : Option B) → T (is_sorted R (filter_map given es)) → T (is_sorted R (cons_option (option_map (λ b. (e.0, b)) o) (filter_map given es)))
        by None rest = rest
        by (Some b) rest = both_hold _ _ (below-keyed e.0 es (left_holds _ _ h)) rest

    find-keyed : (q : K) (es : List (K × X)) → find R q (keyed es) ≡ cond (is_some (find R q es)) (f q) None
    unfolding keyed
    find-keyed q [] = refl
    find-keyed q (e ∷ es) = by (eq_by_cmp R q e.0) refl (f e.0) refl (find-keyed q es)
      where
        rest : List (K × B)
        rest = filter_map given es

        none_is : (o : Option B) (b : Bool) → o ≡ None → cond b o None ≡ None
        none_is o true h = h
        none_is o false h = refl

        by : (b : Bool) → eq_by_cmp R q e.0 ≡ b → (o : Option B) → f e.0 ≡ o → find R q rest ≡ cond (is_some (find R q es)) (f q) None
            → find R q (cons_option (option_map (λ x. (e.0, x)) o) rest) ≡ cond (is_some (cond b (Some e.1) (find R q es))) (f q) None
        by true t None is found = found ∙ none_is (f q) (is_some (find R q es)) (ap f (exact q e.0 (equal_is _ t)) ∙ is) ∙ sym (ap f (exact q e.0 (equal_is _ t)) ∙ is)
        by true t (Some x) is found = ap (λ b. cond b (Some x) (find R q rest)) t ∙ sym (ap f (exact q e.0 (equal_is _ t)) ∙ is)
        by false t None is found = found
        by false t (Some x) is found = ap (λ b. cond b (Some x) (find R q rest)) t ∙ found

    found-keyed : (es : List (K × X)) (q : K) → (find R q es ≡ None → f q ≡ None) → find R q (keyed es) ≡ f q
    found-keyed es q none = find-keyed q es ∙ by (find R q es) refl
      where
        by : (o : Option X) → find R q es ≡ o → cond (is_some o) (f q) None ≡ f q
        by None is = sym (none is)
        by (Some x) is = refl

    without_keys : (es : List (K × X)) → map (λ e. e.1) (keyed es) ≡ filter_map (λ e. f e.0) es
    unfolding keyed
    without_keys [] = refl
    without_keys (e ∷ es) = by (f e.0) (without_keys es)
      where
        by : (o : Option B) → map (λ e. e.1) (filter_map given es) ≡ filter_map (λ e. f e.0) es
            → map (λ e. e.1) (cons_option (option_map (λ b. (e.0, b)) o) (filter_map given es)) ≡ cons_option o (filter_map (λ e. f e.0) es)
        by None rest = rest
        by (Some b) rest = ap (λ bs. b ∷ bs) rest

  pub same_by_keys : {X Y : Type 0} (es : List (K × X)) (fs : List (K × Y)) → T (is_sorted R es) → T (is_sorted R fs)
      → ((q : K) → find R q es ≡ None → f q ≡ None) → ((q : K) → find R q fs ≡ None → f q ≡ None) → filter_map (λ e. f e.0) es ≡ filter_map (λ e. f e.0) fs
  same_by_keys es fs es_sorted fs_sorted es_none fs_none =
      sym (without_keys es)
      ∙ ap (map (λ e. e.1)) (
      sym (entries-from_sorted R (keyed es) (sorted-keyed es es_sorted))
      ∙ ap entries (same_map total exact (from_sorted (keyed es)) (from_sorted (keyed fs)) (λ q.
      get-from_sorted R (keyed es) q (sorted-keyed es es_sorted) ∙ found-keyed es q (es_none q)
      ∙ sym (get-from_sorted R (keyed fs) q (sorted-keyed fs fs_sorted) ∙ found-keyed fs q (fs_none q))))
      ∙ entries-from_sorted R (keyed fs) (sorted-keyed fs fs_sorted))
      ∙ without_keys fs
