-- Items by their names, as the finite map that they make.
use Rattle.std.proofs.Common.{◌≡◌, ℕ, zero, suc, ◌+◌, ◌<◌, List, [], ◌∷◌, ◌++◌, map, length, drop, get_or, true, false, cond, T, Some, String, Global, refl, sym, ap, ◌∙◌, add-one, arith, subst, Less, Equal, Greater}
use Rattle.std.proofs.Math.Seq.{drop-cons}
use Rattle.std.proofs.lemmas.List.{map-append}
use Rattle.std.proofs.lemmas.Map.Text.{is_eq-slice_cmp}
use Rattle.std.proofs.lemmas.Slice.Eq.{bytes_eq-Decides}
use Rattle.std.specs.Str.{bytes_eq}
use Rattle.std.specs.List.{AllByRecursion}
use Rattle.std.specs.List.Sorted.{IsStrictlySortedBy}
use Rattle.std.specs.Ordering.{match_ordering, eq_by_cmp, is_lt}
use Rattle.std.specs.Cmp.{IsTotalOrder, eq_by_cmp_equiv}
use Rattle.std.specs.Cmp.Lexicographic.{nat_list_cmp_total}
use Rattle.std.specs.String.{string_bytes, string_cmp}
use Rattle.std.specs.Map.{keys_of}
use Rattle.std.specs.BTreeMap.{insert_entry}
use Rattle.std.specs.FinMap.{FinMap, IsAntisymmetric, nat_cmp-IsAntisymmetric, slice_cmp-IsAntisymmetric, find, put, is_sorted, entries, insert, from_entries, from_sorted, same_map, get-entries, get-insert, get-from_entries, get-from_sorted, entries-from_sorted}
use Rattle.std.specs.FinMap.Entries.{below_all, find-put}
use Rattle.ov_specs.specs.schema.SchemaTypes.{name_cmp}
use Rattle.ov_schema.specs.NamedViews.{named_view}
use Rattle.ov_specs.proofs.laws.Truths.{both_hold, left_holds, right_holds, not_tied}

pub name_total : IsTotalOrder name_cmp
name_total = nat_list_cmp_total

name_exact : IsAntisymmetric name_cmp
name_exact = slice_cmp-IsAntisymmetric nat_cmp-IsAntisymmetric

-- the entries of these, put over those of a map, the first one last
abbrev pub put_over : {X : Type 0} → FinMap name_cmp X → List (List ℕ × X) → FinMap name_cmp X
put_over m [] = m
put_over m (e ∷ es) = insert (put_over m es) e.0 e.1

module _ {X : Type 0} where
  -- a list in order consists of the entries of its map
  pub entries-from_entries : (es : List (List ℕ × X)) → T (is_sorted name_cmp es) → entries (from_entries {R = name_cmp} es) ≡ es
  entries-from_entries es h =
      ap entries (same_map name_total name_exact (from_entries es) (from_sorted es) (λ q. get-from_entries name_total es q ∙ sym (get-from_sorted name_cmp es q h)))
      ∙ entries-from_sorted name_cmp es h

  pub put_over-empty : (es : List (List ℕ × X)) → put_over (from_entries []) es ≡ from_entries es
  put_over-empty [] = refl
  put_over-empty (e ∷ es) = ap (λ m. insert m e.0 e.1) (put_over-empty es)

  pub put_over-push : (m : FinMap name_cmp X) (es : List (List ℕ × X)) (e : List ℕ × X) → put_over m (es ++ e ∷ []) ≡ put_over (insert m e.0 e.1) es
  put_over-push m [] e = refl
  put_over-push m (x ∷ es) e = ap (λ n. insert n x.0 x.1) (put_over-push m es e)

  -- the place of an entry does not depend on how its name is stored
  map-insert_entry : (es : List (String Global × X)) (k : String Global) (v : X) → map named_view (insert_entry string_cmp es k v) ≡ put name_cmp (string_bytes k) v (map named_view es)
  map-insert_entry [] k v = refl
  map-insert_entry (e ∷ es) k v =
      elim (string_cmp k e.0) as (λ o. map named_view (match_ordering o ((k, v) ∷ e ∷ es) ((e.0, v) ∷ es) (e ∷ insert_entry string_cmp es k v))
      ≡ match_ordering o ((string_bytes k, v) ∷ named_view e ∷ map named_view es) ((string_bytes e.0, v) ∷ map named_view es) (named_view e ∷ put name_cmp (string_bytes k) v (map named_view es))) [
        | Less ↦ refl
        | Equal ↦ refl
        | Greater ↦ ap (λ xs. named_view e ∷ xs) (map-insert_entry es k v)
      ]

  from_entries-put : (es : List (List ℕ × X)) (k : List ℕ) (v : X) → from_entries {R = name_cmp} (put name_cmp k v es) ≡ insert (from_entries es) k v
  from_entries-put es k v = same_map name_total name_exact _ _ (λ q.
      get-from_entries name_total _ q ∙ (find-put name_cmp name_total q k v es ∙ sym (get-insert name_total (from_entries es) k v q ∙ ap (cond (eq_by_cmp name_cmp q k) (Some v)) (get-from_entries name_total es q))))

  pub from_entries-insert_entry : (es : List (String Global × X)) (k : String Global) (v : X) → from_entries {R = name_cmp} (map named_view (insert_entry string_cmp es k v)) ≡ insert (from_entries (map named_view es)) (string_bytes k) v
  from_entries-insert_entry es k v = ap from_entries (map-insert_entry es k v) ∙ from_entries-put (map named_view es) (string_bytes k) v

  below : (k : String Global) (es : List (String Global × X)) → AllByRecursion (λ y. string_cmp k y ≡ Less) (keys_of es) → T (below_all name_cmp (string_bytes k) (map named_view es))
  below k [] h = tt
  below k (x ∷ es) h = both_hold _ _ (rw h.0 tt) (below k es h.1)

  -- names that ascend as they are stored ascend by their bytes
  pub named-ascend : (es : List (String Global × X)) → IsStrictlySortedBy string_cmp (keys_of es) → T (is_sorted name_cmp (map named_view es))
  unfolding IsStrictlySortedBy
  named-ascend [] h = tt
  named-ascend (x ∷ es) h = both_hold _ _ (below x.0 es h.0) (named-ascend es h.1)

  -- the last item goes over from the list to the map
  pub put_over-moved : (es before after : List (String Global × X)) (k : String Global) (v : X) → before ≡ after ++ (k, v) ∷ []
      → put_over (from_entries (map named_view (insert_entry string_cmp es k v))) (map named_view after) ≡ put_over (from_entries (map named_view es)) (map named_view before)
  put_over-moved es before after k v is =
      ap (λ m. put_over m (map named_view after)) (from_entries-insert_entry es k v)
      ∙ sym (put_over-push (from_entries (map named_view es)) (map named_view after) (string_bytes k, v))
      ∙ sym (ap (put_over (from_entries (map named_view es))) (ap (map named_view) is ∙ map-append named_view after ((k, v) ∷ [])))

  pub no_items : (xs : List X) → length xs ≡ 0 → xs ≡ []
  no_items [] e = refl
  no_items (x ∷ xs) e = absurd (omega arith)

  find-drop : (q : List ℕ) (es : List (List ℕ × X)) (i : ℕ) (e : List ℕ × X) → i < length es → e ≡ get_or es i e → find name_cmp q (drop i es) ≡ cond (bytes_eq q e.0) (Some e.1) (find name_cmp q (drop (i + 1) es))
  find-drop q es i e h is =
      rw add-one (ap (find name_cmp q) (drop-cons es i e h ∙ ap (λ x. x ∷ drop (suc i) es) (sym is)) ∙ ap (λ b. cond b (Some e.1) (find name_cmp q (drop (suc i) es))) (is_eq-slice_cmp q e.0))

  -- the item at a place has the name that is looked for, or has another
  pub find-here : (q : List ℕ) (es : List (List ℕ × X)) (i : ℕ) (e : List ℕ × X) → i < length es → e ≡ get_or es i e → bytes_eq q e.0 ≡ true → find name_cmp q (drop i es) ≡ Some e.1
  find-here q es i e h is same = find-drop q es i e h is ∙ ap (λ b. cond b (Some e.1) (find name_cmp q (drop (i + 1) es))) same

  pub find-later : (q : List ℕ) (es : List (List ℕ × X)) (i : ℕ) (e : List ℕ × X) → i < length es → e ≡ get_or es i e → bytes_eq q e.0 ≡ false → find name_cmp q (drop i es) ≡ find name_cmp q (drop (i + 1) es)
  find-later q es i e h is other = find-drop q es i e h is ∙ ap (λ b. cond b (Some e.1) (find name_cmp q (drop (i + 1) es))) other

  -- an item after one whose name is below all others has a later name
  later-name : (k : List ℕ) (es : List (List ℕ × X)) (i : ℕ) (e : List ℕ × X) → T (below_all name_cmp k es) → i < length es → e ≡ get_or es i e → T (is_lt (name_cmp k e.0))
  later-name k [] i e h l is = absurd (omega arith)
  later-name k (x ∷ es) zero e h l is = subst (λ y. T (is_lt (name_cmp k y.0))) (sym is) (left_holds _ (below_all name_cmp k es) h)
  later-name k (x ∷ es) (suc i) e h l is = later-name k es i e (right_holds (is_lt (name_cmp k x.0)) _ h) (omega arith) is

  -- the item at a place of a list in ascending order of the names is the one that is found by its name
  pub find-at : (es : List (List ℕ × X)) (i : ℕ) (e : List ℕ × X) → T (is_sorted name_cmp es) → i < length es → e ≡ get_or es i e → find name_cmp e.0 es ≡ Some e.1
  find-at [] i e h l is = absurd (omega arith)
  find-at (x ∷ es) zero e h l is =
      subst (λ y. find name_cmp y.0 (x ∷ es) ≡ Some y.1) (sym is)
      (ap (λ b. cond b (Some x.1) (find name_cmp x.0 es)) (is_eq-slice_cmp x.0 x.0 ∙ (bytes_eq-Decides x.0 x.0).1 refl))
  find-at (x ∷ es) (suc i) e h l is =
      let other = (eq_by_cmp_equiv nat_list_cmp_total).symm e.0 x.0 ∙ not_tied _ (later-name x.0 es i e (left_holds _ (is_sorted name_cmp es) h) (omega arith) is) in
      ap (λ b. cond b (Some x.1) (find name_cmp e.0 es)) other ∙ find-at es i e (right_holds (below_all name_cmp x.0 es) _ h) (omega arith) is

  pub from_entries-entries : (m : FinMap name_cmp X) → from_entries (entries m) ≡ m
  from_entries-entries m = same_map name_total name_exact _ m (λ q. get-from_entries name_total (entries m) q ∙ sym (get-entries m q))
