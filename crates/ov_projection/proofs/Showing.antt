-- What is shown of the rows of a table: those that meet all conditions, and none twice if their identifiers are shown.
use Rattle.std.proofs.Common.{◌≡◌, ◌<◌, ◌+◌, length, get_or, take, ℕ, List, [], ◌∷◌, ◌++◌, Bool, true, false, not, ◌||◌, cond, if◌then◌else◌, filter, map, Option, Some, None, T, refl, sym, ap, subst, ◌∙◌, codes, Bor, String, string_bytes, Global, Ordering, Less, Equal, Greater}
use Rattle.std.specs.Prelude.{option_map, option_to_list}
use Rattle.std.proofs.lemmas.Bool.{and_parts, false≢true}
use Rattle.std.proofs.lemmas.List.{take_more}
use Rattle.std.proofs.lemmas.List.Folds.{list_any-append}
use Rattle.std.proofs.lemmas.Option.{same_Some}
use Rattle.std.specs.List.{list_any}
use Rattle.std.specs.Cmp.Lexicographic.{slice_cmp, same_text}
use Rattle.std.specs.FinMap.{is_sorted, entries, entries_sorted}
use Rattle.std.specs.FinMap.Entries.{below_all}
use Rattle.std.specs.Ordering.{nat_cmp, eq_by_cmp, is_lt, is_eq, ordering_then}
use Rattle.std.specs.Str.{bytes_eq}
use Rattle.ov_specs.specs.rows.Database.{Row, Database, one_uuid, same_columns}
use Rattle.ov_specs.specs.rows.Lines.{LineKey, line_cmp}
use Rattle.ov_specs.specs.operations.Conditions.{Condition, entry_value}
use Rattle.ov_specs.specs.operations.Select.{projection, without_repeats}
use Rattle.ov_specs.specs.operations.MatchingRows.{meets_all, is_matching, matching}
use Rattle.ov_specs.specs.values.Uuid.{Uuid as Identifier}
use Rattle.ov_specs.specs.values.Value.{Atom, Uuid, Datum, datum_cmp, Atoms, Pairs}
use Rattle.ov_specs.proofs.laws.LineKeys.{same_tied}
use Rattle.ov_specs.proofs.laws.ReadingBack.{entries-from_entries}
use Rattle.ov_specs.proofs.laws.Sameness.{column_cmp, columns-tied}
use Rattle.ov_specs.proofs.laws.Truths.{left_holds, right_holds, or_nothing, or_truth}
use Rattle.ov_rows.specs.Named.{named}
use Rattle.ov_projection.proofs.Repeats.{Shown, among, kept_with, kept_with-push}
use Rattle.ov_projection.proofs.SameRows.{same-is}

-- ---- rows whose identifiers are shown

abbrev uuid_name : List ℕ
uuid_name = codes "_uuid"

-- the value of the first of these columns with this name
abbrev pub value_at : List ℕ → Shown → Option Datum
value_at name [] = None
value_at name (c ∷ cs) = cond (bytes_eq name c.0) (Some c.1) (value_at name cs)

-- another column in front is passed over
pub tagged_other : (name other : List ℕ) (o : Option Datum) (rest : Shown) → bytes_eq name other ≡ false → value_at name (option_to_list (option_map (λ datum. (other, datum)) o) ++ rest) ≡ value_at name rest
tagged_other name other None rest h = refl
tagged_other name other (Some datum) rest h = ap (λ b. cond b (Some datum) (value_at name rest)) h

pub or_second : (a b : Bool) → a ≡ false → (a || b) ≡ true → b ≡ true
or_second false b h k = k
or_second true b h k = cc

-- a row shows its identifier, if that is among the columns
shows_uuid : (names : List (List ℕ)) (r : LineKey × Row) → list_any (bytes_eq uuid_name) names ≡ true → value_at uuid_name (projection names r) ≡ Some (one_uuid r.0.1)
shows_uuid [] r h = absurd (false≢true h)
shows_uuid (name ∷ names) r h =
    elim (bytes_eq uuid_name name) as (λ b. bytes_eq uuid_name name ≡ b → value_at uuid_name (projection (name ∷ names) r) ≡ Some (one_uuid r.0.1)) [
      | true ↦ λ is. subst (λ n. value_at uuid_name (projection (n ∷ names) r) ≡ Some (one_uuid r.0.1)) (same_text uuid_name name (sym is)) refl
      | false ↦ λ is. tagged_other uuid_name name (entry_value r name) (projection names r) is ∙ shows_uuid names r (or_second (bytes_eq uuid_name name) (list_any (bytes_eq uuid_name) names) is h)
    ] refl

abbrev first_uuid : List (Atom × Unit {0}) → Identifier
first_uuid [] = []
first_uuid (e ∷ es) = of e.0
  where
    of : Atom → Identifier
    of (Uuid id) = id
    of a = []

abbrev uuid_in : Datum → Identifier
uuid_in (Atoms atoms) = first_uuid (entries atoms)
uuid_in (Pairs pairs) = []

uuid_in-one : (id : Identifier) → uuid_in (one_uuid id) ≡ id
uuid_in-one id = ap first_uuid (entries-from_entries ((Uuid id, tt) ∷ []) tt)

module _ (names : List (List ℕ)) (among : list_any (bytes_eq uuid_name) names ≡ true) where
  same_id : (r s : LineKey × Row) → same_columns (projection names r) (projection names s) ≡ true → r.0.1 ≡ s.0.1
  same_id r s h =
      sym (uuid_in-one r.0.1)
      ∙ ap uuid_in (same_Some (one_uuid r.0.1) (one_uuid s.0.1) (sym (shows_uuid names r among) ∙ ap (value_at uuid_name) (same-is (projection names r) (projection names s) h) ∙ shows_uuid names s among))
      ∙ uuid_in-one s.0.1

  differs : (r s : LineKey × Row) → T (is_lt (line_cmp r.0 s.0)) → r.0.0 ≡ s.0.0 → same_columns (projection names r) (projection names s) ≡ false
  differs r s less table = by (same_columns (projection names r) (projection names s)) refl
    where
      no : (o : Ordering) → T (is_lt o) → is_eq o ≡ true → ⊥
      no Less h e = cc
      no Equal h e = h
      no Greater h e = h

      by : (b : Bool) → same_columns (projection names r) (projection names s) ≡ b → b ≡ false
      by false is = refl
      by true is = absurd (no (line_cmp r.0 s.0) less (same_tied r.0 s.0 (λ i. (table i, same_id r s is i))))

  module _ (table : List ℕ) (conditions : List Condition) where
    abbrev its : List (LineKey × Row) → List Shown
    its es = map (projection names) (filter (is_matching table conditions) es)

    in_it : (r : LineKey × Row) → is_matching table conditions r ≡ true → r.0.0 ≡ table
    in_it r h = same_text r.0.0 table (sym (and_parts (bytes_eq r.0.0 table) (meets_all conditions r) h).0)

    none_same : (r : LineKey × Row) (es : List (LineKey × Row)) → r.0.0 ≡ table → T (below_all line_cmp r.0 es) → filter (λ other. not (same_columns (projection names r) other)) (its es) ≡ its es
    none_same r [] t h = refl
    none_same r (e ∷ es) t h =
        elim (is_matching table conditions e) as (λ b. is_matching table conditions e ≡ b
        → filter (λ other. not (same_columns (projection names r) other)) (map (projection names) (cond b (e ∷ filter (is_matching table conditions) es) (filter (is_matching table conditions) es))) ≡ map (projection names) (cond b (e ∷ filter (is_matching table conditions) es) (filter (is_matching table conditions) es))) [
          | true ↦ λ is.
              ap (λ b. cond (not b) (projection names e ∷ filter (λ other. not (same_columns (projection names r) other)) (its es)) (filter (λ other. not (same_columns (projection names r) other)) (its es))) (differs r e (left_holds _ _ h) (t ∙ sym (in_it e is)))
              ∙ ap (λ others. projection names e ∷ others) (none_same r es t (right_holds _ _ h))
          | false ↦ λ is. none_same r es t (right_holds _ _ h)
        ] refl

    once_sorted : (es : List (LineKey × Row)) → T (is_sorted line_cmp es) → without_repeats (its es) ≡ its es
    once_sorted [] h = refl
    once_sorted (e ∷ es) h =
        elim (is_matching table conditions e) as (λ b. is_matching table conditions e ≡ b
        → without_repeats (map (projection names) (cond b (e ∷ filter (is_matching table conditions) es) (filter (is_matching table conditions) es))) ≡ map (projection names) (cond b (e ∷ filter (is_matching table conditions) es) (filter (is_matching table conditions) es))) [
          | true ↦ λ is. ap (λ others. projection names e ∷ others) (ap (filter (λ other. not (same_columns (projection names e) other))) (once_sorted es (right_holds _ _ h)) ∙ none_same e es (in_it e is) (left_holds _ _ h))
          | false ↦ λ is. once_sorted es (right_holds _ _ h)
        ] refl

    -- no two rows are equal if their identifiers are shown
    pub shown_once : (rows : Database) → without_repeats (map (projection names) (matching rows table conditions)) ≡ map (projection names) (matching rows table conditions)
    shown_once rows = once_sorted (entries rows) (entries_sorted rows)

-- ---- the order of what is shown

-- columns in order, as the code says it
pub cmp-named : (xs ys : List (String Global × Datum)) → slice_cmp (λ x y. ordering_then (slice_cmp nat_cmp (string_bytes x.0) (string_bytes y.0)) (datum_cmp x.1 y.1)) xs ys ≡ slice_cmp column_cmp (named xs) (named ys)
cmp-named [] [] = refl
cmp-named [] (y ∷ ys) = refl
cmp-named (x ∷ xs) [] = refl
cmp-named (x ∷ xs) (y ∷ ys) = ap (ordering_then (column_cmp (string_bytes x.0, x.1) (string_bytes y.0, y.1))) (cmp-named xs ys)

-- ---- what was seen

pub was_new : (b : Bool) → not b ≡ true → b ≡ false
was_new true h = cc
was_new false h = refl

pub was_seen : (b : Bool) → not b ≡ false → b ≡ true
was_seen true h = refl
was_seen false h = cc

module _ (rows : List Shown) (i : ℕ) (r : Shown) (p : i < length rows) (at : r ≡ get_or rows i r) where
  one_more : take (i + 1) rows ≡ take i rows ++ r ∷ []
  one_more = take_more rows i r p ∙ ap (λ y. take i rows ++ y ∷ []) (sym at)

  kept_more : kept_with same_columns [] (take (i + 1) rows) ≡ (if among same_columns (kept_with same_columns [] (take i rows)) r then kept_with same_columns [] (take i rows) else kept_with same_columns [] (take i rows) ++ r ∷ [])
  kept_more = ap (kept_with same_columns []) one_more ∙ kept_with-push same_columns [] (take i rows) r

  -- a row is kept if no equal one was seen, and passed over if one was
  pub kept-new : among same_columns (kept_with same_columns [] (take i rows)) r ≡ false → kept_with same_columns [] (take (i + 1) rows) ≡ kept_with same_columns [] (take i rows) ++ r ∷ []
  kept-new h = kept_more ∙ ap (λ b. if b then kept_with same_columns [] (take i rows) else kept_with same_columns [] (take i rows) ++ r ∷ []) h

  pub kept-again : among same_columns (kept_with same_columns [] (take i rows)) r ≡ true → kept_with same_columns [] (take (i + 1) rows) ≡ kept_with same_columns [] (take i rows)
  kept-again h = kept_more ∙ ap (λ b. if b then kept_with same_columns [] (take i rows) else kept_with same_columns [] (take i rows) ++ r ∷ []) h

-- a row that is equal to this one
abbrev pub any_at : Shown → List (Bor Shown) → Bool
any_at q keys = list_any (λ k. eq_by_cmp (slice_cmp column_cmp) q k.now) keys

pub seen-push : (rows : List Shown) (i : ℕ) (r : Shown) → i < length rows → r ≡ get_or rows i r → (old new : List (Bor Shown)) → ((q : Shown) → any_at q old ≡ list_any (λ x. same_columns x q) (take i rows))
    → ((q : Shown) → any_at q new ≡ cond (eq_by_cmp (slice_cmp column_cmp) r q) true (any_at q old)) → (q : Shown) → any_at q new ≡ list_any (λ x. same_columns x q) (take (i + 1) rows)
seen-push rows i r p at old new before step q =
    step q ∙ ap (λ b. cond b true (any_at q old)) (sym (columns-tied r q)) ∙ ap (cond (same_columns r q) true) (before q) ∙ either (same_columns r q) (list_any (λ x. same_columns x q) (take i rows))
    ∙ sym (ap (list_any (λ x. same_columns x q)) (take_more rows i r p ∙ ap (λ y. take i rows ++ y ∷ []) (sym at)) ∙ list_any-append (λ x. same_columns x q) (take i rows) (r ∷ []) ∙ ap (λ b. list_any (λ x. same_columns x q) (take i rows) || b) (or_nothing (same_columns r q)))
  where
    either : (a b : Bool) → cond a true b ≡ (b || a)
    either true b = sym (or_truth b)
    either false b = sym (or_nothing b)
