-- Rows that are shown with all columns of an index in which no two of them are equal: none is shown twice.
use Rattle.std.proofs.Common.{◌≡◌, ℕ, List, [], ◌∷◌, ◌++◌, Bool, true, false, not, ◌||◌, cond, filter, map, Option, Some, None, refl, sym, ap, subst, ◌∙◌, codes}
use Rattle.std.specs.Prelude.{option_map, option_to_list}
use Rattle.std.proofs.lemmas.Bool.{and_parts, and_from, or_parts, false≢true}
use Rattle.std.specs.Cmp.Lexicographic.{same_text}
use Rattle.std.specs.FinMap.{entries, get}
use Rattle.std.specs.List.{list_any}
use Rattle.std.specs.Str.{bytes_eq}
use Rattle.ov_specs.specs.integrity.Limits.{are_alike, has_duplicates, has_two_alike, is_same_value, rows_of}
use Rattle.ov_specs.specs.operations.Conditions.{entry_value}
use Rattle.ov_specs.specs.operations.MatchingRows.{meets_all}
use Rattle.ov_specs.specs.operations.Select.{projection, without_repeats}
use Rattle.ov_specs.specs.rows.Database.{Database, Row, one_uuid, same_columns}
use Rattle.ov_specs.specs.rows.Lines.{LineKey}
use Rattle.ov_specs.specs.rows.RowNames.{is_own_column}
use Rattle.ov_specs.specs.schema.SchemaTypes.{Schema, Table, name_cmp}
use Rattle.ov_specs.specs.values.Value.{Datum}
use Rattle.ov_specs.proofs.laws.Monitoring.{is_same_value-itself}
use Rattle.ov_specs.proofs.laws.Names.{name_cmp_total, name_exact}
use Rattle.ov_stored.proofs.Same.{text-same}
use Rattle.ov_index.specs.Changing.{are_any_alike}
use Rattle.ov_index.proofs.MapEntries.{contradicts, entry_is_any, some_and_is}
use Rattle.ov_stage.specs.Apart.{AreToldApart, has_any_index, has_column, has_index}
use Rattle.ov_stage.proofs.Meeting.{matching-of_table}
use Rattle.ov_projection.proofs.Repeats.{Shown}
use Rattle.ov_projection.proofs.SameRows.{same-is}
use Rattle.ov_projection.proofs.Showing.{tagged_other, or_second, value_at}

-- ---- what is shown of a column

at_front : (name : List ℕ) (datum : Datum) (rest : Shown) → value_at name ((name, datum) ∷ rest) ≡ Some datum
at_front name datum rest = ap (λ b. cond b (Some datum) (value_at name rest)) (text-same name)

module _ (r : LineKey × Row) (name : List ℕ) where
  -- with the column of this name in front
  abbrev with_first : Option Datum → List (List ℕ) → Shown
  with_first o names = option_to_list (option_map (λ datum. (name, datum)) o) ++ projection names r

  -- a column that the row does not have is not shown
  shows_none : (names : List (List ℕ)) → entry_value r name ≡ None → value_at name (projection names r) ≡ None
  shows_none [] h = refl
  shows_none (n ∷ names) h =
      elim (bytes_eq name n) as (λ b. bytes_eq name n ≡ b → value_at name (projection (n ∷ names) r) ≡ None) [
        | true ↦ λ is. subst (λ m. value_at name (projection (m ∷ names) r) ≡ None) (same_text name n (sym is)) (ap (λ o. value_at name (with_first o names)) h ∙ shows_none names h)
        | false ↦ λ is. tagged_other name n (entry_value r n) (projection names r) is ∙ shows_none names h
      ] refl

  -- and one that is among the columns is shown as it is
  shows_value : (names : List (List ℕ)) → list_any (bytes_eq name) names ≡ true → value_at name (projection names r) ≡ entry_value r name
  shows_value [] h = absurd (false≢true h)
  shows_value (n ∷ names) h =
      elim (bytes_eq name n) as (λ b. bytes_eq name n ≡ b → value_at name (projection (n ∷ names) r) ≡ entry_value r name) [
        | true ↦ λ is. subst (λ m. value_at name (projection (m ∷ names) r) ≡ entry_value r name) (same_text name n (sym is)) (first (entry_value r name) refl)
        | false ↦ λ is. tagged_other name n (entry_value r n) (projection names r) is ∙ shows_value names (or_second (bytes_eq name n) (list_any (bytes_eq name) names) is h)
      ] refl
    where
      first : (o : Option Datum) → entry_value r name ≡ o → value_at name (projection (name ∷ names) r) ≡ entry_value r name
      first None is = ap (λ o. value_at name (with_first o names)) is ∙ shows_none names is ∙ sym is
      first (Some datum) is = ap (λ o. value_at name (with_first o names)) is ∙ at_front name datum (projection names r) ∙ sym is

-- a column that is not one that every row has by itself
stored : (r : LineKey × Row) (name : List ℕ) → not (is_own_column name) ≡ true → entry_value r name ≡ get r.1.columns name
stored r name h = by (bytes_eq name (codes "_uuid")) (bytes_eq name (codes "_version")) h
  where
    by : (a b : Bool) → not (a || b) ≡ true → cond a (Some (one_uuid r.0.1)) (cond b (Some (one_uuid r.1.version)) (get r.1.columns name)) ≡ get r.1.columns name
    by true b h = cc
    by false true h = cc
    by false false h = refl

-- ---- rows that are shown as equal

module _ (names : List (List ℕ)) where
  same_stored : (r s : LineKey × Row) (column : List ℕ) → has_column names column ≡ true → projection names r ≡ projection names s → get r.1.columns column ≡ get s.1.columns column
  same_stored r s column h same =
      let parts = and_parts (not (is_own_column column)) (list_any (bytes_eq column) names) h in
      sym (stored r column parts.0) ∙ sym (shows_value r column names parts.1) ∙ ap (value_at column) same ∙ shows_value s column names parts.1 ∙ stored s column parts.0

  alike_where_shown : (r s : LineKey × Row) (index : List (List ℕ)) → has_index names index ≡ true → projection names r ≡ projection names s → are_alike index r s ≡ true
  alike_where_shown r s [] h same = refl
  alike_where_shown r s (column ∷ index) h same =
      let parts = and_parts (has_column names column) (has_index names index) h in
      and_from (is_same_value (get r.1.columns column) (get s.1.columns column)) (are_alike index r s)
      (ap (is_same_value (get r.1.columns column)) (sym (same_stored r s column parts.0 same)) ∙ is_same_value-itself (get r.1.columns column)) (alike_where_shown r s index parts.1 same)

  module _ (index : List (List ℕ)) (shown : has_index names index ≡ true) where
    differ : (r s : LineKey × Row) → are_alike index r s ≡ false → same_columns (projection names r) (projection names s) ≡ false
    differ r s apart = by (same_columns (projection names r) (projection names s)) refl
      where
        by : (b : Bool) → same_columns (projection names r) (projection names s) ≡ b → b ≡ false
        by false is = refl
        by true is = absurd (contradicts (are_alike index r s) (alike_where_shown r s index shown (same-is (projection names r) (projection names s) is)) apart)

    none_equal : (r : LineKey × Row) (es : List (LineKey × Row)) → list_any (are_alike index r) es ≡ false
        → filter (λ other. not (same_columns (projection names r) other)) (map (projection names) es) ≡ map (projection names) es
    none_equal r [] h = refl
    none_equal r (e ∷ es) h =
        let parts = or_parts (are_alike index r e) (list_any (are_alike index r) es) h in
        let kept = filter (λ other. not (same_columns (projection names r) other)) (map (projection names) es) in
        ap (λ b. cond (not b) (projection names e ∷ kept) kept) (differ r e parts.0) ∙ ap (λ others. projection names e ∷ others) (none_equal r es parts.1)

    -- if no two rows are equal in the index, none is shown twice
    pub shown_apart : (es : List (LineKey × Row)) → has_two_alike index es ≡ false → without_repeats (map (projection names) es) ≡ map (projection names) es
    shown_apart [] h = refl
    shown_apart (e ∷ es) h =
        let parts = or_parts (list_any (are_alike index e) es) (has_two_alike index es) h in
        ap (λ others. projection names e ∷ others) (ap (filter (λ other. not (same_columns (projection names e) other))) (shown_apart es parts.1) ∙ none_equal e es parts.0)

-- ---- some of the rows

module _ (index : List (List ℕ)) (chosen : LineKey × Row → Bool) where
  none_of_some : (r : LineKey × Row) (es : List (LineKey × Row)) → list_any (are_alike index r) es ≡ false → list_any (are_alike index r) (filter chosen es) ≡ false
  none_of_some r [] h = refl
  none_of_some r (e ∷ es) h =
      let parts = or_parts (are_alike index r e) (list_any (are_alike index r) es) h in
      let rest = none_of_some r es parts.1 in
      elim (chosen e) as (λ b. list_any (are_alike index r) (cond b (e ∷ filter chosen es) (filter chosen es)) ≡ false) [
        | true ↦ ap (λ b. b || list_any (are_alike index r) (filter chosen es)) parts.0 ∙ rest
        | false ↦ rest
      ]

  no_two_of_some : (es : List (LineKey × Row)) → has_two_alike index es ≡ false → has_two_alike index (filter chosen es) ≡ false
  no_two_of_some [] h = refl
  no_two_of_some (e ∷ es) h =
      let parts = or_parts (list_any (are_alike index e) es) (has_two_alike index es) h in
      let rest = no_two_of_some es parts.1 in
      elim (chosen e) as (λ b. has_two_alike index (cond b (e ∷ filter chosen es) (filter chosen es)) ≡ false) [
        | true ↦ ap (λ b. b || has_two_alike index (filter chosen es)) (none_of_some e es parts.0) ∙ rest
        | false ↦ rest
      ]

-- ---- the rows of a table

any_index : (names : List (List ℕ)) (chosen : LineKey × Row → Bool) (es : List (LineKey × Row)) (indexes : List (List (List ℕ))) → list_any (has_index names) indexes ≡ true → list_any (λ index. has_two_alike index es) indexes ≡ false
    → without_repeats (map (projection names) (filter chosen es)) ≡ map (projection names) (filter chosen es)
any_index names chosen es [] shown apart = absurd (false≢true shown)
any_index names chosen es (index ∷ indexes) shown apart =
    let parts = or_parts (has_two_alike index es) (list_any (λ index. has_two_alike index es) indexes) apart in
    elim (has_index names index) as (λ b. has_index names index ≡ b → without_repeats (map (projection names) (filter chosen es)) ≡ map (projection names) (filter chosen es)) [
      | true ↦ λ is. shown_apart names index is (filter chosen es) (no_two_of_some index chosen es parts.0)
      | false ↦ λ is. any_index names chosen es indexes (or_second (has_index names index) (list_any (has_index names) indexes) is shown) parts.1
    ] refl

-- if the columns of an index are shown, and no two rows are equal in one
pub told_by_index : (schema : Schema) (rows : Database) (table : List ℕ) (names : List (List ℕ)) → are_any_alike schema rows ≡ false → has_any_index schema table names ≡ true → AreToldApart rows table names
told_by_index schema rows table names apart shown conditions =
    subst (λ (es : List (LineKey × Row)). without_repeats (map (projection names) es) ≡ map (projection names) es) (sym (matching-of_table table conditions (entries rows)))
    (any_index names (meets_all conditions) (rows_of table rows) found.0.indexes found.2 (none (has_duplicates rows (table, found.0)) refl))
  where
    found : (t : Table) × (get schema.tables table ≡ Some t) × (list_any (has_index names) t.indexes ≡ true)
    found = some_and_is (λ t. list_any (has_index names) t.indexes) (get schema.tables table) shown

    none : (b : Bool) → has_duplicates rows (table, found.0) ≡ b → has_duplicates rows (table, found.0) ≡ false
    none false is = is
    none true is = absurd (contradicts (are_any_alike schema rows) (entry_is_any name_cmp name_cmp_total name_exact (has_duplicates rows) schema.tables table found.0 found.1 is) apart)
