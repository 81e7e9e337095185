-- Two rows are alike in an index if they are at one key.
use Rattle.std.proofs.Common.{◌≡◌, ℕ, zero, suc, List, [], ◌∷◌, Bool, true, false, ◌&&◌, ◌||◌, Option, Some, None, is_some, refl, sym, ap, subst, ◌∙◌}
use Rattle.std.specs.Prelude.{slice_get}
use Rattle.std.proofs.lemmas.Bool.{and_parts, and_from, or_left, or_right}
use Rattle.std.proofs.lemmas.Option.{same_Some}
use Rattle.std.proofs.lemmas.Slice.Eq.{bytes_eq-Decides}
use Rattle.std.specs.FinMap.{get}
use Rattle.std.specs.List.{list_any, list_all, cons_option}
use Rattle.std.specs.Ordering.{eq_by_cmp}
use Rattle.std.specs.Str.{bytes_eq}
use Rattle.ov_specs.specs.integrity.Limits.{rows_of, is_same_value, has_two_alike, has_duplicates}
use Rattle.ov_specs.specs.rows.Database.{Columns, Row, Database, same_datum}
use Rattle.ov_specs.specs.rows.Lines.{LineKey}
use Rattle.ov_specs.specs.rows.Suits.{SuitsRow, SuitsTable, column_of_row, suits_column}
use Rattle.ov_specs.specs.schema.Schema.{is_some_and}
use Rattle.ov_specs.specs.schema.SchemaTypes.{Column, Table, Schema, name_cmp}
use Rattle.ov_specs.specs.values.Uuid.{Uuid}
use Rattle.ov_specs.specs.values.Value.{Datum, datum_cmp}
use Rattle.ov_specs.proofs.laws.DatumOrder.{datum_cmp_total, datum_cmp-IsAntisymmetric}
use Rattle.ov_specs.proofs.laws.LineKeys.{tied_same, same_tied}
use Rattle.ov_specs.proofs.laws.Names.{name_cmp_total, name_exact}
use Rattle.ov_specs.proofs.laws.Sameness.{datum-tied}
use Rattle.ov_specs.proofs.laws.Truths.{equal_is}
use Rattle.std.specs.Cmp.{eq_by_cmp_equiv}
use Rattle.ov_index.specs.Changing.{are_any_alike}
use Rattle.ov_index.specs.IndexKeys.{IndexKey, same_index_key, key_at, values_in}
use Rattle.ov_index.specs.Indexing.{stands_at, is_at}
use Rattle.ov_index.proofs.Kept.{same_key-is, same_key-itself}
use Rattle.ov_index.proofs.MapEntries.{contradicts, some_and_is, any_entry_is, entry_is_any}
use Rattle.ov_index.proofs.TwoAlike.{same_line, TwoAlike, two_alike, are_two_alike}

-- ---- the same values

same_datum-is : (a b : Datum) → same_datum a b ≡ true → a ≡ b
same_datum-is a b h = datum_cmp-IsAntisymmetric a b (equal_is _ (sym (datum-tied a b) ∙ h))

is_same_datum : (a b : Datum) → a ≡ b → same_datum a b ≡ true
is_same_datum a b same = datum-tied a b ∙ ap (eq_by_cmp datum_cmp a) (sym same) ∙ (eq_by_cmp_equiv datum_cmp_total).refl a

module _ (r s : Columns) where
  abbrev same_in : List ℕ → Bool
  same_in name = is_same_value (get r name) (get s name)

  -- rows that are alike have the same values
  same_values : (index : List (List ℕ)) → list_all same_in index ≡ true → values_in index r ≡ values_in index s
  same_values [] all = refl
  same_values (name ∷ names) all = by (get r name) (get s name) parts.0 (same_values names parts.1)
    where
      parts : (same_in name ≡ true) × (list_all same_in names ≡ true)
      parts = and_parts (same_in name) (list_all same_in names) all

      by : (a b : Option Datum) → is_same_value a b ≡ true → values_in names r ≡ values_in names s → cons_option a (values_in names r) ≡ cons_option b (values_in names s)
      by None None same others = others
      by (Some a) (Some b) same others = λ i. same_datum-is a b same i ∷ others i
      by (Some a) None same others = cc
      by None (Some b) same others = cc

  -- and the other way round, if each has a value where the other has one
  values_same : ((name : List ℕ) → is_some (get r name) ≡ is_some (get s name)) → (index : List (List ℕ)) → values_in index r ≡ values_in index s → list_all same_in index ≡ true
  values_same both [] same = refl
  values_same both (name ∷ names) same = by (get r name) (get s name) (both name) same (values_same both names)
    where
      firsts : (a b : Datum) (xs ys : List Datum) → a ∷ xs ≡ b ∷ ys → (a ≡ b) × (xs ≡ ys)
      firsts a b xs ys e = (ap (λ (l : List Datum). first a l) e, ap rest e)
        where
          first : Datum → List Datum → Datum
          first d [] = d
          first d (x ∷ l) = x

          rest : List Datum → List Datum
          rest [] = []
          rest (x ∷ l) = l

      by : (a b : Option Datum) → is_some a ≡ is_some b → cons_option a (values_in names r) ≡ cons_option b (values_in names s) → (values_in names r ≡ values_in names s → list_all same_in names ≡ true)
          → (is_same_value a b && list_all same_in names) ≡ true
      by None None there same others = others same
      by (Some a) (Some b) there same others =
          let parts = firsts a b (values_in names r) (values_in names s) same in
          and_from (same_datum a b) (list_all same_in names) (is_same_datum a b parts.0) (others parts.1)
      by (Some a) None there same others = cc
      by None (Some b) there same others = cc

-- rows of one table have values in the same columns
present : (table : Table) (columns : Columns) → SuitsTable table columns → (name : List ℕ) → is_some (get columns name) ≡ is_some (column_of_row table name)
present table columns suits name = by (column_of_row table name) (get columns name) (suits name)
  where
    by : (c : Option Column) (d : Option Datum) → suits_column c d ≡ true → is_some d ≡ is_some c
    by None None h = refl
    by (Some c) (Some d) h = refl
    by None (Some d) h = cc
    by (Some c) None h = cc

-- ---- the number of an index

numbered : (test : List (List ℕ) → Bool) (indexes : List (List (List ℕ))) → list_any test indexes ≡ true → (number : ℕ) × (index : List (List ℕ)) × (slice_get indexes number ≡ Some index) × (test index ≡ true)
numbered test [] any = cc
numbered test (index ∷ indexes) any = by (test index) refl any (numbered test indexes)
  where
    by : (b : Bool) → test index ≡ b → (b || list_any test indexes) ≡ true → (list_any test indexes ≡ true → (number : ℕ) × (found : List (List ℕ)) × (slice_get indexes number ≡ Some found) × (test found ≡ true))
        → (number : ℕ) × (found : List (List ℕ)) × (slice_get (index ∷ indexes) number ≡ Some found) × (test found ≡ true)
    by true is any others = (zero, index, refl, is)
    by false is any others = let later = others any in (suc later.0, later.1, later.2, later.3)

of_number : (test : List (List ℕ) → Bool) (indexes : List (List (List ℕ))) (number : ℕ) (index : List (List ℕ)) → slice_get indexes number ≡ Some index → test index ≡ true → list_any test indexes ≡ true
of_number test [] number index at is = cc
of_number test (x ∷ xs) zero index at is = or_left (test x) (list_any test xs) (ap test (same_Some x index at) ∙ is)
of_number test (x ∷ xs) (suc number) index at is = or_right (test x) (list_any test xs) (of_number test xs number index at is)

-- ---- two rows at one key

-- the row with this identifier is at the key
abbrev pub RowAt : Schema → Database → IndexKey → Uuid → Type 0
RowAt schema rows key id = (row : Row) × (get rows (key.table, id) ≡ Some row) × (is_at schema ((key.table, id), row) key ≡ true)

-- two rows of different identifiers are at a key
pub record AreShared (schema : Schema) (rows : Database) (key : IndexKey) (a b : Uuid) : Type 0 where
  pub differ : bytes_eq a b ≡ false
  pub at_a : RowAt schema rows key a
  pub at_b : RowAt schema rows key b

-- there are such rows
abbrev pub IsShared : Schema → Database → Type 0
IsShared schema rows = (key : IndexKey) × (a : Uuid) × (b : Uuid) × AreShared schema rows key a b

module _ (schema : Schema) (rows : Database) where
  -- the keys of a row, by the table and the index
  place_is : (at : LineKey) (columns : Columns) (key : IndexKey) → stands_at schema at columns key ≡ true
      → (table : Table) × (index : List (List ℕ)) × (get schema.tables at.0 ≡ Some table) × (slice_get table.indexes key.number ≡ Some index) × (same_index_key (key_at at.0 key.number index columns) key ≡ true)
  place_is at columns key is =
      let table = some_and_is (λ (t : Table). is_some_and (λ index. same_index_key (key_at at.0 key.number index columns) key) (slice_get t.indexes key.number)) (get schema.tables at.0) is in
      let index = some_and_is (λ (i : List (List ℕ)). same_index_key (key_at at.0 key.number i columns) key) (slice_get table.0.indexes key.number) table.2 in
      (table.0, index.0, table.1, index.1, index.2)

  is_place : (at : LineKey) (columns : Columns) (key : IndexKey) (table : Table) (index : List (List ℕ)) → get schema.tables at.0 ≡ Some table → slice_get table.indexes key.number ≡ Some index
      → key_at at.0 key.number index columns ≡ key → stands_at schema at columns key ≡ true
  is_place at columns key table index in_schema in_table same =
      ap (is_some_and (λ (t : Table). is_some_and (λ i. same_index_key (key_at at.0 key.number i columns) key) (slice_get t.indexes key.number))) in_schema
      ∙ ap (is_some_and (λ (i : List (List ℕ)). same_index_key (key_at at.0 key.number i columns) key)) in_table ∙ ap (λ k. same_index_key k key) same ∙ same_key-itself key

  ids_differ : (name : List ℕ) (a b : LineKey) → a.0 ≡ name → b.0 ≡ name → same_line a b ≡ false → bytes_eq a.1 b.1 ≡ false
  ids_differ name a b of_a of_b differ = by (bytes_eq a.1 b.1) refl
    where
      by : (x : Bool) → bytes_eq a.1 b.1 ≡ x → bytes_eq a.1 b.1 ≡ false
      by false is = is
      by true is =
          let table : a.0 ≡ b.0 = of_a ∙ sym of_b in
          let id : a.1 ≡ b.1 = (bytes_eq-Decides a.1 b.1).0 is in
          absurd (contradicts (same_line a b) (same_tied a b (λ i. (table i, id i))) differ)

  lines_differ : (name : List ℕ) (a b : Uuid) → bytes_eq a b ≡ false → same_line (name, a) (name, b) ≡ false
  lines_differ name a b differ = by (same_line (name, a) (name, b)) refl
    where
      by : (x : Bool) → same_line (name, a) (name, b) ≡ x → same_line (name, a) (name, b) ≡ false
      by false is = is
      by true is = absurd (contradicts (bytes_eq a b) ((bytes_eq-Decides a b).1 (ap (λ (k : LineKey). k.1) (tied_same (name, a) (name, b) is))) differ)

  -- two rows that are alike are at one key
  pub alike_shared : are_any_alike schema rows ≡ true → IsShared schema rows
  alike_shared any = of_table found.0 found.1 found.2 found.3
    where
      found : (name : List ℕ) × (table : Table) × (get schema.tables name ≡ Some table) × (has_duplicates rows (name, table) ≡ true)
      found = any_entry_is name_cmp name_cmp_total name_exact (has_duplicates rows) schema.tables any

      of_two : (name : List ℕ) (table : Table) → get schema.tables name ≡ Some table → (number : ℕ) (index : List (List ℕ)) → slice_get table.indexes number ≡ Some index → TwoAlike rows name index → IsShared schema rows
      of_two name table in_schema number index in_table (a, r, b, s, of_a, at_a, of_b, at_b, differ, alike) =
          let key : IndexKey = key_at name number index r.columns in
          let same : key_at name number index s.columns ≡ key = ap (λ values. record { table = name; number = number; values = values }) (sym (same_values r.columns s.columns index alike)) in (
            key,
            a.1,
            b.1,
            record {
              differ = ids_differ name a b of_a of_b differ;
              at_a = (r, ap (λ n. get rows (n, a.1)) (sym of_a) ∙ at_a, is_place (name, a.1) r.columns key table index in_schema in_table refl);
              at_b = (s, ap (λ n. get rows (n, b.1)) (sym of_b) ∙ at_b, is_place (name, b.1) s.columns key table index in_schema in_table same);
            },
          )

      of_table : (name : List ℕ) (table : Table) → get schema.tables name ≡ Some table → has_duplicates rows (name, table) ≡ true → IsShared schema rows
      of_table name table in_schema twice =
          let one = numbered (λ index. has_two_alike index (rows_of name rows)) table.indexes twice in
          of_two name table in_schema one.0 one.1 one.2 (two_alike rows name one.1 one.3)

  -- and the other way round, if they are rows of the schema
  pub shared_alike : (key : IndexKey) (a b : Uuid) (shared : AreShared schema rows key a b) → SuitsRow schema (key.table, a) shared.at_a.0 → SuitsRow schema (key.table, b) shared.at_b.0 → are_any_alike schema rows ≡ true
  shared_alike key a b shared suits_a suits_b =
      entry_is_any name_cmp name_cmp_total name_exact (has_duplicates rows) schema.tables name table place_a.2
      (of_number (λ i. has_two_alike i (rows_of name rows)) table.indexes key.number index place_a.3
      (are_two_alike rows name index ((name, a), r, (name, b), s, refl, shared.at_a.1, refl, shared.at_b.1, lines_differ name a b shared.differ, values_same r.columns s.columns both index same)))
    where
      name : List ℕ
      name = key.table

      r : Row
      r = shared.at_a.0

      s : Row
      s = shared.at_b.0

      place_a : (table : Table) × (index : List (List ℕ)) × (get schema.tables name ≡ Some table) × (slice_get table.indexes key.number ≡ Some index) × (same_index_key (key_at name key.number index r.columns) key ≡ true)
      place_a = place_is (name, a) r.columns key shared.at_a.2

      place_b : (table : Table) × (index : List (List ℕ)) × (get schema.tables name ≡ Some table) × (slice_get table.indexes key.number ≡ Some index) × (same_index_key (key_at name key.number index s.columns) key ≡ true)
      place_b = place_is (name, b) s.columns key shared.at_b.2

      table : Table
      table = place_a.0

      index : List (List ℕ)
      index = place_a.1

      same_table : place_b.0 ≡ table
      same_table = same_Some place_b.0 table (sym place_b.2 ∙ place_a.2)

      same_index : place_b.1 ≡ index
      same_index = same_Some place_b.1 index (sym place_b.3 ∙ ap (λ (t : Table). slice_get t.indexes key.number) same_table ∙ place_a.3)

      same : values_in index r.columns ≡ values_in index s.columns
      same =
          ap (λ (k : IndexKey). k.values) (same_key-is (key_at name key.number index r.columns) key place_a.4)
          ∙ sym (ap (λ (k : IndexKey). k.values) (same_key-is (key_at name key.number place_b.1 s.columns) key place_b.4)) ∙ ap (λ i. values_in i s.columns) same_index

      has : (row : Row) (id : Uuid) → SuitsRow schema (name, id) row → SuitsTable table row.columns
      has row id suits = subst (λ t. SuitsTable t row.columns) (same_Some suits.table table (sym suits.named ∙ place_a.2)) suits.columns

      both : (n : List ℕ) → is_some (get r.columns n) ≡ is_some (get s.columns n)
      both n = present table r.columns (has r a suits_a) n ∙ sym (present table s.columns (has s b suits_b) n)
