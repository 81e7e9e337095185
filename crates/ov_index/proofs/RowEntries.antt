-- The keys of a row, as they are collected, and the rows that are collected from a list.
use Rattle.std.proofs.Common.{◌≡◌, ◌+◌, ◌<◌, ℕ, zero, suc, List, [], ◌∷◌, ◌++◌, Bool, true, false, cond, T, ◌&&◌, ◌||◌, not, Option, Some, None, refl, sym, ap, ◌∙◌, arith}
use Rattle.std.specs.Prelude.{slice_get}
use Rattle.std.specs.FinMap.{find, is_sorted, empty, get, entries, entries_sorted, get-entries}
use Rattle.std.specs.FinMap.Entries.{below_all}
use Rattle.std.specs.List.{list_any}
use Rattle.std.specs.Ordering.{eq_by_cmp}
use Rattle.std.specs.Str.{bytes_eq}
use Rattle.std.proofs.lemmas.Slice.Eq.{bytes_eq-Decides}
use Rattle.ov_rows.specs.Nested.{in_table}
use Rattle.ov_specs.specs.rows.Database.{Columns, Row, Database}
use Rattle.ov_specs.specs.rows.Lines.{LineKey, line_cmp}
use Rattle.ov_specs.specs.schema.Schema.{is_some_and, is_empty}
use Rattle.ov_specs.specs.schema.SchemaTypes.{Table, Schema}
use Rattle.ov_specs.specs.values.Uuid.{Uuid}
use Rattle.ov_specs.proofs.laws.LineKeys.{tied_same, same_tied}
use Rattle.ov_specs.proofs.laws.Truths.{left_holds, right_holds, not_tied}
use Rattle.ov_index.specs.Collecting.{is_entry, has_entry, entries_from, entries_in, entries_of_row, with_entries, with_entries_of_rows, has_indexes}
use Rattle.ov_index.specs.IndexKeys.{IndexKey, same_index_key, key_at}
use Rattle.ov_index.specs.Indexing.{Indexes, is_indexed, stands_at, is_at, AreIndexesOf}
use Rattle.ov_index.proofs.Kept.{same_key-is, or_false, or_three, indexed-with_entries, none_indexed}

-- ---- the keys of a row

differ : (a b : IndexKey) → (a.number ≡ b.number → ⊥) → same_index_key a b ≡ false
differ a b apart = by (same_index_key a b) refl
  where
    by : (x : Bool) → same_index_key a b ≡ x → same_index_key a b ≡ false
    by true is = absurd (apart (ap (λ (k : IndexKey). k.number) (same_key-is a b is)))
    by false is = is

module _ (name : List ℕ) (of : Uuid) (columns : Columns) (key : IndexKey) (id : Uuid) where
  -- in the index of the key's number, the row is at the key
  abbrev is_there : List (List ℕ) → Bool
  is_there index = same_index_key (key_at name key.number index columns) key

  -- indexes of greater numbers
  later_numbers : (n : ℕ) (indexes : List (List (List ℕ))) → key.number < n → has_entry key id (entries_from n name indexes of columns) ≡ false
  later_numbers n [] less = refl
  later_numbers n (index ∷ indexes) less =
      ap (λ b. (b && bytes_eq of id) || has_entry key id (entries_from (n + 1) name indexes of columns)) (differ (key_at name n index columns) key (λ same. omega (arith, less, same)))
      ∙ later_numbers (n + 1) indexes (omega (arith, less))

  none_more : (b c : Bool) → c ≡ false → (b || c) ≡ b
  none_more true c h = refl
  none_more false c h = h

  pub by_number : (m n : ℕ) (indexes : List (List (List ℕ))) → key.number ≡ n + m
      → has_entry key id (entries_from n name indexes of columns) ≡ (is_some_and is_there (slice_get indexes m) && bytes_eq of id)
  by_number m n [] at = refl
  by_number zero n (index ∷ indexes) at =
      none_more (is_entry key id (record { key = key_at name n index columns; id = of })) (has_entry key id (entries_from (n + 1) name indexes of columns)) (later_numbers (n + 1) indexes (omega (arith, at)))
      ∙ ap (λ number. same_index_key (key_at name number index columns) key && bytes_eq of id) (omega (arith, at))
  by_number (suc m) n (index ∷ indexes) at =
      ap (λ b. (b && bytes_eq of id) || has_entry key id (entries_from (n + 1) name indexes of columns)) (differ (key_at name n index columns) key (λ same. omega (arith, at, same)))
      ∙ by_number m (n + 1) indexes (omega (arith, at))

-- the row has an entry at the key if it is at the key
pub entry_is : (schema : Schema) (at : LineKey) (columns : Columns) (key : IndexKey) (id : Uuid)
    → has_entry key id (entries_in (get schema.tables at.0) at columns) ≡ (stands_at schema at columns key && bytes_eq at.1 id)
entry_is schema at columns key id = by (get schema.tables at.0)
  where
    by : (o : Option Table) → has_entry key id (entries_in o at columns)
        ≡ (is_some_and (λ table. is_some_and (λ index. same_index_key (key_at at.0 key.number index columns) key) (slice_get table.indexes key.number)) o && bytes_eq at.1 id)
    by None = refl
    by (Some table) = by_number at.0 at.1 columns key id key.number 0 table.indexes (omega arith)

both_turned : (a b : Bool) → (a && b) ≡ (b && a)
both_turned true true = refl
both_turned true false = refl
both_turned false true = refl
both_turned false false = refl

-- a row at a key is of the key's table
table_is : (schema : Schema) (at : LineKey) (columns : Columns) (key : IndexKey) → stands_at schema at columns key ≡ true → at.0 ≡ key.table
table_is schema at columns key = by (get schema.tables at.0)
  where
    in_index : (o : Option (List (List ℕ))) → is_some_and (λ index. same_index_key (key_at at.0 key.number index columns) key) o ≡ true → at.0 ≡ key.table
    in_index None h = cc
    in_index (Some index) h = ap (λ (k : IndexKey). k.table) (same_key-is (key_at at.0 key.number index columns) key h)

    by : (o : Option Table) → is_some_and (λ table. is_some_and (λ index. same_index_key (key_at at.0 key.number index columns) key) (slice_get table.indexes key.number)) o ≡ true → at.0 ≡ key.table
    by None h = cc
    by (Some table) h = in_index (slice_get table.indexes key.number) h

module _ (schema : Schema) (key : IndexKey) (id : Uuid) where
  -- the row, if there is one, is at the key
  abbrev pub is_row : Option Row → Bool
  is_row o = is_some_and (λ row. is_at schema ((key.table, id), row) key) o

  parts : (a b : Bool) → (a && b) ≡ true → (a ≡ true) × (b ≡ true)
  parts true b h = (refl, h)
  parts false b h = cc

  -- only the row of the key's table with this identifier has the entry
  entry_at : (at : LineKey) (columns : Columns) → (stands_at schema at columns key && bytes_eq at.1 id) ≡ (eq_by_cmp line_cmp (key.table, id) at && stands_at schema (key.table, id) columns key)
  entry_at at columns = by (eq_by_cmp line_cmp (key.table, id) at) refl
    where
      other : eq_by_cmp line_cmp (key.table, id) at ≡ false → (b : Bool) → (stands_at schema at columns key && bytes_eq at.1 id) ≡ b → (stands_at schema at columns key && bytes_eq at.1 id) ≡ false
      other apart false is = is
      other apart true is =
          let holds = parts (stands_at schema at columns key) (bytes_eq at.1 id) is in
          let table : at.0 ≡ key.table = table_is schema at columns key holds.0 in
          let of : at.1 ≡ id = (bytes_eq-Decides at.1 id).0 holds.1 in
          is ∙ sym (same_tied (key.table, id) at (λ i. (sym table i, sym of i))) ∙ apart

      by : (b : Bool) → eq_by_cmp line_cmp (key.table, id) at ≡ b → (stands_at schema at columns key && bytes_eq at.1 id) ≡ (b && stands_at schema (key.table, id) columns key)
      by true is =
          let same : (key.table, id) ≡ at = tied_same (key.table, id) at is in
          ap (λ (k : LineKey). stands_at schema k columns key && bytes_eq k.1 id) (sym same)
          ∙ both_turned (stands_at schema (key.table, id) columns key) (bytes_eq id id)
          ∙ ap (λ b. b && stands_at schema (key.table, id) columns key) ((bytes_eq-Decides id id).1 refl)
      by false is = other is (stands_at schema at columns key && bytes_eq at.1 id) refl

  pub row_entry : (at : LineKey) (o : Option Row) → has_entry key id (entries_of_row schema at o) ≡ (eq_by_cmp line_cmp (key.table, id) at && is_row o)
  row_entry at None = sym (both_turned (eq_by_cmp line_cmp (key.table, id) at) false)
  row_entry at (Some row) = entry_is schema at row.columns key id ∙ entry_at at row.columns

-- ---- what is at a key in an ascending list

module _ {X : Type 0} (test : X → Bool) (q : LineKey) where
  none_after : (key : LineKey) (es : List (LineKey × X)) → T (below_all line_cmp key es) → find line_cmp key es ≡ None
  none_after key [] h = refl
  none_after key (e ∷ es) h = ap (λ b. cond b (Some e.1) (find line_cmp key es)) (not_tied (line_cmp key e.0) (left_holds _ _ h)) ∙ none_after key es (right_holds _ _ h)

  pub any_at : (es : List (LineKey × X)) → T (is_sorted line_cmp es) → list_any (λ e. eq_by_cmp line_cmp q e.0 && test e.1) es ≡ is_some_and test (find line_cmp q es)
  any_at [] h = refl
  any_at (e ∷ es) h = by (any_at es (right_holds _ _ h)) (eq_by_cmp line_cmp q e.0) refl
    where
      by : list_any (λ (x : LineKey × X). eq_by_cmp line_cmp q x.0 && test x.1) es ≡ is_some_and test (find line_cmp q es) → (b : Bool) → eq_by_cmp line_cmp q e.0 ≡ b
          → ((b && test e.1) || list_any (λ (x : LineKey × X). eq_by_cmp line_cmp q x.0 && test x.1) es) ≡ is_some_and test (cond b (Some e.1) (find line_cmp q es))
      by others true is =
          let none : find line_cmp q es ≡ None = ap (λ k. find line_cmp k es) (tied_same q e.0 is) ∙ none_after e.0 es (left_holds _ _ h) in
          ap (λ b. test e.1 || b) (others ∙ ap (is_some_and test) none) ∙ sym (or_false (test e.1))
      by others false is = others

-- ---- rows that are collected

pub indexed-with_entries_of_rows : (schema : Schema) (rs : List (LineKey × Row)) (indexes : Indexes) (key : IndexKey) (id : Uuid)
    → is_indexed (with_entries_of_rows schema rs indexes) key id ≡ (is_indexed indexes key id || list_any (λ r. eq_by_cmp line_cmp (key.table, id) r.0 && is_at schema ((key.table, id), r.1) key) rs)
indexed-with_entries_of_rows schema [] indexes key id = or_false (is_indexed indexes key id)
indexed-with_entries_of_rows schema (r ∷ rs) indexes key id =
    let later = list_any (λ (x : LineKey × Row). eq_by_cmp line_cmp (key.table, id) x.0 && is_at schema ((key.table, id), x.1) key) rs in
    let es = entries_in (get schema.tables r.0.0) r.0 r.1.columns in
    indexed-with_entries_of_rows schema rs (with_entries es indexes) key id
    ∙ ap (λ b. b || later) (indexed-with_entries es indexes key id ∙ ap (λ b. is_indexed indexes key id || b) (row_entry schema key id r.0 (Some r.1)))
    ∙ or_three (is_indexed indexes key id) (eq_by_cmp line_cmp (key.table, id) r.0 && is_at schema ((key.table, id), r.1) key) later

-- indexes that were collected from all rows are those of the rows
pub indexes_are : (schema : Schema) (rows : Database) (none indexes : Indexes) → none ≡ empty → indexes ≡ with_entries_of_rows schema (entries rows) none → AreIndexesOf schema rows indexes
indexes_are schema rows none indexes nobody are key id =
    ap (λ (i : Indexes). is_indexed i key id) are ∙ indexed-with_entries_of_rows schema (entries rows) none key id
    ∙ (λ i. (ap (λ (n : Indexes). is_indexed n key id) nobody ∙ none_indexed key id) i
    || (any_at (λ row. is_at schema ((key.table, id), row) key) (key.table, id) (entries rows) (entries_sorted rows) ∙ ap (is_some_and (λ (row : Row). is_at schema ((key.table, id), row) key)) (sym (get-entries rows (key.table, id)))) i)

-- rows of one list and then of another
pub with_entries_of_rows-append : (schema : Schema) (xs ys : List (LineKey × Row)) (indexes : Indexes) → with_entries_of_rows schema (xs ++ ys) indexes ≡ with_entries_of_rows schema ys (with_entries_of_rows schema xs indexes)
with_entries_of_rows-append schema [] ys indexes = refl
with_entries_of_rows-append schema (x ∷ xs) ys indexes = with_entries_of_rows-append schema xs ys (with_entries (entries_in (get schema.tables x.0.0) x.0 x.1.columns) indexes)

-- rows of a table without indexes make nothing
no_entries : (o : Option Table) (at : LineKey) (columns : Columns) → has_indexes o ≡ false → entries_in o at columns ≡ []
no_entries None at columns h = refl
no_entries (Some table) at columns h = by table.indexes h
  where
    by : (indexes : List (List (List ℕ))) → not (is_empty indexes) ≡ false → entries_from 0 at.0 indexes at.1 columns ≡ []
    by [] h = refl
    by (index ∷ indexes) h = cc

pub no_rows : (schema : Schema) (name : List ℕ) (rows : List (Uuid × Row)) (indexes : Indexes) → has_indexes (get schema.tables name) ≡ false → with_entries_of_rows schema (in_table name rows) indexes ≡ indexes
no_rows schema name [] indexes h = refl
no_rows schema name (r ∷ rs) indexes h =
    ap (λ es. with_entries_of_rows schema (in_table name rs) (with_entries es indexes)) (no_entries (get schema.tables name) (name, r.0) r.1.columns h) ∙ no_rows schema name rs indexes h
