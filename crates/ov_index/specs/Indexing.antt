-- Rows by their values in the indexes of their tables, as a map.
use Rattle.std.specs.Prelude.{◌≡◌, ◌==◌, List, [], ◌∷◌, map, Bool, T, if◌then◌else◌, Option, Some, None, option_map, slice_get, unwrap_or}
use Rattle.std.specs.Coded.{Coded, coded_ℕ, coded_list}
use base.Stored.{coded_unit}
use Rattle.std.specs.FinMap as map
use Rattle.std.specs.FinMap.{FinMap, empty, get, contains_key, insert, is_sorted, remove, len}
use Rattle.std.specs.declared.cmp.Ordering.{Ordering}
use Rattle.ov_rows.specs.Nested.{id_cmp}
use Rattle.ov_index.specs.IndexKeys.{IndexKey, IndexEntry, index_cmp, same_index_key, key_at, index_key_code}
use Rattle.ov_specs.specs.rows.Database.{Columns, Row, Database}
use Rattle.ov_specs.specs.rows.Lines.{LineKey}
use Rattle.ov_specs.specs.schema.Schema.{is_some_and}
use Rattle.ov_specs.specs.schema.SchemaTypes.{Schema}
use Rattle.ov_specs.specs.values.Uuid.{Uuid}
use Rattle.ov_specs.specs.values.Value.{marked}

-- a set of identifiers
abbrev pub IdSet : Type 0
IdSet = FinMap id_cmp (Unit {0})

-- for each key, the rows at it
abbrev pub Indexes : Type 0
Indexes = FinMap index_cmp IdSet

-- ---- sets of identifiers by keys of any kind

module _ {K : Type 0} {R : K → K → Ordering} where
  -- the rows at the key
  abbrev pub ids_at : FinMap R IdSet → K → IdSet
  ids_at indexes key = unwrap_or (get indexes key) empty

  -- the row of this identifier is kept at the key
  abbrev pub is_indexed : FinMap R IdSet → K → Uuid → Bool
  is_indexed indexes key id = is_some_and (λ ids. contains_key ids id) (get indexes key)

  -- with one more row at the key
  abbrev pub with_id : K → Uuid → FinMap R IdSet → FinMap R IdSet
  with_id key id indexes = insert indexes key (insert (ids_at indexes key) id tt)

  -- with these rows at the key, or without the key
  abbrev pub with_ids : K → Option IdSet → FinMap R IdSet → FinMap R IdSet
  with_ids key None indexes = remove indexes key
  with_ids key (Some ids) indexes = insert indexes key ids

-- those at a key, if there is such a key, without this row
abbrev pub lacking : Option IdSet → Uuid → Option IdSet
lacking ids id = option_map (λ set. remove set id) ids

-- there is such a key, and it has no row
abbrev pub has_no_rows : Option IdSet → Bool
has_no_rows ids = is_some_and (λ set. len set == 0) ids

-- those that are left without this row, if any row is left
abbrev pub ids_left : Option IdSet → Uuid → Option IdSet
ids_left ids id = if has_no_rows (lacking ids id) then None else lacking ids id

-- without the row at the key, and without the key if no row is left there
abbrev pub without_id : {K : Type 0} {R : K → K → Ordering} → K → Uuid → FinMap R IdSet → FinMap R IdSet
without_id key id indexes = with_ids key (ids_left (get indexes key) id) indexes

-- ---- which rows they are of

-- a row with these columns is at the key: its table has an index of the key's number, where the row has the key's values
abbrev pub stands_at : Schema → LineKey → Columns → IndexKey → Bool
stands_at schema at columns key =
    is_some_and
    (λ table. is_some_and (λ index. same_index_key (key_at at.0 key.number index columns) key)
    (slice_get table.indexes key.number))
    (get schema.tables at.0)

-- the row is at the key
abbrev pub is_at : Schema → LineKey × Row → IndexKey → Bool
is_at schema r key = stands_at schema r.0 r.1.columns key

-- the key's table has a row of this identifier, and it is at the key
abbrev pub is_in : Schema → Database → IndexKey → Uuid → Bool
is_in schema rows key id = is_some_and (λ row. is_at schema ((key.table, id), row) key) (get rows (key.table, id))

-- the indexes keep at each key exactly the rows that are at it
abbrev pub AreIndexesOf : Schema → Database → Indexes → Type 0
AreIndexesOf schema rows indexes = (key : IndexKey) (id : Uuid) → is_indexed indexes key id ≡ is_in schema rows key id

-- ---- entries that are taken out

-- without the entry
abbrev pub without_entry : IndexEntry → Indexes → Indexes
without_entry entry indexes = without_id entry.key entry.id indexes

-- without these entries
abbrev pub without_entries : List IndexEntry → Indexes → Indexes
without_entries [] indexes = indexes
without_entries (entry ∷ entries) indexes = without_entries entries (without_entry entry indexes)

-- ---- how models store them

-- identifiers in ascending order
abbrev pub Ascend : List Uuid → Type 0
Ascend ids = T (is_sorted id_cmp (map marked ids))

-- the set of an ascending list
abbrev pub set_of_ids : List Uuid → IdSet
set_of_ids ids = map.from_sorted {R = id_cmp} (map marked ids)

-- a set of identifiers, by its entries
abbrev pub id_set_code : Coded IdSet
id_set_code = map.code (coded_list coded_ℕ) coded_unit

-- indexes, by their entries
abbrev pub indexes_code : Coded Indexes
indexes_code = map.code index_key_code id_set_code
