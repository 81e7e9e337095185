-- How entries of indexes are collected row by row; for private clauses.
use Rattle.std.specs.Prelude.{◌≡◌, ℕ, ◌+◌, nat_lt, ◌&&◌, ◌||◌, not, List, [], ◌∷◌, Bool, Option, Some, None}
use Rattle.std.specs.FinMap.{get, len, keys, contains_key, from_sorted}
use Rattle.std.specs.List.{list_any}
use Rattle.std.specs.Str.{bytes_eq}
use Rattle.ov_index.specs.IndexKeys.{IndexKey, IndexEntry, same_index_key, key_at}
use Rattle.ov_index.specs.Indexing.{IdSet, Indexes, ids_at, is_indexed, with_id}
use Rattle.ov_specs.specs.rows.Database.{Columns, Row}
use Rattle.ov_specs.specs.rows.Lines.{LineKey, line_cmp}
use Rattle.ov_specs.specs.schema.Schema.{is_some_and, is_empty}
use Rattle.ov_specs.specs.schema.SchemaTypes.{Table, Schema}
use Rattle.ov_specs.specs.values.Uuid.{Uuid}

-- the entry is this one
abbrev pub is_entry : IndexKey → Uuid → IndexEntry → Bool
is_entry key id e = same_index_key e.key key && bytes_eq e.id id

-- the entry is among these
abbrev pub has_entry : IndexKey → Uuid → List IndexEntry → Bool
has_entry key id = list_any (is_entry key id)

-- the entries of a row with these columns in indexes of the table of this name, the first of which has this number
abbrev pub entries_from : ℕ → List ℕ → List (List (List ℕ)) → Uuid → Columns → List IndexEntry
entries_from number name [] id columns = []
entries_from number name (index ∷ indexes) id columns =
    record { key = key_at name number index columns; id = id } ∷ entries_from (number + 1) name indexes id columns

-- its entries in all indexes of the table, if there is such a table
abbrev pub entries_in : Option Table → LineKey → Columns → List IndexEntry
entries_in None key columns = []
entries_in (Some table) key columns = entries_from 0 key.0 table.indexes key.1 columns

-- with one more row at the key of the entry
abbrev pub with_entry : IndexEntry → Indexes → Indexes
with_entry entry indexes = with_id entry.key entry.id indexes

-- with these entries
abbrev pub with_entries : List IndexEntry → Indexes → Indexes
with_entries [] indexes = indexes
with_entries (entry ∷ entries) indexes = with_entries entries (with_entry entry indexes)

-- with the rows of this list at their keys
abbrev pub with_entries_of_rows : Schema → List (LineKey × Row) → Indexes → Indexes
with_entries_of_rows schema [] indexes = indexes
with_entries_of_rows schema (r ∷ rs) indexes =
    with_entries_of_rows schema rs (with_entries (entries_in (get schema.tables r.0.0) r.0 r.1.columns) indexes)

-- the entries of the row of this key, if there is one
abbrev pub entries_of_row : Schema → LineKey → Option Row → List IndexEntry
entries_of_row schema key None = []
entries_of_row schema key (Some row) = entries_in (get schema.tables key.0) key row.columns

-- the table has an index
abbrev pub has_indexes : Option Table → Bool
has_indexes table = is_some_and (λ t. not (is_empty t.indexes)) table

-- ---- entries that are put and listed

-- without the listed entries, the same rows are at the same keys
abbrev pub IsSameWithout : List IndexEntry → Indexes → List IndexEntry → Indexes → Type 0
IsSameWithout added indexes more after =
    (key : IndexKey) (id : Uuid)
    → (is_indexed after key id && not (has_entry key id more)) ≡ (is_indexed indexes key id && not (has_entry key id added))

-- with these entries in addition to those that were there
abbrev pub AreAdded : List IndexEntry → Indexes → Indexes → Type 0
AreAdded more indexes after =
    (key : IndexKey) (id : Uuid) → is_indexed after key id ≡ (is_indexed indexes key id || has_entry key id more)

-- the old entries that are not new are listed in addition
abbrev pub AreMoreGone : List IndexEntry → List IndexEntry → List IndexEntry → List IndexEntry → Type 0
AreMoreGone old new gone more =
    (key : IndexKey) (id : Uuid)
    → has_entry key id more ≡ (has_entry key id gone || (has_entry key id old && not (has_entry key id new)))

-- ---- keys with two rows

-- some key has two rows
abbrev pub has_two : {K : Type 0} → List (K × IdSet) → Bool
has_two = list_any (λ e. nat_lt 1 (len e.1))

-- the indexes have a row at the key that is not changed
abbrev pub has_unchanged : Indexes → List (LineKey × Option Row) → IndexKey → Bool
has_unchanged indexes changes key =
    list_any (λ id. not (contains_key (from_sorted {R = line_cmp} changes) (key.table, id))) (keys (ids_at indexes key))

-- the key has two rows, both changed or one of them
abbrev pub is_shared : Indexes → List (LineKey × Option Row) → IndexKey × IdSet → Bool
is_shared indexes changes e = nat_lt 1 (len e.1) || has_unchanged indexes changes e.0

-- the indexes have the rows that the changes put
abbrev pub with_changes : Schema → List (LineKey × Option Row) → Indexes → Indexes
with_changes schema [] indexes = indexes
with_changes schema (c ∷ cs) indexes = with_changes schema cs (with_entries (entries_of_row schema c.0 c.1) indexes)
