-- The keys of rows in indexes, and their order.
use Rattle.std.specs.Prelude.{ℕ, Bool, List, refl}
use Rattle.std.specs.Coded.{Coded, code_by, coded×, coded_ℕ, coded_list}
use Rattle.std.specs.Cmp.Lexicographic.{slice_cmp}
use Rattle.std.specs.FinMap.{get}
use Rattle.std.specs.List.{filter_map}
use Rattle.std.specs.Ordering.{nat_cmp, eq_by_cmp, ordering_then}
use Rattle.std.specs.declared.cmp.Ordering.{Ordering}
use Rattle.ov_specs.specs.codes.ValueCode.{datum_code}
use Rattle.ov_specs.specs.rows.Database.{Columns}
use Rattle.ov_specs.specs.schema.SchemaTypes.{name_cmp}
use Rattle.ov_specs.specs.values.Uuid.{Uuid}
use Rattle.ov_specs.specs.values.Value.{Datum, datum_cmp}

-- a table, the number of one of its indexes, and values of the columns of that index (RFC 7047, 3.2, <table-schema>, indexes)
pub record IndexKey : Type 0 where
  pub table : List ℕ
  pub number : ℕ
  pub values : List Datum

-- values of the columns of an index, with its number
abbrev pub NumberedValues : Type 0
NumberedValues = ℕ × List Datum

-- the order of values, one by one
abbrev pub values_cmp : List Datum → List Datum → Ordering
values_cmp = slice_cmp datum_cmp

-- their order: by the number, then by the values
abbrev pub numbered_cmp : NumberedValues → NumberedValues → Ordering
numbered_cmp a b = ordering_then (nat_cmp a.0 b.0) (values_cmp a.1 b.1)

-- the order of keys: by the bytes of the table's name, then by the number, then by the values
abbrev pub index_cmp : IndexKey → IndexKey → Ordering
index_cmp a b = ordering_then (name_cmp a.table b.table) (numbered_cmp (a.number, a.values) (b.number, b.values))

-- the key of these values in the index of this number of the table of this name
abbrev pub index_key : List ℕ → ℕ → List Datum → IndexKey
index_key table number values = record { table = table; number = number; values = values }

-- the same key
abbrev pub same_index_key : IndexKey → IndexKey → Bool
same_index_key a b = eq_by_cmp index_cmp a b

-- the values in the columns of an index, in the index's order. A row of the schema has a value for each of them.
abbrev pub values_in : List (List ℕ) → Columns → List Datum
values_in index columns = filter_map (λ name. get columns name) index

-- the key of a row with these columns in the index of this number of the table of this name
abbrev pub key_at : List ℕ → ℕ → List (List ℕ) → Columns → IndexKey
key_at table number index columns = index_key table number (values_in index columns)

-- a key, and the identifier of a row at it
pub record IndexEntry : Type 0 where
  pub key : IndexKey
  pub id : Uuid

-- ---- how models store them

-- values as a list
abbrev pub values_code : Coded (List Datum)
values_code = coded_list datum_code

-- values with a number as a pair
abbrev pub numbered_code : Coded NumberedValues
numbered_code = coded× coded_ℕ values_code

-- a key as nested pairs
abbrev pub index_key_code : Coded IndexKey
index_key_code =
    code_by (List ℕ × NumberedValues) (coded× (coded_list coded_ℕ) numbered_code)
    (λ k. (k.table, (k.number, k.values))) (λ p. index_key p.0 p.1.0 p.1.1) (λ _. refl)

-- an entry as a pair
abbrev pub index_entry_code : Coded IndexEntry
index_entry_code =
    code_by (IndexKey × Uuid) (coded× index_key_code (coded_list coded_ℕ)) (λ e. (e.key, e.id))
    (λ p. record { key = p.0; id = p.1 }) (λ _. refl)
