-- Which rows refer to which, as maps.
use Rattle.std.specs.Prelude.{◌==◌, List, map, Bool, if◌then◌else◌, Option, Some, None, unwrap_or}
use Rattle.std.specs.Coded.{Coded, coded×, coded_ℕ, coded_list}
use base.Stored.{coded_unit}
use Rattle.std.specs.FinMap as map
use Rattle.std.specs.FinMap.{FinMap, empty, get, contains_key, insert, remove, len}
use Rattle.std.specs.declared.cmp.Ordering.{Ordering}
use Rattle.ov_specs.specs.rows.Lines.{LineKey, line_cmp}
use Rattle.ov_specs.specs.schema.Schema.{is_some_and}
use Rattle.ov_specs.specs.values.Value.{marked}
use Rattle.ov_rows.specs.Nested.{OfTable}

-- a set of keys
abbrev pub KeySet : Type 0
KeySet = FinMap line_cmp (Unit {0})

-- the set of an ascending list
abbrev pub set_of_keys : List LineKey → KeySet
set_of_keys keys = map.from_sorted {R = line_cmp} (map marked keys)

-- for each row, the rows that refer to it
abbrev pub Holders : Type 0
Holders = FinMap line_cmp KeySet

-- for each row of one table, by its identifier, the rows that refer to it
abbrev pub TableHolders : Type 0
TableHolders = OfTable KeySet

-- `from` refers to `to`
abbrev pub is_holder : Holders → LineKey → LineKey → Bool
is_holder holders to from = is_some_and (λ set. contains_key set from) (get holders to)

-- ---- a change of the rows that refer to one row, which is found by its key, or in its table by its identifier

module _ {K : Type 0} {R : K → K → Ordering} where
  -- with `from` among the rows that refer to `to`
  abbrev pub with_holder : K → LineKey → FinMap R KeySet → FinMap R KeySet
  with_holder to from holders = insert holders to (insert (unwrap_or (get holders to) empty) from tt)

  -- without `from` among the rows that refer to `to`
  abbrev pub fewer : Option KeySet → K → LineKey → FinMap R KeySet → FinMap R KeySet
  fewer None to from holders = holders
  fewer (Some set) to from holders = insert holders to (remove set from)

  -- without `from` among the rows that refer to `to`, which stays listed even if none is left
  abbrev pub with_fewer : K → LineKey → FinMap R KeySet → FinMap R KeySet
  with_fewer to from holders = fewer (get holders to) to from holders

  -- without `from`; if it was the last one, `to` is not listed
  abbrev pub without_in_set : Option KeySet → K → LineKey → FinMap R KeySet → FinMap R KeySet
  without_in_set None to from holders = holders
  without_in_set (Some set) to from holders =
      if len (remove set from) == 0 then remove holders to else insert holders to (remove set from)

  -- without `from` among the rows that refer to `to`; if it was the last one, `to` is not listed
  abbrev pub without_holder : K → LineKey → FinMap R KeySet → FinMap R KeySet
  without_holder to from holders = without_in_set (get holders to) to from holders

-- ---- how models store them

-- a set of rows, as a list of their keys
abbrev pub key_set_code : Coded KeySet
key_set_code = map.code (coded× (coded_list coded_ℕ) (coded_list coded_ℕ)) coded_unit

-- for each row those that refer to it, as a list
abbrev pub holders_code : Coded Holders
holders_code = map.code (coded× (coded_list coded_ℕ) (coded_list coded_ℕ)) key_set_code

-- for each row of a table those that refer to it, as a list
abbrev pub table_holders_code : Coded TableHolders
table_holders_code = map.code (coded_list coded_ℕ) key_set_code
