-- How support is found from what is known of the rows before a transaction, and of those that it has changed.
use Rattle.std.specs.Prelude.{◌≡◌, ◌&&◌, ◌||◌, not, Bool}
use Rattle.std.specs.FinMap.{get, contains_key, keys}
use Rattle.std.specs.List.{list_any}
use Rattle.std.specs.Ordering.{eq_by_cmp}
use Rattle.ov_refs.specs.Holding.{KeySet, Holders, is_holder}
use Rattle.ov_refs.specs.Linking.{is_strong_in}
use Rattle.ov_support.specs.Changes.{Changes}
use Rattle.ov_specs.specs.rows.Database.{Database}
use Rattle.ov_specs.specs.rows.Lines.{LineKey, line_cmp}
use Rattle.ov_specs.specs.schema.Schema.{is_some_and}
use Rattle.ov_specs.specs.schema.SchemaTypes.{Schema}

-- A row refers strongly to another exactly if it exists and either did so before and is unchanged, or is changed and does so
-- now.
abbrev pub AreLinked : Schema → Database → Holders → Changes → Type 0
AreLinked schema rows strong changes = (to from : LineKey) →
    is_strong_in schema rows to from
    ≡ (contains_key rows from
    && ((is_holder strong to from && not (contains_key changes.keys from)) || is_holder changes.strong to from))

-- ---- for private clauses

-- one of the rows that refer to this row passes the test
abbrev pub some_holds : Holders → LineKey → (LineKey → Bool) → Bool
some_holds holders to test = is_some_and (λ set. list_any test (keys set)) (get holders to)

-- the row exists, is unchanged, and is not the one of the key
abbrev pub is_unchanged_beside : Database → KeySet → LineKey → LineKey → Bool
is_unchanged_beside rows changed key from =
    not (eq_by_cmp line_cmp from key) && not (contains_key changed from) && contains_key rows from

-- the row exists, and is not the one of the key
abbrev pub is_there_beside : Database → LineKey → LineKey → Bool
is_there_beside rows key from = not (eq_by_cmp line_cmp from key) && contains_key rows from
