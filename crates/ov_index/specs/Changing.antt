-- What changes of rows do to the indexes.
use Rattle.std.specs.Prelude.{◌≡◌, false, List, Option, Bool}
use Rattle.std.specs.FinMap.{entries}
use Rattle.std.specs.List.{list_any}
use Rattle.ov_index.specs.IndexKeys.{IndexEntry}
use Rattle.ov_index.specs.Indexing.{Indexes, AreIndexesOf, without_entries}
use Rattle.ov_specs.specs.rows.Changed.{IsAfter}
use Rattle.ov_specs.specs.integrity.Limits.{has_duplicates}
use Rattle.ov_specs.specs.rows.Database.{Row, Database}
use Rattle.ov_specs.specs.rows.Lines.{LineKey}
use Rattle.ov_specs.specs.rows.Suits.{Suits}
use Rattle.ov_specs.specs.schema.SchemaTypes.{Schema}

-- two rows of a table are alike in an index of it
abbrev pub are_any_alike : Schema → Database → Bool
are_any_alike schema rows = list_any (has_duplicates rows) (entries schema.tables)

-- without the entries that go, the indexes are those of the rows after the changes
abbrev pub IsPlaced : Schema → List (LineKey × Option Row) → Database → List IndexEntry → Indexes → Type 0
IsPlaced schema changes before gone indexes =
    (after : Database) → IsAfter changes before after → AreIndexesOf schema after (without_entries gone indexes)

-- if the indexes are those of rows with no two alike, this says whether two rows are alike after the changes
abbrev pub TellsAlike : Schema → Indexes → List (LineKey × Option Row) → Bool → Type 0
TellsAlike schema indexes changes alike =
    (before after : Database) → AreIndexesOf schema before indexes → are_any_alike schema before ≡ false
    → IsAfter changes before after → Suits schema after
    → alike ≡ are_any_alike schema after
