-- Rows that may lack support, as they are found one after another.
use Rattle.std.specs.Prelude.{◌≡◌, List, map, filter, true, false, Some}
use Rattle.std.specs.FinMap.{get}
use Rattle.std.specs.List.{list_any}
use Rattle.ov_specs.specs.integrity.Kept.{is_supported}
use Rattle.ov_specs.specs.integrity.References.{Target}
use Rattle.ov_specs.specs.rows.Database.{Row, Database, same_key}
use Rattle.ov_specs.specs.rows.Lines.{LineKey}
use Rattle.ov_specs.specs.schema.SchemaTypes.{Schema}

-- the rows that are strongly referred to
abbrev pub strong_keys : List Target → List LineKey
strong_keys targets = map (λ t. t.key) (filter (λ t. t.is_strong) targets)

-- each row without support is one of these
abbrev pub MayLack : Schema → Database → List LineKey → Type 0
MayLack schema rows work =
    (key : LineKey) (row : Row) → get rows key ≡ Some row → is_supported schema rows key ≡ false
    → list_any (same_key key) work ≡ true
