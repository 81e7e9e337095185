-- The columns of the code as those of the definitions.
use Rattle.std.specs.Prelude.{◌≡◌, ℕ, ◌+◌, T, List, [], ◌∷◌, length, map, zip, Option, Some, None, if◌then◌else◌, String, string_bytes}
use Rattle.std.specs.Str.{bytes_eq}
use Rattle.std.specs.declared.alloc.Global.{Global}
use Rattle.std.specs.FinMap.{from_sorted, is_sorted}
use Rattle.ov_specs.specs.rows.Database.{Columns}
use Rattle.ov_specs.specs.schema.SchemaTypes.{name_cmp}
use Rattle.ov_specs.specs.values.Value.{Datum, marked}

-- values in a list, each with the bytes of its column's name
abbrev pub named : {X : Type 0} → List (String Global × X) → List (List ℕ × X)
named = map (λ e. (string_bytes e.0, e.1))

-- the columns of an ascending list
abbrev pub columns_of : List (String Global × Datum) → Columns
columns_of es = from_sorted {R = name_cmp} (named es)

-- the columns of these names, which ascend, each with the value at its place
abbrev pub columns_at : List (List ℕ) → List Datum → Columns
columns_at names values = from_sorted {R = name_cmp} (zip names values)

-- the place of the name, or the first of them if it occurs more than once, counted from this place
abbrev pub place_from : ℕ → List ℕ → List (List ℕ) → Option ℕ
place_from place name [] = None
place_from place name (known ∷ names) = if bytes_eq name known then Some place else place_from (place + 1) name names

-- the names ascend, and none occurs twice
abbrev pub DoAscend : List (List ℕ) → Type 0
DoAscend names = T (is_sorted name_cmp (map marked names))

-- the names ascend, and there is a value for each
abbrev pub IsListed : List (List ℕ) → List Datum → Type 0
IsListed names values = T (is_sorted name_cmp (zip names values)) × (length values ≡ length names)
