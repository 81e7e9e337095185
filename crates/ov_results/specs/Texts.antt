-- The text of an array in pieces.
use Rattle.std.specs.Prelude.{ℕ, List, [], ◌++◌, Bool, true, false}
use Rattle.serde_json.specs.Data.{Items, no_items, item}
use Rattle.serde_json.specs.Written.{compact_text, comma_if}

-- the texts of these trees, with commas between them, and one before them if something comes before
abbrev pub comma_joined : Bool → Items → List ℕ
comma_joined later no_items = []
comma_joined later (item d items) = comma_if later ++ (compact_text d ++ comma_joined true items)

-- there is no tree
abbrev pub are_none : Items → Bool
are_none no_items = true
are_none (item d items) = false
