-- The params of a call, by their number.
use Rattle.std.specs.Prelude.{Bool, true, false}
use Rattle.serde_json.specs.Data.{Items, no_items, item}

-- exactly one
abbrev pub is_one_item : Items → Bool
is_one_item no_items = false
is_one_item (item d no_items) = true
is_one_item (item d (item e items)) = false

-- exactly three
abbrev pub are_three_items : Items → Bool
are_three_items no_items = false
are_three_items (item d no_items) = false
are_three_items (item d (item e no_items)) = false
are_three_items (item d (item e (item f no_items))) = true
are_three_items (item d (item e (item f (item g items)))) = false
