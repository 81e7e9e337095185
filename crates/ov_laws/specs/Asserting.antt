-- Operations of a transaction, and their results, by their places.
use Rattle.std.specs.Prelude.{◌≡◌, ℕ, zero, suc, List, Option, Some, None, codes}
use Rattle.serde_json.specs.Data.{Data, Items, no_items, item}
use Rattle.ov_specs.specs.operations.Assert.{asserted_lock}
use Rattle.ov_specs.specs.operations.Members.{text_at}

-- the item at this place, counted from 0
abbrev pub item_at : ℕ → Items → Option Data
item_at place no_items = None
item_at zero (item d items) = Some d
item_at (suc place) (item d items) = item_at place items

-- the operation is an "assert" of the lock (RFC 7047, 5.2.10)
pub record Asserts (name : List ℕ) (operation : Data) : Type 0 where
  pub op : text_at (codes "op") operation ≡ Some (codes "assert")
  pub lock : asserted_lock operation ≡ Some name
