-- Items of the code by their names, as those of the definitions.
use Rattle.std.specs.Prelude.{ℕ, List, String, string_bytes}
use Rattle.std.specs.declared.alloc.Global.{Global}

-- an item with its name, seen as its bytes
abbrev pub named_view : {X : Type 0} → String Global × X → List ℕ × X
named_view item = (string_bytes item.0, item.1)
