-- Whether a text occurs in some bytes.
use Rattle.std.specs.Prelude.{◌≡◌, ◌⊎◌, ◌++◌, ℕ, List, drop}
use Rattle.ov_tables.specs.Tables.{create_meta, create_line, create_head, create_cell}

-- the text occurs in the bytes
abbrev pub HasText : List ℕ → List ℕ → Type 0
HasText text bytes = (at : ℕ) × (rest : List ℕ) × (drop at bytes ≡ text ++ rest)

-- the statements that make the tables of one of the two formats occur in the bytes
abbrev pub ListsOurs : List ℕ → Type 0
ListsOurs bytes =
    HasText create_meta bytes
    × (HasText create_line bytes ⊎ (HasText create_head bytes × HasText create_cell bytes))
