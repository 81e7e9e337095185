-- Whether two maps of cells are one, cell by cell; for private clauses.
use Rattle.std.specs.Prelude.{ℕ, ◌&&◌, List, [], ◌∷◌, Bool, true, false, Option, Some, None}
use Rattle.std.specs.FinMap.{get}
use Rattle.std.specs.Str.{bytes_eq}
use Rattle.ov_specs.specs.rows.Cells.{Cells}

-- the same body, or none in both
abbrev pub same_body : Option (List ℕ) → Option (List ℕ) → Bool
same_body (Some a) (Some b) = bytes_eq a b
same_body (Some a) None = false
same_body None (Some b) = false
same_body None None = true

-- both maps have the same body for the column of each of these cells
abbrev pub agree : Cells → Cells → List (List ℕ × List ℕ) → Bool
agree a b [] = true
agree a b (c ∷ cs) = same_body (get a c.0) (get b c.0) && agree a b cs
