-- The parts of a version, the first apart from the others.
use Rattle.std.specs.Prelude.{ℕ, suc, ◌==◌, List, [], ◌∷◌, take, if◌then◌else◌, Option, Some, None}
use Rattle.ov_specs.specs.schema.Schema.{split_at_dots}

-- how many characters come before the first dot, or before the end
abbrev pub part_length : List ℕ → ℕ
part_length [] = 0
part_length (c ∷ cs) = if c == 46 then 0 else suc (part_length cs)

-- the first part
abbrev pub first_part : List ℕ → List ℕ
first_part text = take (part_length text) text

-- what follows the first dot; None if there is no dot
abbrev pub rest_of : List ℕ → Option (List ℕ)
rest_of [] = None
rest_of (c ∷ cs) = if c == 46 then Some cs else rest_of cs

-- the parts of what follows a dot; none if there is no dot
abbrev pub parts_after : Option (List ℕ) → List (List ℕ)
parts_after None = []
parts_after (Some rest) = split_at_dots rest
