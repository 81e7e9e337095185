-- When one list is the beginning of another.
use Rattle.std.specs.Prelude.{◌≡◌, ◌++◌, List}

-- these are the first of all, and others may follow
abbrev pub BeginsAs : {A : Type 0} → List A → List A → Type 0
BeginsAs {A} some all = (others : List A) × (some ++ others ≡ all)
