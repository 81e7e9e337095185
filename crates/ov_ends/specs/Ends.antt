-- What readers, writers and clocks report.
use Rattle.std.specs.Prelude.{◌≡◌, ℕ, ◌+◌, ◌-◌, ◌^◌, ◌==◌, ◌&&◌, ◌||◌, ◌++◌, List, Option, not, min, Bool}
use Rattle.std.specs.Io.KnownBytes.{Keeps, Appends, prepend_known}

-- a count of 64 bits, one higher: it stays at the greatest
abbrev pub one_more : ℕ → ℕ
one_more n = min (n + 1) (2 ^ 64 - 1)

-- the end of the input was met, by a read of no byte into this much room, or before
abbrev pub met_end : ℕ → ℕ → Bool → Bool
met_end n room before = (n == 0 && not (room == 0)) || before

-- The input is the same: what was read of it followed by what remains, before and after, if what remains is known.
abbrev pub KeepsInput : List ℕ → Option (List ℕ) → List ℕ → Option (List ℕ) → Type 0
KeepsInput read remaining read' remaining' = Keeps (prepend_known read remaining) (prepend_known read' remaining')

-- What was written since was given to the writer, and nothing else was, if what the writer holds is known.
pub record GivesWritten (said : List ℕ) (contents : Option (List ℕ)) (said' : List ℕ) (contents' : Option (List ℕ)) : Type 0 where
  pub since : List ℕ
  pub written : said' ≡ said ++ since
  pub given : Appends contents contents' since
