-- What is written of some bytes.
use Rattle.std.specs.Prelude.{◌≡◌, ℕ, ◌++◌, List, Bool, true, false}
use Rattle.ov_specs.specs.wire.Beginning.{BeginsAs}
use Rattle.ov_ends.specs.Ends.{one_more}

-- all of the bytes were written, or a beginning of them
abbrev pub WritesOf : Bool → List ℕ → List ℕ → List ℕ → Type 0
WritesOf true bytes old new = new ≡ old ++ bytes
WritesOf false bytes old new = (written : List ℕ) × (new ≡ old ++ written) × BeginsAs written bytes

-- failures were counted: one if the call failed
abbrev pub CountsFailures : Bool → ℕ → ℕ → Type 0
CountsFailures true old new = new ≡ old
CountsFailures false old new = new ≡ one_more old
