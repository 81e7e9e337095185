-- Which of two schemas is newer, by their versions (RFC 7047, 3.1, <version>; that a server converts to newer ones alone is
-- this server's).
use Rattle.std.specs.Prelude.{ℕ, ◌==◌, List, [], ◌∷◌, length, Bool, false, if◌then◌else◌, Option, Some}
use Rattle.std.specs.declared.cmp.Ordering.{Ordering}
use Rattle.std.specs.Ordering.{nat_cmp, ordering_then, is_gt}
use Rattle.std.specs.Cmp.Lexicographic.{slice_cmp}
use Rattle.ov_specs.specs.schema.Schema.{split_at_dots}
use Rattle.ov_specs.specs.schema.SchemaTypes.{Schema}

-- the digits of a number without leading zeros; zero has none
abbrev pub significant : List ℕ → List ℕ
significant [] = []
significant (c ∷ cs) = if c == 48 then significant cs else c ∷ cs

-- of two numbers without leading zeros, the longer is greater; of two of one length, the one with the greater first digit
abbrev pub digits_cmp : List ℕ → List ℕ → Ordering
digits_cmp a b = ordering_then (nat_cmp (length a) (length b)) (slice_cmp nat_cmp a b)

-- the order of two parts of versions, as numbers: 9 before 10, and 01 as 1
abbrev pub part_cmp : List ℕ → List ℕ → Ordering
part_cmp a b = digits_cmp (significant a) (significant b)

-- the order of two versions, by the first part in which they differ (RFC 7047, 3.1, <version>)
abbrev pub version_cmp : List ℕ → List ℕ → Ordering
version_cmp a b = slice_cmp part_cmp (split_at_dots a) (split_at_dots b)

-- both are there, and the first is greater
abbrev pub is_newer : Option (List ℕ) → Option (List ℕ) → Bool
is_newer (Some a) (Some b) = is_gt (version_cmp a b)
is_newer a b = false

-- the first schema is newer than the second; one without a version is neither newer nor older
abbrev pub newer_than : Schema → Schema → Bool
newer_than a b = is_newer a.version b.version
