-- Counts as the code has them.
use Rattle.std.specs.Prelude.{ℕ, ◌^◌, ◌-◌, min}

-- a count in 64 bits: it stays at the greatest such number
abbrev pub capped_to_64_bits : ℕ → ℕ
capped_to_64_bits n = min n (2 ^ 64 - 1)
