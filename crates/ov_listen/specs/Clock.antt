-- What the program's clock reports.
use Rattle.std.specs.Prelude.{ℕ, ◌-◌, ◌/◌, ◌^◌, min, Option, Some}
use Rattle.std.specs.Time.{instant_nanos}
use Rattle.std.specs.declared.time.Instant.{Instant}

-- The milliseconds between two readings of the system's clock, at most 2^64-1; 0 if a reading failed.
abbrev pub milliseconds_between : Option Instant → Option Instant → ℕ
milliseconds_between (Some start) (Some now) = min ((instant_nanos now - instant_nanos start) / 1_000_000) (2 ^ 64 - 1)
milliseconds_between start now = 0
