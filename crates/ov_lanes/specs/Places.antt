-- Which sessions a machine can still open.
use Rattle.std.specs.Prelude.{ℕ, ◌-◌, ◌&&◌, nat_le, length, Bool}
use Rattle.ov_specs.specs.machine.Machine.{State}
use Rattle.ov_sessions.specs.Sessions.{most_sessions, beyond_serials}

-- places and serials are left for this many more sessions
abbrev pub has_places : ℕ → State → Bool
has_places count s = nat_le count (most_sessions - length s.sessions) && nat_le count (beyond_serials - s.next)
