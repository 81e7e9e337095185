use Rattle.std.proofs.Common.{◌≡◌, drop, map, string_bytes}
use Rattle.ov_rows.specs.Named.{place_from}
use Rattle.ov_rows.proofs.columns.place_of.Given as goal

abbrev pub invariant-loop-place : goal.invariant-loop-place
invariant-loop-place l = place_from 0 l.name (map string_bytes l.names) ≡ place_from l.place l.name (map string_bytes (drop l.place l.names))
