use Rattle.std.proofs.Common.{◌≡◌, drop}
use Rattle.ov_index.specs.Collecting.{has_entry}
use Rattle.ov_index.proofs.entry.is_among.Given as goal

abbrev pub invariant-loop-other : goal.invariant-loop-other
invariant-loop-other l = has_entry l.entry.key l.entry.id l.entries ≡ has_entry l.entry.key l.entry.id (drop l.other-index l.entries)
