use Rattle.std.proofs.Common.{◌≡◌, drop}
use Rattle.std.specs.List.{list_all}
use Rattle.ov_specs.specs.values.Uuid.{continues_id}
use Rattle.ov_atoms.proofs.id.all_continue_id.Given as goal

abbrev pub invariant-loop-byte : goal.invariant-loop-byte
invariant-loop-byte l = list_all continues_id l.bytes ≡ list_all continues_id (drop l.byte-index l.bytes)
