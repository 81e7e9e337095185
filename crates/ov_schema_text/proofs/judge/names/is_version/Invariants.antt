use Rattle.std.proofs.Common.{◌≡◌, drop}
use Rattle.ov_specs.specs.schema.Schema.{is_version}
use Rattle.ov_schema_text.proofs.VersionLemmas.{left_is_version}
use Rattle.ov_schema_text.proofs.judge.names.is_version.Given as goal

abbrev pub invariant-loop-byte : goal.invariant-loop-byte
invariant-loop-byte l = is_version l.bytes ≡ left_is_version (drop l.byte-index l.bytes) l.parts l.begun
