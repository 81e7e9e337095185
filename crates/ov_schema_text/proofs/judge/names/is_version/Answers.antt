use Rattle.std.proofs.Common.{sym}
use Rattle.ov_schema_text.proofs.VersionLemmas.{left-version}
use Rattle.ov_schema_text.proofs.judge.names.is_version.Goals as goal

pub loop-byte-init : goal.loop-byte-init
loop-byte-init c = sym (left-version c.as_bytes-bytes.result.now)
