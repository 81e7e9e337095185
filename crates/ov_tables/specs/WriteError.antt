-- Where a write stopped.
use Rattle.std.specs.Prelude.{⊤}
use Rattle.ov_tables.specs.declared.write_error.WriteError.{WriteError}
use Rattle.ov_tables.specs.declared.write_error.WriteError.TheVariants.{Before, AtCommit}

-- before the commit
abbrev pub IsBefore : WriteError → Type 0
IsBefore (Before e) = ⊤
IsBefore (AtCommit e) = ⊥
