use Rattle.ov_specs.proofs.laws.KeptRows.{kept_are}
use Rattle.ov_laws.proofs.kept_rows_are_the_greatest_supported.Goals as goal

pub returns : goal.returns
returns c = kept_are
