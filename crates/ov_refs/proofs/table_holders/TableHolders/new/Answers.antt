use Rattle.std.proofs.Common.{ap, ◌∙◌}
use Rattle.ov_rows.specs.Resident.{table_rows_of}
use Rattle.ov_refs.proofs.HolderMaps.{table_rows_of-nil}
use Rattle.ov_refs.proofs.table_holders.TableHolders.new.Goals as goal

pub returns : goal.returns
returns c = ap table_rows_of c.new.ensures.empty ∙ table_rows_of-nil
