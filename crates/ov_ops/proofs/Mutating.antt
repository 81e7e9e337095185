-- The rows that are mutated.
use Rattle.std.proofs.Common.{◌≡◌, List, length}
use Rattle.std.specs.Prelude.{Ok}
use Rattle.ov_specs.specs.operations.Mutate.{mutated_row, mutated_rows}
use Rattle.ov_specs.specs.operations.Mutators.{Mutation}
use Rattle.ov_specs.specs.rows.Database.{Columns, Row}
use Rattle.ov_specs.specs.rows.Lines.{LineKey}
use Rattle.ov_specs.proofs.laws.Results.{each_length}

-- every row is changed
pub mutated-length : (mutations : List Mutation) (found : List (LineKey × Row)) (changed : List (LineKey × Columns)) → mutated_rows mutations found ≡ Ok changed → length changed ≡ length found
mutated-length mutations found changed is = each_length (mutated_row mutations) found changed is
