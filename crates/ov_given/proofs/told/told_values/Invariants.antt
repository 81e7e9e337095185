use Rattle.std.proofs.Common.{◌≡◌, ℕ, List}
use Rattle.std.specs.FinMap.{get}
use Rattle.std.specs.Prelude.{Result}
use Rattle.serde_json.specs.Data.{Data}
use Rattle.serde_json.specs.View.{members_view}
use Rattle.ov_specs.specs.operations.Errors.{OpError}
use Rattle.ov_specs.specs.operations.Wait as wait
use Rattle.ov_specs.specs.values.Value.{Datum}
use Rattle.ov_specs.proofs.laws.RowReading.{read_to}
use Rattle.ov_given.proofs.told.told_values.Given as goal

abbrev pub invariant-loop-name : goal.invariant-loop-name
invariant-loop-name g l =
    let names = g.N.Names.names l.names in
    let value : List ℕ → Data → Result Datum OpError = λ name d. wait.told_value names l.compared name (get l.table.columns name) d in
    wait.told_values names l.table l.compared (members_view l.members.entries) ≡ read_to value (members_view l.name-iterator) l.values
