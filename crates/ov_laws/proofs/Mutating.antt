-- A mutation of a row that suits its table changes the value of its own column alone.
use Rattle.std.proofs.Common.{◌≡◌, true, is_some, Option, Some, None, refl, ap, ◌∙◌}
use Rattle.std.specs.FinMap.{get, insert}
use Rattle.ov_specs.specs.operations.Mutate.{column_mutated, mutated_value}
use Rattle.ov_specs.specs.operations.Mutators.{Mutation}
use Rattle.ov_specs.specs.rows.Database.{Columns}
use Rattle.ov_specs.specs.rows.Suits.{column_of_row, suits_column, SuitsTable}
use Rattle.ov_specs.specs.schema.SchemaTypes.{Column, Table}
use Rattle.ov_specs.specs.values.Results.{result_map}
use Rattle.ov_specs.specs.values.Value.{Datum}
use Rattle.ov_specs.proofs.laws.Mutating.{mutated_at, column_mutated-at}

pub mutated_alone : (table : Table) (columns : Columns) (m : Mutation) → SuitsTable table columns → is_some (column_of_row table m.column) ≡ true
    → (old : Datum) × (get columns m.column ≡ Some old) × (column_mutated m columns ≡ result_map (λ datum. insert columns m.column datum) (mutated_value m old))
mutated_alone table columns m suits there = by (column_of_row table m.column) (get columns m.column) there (suits m.column) refl
  where
    by : (c : Option Column) (o : Option Datum) → is_some c ≡ true → suits_column c o ≡ true → get columns m.column ≡ o
        → (old : Datum) × (get columns m.column ≡ Some old) × (column_mutated m columns ≡ result_map (λ datum. insert columns m.column datum) (mutated_value m old))
    by None o here suits is = cc
    by (Some column) None here suits is = cc
    by (Some column) (Some old) here suits is = (old, is, column_mutated-at m columns ∙ ap (mutated_at m columns) is)
