use Rattle.std.proofs.Common.{rules}
use Rattle.serde_json.specs.View.{view}
use Rattle.ov_specs.specs.operations.Mutators.{Mutation}
use Rattle.ov_mutate.specs.Views.{value_change_view}
use Rattle.ov_specs.proofs.laws.OfColumns.{mutation_read_suits}
use Rattle.ov_mutate.proofs.mutation.Mutation.read.Goals as goal

pub returns-clause-suits : goal.returns-clause-suits
returns-clause-suits g c are =
    let t = c.in-Some-column.column.now.type_of in
    let read : Mutation = record { column = c.in_ok-from_str.field-0; type_of = t; change = value_change_view c.in_ok-change.change } in
    mutation_read_suits (g.N.Names.names c.args.names.now) are c.args.table.now (view c.args.tree.now) read (search rules)
