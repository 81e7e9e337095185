use Rattle.std.proofs.Common.{rules, ◌≡◌, List, ℕ, true, Some, sym, subst, ◌∙◌}
use Rattle.std.specs.FinMap.{values}
use Rattle.ov_specs.specs.wire.Message.{tree_of}
use Rattle.ov_rows.specs.Body.{body_of, AreOfKinds}
use Rattle.ov_rows.specs.Named.{DoAscend}
use Rattle.ov_stored.specs.Guessed.{are_values_for}
use Rattle.ov_stored.proofs.Guessed.{row_names_ascend, guessed_row}
use Rattle.ov_stored.proofs.read.row_by_guess.Goals as goal

pub columns-requires : goal.columns-requires
columns-requires c = subst DoAscend (sym c.row_shape.ensures.names) (row_names_ascend c.args.table.now)

pub returns : goal.returns
returns c =
    let columns = c.in_ok-columns.columns in
    let are : are_values_for c.args.table.now (values columns) ≡ true = search rules in
    let read : AreOfKinds columns → tree_of c.args.line.now.body ≡ Some (body_of columns) =
    subst (λ (body : List ℕ). AreOfKinds columns → tree_of body ≡ Some (body_of columns)) c.as_slice.ensures c.in_ok-columns.ensures.reads_back in
    guessed_row c.args.table.now columns (c.in_ok-columns.ensures.names ∙ c.row_shape.ensures.names) are c.args.line.now.version c.args.line.now.body (c.in_ok-columns.ensures.text ∙ c.as_slice.ensures) read
