use Rattle.std.proofs.Common.{sym, ◌∙◌}
use Rattle.ov_specs.specs.rows.Held.{OneText}
use Rattle.ov_specs.proofs.laws.RowNames.{names_of_suiting}
use Rattle.ov_stored.proofs.StoredSuits.{stored_columns_suit}
use Rattle.ov_stored.proofs.read.columns_of.Goals as goal

pub of-requires : goal.of-requires
of-requires c =
    let table = c.args.table.now in
    let values = c.in_ok-values.values in
    names_of_suiting table values (stored_columns_suit table (OneText c.args.text.now) values c.in_ok-values.ensures) ∙ sym c.row_shape.ensures.names
