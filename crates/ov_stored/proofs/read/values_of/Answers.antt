use Rattle.std.proofs.Common.{ℕ, List, sym, ap, ◌∙◌}
use Rattle.std.specs.FinMap.{empty}
use Rattle.ov_specs.specs.rows.Held.{Body, OneText}
use Rattle.ov_specs.specs.schema.SchemaTypes.{Column}
use Rattle.ov_stored.proofs.BodyRows.{added_by, columns_added}
use Rattle.ov_stored.proofs.read.values_of.Goals as goal

pub loop-name-init : goal.loop-name-init
loop-name-init c =
    let body : Body = OneText c.args.text.now in
    record {
      read = c.in_ok-body.ensures.ok;
      added = columns_added body c.args.table.now ∙ ap (λ (cs : List (List ℕ × Column)). added_by body cs empty) (sym c.columns-name-items.ensures)
          ∙ ap (added_by body c.columns-name-items.result.now) (sym c.new-values.ensures);
    }
