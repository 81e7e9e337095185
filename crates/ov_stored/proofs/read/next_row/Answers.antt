use Rattle.std.proofs.Common.{rules, ◌≡◌, Option, Some, option_and_then, sym, ap, subst, ◌∙◌}
use Rattle.std.specs.FinMap.{get}
use Rattle.ov_specs.specs.rows.Database.{Row}
use Rattle.ov_specs.specs.rows.Held.{row_of_body}
use Rattle.ov_specs.specs.schema.SchemaTypes.{Table}
use Rattle.ov_stored.specs.Loading.{IsLoaded, whole_entry}
use Rattle.ov_stored.specs.Stored.{row_stored}
use Rattle.ov_stored.proofs.BodyRows.{row_stored-is}
use Rattle.ov_stored.proofs.read.next_row.Goals as goal

pub returns-in-Some : goal.returns-in-Some
returns-in-Some c =
    let entry = whole_entry c.args.line.now in
    let named : Some c.in-Some.table.now ≡ get c.args.schema.now.tables entry.0.0 = search rules in
    let found : row_of_body c.in-Some.table.now entry.1.0 entry.1.1 ≡ row_stored c.args.schema.now entry.0 entry.1 =
    ap (option_and_then (λ (table : Table). row_of_body table entry.1.0 entry.1.1)) named ∙ sym (row_stored-is c.args.schema.now entry.0 entry.1) in
    subst (λ (o : Option Row). IsLoaded (λ row. row) o c.row_of_table.result) found c.row_of_table.ensures
