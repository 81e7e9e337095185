use Rattle.std.proofs.Common.{sym, ap, ◌∙◌}
use Rattle.std.specs.Prelude.{option_and_then}
use Rattle.std.specs.FinMap.{get}
use Rattle.ov_specs.specs.rows.Database.{Database}
use Rattle.ov_rows.specs.Nested.{TableRows}
use Rattle.ov_rows.proofs.Nested.{get-nested_of}
use Rattle.ov_rows.proofs.rows.Rows.row.Goals as goal

pub returns-in-Some : goal.returns-in-Some
returns-in-Some c =
    c.row.ensures ∙ ap (option_and_then (λ (t : TableRows). get t c.args.id)) c.in-Some.ensures.value
    ∙ sym (get-nested_of c.self.inside.tables.entries (c.args.table.now, c.args.id) c.self.invariant)
    ∙ ap (λ (database : Database). get database (c.args.table.now, c.args.id)) c.self.view_is

pub returns-in-None : goal.returns-in-None
returns-in-None c =
    ap (option_and_then (λ (t : TableRows). get t c.args.id)) c.in-None.ensures.value
    ∙ sym (get-nested_of c.self.inside.tables.entries (c.args.table.now, c.args.id) c.self.invariant)
    ∙ ap (λ (database : Database). get database (c.args.table.now, c.args.id)) c.self.view_is
