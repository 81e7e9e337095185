use Rattle.std.proofs.Common.{sym, ap, ◌∙◌}
use Rattle.std.specs.Prelude.{option_and_then}
use Rattle.std.specs.FinMap.{get}
use Rattle.ov_rows.proofs.Nested.{get-nested_of}
use Rattle.ov_refs.specs.Holding.{Holders, TableHolders}
use Rattle.ov_refs.proofs.holders.Holders.of.Goals as goal

pub returns-in-Some : goal.returns-in-Some
returns-in-Some c =
    c.of.ensures ∙ ap (option_and_then (λ (t : TableHolders). get t c.args.id)) c.in-Some.ensures.value
    ∙ sym (get-nested_of c.self.inside.tables.entries (c.args.table.now, c.args.id) c.self.invariant)
    ∙ ap (λ (holders : Holders). get holders (c.args.table.now, c.args.id)) c.self.view_is

pub returns-in-None : goal.returns-in-None
returns-in-None c =
    ap (option_and_then (λ (t : TableHolders). get t c.args.id)) c.in-None.ensures.value
    ∙ sym (get-nested_of c.self.inside.tables.entries (c.args.table.now, c.args.id) c.self.invariant)
    ∙ ap (λ (holders : Holders). get holders (c.args.table.now, c.args.id)) c.self.view_is
