use Rattle.std.proofs.Common.{sym, ap, ◌∙◌}
use Rattle.std.specs.Prelude.{option_and_then}
use Rattle.std.specs.FinMap.{get}
use Rattle.ov_rows.proofs.Nested.{get-nested_of}
use Rattle.ov_refs.specs.Holding.{Holders, TableHolders}
use Rattle.ov_refs.proofs.holders.Holders.of_table.Goals as goal

pub returns : goal.returns
returns c id =
    ap (option_and_then (λ (t : TableHolders). get t id)) c.get.ensures.value ∙ sym (get-nested_of c.self.inside.tables.entries (c.args.table.now, id) c.self.invariant)
    ∙ ap (λ (holders : Holders). get holders (c.args.table.now, id)) c.self.view_is
