use Rattle.std.proofs.Common.{sym, ap, ◌∙◌}
use Rattle.std.specs.FinMap.{get, keys}
use Rattle.std.specs.Prelude.{option_copied, option_map}
use Rattle.ov_specs.specs.rows.Lines.{LineKey}
use Rattle.ov_refs.specs.Holding.{Holders}
use Rattle.ov_db.proofs.HeldBy.{weak_unlisted, weak_none, weak_some}
use Rattle.ov_db.proofs.db.Db.weak_holders.Goals as goal

pub returns-in_err-holders : goal.returns-in_err-holders
returns-in_err-holders g c =
    let inside = c.self.inside in
    let to : LineKey = (c.args.table.now, c.args.id) in
    let unlisted = ap (λ (h : Holders). get h to) (sym c.weak.ensures) ∙ sym c.in_err-holders.ensures in
    ap (λ o. option_map keys (option_copied o)) c.from_residual.ensures
    ∙ rw (← c.self.view_is) (weak_unlisted inside.schema inside.resident.rows inside.resident.links c.self.invariant.3.links to unlisted)

pub returns-then-is_empty : goal.returns-then-is_empty
returns-then-is_empty g c =
    let inside = c.self.inside in
    let to : LineKey = (c.args.table.now, c.args.id) in
    let listed = ap (λ (h : Holders). get h to) (sym c.weak.ensures) ∙ sym c.in_ok-holders.ensures in
    rw (← c.self.view_is) (weak_none inside.schema inside.resident.rows inside.resident.links c.self.invariant.3.links to c.in_ok-holders.holders.now listed (sym c.if-is_empty.ensures))

pub returns-else-is_empty : goal.returns-else-is_empty
returns-else-is_empty g c =
    let inside = c.self.inside in
    let to : LineKey = (c.args.table.now, c.args.id) in
    let listed = ap (λ (h : Holders). get h to) (sym c.weak.ensures) ∙ sym c.in_ok-holders.ensures in
    rw (← c.self.view_is) (weak_some inside.schema inside.resident.rows inside.resident.links c.self.invariant.3.links to c.in_ok-holders.holders.now listed (sym c.if-is_empty.ensures))
