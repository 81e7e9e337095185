use Rattle.std.proofs.Common.{◌≡◌, List, length, vec_len, sym, ap, ◌∙◌, arith}
use Rattle.std.proofs.lemmas.List.{nil_from_length}
use Rattle.ov_specs.specs.integrity.Kept.{kept_after}
use Rattle.ov_specs.specs.operations.MatchingRows.{without_rows}
use Rattle.ov_specs.specs.rows.Lines.{LineKey}
use Rattle.ov_specs.proofs.laws.Truths.{zero_is}
use Rattle.ov_conversion.proofs.SupportedRows.{none_goes, all_turns}
use Rattle.ov_conversion.proofs.support.drop_unsupported.Goals as goal

pub loop-row-init : goal.loop-row-init
loop-row-init c = all_turns c.args.schema.now c.args.rows.now _ (c.into_iter-row-iterator.ensures.into_iter_gives.0 ∙ c.in_ok-_row-items.ensures)

pub loop-row-preserved : goal.loop-row-preserved
loop-row-preserved c =
    let schema = c.args.schema.now in
    let rows = c.loop-row.rows in
    ap (kept_after (length c.next.new.self.rest.items) schema) (c.remove_all.ensures ∙ ap (λ ks. without_rows ks rows) c.in_ok-gone.ensures)
    ∙ sym (ap (λ (ks : List LineKey). kept_after (length ks) schema rows) c.in-Some.ensures.steps.0) ∙ c.loop-row.invariant

pub returns-then-is_empty : goal.returns-then-is_empty
returns-then-is_empty c =
    let none : vec_len c.in_ok-gone.gone ≡ 0 = zero_is _ (sym c.if-is_empty.ensures) in
    sym (none_goes (length c.loop-row._row-iterator.rest.items) c.args.schema.now c.loop-row.rows
    (sym c.in_ok-gone.ensures ∙ nil_from_length c.in_ok-gone.gone.items (omega (arith, c.in_ok-gone.gone.ok.0, none)))) ∙ c.loop-row.invariant
