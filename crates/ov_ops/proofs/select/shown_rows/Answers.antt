use Rattle.std.proofs.Common.{map, sym, ap, ◌∙◌}
use Rattle.std.proofs.lemmas.Result.{IfOk-weaker}
use Rattle.ov_specs.specs.operations.Select.{projection}
use Rattle.ov_ops.specs.Shown.{shown_of}
use Rattle.ov_ops.proofs.Showing.{shown-lent}
use Rattle.ov_ops.proofs.select.shown_rows.Goals as goal

pub returns : goal.returns
returns c =
    let names = c.args.names.now in
    IfOk-weaker c.shown_of.result _ _ (λ shown h.
    h ∙ ap (map (shown_of names)) c.as_slice.ensures.value ∙ sym (shown-lent names c.args.table.now c.in_ok-found.found.items) ∙ ap (map (projection names)) c.in_ok-found.ensures) c.shown_of.ensures
