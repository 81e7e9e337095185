use Rattle.std.proofs.Common.{◌++◌, map, sym, ap, ◌∙◌, append-nil}
use Rattle.std.specs.FinMap.{values}
use Rattle.ov_specs.specs.rows.Database.{Columns}
use Rattle.ov_rows.proofs.Names.{entries-columns_of, values-named}
use Rattle.ov_rows.proofs.named_values.NamedValues.into_values.Goals as goal

pub returns : goal.returns
returns c =
    let all = c.self.inside.values.entries in
    sym (append-nil c.loop-name.listed.items) ∙ sym (ap (λ es. c.loop-name.listed.items ++ map (λ e. e.1) es) c.in-None.ensures.steps.0) ∙ c.loop-name.invariant
    ∙ ap (map (λ e. e.1)) c.into_iter-name-iterator.ensures.into_iter_gives.0 ∙ values-named all ∙ ap (map (λ e. e.1)) (sym (entries-columns_of all c.self.invariant))
    ∙ ap (λ (m : Columns). values m) c.self.view_is
