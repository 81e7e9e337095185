use Rattle.std.proofs.Common.{◌++◌, map, sym, ap, ◌∙◌, append-nil, string_bytes}
use Rattle.std.specs.FinMap.{keys}
use Rattle.ov_specs.specs.rows.Database.{Columns}
use Rattle.ov_rows.proofs.Names.{entries-columns_of, keys-named}
use Rattle.ov_rows.proofs.named_values.NamedValues.names.Goals as goal

pub returns : goal.returns
returns c =
    let all = c.self.inside.values.entries in
    let listed = map string_bytes c.loop-name.names.items in
    sym (append-nil listed) ∙ sym (ap (λ es. listed ++ map (λ e. string_bytes e.0) es) c.in-None.ensures.steps.0) ∙ c.loop-name.invariant
    ∙ ap (map (λ e. string_bytes e.0)) c.into_iter-name-iterator.ensures.into_iter_gives.0 ∙ keys-named all ∙ ap (map (λ e. e.0)) (sym (entries-columns_of all c.self.invariant))
    ∙ ap (λ (m : Columns). keys m) c.self.view_is
