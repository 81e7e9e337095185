use Rattle.std.proofs.Common.{is_some, sym, ap, ◌∙◌}
use Rattle.std.specs.FinMap.{contains_key}
use Rattle.ov_specs.specs.rows.Database.{Columns}
use Rattle.ov_rows.proofs.Names.{get-columns_of}
use Rattle.ov_rows.proofs.named_values.NamedValues.contains.Goals as goal

pub returns : goal.returns
returns c =
    c.contains_key.ensures ∙ ap is_some (sym (get-columns_of c.self.inside.values.entries c.args.name.now c.self.invariant))
    ∙ ap (λ (columns : Columns). contains_key columns c.args.name.now) c.self.view_is
