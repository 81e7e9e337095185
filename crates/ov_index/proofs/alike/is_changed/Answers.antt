use Rattle.std.proofs.Common.{is_some, sym, ap, ◌∙◌}
use Rattle.std.specs.BTreeMap.{is_at}
use Rattle.std.specs.Map.{lookup}
use Rattle.ov_rows.proofs.Maps.{get-lookup}
use Rattle.ov_specs.specs.rows.Lines.{LineKey, line_cmp}
use Rattle.ov_index.proofs.alike.is_changed.Goals as goal

pub returns : goal.returns
returns c =
    let changes = c.args.changes.now.entries in
    c.contains_key.ensures ∙ ap (λ (k : LineKey). is_some (lookup (is_at (line_cmp k)) changes)) c.in_ok-key.ensures
    ∙ ap is_some (sym (get-lookup line_cmp changes (c.args.table.now, c.args.id) c.requires.ascend))
