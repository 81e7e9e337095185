use Rattle.std.proofs.Common.{not, sym, ap, ◌∙◌}
use Rattle.std.specs.Prelude.{unwrap_or}
use Rattle.std.specs.FinMap.{empty, contains_key, keys, from_sorted}
use Rattle.std.specs.List.{list_any}
use Rattle.ov_specs.specs.rows.Lines.{line_cmp}
use Rattle.ov_index.proofs.TwoIds.{no_keys}
use Rattle.ov_index.proofs.alike.has_unchanged.Goals as goal

pub returns-in-None : goal.returns-in-None
returns-in-None c =
    let changes = c.args.changes.now.entries in
    ap (list_any (λ id. not (contains_key (from_sorted {R = line_cmp} changes) (c.args.table.now, id)))) (sym no_keys ∙ ap (λ o. keys (unwrap_or o empty)) c.in-None.ensures)
