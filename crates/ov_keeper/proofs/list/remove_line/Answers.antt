use Rattle.std.proofs.Common.{rules, ◌∙◌, ap, not}
use Rattle.std.specs.Ordering.{eq_by_cmp}
use Rattle.std.proofs.lemmas.Fn.{filter_same}
use Rattle.ov_specs.specs.rows.Lines.{line_cmp}
use Rattle.ov_keeper.specs.ListKeeper.{lines_of}
use Rattle.ov_keeper.specs.Views.{cell_line_entry}
use Rattle.ov_keeper.proofs.LineLemmas.{lines_of-filter}
use Rattle.ov_keeper.proofs.list.remove_line.Goals as goal

pub returns : goal.returns
returns c =
    ap lines_of (filter_same _ (λ line. not (eq_by_cmp line_cmp (c.args.table.now, c.args.id) (cell_line_entry line).0)) _ (λ x b f' k. search rules) _ _ c.retain.ensures.filtered)
    ∙ lines_of-filter (c.args.table.now, c.args.id) c.args.lines.now.items
