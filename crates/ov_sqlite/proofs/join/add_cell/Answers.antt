use Rattle.ov_sqlite.proofs.JoinLemmas.{cell_added}
use Rattle.ov_sqlite.proofs.join.add_cell.Goals as goal

pub returns : goal.returns
returns c = cell_added c.args.lines.now.items c.args.at c.index_mut.result.now c.push.new.self c.args.cell c.requires c.index_mut.ensures.value c.in_ok-push.ensures.items
