use Rattle.std.proofs.Common.{sym}
use Rattle.ov_stored.proofs.read.tree_of.Goals as goal
use Rattle.ov_schema.proofs.TextLemmas.{some_tree, no_tree}

pub returns-in-Ok-clause-ok : goal.returns-in-Ok-clause-ok
returns-in-Ok-clause-ok c = sym (some_tree c.args.text.now _ c.in-Ok.ensures.ok.0 c.in-Ok.ensures.ok.1)

pub returns-in-Err-2-clause-ok : goal.returns-in-Err-2-clause-ok
returns-in-Err-2-clause-ok c = sym (no_tree c.args.text.now (c.in-Err.ensures.err (λ m. let t = c.is_memory.ensures.1 m in cc)))
