use Rattle.std.proofs.lemmas.Result.{IfErr-weaker}
use Rattle.ov_store.proofs.over.store_over.Goals as goal

pub returns-else-is_blank-clause-refused : goal.returns-else-is_blank-clause-refused
returns-else-is_blank-clause-refused g c = IfErr-weaker c.open.result _ _ (λ e h. h c.args.schema) c.open.ensures.refused
