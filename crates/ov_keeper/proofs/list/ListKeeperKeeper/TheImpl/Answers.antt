use Rattle.std.proofs.Common.{rules, refl, ◌∙◌}
use Rattle.std.proofs.lemmas.Result.{on_ok_weaker}
use Rattle.ov_keeper.specs.ListKeeper.{contents_of}
use Rattle.ov_keeper.proofs.list.ListKeeperKeeper.TheImpl.Goals as goal

pub rewrite-tells : goal.rewrite-tells
rewrite-tells c = record {
  ok = λ _. on_ok_weaker c.result (λ made held is. (contents_of c.args.self.now, refl, is ∙ made)) c.ensures.ok;
  err = search rules;
  new_format = search rules;
  same_format = search rules;
  kinds = search rules;
  cause = search rules;
  counts = search rules;
  honest = search rules;
}
