use Rattle.std.proofs.Common.{◌≡◌, true, arith, rules}
use Rattle.std.proofs.lemmas.List.{take_all}
use Rattle.std.proofs.lemmas.List.Elements.{All-more}
use Rattle.ov_specs.specs.wire.Balance.{is_space}
use Rattle.ov_cut.proofs.space.find_gap.Goals as goal

pub loop-place-preserved : goal.loop-place-preserved
loop-place-preserved c = record {
  gap = All-more (λ x. is_space x ≡ true) c.args.text.now c.loop-place.place 0 (omega arith) c.loop-place.invariant.gap (search rules);
  looked = omega arith;
}

pub returns-clause-gap : goal.returns-clause-gap
returns-clause-gap c = rw (← take_all c.loop-place.place c.args.text.now (omega arith)) c.loop-place.invariant.gap
