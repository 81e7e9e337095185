use Rattle.std.proofs.Common.{ap, length, arith}
use Rattle.ov_requests.specs.Waiting.{WaitingList, many}
use Rattle.ov_live.proofs.Counting.{number_below}
use Rattle.ov_live.proofs.Settlings.{settling_at, begun, ended}
use Rattle.ov_live.proofs.live.Live.settle.Goals as goal

pub tries-init : goal.tries-init
tries-init g c =
    let begins = c.begin.ensures.begins in
    let all = ap many begins in
    let none = ap (λ (w : WaitingList). length w.outstanding) begins in
    record {
      settling = rw begins (begun g.K.Keeper.failed c.args.moment c.args.first c.args.self.now c.args.attempts.now.items c.requires.untried);
      room = omega (arith, all, c.requires.room, ap length c.requires.untried);
      most = omega (arith, all, c.begin.ensures.few);
      honest = λ honest. honest;
    }

pub try_next-number-requires : goal.try_next-number-requires
try_next-number-requires g c =
    let i = c.tries.invariant in
    record {
      some = c.tries-test.ensures;
      room = i.room;
      number = omega (arith, number_below c.tries.number c.args.first (length c.tries.self.waiting.untried) (many c.tries.self.waiting) (length c.args.self.now.waiting.outstanding) i.settling.few c.requires.first i.most);
    }

pub tries-preserved : goal.tries-preserved
tries-preserved g c =
    let i = c.tries.invariant in
    record {
      settling = c.try_next-number.ensures.goes_on c.args.first (settling_at c.args.self.now c.args.attempts.now.items) i.settling;
      room = c.try_next-number.ensures.room;
      most = i.most;
      honest = λ honest. i.honest (c.try_next-number.ensures.honest honest);
    }

pub returns-clause-settles : goal.returns-clause-settles
returns-clause-settles g c =
    let i = c.tries.invariant in
    ended g.K.Keeper.failed c.args.moment c.args.first c.args.self.now c.args.attempts.now.items c.tries.self c.tries.attempts.items c.tries.number i.settling c.tries-test.ensures
