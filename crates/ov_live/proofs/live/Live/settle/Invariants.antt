use Rattle.std.proofs.Common.{◌+◌, ◌≤◌, length, vec_len, vec_capacity}
use Rattle.ov_live.specs.Settling.{SettlesSoFar, to_do}
use Rattle.ov_requests.specs.Waiting.{many, most_outstanding}
use Rattle.ov_live.proofs.live.Live.settle.Given as goal

abbrev pub invariant-tries : goal.invariant-tries
invariant-tries g l = record {
  settling : SettlesSoFar g.K.Keeper.failed l.moment l.first (record { live = l.fn.self; listed = l.fn.attempts.items }) (record { live = l.self; listed = l.attempts.items }) l.number;
  room : vec_len l.attempts + many l.self.waiting ≤ vec_capacity l.attempts;
  most : length l.fn.self.waiting.outstanding ≤ most_outstanding;
  honest : g.K.Keeper.is_honest l.self.database.keeper → g.K.Keeper.is_honest l.fn.self.database.keeper;
}

abbrev pub decreases-tries : goal.decreases-tries
decreases-tries g l = to_do l.self.waiting
