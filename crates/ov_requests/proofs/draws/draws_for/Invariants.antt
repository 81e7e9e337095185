use Rattle.std.proofs.Common.{◌≡◌, vec_len, vec_capacity}
use Rattle.ov_requests.specs.Drawing.{DrawsFrom}
use Rattle.ov_requests.proofs.draws.draws_for.Given as goal

abbrev pub invariant-loop-made : goal.invariant-loop-made
invariant-loop-made g l = record {
  drawn : DrawsFrom g.D.Draws.draws l.fn.source l.draws.items l.source;
  made : vec_len l.draws ≡ l._made;
  room : vec_capacity l.draws ≡ l.wanted;
}
