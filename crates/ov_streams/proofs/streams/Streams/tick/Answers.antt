use Rattle.std.proofs.Common.{refl}
use Rattle.std.proofs.lemmas.Result.{err_from_is_err_and}
use Rattle.ov_streams.proofs.Suiting.{passed, serves_none}
use Rattle.ov_streams.proofs.streams.Streams.tick.Goals as goal

pub returns-in_err-tick-clause-serves : goal.returns-in_err-tick-clause-serves
returns-in_err-tick-clause-serves g c =
    let p = err_from_is_err_and c.from_residual.result c.from_residual.ensures.1 in
    rw (← c.self.view_is, p.1, p.2, c.in_err-tick.ensures.refused.0) (serves_none _, c.in_err-tick.ensures.refused.1)

pub returns-clause-serves : goal.returns-clause-serves
returns-clause-serves g c = rw (← c.self.view_is) (passed _ c.args.moment _ _ refl c.in_ok-tick.ensures.ticked)
