use Rattle.std.proofs.Common.{[]}
use Rattle.ov_streams.proofs.Suiting.{serves_more}
use Rattle.ov_streams.proofs.streams.Streams.serve.Goals as goal

pub returns-in-Open-clause-serves : goal.returns-in-Open-clause-serves
returns-in-Open-clause-serves g c = rw c.in-Open.is c.open.ensures.serves

pub returns-in-Feed-clause-serves : goal.returns-in-Feed-clause-serves
returns-in-Feed-clause-serves g c = rw c.in-Feed.is (serves_more _ [] _ _ _ (rw c.as_slice.ensures at c.feed.ensures.serves) c.forget.ensures.serves)

pub returns-in-Finish-clause-serves : goal.returns-in-Finish-clause-serves
returns-in-Finish-clause-serves g c = rw c.in-Finish.is (serves_more _ [] _ _ _ c.finish.ensures.serves c.forget-in-Finish.ensures.serves)

pub returns-in_ok-tick-in-Tick-clause-serves : goal.returns-in_ok-tick-in-Tick-clause-serves
returns-in_ok-tick-in-Tick-clause-serves g c = rw c.in-Tick.is (serves_more _ [] _ _ _ c.in_ok-tick-in-Tick.ensures.serves c.forget_closed.ensures.serves)
