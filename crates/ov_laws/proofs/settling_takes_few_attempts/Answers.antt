use Rattle.std.proofs.Common.{arith, leb}
use Rattle.ov_specs.specs.machine.Machine.{happens}
use Rattle.ov_specs.proofs.laws.Settling.{settle_counts}
use Rattle.ov_specs.proofs.laws.Works.{when_is}
use Rattle.ov_laws.specs.Databases.{at_moment_of}
use Rattle.ov_laws.proofs.Few.{event_few}
use Rattle.ov_laws.proofs.Listing.{listed_below}
use Rattle.ov_laws.proofs.settling_takes_few_attempts.Goals as goal

pub returns-clause-settling : goal.returns-clause-settling
returns-clause-settling c s number attempts passed h =
    let counts = settle_counts s number attempts passed h in
    omega (arith, counts.up, counts.down)

pub returns-clause-event : goal.returns-clause-event
returns-clause-event c s entry stepped h = event_few (at_moment_of entry s) entry.choice entry.event

pub returns-clause-listed : goal.returns-clause-listed
returns-clause-listed c s entry stepped h =
    listed_below (at_moment_of entry s) entry.choice entry.event stepped (when_is (leb s.moment entry.choice.moment) (happens (at_moment_of entry s) entry.choice entry.event) stepped h)
