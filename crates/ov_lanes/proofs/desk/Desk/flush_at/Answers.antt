use Rattle.std.proofs.Common.{rules, ◌≡◌, Some, false, refl, sym, ap, subst, Option}
use Rattle.rtrb.specs.Ring.{received}
use Rattle.ov_lanes.specs.Lanes.{GivesUpIf, IsServed, PutsAlone}
use Rattle.ov_lanes.specs.declared.lane.Lane.{Lane}
use Rattle.ov_lanes.proofs.Entering.{overruns_none, overruns_by}
use Rattle.ov_lanes.proofs.Single.{moves_flushed}
use Rattle.ov_lanes.proofs.PlaceLaws.{goes_at, moves_some, moves_none}
use Rattle.ov_lanes.proofs.Flushing.{quiet_none}
use Rattle.ov_lanes.proofs.Steady.{steady_none}
use Rattle.ov_lanes.proofs.Turning.{served_here, some_stays, none_stays, stay_puts_set, fewer, flushed_more}
use Rattle.ov_lanes.proofs.desk.Desk.flush_at.Goals as goal

pub returns-in-Some-clause-flushes : goal.returns-in-Some-clause-flushes
returns-in-Some-clause-flushes g c =
    let ls = c.args.self.now.lanes.items in let place = c.index_mut.result.now in let l = c.in-Some.lane in let m = c.flush.new.lane in
    record {
      goes = λ moment. goes_at moment ls c.args.at place (Some m) (search rules) c.index_mut.ensures.value
          (λ first since f.
          moves_some moment place l m c.in-Some.is c.flush.ensures.inbound.2 since
          (λ fits. moves_flushed moment since l m (ap received c.flush.ensures.inbound.1) (c.flush.ensures.flushes moment first since (received l.inbound) fits)) f);
      enters = overruns_by c.args.self.now.core c.flush.new.core (λ n. n ≡ l.session.serial) (IsServed ls) (served_here ls c.args.at place l (search rules) c.index_mut.ensures.value c.in-Some.is) c.flush.ensures.enters;
      rings = stay_puts_set ls c.args.at place (Some m) (search rules) c.index_mut.ensures.value
          (some_stays PutsAlone place l m c.in-Some.is (c.flush.ensures.inbound.0, c.flush.ensures.inbound.1, c.flush.ensures.inbound.2));
      steady = c.flush.ensures.steady;
    }

pub returns-in-Some-clause-fewer : goal.returns-in-Some-clause-fewer
returns-in-Some-clause-fewer g c =
    let a = c.args.self.now.core in let b = c.flush.new.core in let place = c.index_mut.result.now in let after = Some c.flush.new.lane in
    fewer a b c.args.self.now.lanes.items c.args.at place after (search rules) c.index_mut.ensures.value c.flush.result
    (subst (λ (p : Option Lane). GivesUpIf c.flush.result a p b after) (sym c.in-Some.is) c.flush.ensures.gives_up)

pub returns-in-Some-clause-flushed : goal.returns-in-Some-clause-flushed
returns-in-Some-clause-flushed g c quiet below =
    let a = c.args.self.now.core in let b = c.flush.new.core in let place = c.index_mut.result.now in let after = Some c.flush.new.lane in
    flushed_more a b c.args.self.now.lanes.items c.args.at place after (search rules)
    (subst (λ r. GivesUpIf r a place b after) quiet (subst (λ (p : Option Lane). GivesUpIf c.flush.result a p b after) (sym c.in-Some.is) c.flush.ensures.gives_up)) below

pub returns-in-None-clause-flushes : goal.returns-in-None-clause-flushes
returns-in-None-clause-flushes g c =
    let ls = c.args.self.now.lanes.items in let place = c.index_mut.result.now in
    record {
      goes = λ moment. goes_at moment ls c.args.at place place (search rules) c.index_mut.ensures.value (λ first since f. moves_none moment place c.in-None.is since);
      enters = overruns_none c.args.self.now.core c.args.self.now.core (IsServed ls) refl refl;
      rings = stay_puts_set ls c.args.at place place (search rules) c.index_mut.ensures.value (none_stays PutsAlone place c.in-None.is);
      steady = steady_none g.K.Keeper.is_honest c.args.self.now.core;
    }

pub returns-in-None-clause-fewer : goal.returns-in-None-clause-fewer
returns-in-None-clause-fewer g c =
    let a = c.args.self.now.core in let place = c.index_mut.result.now in
    fewer a a c.args.self.now.lanes.items c.args.at place place (search rules) c.index_mut.ensures.value false (quiet_none a place c.in-None.is)

pub returns-in-None-clause-flushed : goal.returns-in-None-clause-flushed
returns-in-None-clause-flushed g c quiet below =
    let a = c.args.self.now.core in let place = c.index_mut.result.now in
    flushed_more a a c.args.self.now.lanes.items c.args.at place place (search rules) (quiet_none a place c.in-None.is) below
