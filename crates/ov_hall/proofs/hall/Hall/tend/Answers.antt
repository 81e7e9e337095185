use Rattle.std.proofs.Common.{refl, ◌∙◌}
use Rattle.ov_workers.specs.LinkStates.{ends_of}
use Rattle.ov_hall.proofs.Halls.{tends_none, tends_along}
use Rattle.ov_hall.proofs.Running.{tended_all, tended_along}
use Rattle.ov_hall.proofs.hall.Hall.tend.Goals as goal

pub loop-at-init : goal.loop-at-init
loop-at-init g c = record {
  tends = tends_none (ends_of g.S.Source g.W.Sink) c.args.self.now c.requires.seats;
  kept = λ keeps. (tended_all c.args.self.now.desk.lanes.items, refl);
}

pub loop-at-preserved : goal.loop-at-preserved
loop-at-preserved g c =
    let was = c.loop-at.invariant in let now = c.tend_at.ensures in
    record {
      tends = tends_along (ends_of g.S.Source g.W.Sink) c.args.self.now c.loop-at.self c.tend_at.new.self was.tends now.tends;
      kept = λ keeps.
          let a = was.kept keeps in let b = now.kept (was.tends.same.0 ∙ keeps) in
          (tended_along c.args.self.now.desk.lanes.items c.loop-at.self.desk.lanes.items c.tend_at.new.self.desk.lanes.items a.0 b.0, b.1 ∙ a.1);
    }
