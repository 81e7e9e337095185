use Rattle.std.proofs.Common.{◌++◌, ◌∙◌, List, ℕ, ap, refl}
use Rattle.std.proofs.lemmas.List.{append-nil}
use Rattle.ov_specs.specs.locks.Queues.{has_requested}
use Rattle.ov_specs.proofs.laws.Locks.{none_left}
use Rattle.ov_outbox.specs.Frames.{waiting_for}
use Rattle.ov_outbox.specs.Waits.{IsOutOfQueues}
use Rattle.ov_specs.proofs.laws.Leaves.{leaving_silent}
use Rattle.ov_live.proofs.live.Live.close.Goals as goal

pub returns : goal.returns
returns g c =
    let old = c.args.self.now in
    let n = c.args.session in
    let out : IsOutOfQueues n c.leave-3.new.self.queues = λ name. ap (has_requested n name) c.leave-3.ensures.queues ∙ none_left n name old.outbox.queues c.shows_order.ensures in
    let same = c.leave-3.ensures.posts n ∙ (ap (λ (fs : List (List ℕ)). waiting_for n old.outbox.frames ++ fs) (leaving_silent n old.outbox.queues) ∙ append-nil (waiting_for n old.outbox.frames)) in
    rw (c.close.ensures, c.leave-2.ensures) (record {
      same = refl;
      watching = c.leave.ensures;
      queues = c.forget.ensures.queues ∙ c.leave-3.ensures.queues;
      posts = λ s. c.forget.ensures.frames s ∙ c.leave-3.ensures.posts s;
      forgotten = λ none. c.forget.ensures.gone out (same ∙ none);
    })
