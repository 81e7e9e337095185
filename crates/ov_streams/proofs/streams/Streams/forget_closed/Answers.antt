use Rattle.std.proofs.Common.{ℕ, rules}
use Rattle.std.proofs.lemmas.Map.Made.{filter_same_pairs}
use Rattle.ov_specs.specs.machine.Machine.{is_open}
use Rattle.ov_cut.specs.CutterState.{CutterState}
use Rattle.ov_streams.proofs.Suiting.{forgotten_closed, over}
use Rattle.ov_streams.proofs.streams.Streams.forget_closed.Goals as goal

pub returns-clause-serves : goal.returns-clause-serves
returns-clause-serves g c =
    let s = c.self.inside.core.state in
    rw (← c.self.view_is) (forgotten_closed (over c.self.inside.core c.self.inside.cutters.entries) c.retain.new.self.entries
    (filter_same_pairs _ (λ (e : ℕ × CutterState). is_open s e.0) _ (λ k v b w f' t. search rules) c.self.inside.cutters.entries c.retain.new.self.entries c.retain.ensures.filtered))
