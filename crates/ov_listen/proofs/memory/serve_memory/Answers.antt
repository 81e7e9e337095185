use Rattle.std.proofs.Common.{◌≡◌, IfOk, IfErr, refl, ap}
use Rattle.std.specs.Prelude.{Result, Ok, Err, OnErr}
use Rattle.ov_db.specs.declared.fault.RefusedOpen.{RefusedOpen}
use Rattle.ov_listen.specs.Pipes.{PipesState, pipes_state}
use Rattle.ov_listen.specs.declared.memory.Service.{Service}
use Rattle.ov_listen.specs.declared.endpoint.Ended.{Ended}
use Rattle.ov_listen.specs.Memory.{EndsMemory, IsNewKeeper, offer_of}
use Rattle.ov_listen.specs.Environment.{Environment}
use Rattle.ov_listen.specs.Offers.{ServesOffer, RefusesOffer}
use Rattle.ov_listen.proofs.memory.serve_memory.Goals as goal

-- what came of a new keeper, by what serving it returned
by_result : {K D C P : Type 0} (e : Environment K D C) (service : Service D) (keeper : K) (view : P → PipesState C) (before after : P) (result : Result (Ended K D) (RefusedOpen K)) → IsNewKeeper e.keeper service.text keeper
    → IfOk result (λ ended. ServesOffer e keeper (offer_of service) (view before) ended (view after)) → IfErr result (λ refused. RefusesOffer e keeper (offer_of service) refused) → OnErr result (after ≡ before)
    → EndsMemory e service (view before) result (view after)
by_result e service keeper view before after (Ok ended) is_new served refused same = (keeper, is_new, served)
by_result e service keeper view before after (Err fault) is_new served refused same = (keeper, is_new, refused, ap view same)

pub returns-clause-ends : goal.returns-clause-ends
returns-clause-ends g c =
    let e = c.serve_offer.ensures in
    by_result _ c.args.service c.new.result (pipes_state g.S.Source g.W.Sink) c.args.pipes.now c.serve_offer.new.pipes c.serve_offer.result (record { found = c.new.ensures; fresh = refl }) e.served e.refused e.untouched
