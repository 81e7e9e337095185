use Rattle.std.proofs.Common.{◌++◌, ◌∷◌, [], List, Option, ℕ, take, sym, ap, ◌∙◌}
use Rattle.std.proofs.lemmas.List.{take_more}
use Rattle.std.specs.List.{filter_map}
use Rattle.ov_specs.specs.machine.Machine.{Outstanding, least, timeout_of}
use Rattle.ov_requests.specs.Waiting.{earlier}
use Rattle.ov_requests.proofs.Earliest.{earliest_none, earliest_next}
use Rattle.ov_requests.proofs.waiting.due_among.Goals as goal

pub loop-one-init : goal.loop-one-init
loop-one-init c = earliest_none c.args.due

pub loop-one-preserved : goal.loop-one-preserved
loop-one-preserved c =
    let these = c.args.these.now in
    let i = c.loop-one.one-index in
    let x = c.one-item.result in
    let so_far = earlier c.args.due (least (filter_map timeout_of (take i these))) in
    c.earlier-due.ensures
    ∙ (ap (λ (o : Option ℕ). earlier o c.times_out.result) c.loop-one.invariant ∙ (ap (earlier so_far) c.times_out.ensures
    ∙ (earliest_next c.args.due (take i these) x
    ∙ ap (λ (os : List Outstanding). earlier c.args.due (least (filter_map timeout_of os))) (ap (λ (y : Outstanding). take i these ++ y ∷ []) c.one-item.is ∙ sym (take_more these i x c.loop-one-test.true)))))
