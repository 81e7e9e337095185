use Rattle.std.proofs.Common.{◌∙◌, true, false, codes}
use Rattle.std.proofs.lemmas.Result.{IfOk-weaker}
use Rattle.ov_specs.specs.machine.Machine.{transact_work}
use Rattle.ov_requests.proofs.Asked.{refused_asked, waiting_by_text, transact_duplicate, many_waiting, transact_exhausted}
use Rattle.ov_requests.proofs.answer.transact_work.Goals as goal

pub returns-then-has_text : goal.returns-then-has_text
returns-then-has_text c =
    IfOk-weaker c.refused_work.result _ _ (λ w is s same. refused_asked s c.args.session c.args.id (codes "duplicate request id") (transact_work s c.args.session c.args.id c.args.operations) w is (transact_duplicate s c.args.session c.args.id c.args.operations (waiting_by_text s c.args.session c.args.id c.as_slice.result.now c.args.waiting.now.outstanding true same (c.as_slice.ensures ∙ c.in_ok-text.ensures.text) c.if-has_text.ensures))) c.refused_work.ensures

pub returns-then-count_of-ge-MOST_WAITING : goal.returns-then-count_of-ge-MOST_WAITING
returns-then-count_of-ge-MOST_WAITING c =
    IfOk-weaker c.refused_work-then-count_of-ge-MOST_WAITING.result _ _ (λ w is s same. refused_asked s c.args.session c.args.id (codes "resources exhausted") (transact_work s c.args.session c.args.id c.args.operations) w is (transact_exhausted s c.args.session c.args.id c.args.operations (waiting_by_text s c.args.session c.args.id c.as_slice.result.now c.args.waiting.now.outstanding false same (c.as_slice.ensures ∙ c.in_ok-text.ensures.text) c.if-has_text.ensures) (many_waiting s c.args.session c.args.waiting.now.outstanding c.count_of.result same c.count_of.ensures c.if-count_of-ge-MOST_WAITING.true))) c.refused_work-then-count_of-ge-MOST_WAITING.ensures
