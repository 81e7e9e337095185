use Rattle.std.proofs.Common.{filter, length, sym, ap, ◌∙◌}
use Rattle.std.proofs.lemmas.List.{nil_from_length}
use Rattle.ov_specs.proofs.laws.Truths.{zero_is}
use Rattle.ov_stage.specs.Staging.{meets}
use Rattle.ov_stage.proofs.Meeting.{meeting-none}
use Rattle.ov_stage.proofs.conditions.meeting.Goals as goal

pub returns-then-is_empty : goal.returns-then-is_empty
returns-then-is_empty c =
    let conditions = c.args.conditions.now in
    let none = nil_from_length conditions (zero_is (length conditions) (sym c.is_empty.ensures ∙ c.if-is_empty.true)) in
    sym (ap (λ cs. filter (meets cs) c.args.rows.items) none ∙ meeting-none c.args.rows.items)
