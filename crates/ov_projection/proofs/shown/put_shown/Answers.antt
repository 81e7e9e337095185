use Rattle.serde_json.specs.View.{members_view}
use Rattle.ov_projection.proofs.Plain.{still_plain}
use Rattle.ov_projection.proofs.shown.put_shown.Goals as goal

pub returns-then-eq-clause-plain : goal.returns-then-eq-clause-plain
returns-then-eq-clause-plain c plain =
    still_plain c.put_column.result c.args.name.now _ (members_view c.args.members.now.entries) _ plain c.put_column.ensures.put c.put_column.ensures.plain

pub returns-then-eq-2-clause-plain : goal.returns-then-eq-2-clause-plain
returns-then-eq-2-clause-plain c plain =
    still_plain c.put_column-then-eq-2.result c.args.name.now _ (members_view c.args.members.now.entries) _ plain c.put_column-then-eq-2.ensures.put c.put_column-then-eq-2.ensures.plain

pub returns-in-Some-clause-plain : goal.returns-in-Some-clause-plain
returns-in-Some-clause-plain c plain =
    still_plain c.put_column-in-Some.result c.args.name.now _ (members_view c.args.members.now.entries) _ plain c.put_column-in-Some.ensures.put c.put_column-in-Some.ensures.plain
