use Rattle.std.proofs.Common.{◌≡◌, sym, subst, rules}
use Rattle.std.specs.Prelude.{Option, Some}
use Rattle.serde_json.specs.Data.{Items}
use Rattle.serde_json.specs.View.{view, items_view}
use Rattle.ov_specs.specs.operations.Errors.{SyntaxError}
use Rattle.ov_specs.specs.operations.Members.{array_at}
use Rattle.ov_specs.specs.operations.MatchingRows.{conditions_read}
use Rattle.ov_specs.specs.operations.NamedUuids.{uuids_named}
use Rattle.ov_specs.specs.operations.OpOutcome.{some_or_fault, ok_or_fault}
use Rattle.ov_ops.specs.Outcomes.{GoesOnAs}
use Rattle.ov_ops.proofs.Going.{goes_on}
use Rattle.ov_ops.proofs.members.conditions_at.Goals as goal
use Rattle.std.proofs.Common.{codes, Vec, Global}
use Rattle.ov_conds.specs.declared.condition.Condition.{Condition}

pub returns : goal.returns
returns g c before next =
    let table = c.args.table.now in
    let names = uuids_named c.args.ctx.now.inserts.now.ids c.args.ctx.now.inserts.now.operations in
    let items = items_view c.as_slice.result.now in
    let found : array_at (codes "where") (view c.args.operation.now) ≡ Some items = search rules in
    subst (λ (o : Option Items). GoesOnAs (some_or_fault o SyntaxError (λ ds. ok_or_fault (conditions_read names table ds) next)) (λ (v : Vec Condition Global). next v.items) c.conditions_of.result) (sym found)
    (goes_on (conditions_read names table items) (λ (v : Vec Condition Global). v.items) next c.conditions_of.result c.conditions_of.ensures)
