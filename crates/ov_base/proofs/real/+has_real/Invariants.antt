use Rattle.std.proofs.Common.{◌≡◌, drop}
use Rattle.serde_json.specs.View.{items_view, members_view}
use Rattle.ov_specs.specs.wire.Tree.{items_have_real, members_have_real}
use Rattle.ov_base.proofs.real.+has_real.Given as goal

abbrev pub invariant-items_have_real-loop-item : goal.invariant-items_have_real-loop-item
invariant-items_have_real-loop-item l = items_have_real (items_view l.item-items) ≡ items_have_real (items_view (drop l.item-index l.item-items))

abbrev pub invariant-members_have_real-loop-key : goal.invariant-members_have_real-loop-key
invariant-members_have_real-loop-key l = members_have_real (members_view l.members.entries) ≡ members_have_real (members_view l.key-iterator)
