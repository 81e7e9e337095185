use Rattle.std.proofs.Common.{ap, ◌∙◌}
use Rattle.serde_json.specs.Data.{put}
use Rattle.serde_json.specs.View.{view, members_view}
use Rattle.serde_json.proofs.Views.{members_view-insert_entry}
use Rattle.ov_specs.specs.wire.Tree.{members_have_real}
use Rattle.ov_projection.proofs.Plain.{put_plain}
use Rattle.ov_watch.proofs.object.Object.put.Goals as goal

pub invariant_of-self-2 : goal.invariant_of-self-2
invariant_of-self-2 c =
    let before = c.self.inside.members.entries in
    let value = c.into_value.result in
    ap members_have_real (ap members_view c.in_ok-insert.ensures.entries ∙ members_view-insert_entry before c.in_ok-from_str.field-0 value ∙ ap (λ name. put name (view value) (members_view before)) c.in_ok-from_str.ensures.ok)
    ∙ put_plain c.args.name.now (view value) (members_view before) c.into_value.ensures.plain c.self.invariant

pub returns : goal.returns
returns c =
    let before = c.self.inside.members.entries in
    let value = c.into_value.result in
    ap members_view c.in_ok-insert.ensures.entries ∙ members_view-insert_entry before c.in_ok-from_str.field-0 value ∙ ap (λ name. put name (view value) (members_view before)) c.in_ok-from_str.ensures.ok
    ∙ ap (λ d. put c.args.name.now d (members_view before)) c.into_value.ensures.same ∙ ap (put c.args.name.now c.args.tree) c.self.view_is
