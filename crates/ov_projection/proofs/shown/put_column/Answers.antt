use Rattle.std.proofs.Common.{ap, ◌∙◌}
use Rattle.serde_json.specs.Data.{put}
use Rattle.serde_json.specs.View.{view, members_view}
use Rattle.serde_json.proofs.Views.{members_view-insert_entry}
use Rattle.ov_projection.proofs.shown.put_column.Goals as goal

pub returns-clause-put : goal.returns-clause-put
returns-clause-put c =
    let before = c.args.members.now.entries in
    let value = c.in_ok-write_datum.field-0 in
    ap members_view c.in_ok-insert.ensures.entries ∙ members_view-insert_entry before c.in_ok-from_str.field-0 value
    ∙ ap (λ name. put name (view value) (members_view before)) c.in_ok-from_str.ensures.ok ∙ ap (λ d. put c.args.name.now d (members_view before)) c.in_ok-write_datum.ensures.written
