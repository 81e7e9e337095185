use Rattle.std.proofs.Common.{◌<◌, map, length, sym, ap, ◌∙◌, arith}
use Rattle.std.proofs.lemmas.List.{drop_all}
use Rattle.serde_json.specs.Data.{object, no_members}
use Rattle.serde_json.specs.View.{members_view}
use Rattle.serde_json.proofs.Views.{view-Object}
use Rattle.ov_specs.specs.rows.Database.{placed, written_column}
use Rattle.ov_rows.specs.Named.{named}
use Rattle.ov_specs.specs.wire.Tree.{members_have_real}
use Rattle.ov_specs.specs.values.Writing.{tree}
use Rattle.ov_projection.proofs.Placing.{placed-at}
use Rattle.ov_projection.proofs.Plain.{put_plain}
use Rattle.ov_projection.proofs.shown.ShownRow.tree.Goals as goal

pub loop-name-preserved : goal.loop-name-preserved
loop-name-preserved c =
    let cells = c.deref-name-items.result.now in
    let i = c.loop-name.name-index in
    let cell = c.loop-name-item.result in
    let before = members_view c.loop-name.members.entries in
    let after = members_view c.put_column.new.members.entries in
    let within : i < length cells = c.loop-name-test.true in
    record {
      placed_so_far = c.loop-name.invariant.placed_so_far
          ∙ placed-at cells i cell before after c.as_str.result.now within c.loop-name-item.is c.as_str.ensures.value c.in_ok-put_column.ensures.put;
      plain = ap members_have_real c.in_ok-put_column.ensures.put
          ∙ put_plain c.as_str.result.now (tree cell.1) before c.in_ok-put_column.ensures.plain c.loop-name.invariant.plain;
    }

pub returns : goal.returns
returns c =
    let members = members_view c.loop-name.members.entries in
    c.new.ensures ∙ view-Object c.loop-name.members
    ∙ ap object (sym (c.loop-name.invariant.placed_so_far ∙ ap (λ es. placed members (map written_column (named es))) (drop_all c.loop-name.name-index c.deref-name-items.result.now (omega arith))))
    ∙ ap (λ es. object (placed no_members (map written_column es))) (ap named c.deref-name-items.ensures.value ∙ c.self.view_is)
