use Rattle.std.proofs.Common.{◌<◌, [], length, map, sym, ap, ◌∙◌, arith}
use Rattle.std.proofs.lemmas.List.{drop_all}
use Rattle.serde_json.specs.Data.{object}
use Rattle.serde_json.specs.View.{members_view}
use Rattle.serde_json.proofs.Views.{view-Object}
use Rattle.ov_rows.specs.Lending.{lent_row_of}
use Rattle.ov_specs.specs.operations.Select.{projection}
use Rattle.ov_specs.specs.rows.Database.{placed, written_column}
use Rattle.ov_projection.specs.Shown.{shown_column}
use Rattle.ov_projection.proofs.Placing.{shown-at}
use Rattle.ov_projection.proofs.shown.shown_tree.Goals as goal

pub loop-name-preserved : goal.loop-name-preserved
loop-name-preserved c =
    let names = c.args.names.now in
    let row = lent_row_of [] c.args.row.now in
    let i = c.loop-name.name-index in
    let before = members_view c.loop-name.members.entries in
    let after = members_view c.put_shown.new.members.entries in
    let within : i < length names = c.loop-name-test.true in
    record {
      placed_so_far = c.loop-name.invariant.placed_so_far
          ∙ shown-at names row i c.name-item.result before after within c.name-item.is (c.in_ok-put_shown.ensures.put ∙ ap (λ name. placed before (map written_column (shown_column row name))) c.as_str.ensures);
      plain = c.in_ok-put_shown.ensures.plain c.loop-name.invariant.plain;
    }

pub returns : goal.returns
returns c table =
    let row = lent_row_of [] c.args.row.now in
    let members = members_view c.loop-name.members.entries in
    c.new.ensures ∙ view-Object c.loop-name.members
    ∙ ap object (sym (c.loop-name.invariant.placed_so_far ∙ ap (λ names. placed members (map written_column (projection names row))) (drop_all c.loop-name.name-index c.args.names.now (omega arith))))
