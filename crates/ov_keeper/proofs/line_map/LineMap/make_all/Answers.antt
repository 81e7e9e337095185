use Rattle.std.proofs.Common.{arith, ◌∙◌, reverse, ap, sym}
use Rattle.std.proofs.lemmas.List.{nil_from_length}
use Rattle.ov_specs.specs.rows.Cells.{after_cell_changes}
use Rattle.ov_keeper.specs.LineMap.{lines_in}
use Rattle.ov_keeper.specs.Views.{changes_view}
use Rattle.ov_keeper.proofs.LineLemmas.{after_cell_changes-reverse, room_for-push}
use Rattle.ov_keeper.proofs.line_map.LineMap.make_all.Goals as goal

pub make_one-requires : goal.make_one-requires
make_one-requires c = omega (arith, room_for-push c.pop.new.self.items c.in-Some.change c.loop-change.changes.items c.in-Some.ensures.items, c.loop-change.invariant.room)

pub loop-change-preserved : goal.loop-change-preserved
loop-change-preserved c =
    let left = c.pop.new.self.items in
    record {
      room = omega (arith, room_for-push left c.in-Some.change c.loop-change.changes.items c.in-Some.ensures.items, c.make_one.ensures.spare, c.loop-change.invariant.room);
      made =
          ap (after_cell_changes (changes_view (reverse left))) c.make_one.ensures.lines
          ∙ sym (after_cell_changes-reverse left c.in-Some.change c.loop-change.changes.items (lines_in c.loop-change.self) c.in-Some.ensures.items)
          ∙ c.loop-change.invariant.made;
    }

pub returns : goal.returns
returns c =
    let none = nil_from_length c.loop-change.changes.items (omega (arith, c.in_default.ensures.cases.0)) in
    ap (λ changes. after_cell_changes (changes_view (reverse changes)) (lines_in c.loop-change.self)) (sym none) ∙ c.loop-change.invariant.made
