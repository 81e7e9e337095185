use Rattle.std.proofs.Common.{◌∙◌, List, ap, arith, reverse}
use Rattle.std.proofs.lemmas.List.{reverse-reverse}
use Rattle.ov_specs.specs.rows.Cells.{after_cell_changes}
use Rattle.ov_keeper.specs.declared.change.Change.{Change}
use Rattle.ov_keeper.specs.LineMap.{lines_in, room_for}
use Rattle.ov_keeper.specs.Views.{changes_view}
use Rattle.ov_keeper.proofs.LineLemmas.{from_entries-same, room_for-reverse}
use Rattle.ov_keeper.proofs.line_map.LineMap.commit.Goals as goal

pub returns-clause-ok : goal.returns-clause-ok
returns-clause-ok c =
    c.make_all.ensures
    ∙ ap (λ all. after_cell_changes (changes_view all) (lines_in (record { rows = c.reserve.new.self }))) (ap reverse c.reverse.ensures.items ∙ reverse-reverse c.in_ok-copies.copies.items)
    ∙ ap (λ changes. after_cell_changes changes (lines_in (record { rows = c.reserve.new.self }))) c.in_ok-copies.ensures
    ∙ ap (after_cell_changes (changes_view c.args.changes.now)) (from_entries-same c.args.self.now.rows.entries c.reserve.new.self.entries c.reserve.ensures.entries.2)

pub make_all-requires : goal.make_all-requires
make_all-requires c =
    let reversed = ap (λ (all : List Change). room_for (changes_view all)) c.reverse.ensures.items in
    let same = room_for-reverse c.in_ok-copies.copies.items in
    let copied = ap room_for c.in_ok-copies.ensures in
    omega (arith, reversed, same, copied, c.puts_among.ensures, c.reserve.ensures, c.in_ok-reserve.ensures)
