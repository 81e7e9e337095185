use Rattle.std.proofs.Common.{ℕ, List, ◌||◌, sym, ap, ◌∙◌}
use Rattle.std.specs.FinMap.{entries}
use Rattle.std.specs.List.{list_any}
use Rattle.ov_index.specs.Collecting.{is_shared}
use Rattle.ov_index.specs.IndexKeys.{values_cmp, index_key}
use Rattle.ov_index.specs.Nested.{IdsByValues, numbered, key_in_table}
use Rattle.ov_index.proofs.Nesting.{any_nested}
use Rattle.ov_index.proofs.alike.is_any_shared_in_table.Goals as goal

pub returns-then-branch : goal.returns-then-branch
returns-then-branch c =
    let indexes = c.args.indexes.now in
    let changes = c.args.changes.now.entries in
    let table = c.args.table.now in
    let in_index = λ (m : ℕ × IdsByValues). list_any (λ e. is_shared indexes changes (index_key table m.0 e.0, e.1)) (entries m.1) in
    ap (λ b. b || list_any in_index c.next.new.self) (sym c.if-branch.true ∙ c.in_ok-is_any_shared_in_index.ensures)
    ∙ ap (list_any in_index) (sym c.in-Some.ensures.steps) ∙ c.loop-number.invariant
    ∙ ap (list_any in_index) c.into_iter-number-iterator.ensures.into_iter_gives.0
    ∙ sym (any_nested values_cmp numbered (λ e. is_shared indexes changes (key_in_table table e.0, e.1)) c.map-number-items.result.now.entries)
    ∙ ap (list_any (λ e. is_shared indexes changes (key_in_table table e.0, e.1))) c.map-number-items.ensures

pub returns : goal.returns
returns c =
    let indexes = c.args.indexes.now in
    let changes = c.args.changes.now.entries in
    let table = c.args.table.now in
    let in_index = λ (m : ℕ × IdsByValues). list_any (λ e. is_shared indexes changes (index_key table m.0 e.0, e.1)) (entries m.1) in
    sym (ap (λ (ms : List (ℕ × IdsByValues)). list_any in_index ms) c.in-None.ensures.steps.0) ∙ c.loop-number.invariant
    ∙ ap (list_any in_index) c.into_iter-number-iterator.ensures.into_iter_gives.0
    ∙ sym (any_nested values_cmp numbered (λ e. is_shared indexes changes (key_in_table table e.0, e.1)) c.map-number-items.result.now.entries)
    ∙ ap (list_any (λ e. is_shared indexes changes (key_in_table table e.0, e.1))) c.map-number-items.ensures
