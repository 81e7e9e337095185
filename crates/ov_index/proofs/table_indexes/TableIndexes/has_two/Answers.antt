use Rattle.std.proofs.Common.{ℕ, List, ◌||◌, nat_lt, sym, ap, ◌∙◌}
use Rattle.std.specs.FinMap.{entries, len}
use Rattle.std.specs.List.{list_any}
use Rattle.ov_index.specs.Collecting.{has_two}
use Rattle.ov_index.specs.IndexKeys.{values_cmp}
use Rattle.ov_index.specs.Nested.{IdsByValues, numbered}
use Rattle.ov_index.proofs.Nesting.{any_nested}
use Rattle.ov_index.proofs.table_indexes.TableIndexes.has_two.Goals as goal

pub returns-then-has_two : goal.returns-then-has_two
returns-then-has_two c =
    let in_index = λ (m : ℕ × IdsByValues). has_two (entries m.1) in
    ap (λ b. b || list_any in_index c.next.new.self) (sym c.if-has_two.true ∙ c.has_two.ensures)
    ∙ ap (list_any in_index) (sym c.in-Some.ensures.steps) ∙ c.loop-number.invariant
    ∙ ap (list_any in_index) c.into_iter-number-iterator.ensures.into_iter_gives.0
    ∙ sym (any_nested values_cmp numbered (λ e. nat_lt 1 (len e.1)) c.map-number-items.result.now.entries)
    ∙ ap has_two c.map-number-items.ensures

pub returns : goal.returns
returns c =
    let in_index = λ (m : ℕ × IdsByValues). has_two (entries m.1) in
    sym (ap (λ (ms : List (ℕ × IdsByValues)). list_any in_index ms) c.in-None.ensures.steps.0) ∙ c.loop-number.invariant
    ∙ ap (list_any in_index) c.into_iter-number-iterator.ensures.into_iter_gives.0
    ∙ sym (any_nested values_cmp numbered (λ e. nat_lt 1 (len e.1)) c.map-number-items.result.now.entries)
    ∙ ap has_two c.map-number-items.ensures
