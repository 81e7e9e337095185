use Rattle.std.proofs.Common.{List, ◌||◌, nat_lt, String, string_bytes, Global, sym, ap, ◌∙◌}
use Rattle.std.specs.FinMap.{entries, len}
use Rattle.std.specs.List.{list_any}
use Rattle.ov_index.specs.Collecting.{has_two}
use Rattle.ov_index.specs.IndexKeys.{numbered_cmp}
use Rattle.ov_index.specs.Nested.{TableIndexes, key_in_table}
use Rattle.ov_index.proofs.Nesting.{any_nested}
use Rattle.ov_index.proofs.indexes.Indexes.has_two.Goals as goal

pub returns-then-has_two : goal.returns-then-has_two
returns-then-has_two c =
    let in_table = λ (m : String Global × TableIndexes). has_two (entries m.1) in
    ap (λ b. b || list_any in_table c.next.new.self) (sym c.if-has_two.true ∙ c.has_two.ensures)
    ∙ ap (list_any in_table) (sym c.in-Some.ensures.steps) ∙ c.loop-name.invariant
    ∙ ap (list_any in_table) c.into_iter-name-iterator.ensures.into_iter_gives.0
    ∙ sym (any_nested numbered_cmp (λ (name : String Global). key_in_table (string_bytes name)) (λ e. nat_lt 1 (len e.1)) c.tables-name-items.result.now.entries)
    ∙ ap has_two c.tables-name-items.ensures

pub returns : goal.returns
returns c =
    let in_table = λ (m : String Global × TableIndexes). has_two (entries m.1) in
    sym (ap (λ (ms : List (String Global × TableIndexes)). list_any in_table ms) c.in-None.ensures.steps.0) ∙ c.loop-name.invariant
    ∙ ap (list_any in_table) c.into_iter-name-iterator.ensures.into_iter_gives.0
    ∙ sym (any_nested numbered_cmp (λ (name : String Global). key_in_table (string_bytes name)) (λ e. nat_lt 1 (len e.1)) c.tables-name-items.result.now.entries)
    ∙ ap has_two c.tables-name-items.ensures
