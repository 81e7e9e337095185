use Rattle.std.proofs.Common.{List, ◌||◌, String, string_bytes, Global, sym, ap, subst, ◌∙◌}
use Rattle.std.specs.FinMap.{entries}
use Rattle.std.specs.List.{list_any}
use Rattle.ov_index.specs.Changing.{TellsAlike}
use Rattle.ov_index.specs.Collecting.{is_shared}
use Rattle.ov_index.specs.IndexKeys.{numbered_cmp}
use Rattle.ov_index.specs.Indexing.{Indexes}
use Rattle.ov_index.specs.Nested.{TableIndexes, key_in_table}
use Rattle.ov_index.proofs.MadeAlike.{tells_alike}
use Rattle.ov_index.proofs.Nesting.{any_nested}
use Rattle.ov_index.proofs.alike.are_made_alike.Goals as goal

pub returns-then-branch : goal.returns-then-branch
returns-then-branch c =
    let schema = c.args.schema.now in
    let indexes = c.args.indexes.now in
    let changes = c.args.changes.now.entries in
    let in_table = λ (m : String Global × TableIndexes). list_any (λ e. is_shared indexes changes (key_in_table (string_bytes m.0) e.0, e.1)) (entries m.1) in
    subst (TellsAlike schema indexes changes)
    (sym
    (ap (λ b. b || list_any in_table c.next.new.self)
    (sym c.if-branch.true ∙ c.in_ok-is_any_shared_in_table.ensures
    ∙ ap (λ name. list_any (λ e. is_shared indexes changes (key_in_table name e.0, e.1)) (entries c.in-Some.table.now)) c.as_str.ensures.value)
    ∙ ap (list_any in_table) (sym c.in-Some.ensures.steps) ∙ c.loop-name.invariant
    ∙ ap (list_any in_table) c.into_iter-name-iterator.ensures.into_iter_gives.0
    ∙ sym (any_nested numbered_cmp (λ (name : String Global). key_in_table (string_bytes name)) (is_shared indexes changes) c.tables-name-items.result.now.entries)
    ∙ ap (list_any (is_shared indexes changes)) (c.tables-name-items.ensures ∙ ap (λ (i : Indexes). entries i) c.in_ok-indexes_of.ensures.indexes)))
    (tells_alike schema indexes changes c.in_ok-indexes_of.ensures.ascend)

pub returns : goal.returns
returns c =
    let schema = c.args.schema.now in
    let indexes = c.args.indexes.now in
    let changes = c.args.changes.now.entries in
    let in_table = λ (m : String Global × TableIndexes). list_any (λ e. is_shared indexes changes (key_in_table (string_bytes m.0) e.0, e.1)) (entries m.1) in
    subst (TellsAlike schema indexes changes)
    (sym
    (sym (ap (λ (ms : List (String Global × TableIndexes)). list_any in_table ms) c.in-None.ensures.steps.0) ∙ c.loop-name.invariant
    ∙ ap (list_any in_table) c.into_iter-name-iterator.ensures.into_iter_gives.0
    ∙ sym (any_nested numbered_cmp (λ (name : String Global). key_in_table (string_bytes name)) (is_shared indexes changes) c.tables-name-items.result.now.entries)
    ∙ ap (list_any (is_shared indexes changes)) (c.tables-name-items.ensures ∙ ap (λ (i : Indexes). entries i) c.in_ok-indexes_of.ensures.indexes)))
    (tells_alike schema indexes changes c.in_ok-indexes_of.ensures.ascend)
