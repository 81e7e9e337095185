use Rattle.std.proofs.Common.{List, ◌||◌, Global, sym, ap, ◌∙◌}
use Rattle.std.specs.Prelude.{Vec}
use Rattle.std.specs.List.{list_any}
use Rattle.ov_specs.specs.values.Value.{Datum}
use Rattle.ov_index.specs.Collecting.{is_shared}
use Rattle.ov_index.specs.IndexKeys.{index_key}
use Rattle.ov_index.specs.Indexing.{IdSet}
use Rattle.ov_index.proofs.IndexMaps.{items_of}
use Rattle.ov_index.proofs.Nesting.{any_seen}
use Rattle.ov_index.proofs.alike.is_any_shared_in_index.Goals as goal

pub returns-then-branch : goal.returns-then-branch
returns-then-branch c =
    let indexes = c.args.indexes.now in
    let changes = c.args.changes.now.entries in
    let table = c.args.table.now in
    let number = c.args.number in
    let test = λ (e : Vec Datum Global × IdSet). is_shared indexes changes (index_key table number e.0.items, e.1) in
    ap (λ b. b || list_any test c.next.new.self)
    (sym c.if-branch.true ∙ c.in_ok-is_shared.ensures ∙ ap (λ vs. is_shared indexes changes (index_key table number vs, c.in-Some.ids.now)) c.as_slice-values.ensures.value)
    ∙ ap (list_any test) (sym c.in-Some.ensures.steps) ∙ c.loop-values.invariant
    ∙ ap (list_any test) c.into_iter-values-iterator.ensures.into_iter_gives.0
    ∙ sym (any_seen items_of (λ e. is_shared indexes changes (index_key table number e.0, e.1)) c.map-values-items.result.now.entries)
    ∙ ap (list_any (λ e. is_shared indexes changes (index_key table number e.0, e.1))) c.map-values-items.ensures

pub returns : goal.returns
returns c =
    let indexes = c.args.indexes.now in
    let changes = c.args.changes.now.entries in
    let table = c.args.table.now in
    let number = c.args.number in
    let test = λ (e : Vec Datum Global × IdSet). is_shared indexes changes (index_key table number e.0.items, e.1) in
    sym (ap (λ (es : List (Vec Datum Global × IdSet)). list_any test es) c.in-None.ensures.steps.0) ∙ c.loop-values.invariant
    ∙ ap (list_any test) c.into_iter-values-iterator.ensures.into_iter_gives.0
    ∙ sym (any_seen items_of (λ e. is_shared indexes changes (index_key table number e.0, e.1)) c.map-values-items.result.now.entries)
    ∙ ap (list_any (λ e. is_shared indexes changes (index_key table number e.0, e.1))) c.map-values-items.ensures
