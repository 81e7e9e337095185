use Rattle.std.proofs.Common.{◌≡◌, ◌<◌, ℕ, List, true, ◌||◌, nat_lt, Global, sym, ap, ◌∙◌, arith}
use Rattle.std.proofs.lemmas.Bool.Decides.{nat_tests}
use Rattle.std.specs.Prelude.{Vec}
use Rattle.std.specs.FinMap.{len}
use Rattle.ov_specs.specs.values.Value.{Datum}
use Rattle.ov_index.specs.Collecting.{has_two}
use Rattle.ov_index.specs.Indexing.{IdSet}
use Rattle.ov_index.proofs.IndexMaps.{items_of}
use Rattle.ov_index.proofs.Nesting.{any_seen}
use Rattle.ov_index.proofs.ids_by_values.IdsByValues.has_two.Goals as goal

is_more : (n : ℕ) → 1 < n → nat_lt 1 n ≡ true
is_more n h = grind (arith, nat_tests, h)

pub returns-then-len-gt1 : goal.returns-then-len-gt1
returns-then-len-gt1 c =
    ap (λ b. b || has_two c.next.new.self) (sym (is_more c.len.result c.if-len-gt1.true) ∙ ap (nat_lt 1) c.len.ensures)
    ∙ ap has_two (sym c.in-Some.ensures.steps) ∙ c.loop-values.invariant
    ∙ ap has_two c.into_iter-values-iterator.ensures.into_iter_gives.0
    ∙ sym (any_seen items_of (λ e. nat_lt 1 (len e.1)) c.map-values-items.result.now.entries)
    ∙ ap has_two c.map-values-items.ensures

pub returns : goal.returns
returns c =
    sym (ap (λ (es : List (Vec Datum Global × IdSet)). has_two es) c.in-None.ensures.steps.0) ∙ c.loop-values.invariant
    ∙ ap has_two c.into_iter-values-iterator.ensures.into_iter_gives.0
    ∙ sym (any_seen items_of (λ e. nat_lt 1 (len e.1)) c.map-values-items.result.now.entries)
    ∙ ap has_two c.map-values-items.ensures
