use Rattle.std.proofs.Common.{◌≡◌, arith, ◌++◌, [], map, ap, sym, ◌∙◌, append-nil}
use Rattle.std.specs.FinMap.{entries, from_entries}
use Rattle.ov_schema.specs.NamedViews.{named_view}
use Rattle.ov_schema.proofs.NamedLemmas.{put_over, put_over-empty, put_over-moved, no_items, named-ascend, entries-from_entries}
use Rattle.ov_schema.proofs.named.ascending.Goals as goal

pub loop-name-init : goal.loop-name-init
loop-name-init g c = ap (λ es. put_over (from_entries (map named_view es)) (map named_view c.args.named.items)) c.new-by_name.ensures.empty ∙ put_over-empty _

pub loop-name-preserved-in_ok-insert : goal.loop-name-preserved-in_ok-insert
loop-name-preserved-in_ok-insert g c =
    ap (λ es. put_over (from_entries (map named_view es)) (map named_view c.pop.new.self.items)) c.in_ok-insert.ensures.entries
    ∙ put_over-moved c.loop-name.by_name.entries _ _ c.in-Some.name c.in-Some.item c.in-Some.ensures.items ∙ c.loop-name.invariant

pub loop-name-preserved : goal.loop-name-preserved
loop-name-preserved g c =
    ap (λ es. put_over (from_entries (map named_view es)) (map named_view c.pop.new.self.items)) c.in_ok-insert.ensures.entries
    ∙ put_over-moved c.loop-name.by_name.entries _ _ c.in-Some.name c.in-Some.item c.in-Some.ensures.items ∙ c.loop-name.invariant

pub returns : goal.returns
returns g c =
    let gives = c.into_iter-name-iterator.ensures.into_iter_gives in
    let none : c.loop-name.named.items ≡ [] = no_items _ (omega (arith, c.in_default.ensures.cases.0)) in
    let all = ap (map named_view) (sym gives.0) ∙ (c.loop-name-2.invariant ∙ (ap (λ es. c.loop-name-2.ascending.items ++ map named_view es) c.in-None.ensures.steps.0 ∙ append-nil c.loop-name-2.ascending.items)) in
    sym all ∙ sym (entries-from_entries _ (named-ascend c.loop-name.by_name.entries gives.5))
    ∙ ap entries (sym (ap (λ es. put_over (from_entries (map named_view c.loop-name.by_name.entries)) (map named_view es)) none) ∙ c.loop-name.invariant)
