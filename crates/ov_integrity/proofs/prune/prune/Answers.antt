use Rattle.std.proofs.Common.{◌≡◌, [], ◌||◌, true, false, true≢false, sym, ap, subst, ◌∙◌}
use Rattle.std.proofs.lemmas.List.{nil_from_length}
use Rattle.std.specs.FinMap.{entries}
use Rattle.std.specs.List.{list_any}
use Rattle.ov_specs.specs.integrity.Committed.{pruned}
use Rattle.ov_specs.specs.integrity.Limits.{is_short}
use Rattle.ov_specs.proofs.laws.Truths.{or_nothing}
use Rattle.ov_integrity.specs.Pruning.{MayDangle, is_short_at, pruned_at, pruned_at_all}
use Rattle.ov_integrity.proofs.PrunedAt.{pruned_all_is}
use Rattle.ov_integrity.proofs.PrunedInTurn.{some_short, short_turn}
use Rattle.ov_integrity.proofs.Short.{short_follows}
use Rattle.ov_integrity.proofs.prune.prune.Goals as goal

pub loop-key-preserved-then-branch : goal.loop-key-preserved-then-branch
loop-key-preserved-then-branch c =
    let schema = c.args.schema.now in
    let before = c.args.stage.now.before in
    let version = c.args.version in
    let key = c.in-Some.key in
    let rows = c.loop-key.stage.now in
    let later = c.next.new.self.rest.items in
    let next = c.prune_row.new.stage.now in
    let short = c.loop-key.short in
    let steps = c.in-Some.ensures.steps.0 in
    let is : next ≡ pruned_at schema before version key rows = c.in_ok-prune_row.ensures.now ∙ ap (λ b. pruned_at schema b version key rows) c.loop-key.invariant.before in
    let answer : true ≡ is_short_at schema key next = sym c.if-branch.true ∙ c.in_ok-prune_row.ensures.short in
    record {
      before = c.in_ok-prune_row.ensures.before ∙ c.loop-key.invariant.before;
      now = ap (pruned_at_all schema before version later) is ∙ sym (ap (λ keys. pruned_at_all schema before version keys rows) steps) ∙ c.loop-key.invariant.now;
      short = short_turn schema before version short true key later rows next is answer ∙ sym (ap (λ keys. short || some_short schema before version keys rows) steps)
          ∙ c.loop-key.invariant.short;
      suits = λ is. absurd (true≢false is);
    }

pub loop-key-preserved : goal.loop-key-preserved
loop-key-preserved c =
    let schema = c.args.schema.now in
    let before = c.args.stage.now.before in
    let version = c.args.version in
    let key = c.in-Some.key in
    let rows = c.loop-key.stage.now in
    let later = c.next.new.self.rest.items in
    let next = c.prune_row.new.stage.now in
    let short = c.loop-key.short in
    let steps = c.in-Some.ensures.steps.0 in
    let is : next ≡ pruned_at schema before version key rows = c.in_ok-prune_row.ensures.now ∙ ap (λ b. pruned_at schema b version key rows) c.loop-key.invariant.before in
    let answer : false ≡ is_short_at schema key next = sym c.if-branch.false ∙ c.in_ok-prune_row.ensures.short in
    record {
      before = c.in_ok-prune_row.ensures.before ∙ c.loop-key.invariant.before;
      now = ap (pruned_at_all schema before version later) is ∙ sym (ap (λ keys. pruned_at_all schema before version keys rows) steps) ∙ c.loop-key.invariant.now;
      short = short_turn schema before version short false key later rows next is answer ∙ sym (ap (λ keys. short || some_short schema before version keys rows) steps)
          ∙ c.loop-key.invariant.short;
      suits = λ enough. c.in_ok-prune_row.ensures.suits c.if-branch.false (c.loop-key.invariant.suits enough);
    }

pub returns-clause-now : goal.returns-clause-now
returns-clause-now c =
    let schema = c.args.schema.now in
    let before = c.args.stage.now.before in
    let version = c.args.version in
    let rows = c.args.stage.now.now in
    let keys = c.into_iter-key-iterator.result.rest.items in
    let rest = c.loop-key.key-iterator.rest in
    let last = c.loop-key.stage in
    let none : rest.items ≡ [] = nil_from_length rest.items (sym rest.ok.0 ∙ c.in-None.ensures.steps.0) in
    let may : MayDangle schema rows keys =
    subst (MayDangle schema rows) (sym c.into_iter-key-iterator.ensures.into_iter_gives.0) c.in_ok-key-items.ensures in
    let now : last.now ≡ pruned schema before version rows =
    sym (ap (λ ks. pruned_at_all schema before version ks last.now) none) ∙ c.loop-key.invariant.now ∙ pruned_all_is schema before version keys rows may in
    λ i. record { before = c.loop-key.invariant.before i; now = now i }

pub returns-clause-short : goal.returns-clause-short
returns-clause-short c =
    let schema = c.args.schema.now in
    let before = c.args.stage.now.before in
    let version = c.args.version in
    let rows = c.args.stage.now.now in
    let keys = c.into_iter-key-iterator.result.rest.items in
    let rest = c.loop-key.key-iterator.rest in
    let last = c.loop-key.stage in
    let short = c.loop-key.short in
    let none : rest.items ≡ [] = nil_from_length rest.items (sym rest.ok.0 ∙ c.in-None.ensures.steps.0) in
    let may : MayDangle schema rows keys =
    subst (MayDangle schema rows) (sym c.into_iter-key-iterator.ensures.into_iter_gives.0) c.in_ok-key-items.ensures in
    let now : last.now ≡ pruned schema before version rows =
    sym (ap (λ ks. pruned_at_all schema before version ks last.now) none) ∙ c.loop-key.invariant.now ∙ pruned_all_is schema before version keys rows may in
    sym (or_nothing short) ∙ sym (ap (λ ks. short || some_short schema before version ks last.now) none) ∙ c.loop-key.invariant.short
    ∙ ap (λ all. list_any (λ key. is_short_at schema key all) keys) (pruned_all_is schema before version keys rows may)
    ∙ sym (short_follows schema before version rows keys c.requires.suits may) ∙ sym (ap (λ all. list_any (is_short schema) (entries all)) now)
