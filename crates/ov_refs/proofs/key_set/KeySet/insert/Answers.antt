use Rattle.std.proofs.Common.{T, ◌∷◌, [], map, refl, ap, sym, subst, ◌∙◌}
use Rattle.std.specs.FinMap.{is_sorted, insert}
use Rattle.ov_specs.specs.rows.Lines.{line_cmp}
use Rattle.ov_refs.specs.Holding.{KeySet, set_of_keys}
use Rattle.ov_specs.specs.values.Value.{marked}
use Rattle.ov_refs.specs.StoredKeys.{keys_in}
use Rattle.ov_refs.proofs.KeySets.{marks-ascend, set_of-insert, set_of-again, told_same}
use Rattle.ov_refs.proofs.key_set.KeySet.insert.Goals.{in-One-1, in-Many-1, in-Empty-1, in-One-2, in-Many-2, in-Empty-2}
use Rattle.ov_refs.proofs.key_set.KeySet.insert.Goals as goal

pub invariant_of-self-in_ok-pair-in-One : goal.invariant_of-self-in_ok-pair-in-One
invariant_of-self-in_ok-pair-in-One c = marks-ascend c.in_ok-pair-in-One.field-0.keys c.in_ok-pair-in-One.ensures.ordered

pub invariant_of-self-in_ok-insert-in-Many : goal.invariant_of-self-in_ok-insert-in-Many
invariant_of-self-in_ok-insert-in-Many c = marks-ascend c.insert.new.self.keys c.in_ok-insert-in-Many.ensures.ordered

pub returns-in-Empty-clause-ok : goal.returns-in-Empty-clause-ok
returns-in-Empty-clause-ok c =
    let seen = sym (ap (λ s. set_of_keys (keys_in s)) c.in-Empty.is) ∙ c.self.view_is in
    let added = set_of-insert [] (c.args.key ∷ []) c.args.key tt tt refl ∙ ap (λ (s : KeySet). insert s c.args.key tt) seen in
    elim c.match-self-2.branch [
      | in-One-1 w ↦ w.self-is ∙ added
      | in-Many-1 w ↦ w.self-is ∙ added
      | in-Empty-1 w ↦ w.self-is ∙ added
    ]

pub returns-in_ok-pair-in-One-clause-ok : goal.returns-in_ok-pair-in-One-clause-ok
returns-in_ok-pair-in-One-clause-ok c =
    let seen = sym (ap (λ s. set_of_keys (keys_in s)) c.in-One.is) ∙ c.self.view_is in
    let both = c.in_ok-pair-in-One.field-0.keys in
    let added = set_of-insert (c.in-One.one ∷ []) both c.args.key tt (marks-ascend both c.in_ok-pair-in-One.ensures.ordered) c.in_ok-pair-in-One.ensures.keys ∙ ap (λ (s : KeySet). insert s c.args.key tt) seen in
    elim c.match-self-3.branch [
      | in-One-2 w ↦ w.self-is ∙ added
      | in-Many-2 w ↦ w.self-is ∙ added
      | in-Empty-2 w ↦ w.self-is ∙ added
    ]

pub returns-else-ne-clause-ok : goal.returns-else-ne-clause-ok
returns-else-ne-clause-ok c =
    let seen = sym (ap (λ s. set_of_keys (keys_in s)) c.in-One.is) ∙ c.self.view_is in
    set_of-again c.in-One.one c.args.key (told_same _ (sym c.ne.ensures ∙ c.if-ne.false)) ∙ ap (λ (s : KeySet). insert s c.args.key tt) seen

pub returns-in_ok-insert-in-Many-clause-ok : goal.returns-in_ok-insert-in-Many-clause-ok
returns-in_ok-insert-in-Many-clause-ok c =
    let seen = sym (ap (λ s. set_of_keys (keys_in s)) c.in-Many.is) ∙ c.self.view_is in
    let ascends = subst (λ s. T (is_sorted line_cmp (map marked (keys_in s)))) c.in-Many.is c.self.invariant in
    set_of-insert c.in-Many.keys.keys c.insert.new.self.keys c.args.key ascends (marks-ascend c.insert.new.self.keys c.in_ok-insert-in-Many.ensures.ordered) c.in_ok-insert-in-Many.ensures.keys
    ∙ ap (λ (s : KeySet). insert s c.args.key tt) seen
