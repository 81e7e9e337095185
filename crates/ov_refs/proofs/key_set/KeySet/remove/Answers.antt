use Rattle.std.proofs.Common.{T, map, ap, sym, subst, ◌∙◌}
use Rattle.std.specs.FinMap.{is_sorted, remove}
use Rattle.ov_specs.specs.rows.Lines.{line_cmp}
use Rattle.ov_refs.specs.Holding.{KeySet, set_of_keys}
use Rattle.ov_specs.specs.values.Value.{marked}
use Rattle.ov_refs.specs.StoredKeys.{keys_in}
use Rattle.ov_refs.proofs.KeySets.{marks-ascend, set_of-remove, set_of-none, set_of-gone, set_of-other}
use Rattle.ov_refs.proofs.key_set.KeySet.remove.Goals.{in-One-1, in-Many-1, in-Empty-1}
use Rattle.ov_refs.proofs.key_set.KeySet.remove.Goals as goal

pub invariant_of-self-in-Many : goal.invariant_of-self-in-Many
invariant_of-self-in-Many c = marks-ascend c.remove.new.self.keys c.remove.ensures.ordered

pub returns-in-Empty : goal.returns-in-Empty
returns-in-Empty c =
    let seen = sym (ap (λ s. set_of_keys (keys_in s)) c.in-Empty.is) ∙ c.self.view_is in
    ap (λ s. set_of_keys (keys_in s)) c.in-Empty.is ∙ set_of-none c.args.key.now ∙ ap (λ (s : KeySet). remove s c.args.key.now) seen

pub returns-then-eq : goal.returns-then-eq
returns-then-eq c =
    let seen = sym (ap (λ s. set_of_keys (keys_in s)) c.in-One.is) ∙ c.self.view_is in
    let gone = set_of-gone c.in-One.one c.args.key.now (sym c.eq.ensures ∙ c.if-eq.true) ∙ ap (λ (s : KeySet). remove s c.args.key.now) seen in
    elim c.match-self-2.branch [
      | in-One-1 w ↦ w.self-is ∙ gone
      | in-Many-1 w ↦ w.self-is ∙ gone
      | in-Empty-1 w ↦ w.self-is ∙ gone
    ]

pub returns-else-eq : goal.returns-else-eq
returns-else-eq c =
    let seen = sym (ap (λ s. set_of_keys (keys_in s)) c.in-One.is) ∙ c.self.view_is in
    set_of-other c.in-One.one c.args.key.now (sym c.eq.ensures ∙ c.if-eq.false) ∙ ap (λ (s : KeySet). remove s c.args.key.now) seen

pub returns-in-Many : goal.returns-in-Many
returns-in-Many c =
    let seen = sym (ap (λ s. set_of_keys (keys_in s)) c.in-Many.is) ∙ c.self.view_is in
    let ascends = subst (λ s. T (is_sorted line_cmp (map marked (keys_in s)))) c.in-Many.is c.self.invariant in
    set_of-remove c.in-Many.keys.keys c.remove.new.self.keys c.args.key.now ascends (marks-ascend c.remove.new.self.keys c.remove.ensures.ordered) c.remove.ensures.updates.0
    ∙ ap (λ (s : KeySet). remove s c.args.key.now) seen
