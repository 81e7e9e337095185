use Rattle.std.proofs.Common.{length, ap, sym, ◌∙◌}
use Rattle.ov_refs.specs.StoredKeys.{keys_in}
use Rattle.ov_refs.proofs.KeySets.{len_stored}
use Rattle.ov_refs.proofs.key_set.KeySet.len.Goals as goal

pub returns-in-Empty : goal.returns-in-Empty
returns-in-Empty c = sym (len_stored c.self.inside.stored c.args.self.now c.self.invariant c.self.view_is ∙ ap (λ s. length (keys_in s)) c.in-Empty.is)

pub returns-in-One : goal.returns-in-One
returns-in-One c = sym (len_stored c.self.inside.stored c.args.self.now c.self.invariant c.self.view_is ∙ ap (λ s. length (keys_in s)) c.in-One.is)

pub returns-in-Many : goal.returns-in-Many
returns-in-Many c = c.len.ensures.len ∙ sym (len_stored c.self.inside.stored c.args.self.now c.self.invariant c.self.view_is ∙ ap (λ s. length (keys_in s)) c.in-Many.is)
