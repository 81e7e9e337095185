use Rattle.std.proofs.Common.{ap, sym, ◌∙◌}
use Rattle.ov_refs.specs.StoredKeys.{keys_in}
use Rattle.ov_refs.proofs.KeySets.{keys_stored}
use Rattle.ov_refs.proofs.key_set.KeySet.iter.Goals as goal

pub returns-in-Empty : goal.returns-in-Empty
returns-in-Empty c = c.of_few.ensures ∙ sym (keys_stored c.self.inside.stored c.args.self.now c.self.invariant c.self.view_is ∙ ap keys_in c.in-Empty.is)

pub returns-in-One : goal.returns-in-One
returns-in-One c = c.of_few-in-One.ensures ∙ sym (keys_stored c.self.inside.stored c.args.self.now c.self.invariant c.self.view_is ∙ ap keys_in c.in-One.is)

pub returns-in-Many : goal.returns-in-Many
returns-in-Many c = c.of_many.ensures ∙ sym (keys_stored c.self.inside.stored c.args.self.now c.self.invariant c.self.view_is ∙ ap keys_in c.in-Many.is)
