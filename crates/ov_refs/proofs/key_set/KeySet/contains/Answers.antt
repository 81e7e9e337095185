use Rattle.std.proofs.Common.{ap, sym, ◌∙◌}
use Rattle.std.specs.BTreeMap.{is_at}
use Rattle.std.specs.List.{list_any}
use Rattle.ov_specs.specs.rows.Lines.{line_cmp}
use Rattle.ov_refs.specs.StoredKeys.{keys_in}
use Rattle.ov_refs.proofs.KeySets.{has_stored, or_none}
use Rattle.ov_refs.proofs.key_set.KeySet.contains.Goals as goal

pub returns-in-Empty : goal.returns-in-Empty
returns-in-Empty c =
    let key = c.args.key.now in
    sym (has_stored c.self.inside.stored c.args.self.now c.self.invariant c.self.view_is key ∙ ap (λ s. list_any (is_at (line_cmp key)) (keys_in s)) c.in-Empty.is)

pub returns-in-One : goal.returns-in-One
returns-in-One c =
    let key = c.args.key.now in
    c.eq.ensures ∙ sym (or_none (is_at (line_cmp key) c.in-One.one))
    ∙ sym (has_stored c.self.inside.stored c.args.self.now c.self.invariant c.self.view_is key ∙ ap (λ s. list_any (is_at (line_cmp key)) (keys_in s)) c.in-One.is)

pub returns-in-Many : goal.returns-in-Many
returns-in-Many c =
    let key = c.args.key.now in
    c.contains.ensures ∙ sym (has_stored c.self.inside.stored c.args.self.now c.self.invariant c.self.view_is key ∙ ap (λ s. list_any (is_at (line_cmp key)) (keys_in s)) c.in-Many.is)
