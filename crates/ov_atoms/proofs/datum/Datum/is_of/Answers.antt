use Rattle.std.proofs.Common.{sym, ap, ◌∙◌}
use Rattle.std.specs.List.{list_all}
use Rattle.ov_specs.specs.values.Value.{is_atom_of, is_pair_of, is_of}
use Rattle.ov_atoms.specs.Views.{kind_view, kinds_view, pairs_view}
use Rattle.ov_atoms.proofs.Trees.{is_of-atoms, is_of-pairs}
use Rattle.ov_atoms.proofs.datum.Datum.is_of.Goals as goal

pub returns-in-Atoms : goal.returns-in-Atoms
returns-in-Atoms c =
    let kind = kind_view c.in-Single.kind in
    c.are_atoms_of.ensures ∙ ap (λ xs. list_all (is_atom_of kind) xs) c.as_slice.ensures
    ∙ is_of-atoms kind c.self.inside.parts c.in-Atoms.atoms c.args.self.now c.in-Atoms.is c.self.invariant c.self.view_is
    ∙ ap (λ kinds. is_of (kinds_view kinds) c.args.self.now) (sym c.in-Single.is)

pub returns-in-Pairs-parts : goal.returns-in-Pairs-parts
returns-in-Pairs-parts c =
    let key = kind_view c.in-Pair.key in
    let val = kind_view c.in-Pair.value in
    c.are_pairs_of.ensures ∙ ap (λ xs. list_all (is_pair_of key val) (pairs_view xs)) c.as_slice-in-Pairs-parts.ensures.value
    ∙ is_of-pairs key val c.self.inside.parts c.in-Pairs-parts.pairs c.args.self.now c.in-Pairs-parts.is c.self.invariant c.self.view_is
    ∙ ap (λ kinds. is_of (kinds_view kinds) c.args.self.now) (sym c.in-Pair.is)
