use Rattle.std.proofs.Common.{length, sym, ap, ◌∙◌}
use Rattle.std.proofs.lemmas.List.{length-map}
use Rattle.ov_atoms.proofs.Trees.{count-atoms, count-pairs}
use Rattle.ov_atoms.proofs.datum.Datum.count.Goals as goal

pub returns-in-Atoms : goal.returns-in-Atoms
returns-in-Atoms c = sym (length-map c.as_slice.result.now _) ∙ (ap length c.as_slice.ensures ∙ count-atoms c.self.inside.parts c.in-Atoms.atoms c.args.self.now c.in-Atoms.is c.self.invariant c.self.view_is)

pub returns-in-Pairs : goal.returns-in-Pairs
returns-in-Pairs c = ap length c.as_slice-in-Pairs.ensures.value ∙ count-pairs c.self.inside.parts c.in-Pairs.pairs c.args.self.now c.in-Pairs.is c.self.invariant c.self.view_is
