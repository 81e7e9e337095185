use Rattle.std.proofs.Common.{◌∙◌}
use Rattle.ov_atoms.proofs.Ordered.{cmp-atoms, cmp-pairs}
use Rattle.ov_atoms.proofs.order.DatumOrd.cmp.Goals as goal

pub returns-in-Atoms-Atoms : goal.returns-in-Atoms-Atoms
returns-in-Atoms-Atoms c =
    c.cmp.ensures ∙ cmp-atoms c.self.inside.parts c.other.inside.parts c.in-Atoms-Atoms.a c.in-Atoms-Atoms.b c.args.self.now c.args.other.now
    c.in-Atoms-Atoms.is-0 c.in-Atoms-Atoms.is-1 c.self.invariant c.other.invariant c.self.view_is c.other.view_is
    c.as_slice.result.now c.as_slice-in-Atoms-Atoms.result.now c.as_slice.ensures c.as_slice-in-Atoms-Atoms.ensures

pub returns-in-Pairs-Pairs : goal.returns-in-Pairs-Pairs
returns-in-Pairs-Pairs c =
    c.cmp-in-Pairs-Pairs.ensures ∙ cmp-pairs c.self.inside.parts c.other.inside.parts c.in-Pairs-Pairs.a c.in-Pairs-Pairs.b c.args.self.now c.args.other.now
    c.in-Pairs-Pairs.is-0 c.in-Pairs-Pairs.is-1 c.self.invariant c.other.invariant c.self.view_is c.other.view_is
    c.as_slice-in-Pairs-Pairs.result.now c.as_slice-in-Pairs-Pairs-2.result.now c.as_slice-in-Pairs-Pairs.ensures.value c.as_slice-in-Pairs-Pairs-2.ensures.value
