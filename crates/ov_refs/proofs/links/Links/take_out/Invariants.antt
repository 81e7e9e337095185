use Rattle.std.proofs.Common.{◌≡◌, drop}
use Rattle.ov_refs.specs.Linking.{without_references}
use Rattle.ov_refs.proofs.links.Links.take_out.Given as goal

abbrev pub invariant-loop-reference : goal.invariant-loop-reference
invariant-loop-reference l = without_references (drop l.reference-index l.references) l.self ≡ without_references l.references l.fn.self
