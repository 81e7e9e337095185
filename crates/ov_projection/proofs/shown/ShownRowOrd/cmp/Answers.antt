use Rattle.std.proofs.Common.{◌∙◌}
use Rattle.std.specs.Cmp.Lexicographic.{slice_cmp}
use Rattle.ov_rows.specs.Named.{named}
use Rattle.ov_specs.proofs.laws.Sameness.{column_cmp}
use Rattle.ov_projection.proofs.Showing.{cmp-named}
use Rattle.ov_projection.proofs.shown.ShownRowOrd.cmp.Goals as goal

pub returns : goal.returns
returns c =
    c.cmp.ensures ∙ cmp-named c.as_slice.result.now c.as_slice-2.result.now
    ∙ (λ i. slice_cmp column_cmp (named (c.as_slice.ensures.value i)) (named (c.as_slice-2.ensures.value i))) ∙ (λ i. slice_cmp column_cmp (c.self.view_is i) (c.other.view_is i))
