use Rattle.std.proofs.Common.{◌≡◌, ◌==◌, ℕ, Bool, true, false, length, refl, sym, ap, ◌∙◌, arith}
use Rattle.std.proofs.lemmas.Bool.Decides.{nat_tests}
use Rattle.std.specs.Bool.{IsTrue}
use Rattle.std.specs.FinMap.{len, len-entries, entries-from_sorted}
use Rattle.ov_specs.specs.rows.Lines.{line_cmp}
use Rattle.ov_stored.specs.Changing.{Delta}
use Rattle.ov_stored.specs.DeltaModel.{delta_of}
use Rattle.ov_stored.proofs.delta.Delta.is_empty.Goals as goal

by_test : (b : Bool) (n : ℕ) → (IsTrue b → n ≡ 0) → (n ≡ 0 → IsTrue b) → b ≡ (n == 0)
by_test true n zero one = grind (arith, nat_tests, zero refl)
by_test false n zero one = grind (arith, nat_tests, λ (e : n ≡ 0). one e)

pub returns : goal.returns
returns c =
    let entries = c.self.inside.changes.entries in
    let many : len (delta_of entries) ≡ length entries = len-entries (delta_of entries) ∙ ap length (entries-from_sorted line_cmp entries c.self.invariant) in
    by_test c.is_empty.result (length entries) c.is_empty.ensures.0 c.is_empty.ensures.1
    ∙ ap (λ n. n == 0) (sym many) ∙ ap (λ (delta : Delta). len delta == 0) c.self.view_is
