-- The format of what an open of a keeper in memory finds.
use Rattle.std.proofs.Common.{◌≡◌, ◌≤◌, ℕ, lit≤, subst, sym, ap, ◌∙◌}
use Rattle.ov_specs.specs.rows.Cells.{Stored, format_of}

-- an open that finds exactly these contents finds their format
pub found_format : (contents : Stored) → format_of contents.lines ≡ 2 → (held : Stored) → held ≡ contents → 2 ≤ format_of held.lines
found_format contents of_format held is = subst (λ (n : ℕ). 2 ≤ n) (sym (ap (λ (s : Stored). format_of s.lines) is ∙ of_format)) (lit≤ tt)
