use Rattle.std.proofs.Common.{◌≡◌, sym, ◌∙◌}
use Rattle.std.specs.Cmp.{eq_by_cmp_equiv}
use Rattle.std.specs.Cmp.Lexicographic.{lists_total}
use Rattle.std.specs.List.{list_all, list_any}
use Rattle.ov_specs.specs.rows.Database.{same_columns}
use Rattle.ov_specs.proofs.laws.Sameness.{column_cmp_total, columns-tied}
use Rattle.ov_projection.proofs.Repeats.{Shown}
use Rattle.ov_projection.proofs.Showing.{any_at}
use Rattle.ov_given.proofs.until.are_among.Goals as goal

turned : (a b : Shown) → same_columns a b ≡ same_columns b a
turned a b = columns-tied a b ∙ ((eq_by_cmp_equiv (lists_total column_cmp_total)).symm a b ∙ sym (columns-tied b a))

pub returns : goal.returns
returns c =
    let others = c.args.others.now in
    let is : (row : Shown) → any_at row c.in_ok-known.known.keys ≡ list_any (same_columns row) others = λ row. c.in_ok-known.ensures row ∙ (λ i. list_any (λ other. turned other row i) others) in
    c.are_known.ensures ∙ (λ i. list_all (λ row. is row i) c.args.rows.now)
