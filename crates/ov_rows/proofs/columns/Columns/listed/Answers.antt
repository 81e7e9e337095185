use Rattle.std.proofs.Common.{◌≡◌, sym, ap, subst, ◌∙◌}
use Rattle.ov_rows.specs.Named.{columns_at, IsListed}
use Rattle.ov_rows.specs.Spread.{own_among, spread}
use Rattle.ov_rows.proofs.columns.Columns.listed.Goals as goal
use Rattle.ov_rows.proofs.columns.Columns.listed.Goals.{In_ok-own}

-- the marks and the row's own values give back the values
given_back : (c : In_ok-own) → spread c.marks_of-marks.result c.args.shape.defaults c.in_ok-own.own.items ≡ c.args.values.items
given_back c =
    let own : c.in_ok-own.own.items ≡ own_among c.marks_of-marks.result c.as_slice.result.now = c.in_ok-own.ensures ∙ ap (own_among c.marks_of-marks.result) (sym c.as_slice.ensures.value) in
    (λ i. spread c.marks_of-marks.result (sym c.defaults.ensures i) (own i)) ∙ c.marks_of-marks.ensures ∙ c.as_slice.ensures.value

pub invariant_of-result : goal.invariant_of-result
invariant_of-result c = subst (IsListed c.args.shape.names) (sym (given_back c)) c.requires

pub returns : goal.returns
returns c = ap (columns_at c.args.shape.names) (given_back c)
