use Rattle.std.proofs.Common.{◌≡◌, take}
use Rattle.std.specs.List.{list_any}
use Rattle.ov_specs.specs.rows.Database.{same_columns}
use Rattle.ov_projection.proofs.Repeats.{Shown}
use Rattle.ov_projection.proofs.Showing.{any_at}
use Rattle.ov_given.proofs.until.rows_known.Given as goal

abbrev pub invariant-loop-row : goal.invariant-loop-row
invariant-loop-row l = (q : Shown) → any_at q l.known.keys ≡ list_any (λ x. same_columns x q) (take l.row-index l.rows)
