use Rattle.std.proofs.Common.{◌≡◌, drop}
use Rattle.std.specs.List.{list_all}
use Rattle.ov_projection.proofs.Showing.{any_at}
use Rattle.ov_given.proofs.until.are_known.Given as goal

abbrev pub invariant-loop-row : goal.invariant-loop-row
invariant-loop-row l = list_all (λ row. any_at row l.known.keys) l.rows ≡ list_all (λ row. any_at row l.known.keys) (drop l.row-index l.rows)
