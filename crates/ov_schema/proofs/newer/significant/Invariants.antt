use Rattle.std.proofs.Common.{◌≡◌, drop}
use Rattle.ov_specs.specs.schema.Newer.{significant}
use Rattle.ov_schema.proofs.newer.significant.Given as goal

abbrev pub invariant-loop-i : goal.invariant-loop-i
invariant-loop-i l = significant l.digits ≡ significant (drop l.i l.digits)
