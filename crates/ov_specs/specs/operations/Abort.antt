-- abort: the transaction fails (RFC 7047, 5.2.8).
use Rattle.ov_specs.specs.operations.Errors.{Aborted}
use Rattle.ov_specs.specs.operations.OpOutcome.{OpOutcome, Fault}

-- whatever members it has (RFC 7047, 5.2.8)
abbrev pub abort_outcome : OpOutcome
abort_outcome = Fault Aborted
