-- commit: "durable" asks for what every commit is here (RFC 7047, 5.2.7; that each is durable is this server's choice).
use Rattle.std.specs.Prelude.{option_and_then, codes}
use Rattle.serde_json.specs.Data.{Data}
use Rattle.serde_json.specs.Find as find
use Rattle.serde_json.specs.Find.{as_bool}
use Rattle.ov_specs.specs.operations.Errors.{SyntaxError}
use Rattle.ov_specs.specs.operations.OpOutcome.{OpOutcome, Done, empty_result, some_or_fault}
use Rattle.ov_specs.specs.rows.Database.{Database}

-- "durable" is either truth value (RFC 7047, 5.2.7)
abbrev pub commit_outcome : Database → Data → OpOutcome
commit_outcome rows d =
    some_or_fault (option_and_then as_bool (find.get (codes "durable") d)) SyntaxError (λ durable. Done empty_result rows)
