-- comment: a text for a log, which this server does not have (RFC 7047, 5.2.9).
use Rattle.std.specs.Prelude.{codes}
use Rattle.serde_json.specs.Data.{Data}
use Rattle.ov_specs.specs.operations.Errors.{SyntaxError}
use Rattle.ov_specs.specs.operations.Members.{text_at}
use Rattle.ov_specs.specs.operations.OpOutcome.{OpOutcome, Done, empty_result, some_or_fault}
use Rattle.ov_specs.specs.rows.Database.{Database}

-- "comment" is any text (RFC 7047, 5.2.9)
abbrev pub comment_outcome : Database → Data → OpOutcome
comment_outcome rows d = some_or_fault (text_at (codes "comment") d) SyntaxError (λ text. Done empty_result rows)
