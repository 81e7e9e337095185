-- Why an operation, or the commit, fails, and the error that the client receives (RFC 7047, 3.1 and 5.2).
use Rattle.std.specs.Prelude.{ℕ, List, [], ◌∷◌, codes}
use Rattle.serde_json.specs.Data.{Data, string}
use Rattle.ov_specs.specs.rows.Database.{object_of}

-- why an operation, or the commit, fails (RFC 7047, 3.1, <error>, and 5.2)
pub data OpError : Type 0 where
  SyntaxError : OpError
  UnknownTable : OpError
  UnknownColumn : OpError
  UnknownOperation : OpError
  DuplicateName : OpError
  DuplicateUuid : OpError
  ConstraintViolation : OpError
  DomainError : OpError
  RangeError : OpError
  TimedOut : OpError
  Aborted : OpError
  NotOwner : OpError
  ReferentialIntegrity : OpError
  ResourcesExhausted : OpError
  InputOutput : OpError

-- the text that the client receives (RFC 7047, 3.1, <error>; "unknown .." and "duplicate uuid" are this server's)
abbrev pub error_text : OpError → List ℕ
error_text SyntaxError = codes "syntax error"
error_text UnknownTable = codes "unknown table"
error_text UnknownColumn = codes "unknown column"
error_text UnknownOperation = codes "unknown operation"
error_text DuplicateName = codes "duplicate uuid-name"
error_text DuplicateUuid = codes "duplicate uuid"
error_text ConstraintViolation = codes "constraint violation"
error_text DomainError = codes "domain error"
error_text RangeError = codes "range error"
error_text TimedOut = codes "timed out"
error_text Aborted = codes "aborted"
error_text NotOwner = codes "not owner"
error_text ReferentialIntegrity = codes "referential integrity violation"
error_text ResourcesExhausted = codes "resources exhausted"
error_text InputOutput = codes "I/O error"

-- the result of what failed (RFC 7047, 4.1.3)
abbrev pub error_tree : OpError → Data
error_tree error = object_of ((codes "error", string (error_text error)) ∷ [])
