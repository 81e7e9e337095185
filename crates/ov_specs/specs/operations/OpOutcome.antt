-- The context of an operation, and what it comes to (RFC 7047, 4.1.3 and 5.2).
use Rattle.std.specs.Prelude.{ℕ, List, Bool, Option, Some, None, codes, Result, Ok, Err}
use Rattle.std.specs.FinMap.{get}
use Rattle.serde_json.specs.Data.{Data, object, Items, no_members}
use Rattle.ov_specs.specs.operations.Errors.{OpError, SyntaxError, UnknownTable}
use Rattle.ov_specs.specs.operations.NamedUuids.{uuids_named}
use Rattle.ov_specs.specs.operations.Members.{text_at}
use Rattle.ov_specs.specs.rows.Database.{Database}
use Rattle.ov_specs.specs.schema.SchemaTypes.{Table, Schema}
use Rattle.ov_specs.specs.values.Uuid.{Uuid, Names}

-- for each lock, by its name, whether the asking session owns it (RFC 7047, 4.1.8)
abbrev pub Owns : Type 0
Owns = List ℕ → Bool

-- The transaction that an operation is part of: its database, what its session owns, which identifiers it gives, and how old
-- it is.
pub record OpContext : Type 0 where
  pub schema : Schema
  pub before : Database  -- as it was before the transaction
  pub owns : Owns  -- as it is tried
  pub version : Uuid  -- of the rows that the transaction changes
  pub ids : List Uuid  -- of the rows that it inserts, in order
  pub operations : Items  -- all of them
  pub age : ℕ  -- the milliseconds since it arrived

-- An operation has a result and leaves rows; or it has an error; or it waits, and is given up after this many milliseconds, if
-- ever (RFC 7047, 4.1.3 and 5.2.6).
pub data OpOutcome : Type 0 where
  Done : (result : Data) (rows : Database) → OpOutcome
  Fault : (error : OpError) → OpOutcome
  Blocked : (timeout : Option ℕ) → OpOutcome

-- what a name stands for in the transaction (RFC 7047, 5.1, <named-uuid>)
abbrev pub names_in : OpContext → Names
names_in c = uuids_named c.ids c.operations

-- the result {} (RFC 7047, 5.2.6, 5.2.7 and 5.2.9)
abbrev pub empty_result : Data
empty_result = object no_members

-- goes on with what was found, or else has this error
abbrev pub some_or_fault : {A : Type 0} → Option A → OpError → (A → OpOutcome) → OpOutcome
some_or_fault None error next = Fault error
some_or_fault (Some a) error next = next a

-- goes on with what came out, or else has its error
abbrev pub ok_or_fault : {A : Type 0} → Result A OpError → (A → OpOutcome) → OpOutcome
ok_or_fault (Err error) next = Fault error
ok_or_fault (Ok a) next = next a

-- the outcome, unless there is an error
abbrev pub unless_fault : Option OpError → OpOutcome → OpOutcome
unless_fault None outcome = outcome
unless_fault (Some error) outcome = Fault error

-- The table that the operation names: "table" is a text (else a syntax error), and a table of the schema (RFC 7047, 5.2).
abbrev pub on_table : OpContext → Data → (List ℕ → Table → OpOutcome) → OpOutcome
on_table c d next =
    some_or_fault (text_at (codes "table") d) SyntaxError
    (λ name. some_or_fault (get c.schema.tables name) UnknownTable (λ table. next name table))
