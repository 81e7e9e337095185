-- How the members of a wait are read, one after another.
use Rattle.std.proofs.Common.{◌≡◌, ℕ, List, map, ap, ◌∙◌, codes}
use Rattle.std.specs.Prelude.{Option, Some, None, Result, Ok, option_and_then}
use Rattle.serde_json.specs.Data.{Data, Items}
use Rattle.serde_json.specs.Find as find
use Rattle.ov_specs.specs.operations.Conditions.{Condition}
use Rattle.ov_specs.specs.operations.Errors.{OpError, SyntaxError}
use Rattle.ov_specs.specs.operations.MatchingRows.{on_conditions, matching}
use Rattle.ov_specs.specs.operations.Select.{projection}
use Rattle.ov_specs.specs.operations.Members.{text_at, array_at}
use Rattle.ov_specs.specs.operations.OpOutcome.{OpContext, OpOutcome, Fault, names_in, some_or_fault, ok_or_fault}
use Rattle.ov_specs.specs.operations.Wait.{Until, timeout_read, compared_columns, until_of, told_rows, is_met, waits}
use Rattle.ov_specs.specs.rows.Database.{Database}
use Rattle.ov_specs.specs.schema.SchemaTypes.{Table}
use Rattle.ov_specs.specs.values.Value.{Datum}

module _ (t : OpContext) (rows : Database) (d : Data) (name : List ℕ) (table : Table) where
  abbrev pub from_told : Option ℕ → List Condition → List (List ℕ) → Until → List (List (List ℕ × Datum)) → OpOutcome
  from_told timeout conditions compared until told = waits t timeout (is_met until (map (projection compared) (matching rows name conditions)) told) rows

  abbrev pub from_until : Option ℕ → List Condition → List (List ℕ) → Until → OpOutcome
  from_until timeout conditions compared until = some_or_fault (array_at (codes "rows") d) SyntaxError (λ items. ok_or_fault (told_rows (names_in t) table compared items) (from_told timeout conditions compared until))

  abbrev pub from_compared : Option ℕ → List Condition → List (List ℕ) → OpOutcome
  from_compared timeout conditions compared = some_or_fault (option_and_then until_of (text_at (codes "until") d)) SyntaxError (from_until timeout conditions compared)

  abbrev pub from_conditions : Option ℕ → List Condition → OpOutcome
  from_conditions timeout conditions = ok_or_fault (compared_columns table (find.get (codes "columns") d)) (from_compared timeout conditions)

  abbrev pub from_timeout : Option ℕ → OpOutcome
  from_timeout timeout = on_conditions t table d (from_conditions timeout)

  abbrev pub from_table : OpOutcome
  from_table = ok_or_fault (timeout_read (find.get (codes "timeout") d)) from_timeout

  module _ (outcome : OpOutcome) (timeout : Option ℕ) (begins : outcome ≡ from_table) (timed : timeout_read (find.get (codes "timeout") d) ≡ Ok timeout) where
    pub to_timeout : outcome ≡ from_timeout timeout
    to_timeout = begins ∙ ap (λ (r : Result (Option ℕ) OpError). ok_or_fault r from_timeout) timed

    module _ (conditions : List Condition) (read : from_timeout timeout ≡ from_conditions timeout conditions) where
      pub to_conditions : outcome ≡ from_conditions timeout conditions
      to_conditions = to_timeout ∙ read

      module _ (compared : List (List ℕ)) (chosen : compared_columns table (find.get (codes "columns") d) ≡ Ok compared) where
        pub to_compared : outcome ≡ from_compared timeout conditions compared
        to_compared = to_conditions ∙ ap (λ (r : Result (List (List ℕ)) OpError). ok_or_fault r (from_compared timeout conditions)) chosen

        pub to_no_until : option_and_then until_of (text_at (codes "until") d) ≡ None → outcome ≡ Fault SyntaxError
        to_no_until h = to_compared ∙ ap (λ (o : Option Until). some_or_fault o SyntaxError (from_until timeout conditions compared)) h

        module _ (until : Until) (asked : option_and_then until_of (text_at (codes "until") d) ≡ Some until) where
          pub to_until : outcome ≡ from_until timeout conditions compared until
          to_until = to_compared ∙ ap (λ (o : Option Until). some_or_fault o SyntaxError (from_until timeout conditions compared)) asked

          pub to_no_rows : array_at (codes "rows") d ≡ None → outcome ≡ Fault SyntaxError
          to_no_rows h = to_until ∙ ap (λ (o : Option Items). some_or_fault o SyntaxError (λ ds. ok_or_fault (told_rows (names_in t) table compared ds) (from_told timeout conditions compared until))) h

          pub to_rows : (items : Items) → array_at (codes "rows") d ≡ Some items → outcome ≡ ok_or_fault (told_rows (names_in t) table compared items) (from_told timeout conditions compared until)
          to_rows items h = to_until ∙ ap (λ (o : Option Items). some_or_fault o SyntaxError (λ ds. ok_or_fault (told_rows (names_in t) table compared ds) (from_told timeout conditions compared until))) h
