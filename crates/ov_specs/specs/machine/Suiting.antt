-- States of the machine whose rows are rows of the schema, and whole.
use Rattle.std.specs.Prelude.{◌≡◌, Bool, true, Some}
use Rattle.std.specs.List.{list_all}
use Rattle.ov_specs.specs.integrity.Committed.{is_whole}
use Rattle.ov_specs.specs.machine.Machine.{State, Entry}
use Rattle.ov_specs.specs.rows.Database.{Database}
use Rattle.ov_specs.specs.rows.Suits.{Suits}
use Rattle.ov_specs.specs.values.Uuid.{is_uuid}

-- The committed rows are rows of the schema, and so are those that a failed commit would have made; and what was drawn for
-- each waiting transaction are identifiers (RFC 4122, 4.1.2).
pub record SuitsState (s : State) : Type 0 where
  pub committed : Suits s.schema s.database
  pub sealed : (database : Database) → s.sealed ≡ Some database → Suits s.schema database
  pub drawn : list_all (λ o. list_all is_uuid o.draws) s.outstanding ≡ true

-- In the committed rows, and in those that a failed commit would have made, each reference is to a row, each row is
-- supported, and no limit is broken.
pub record IsWholeState (s : State) : Type 0 where
  pub committed : is_whole s.schema s.database ≡ true
  pub sealed : (database : Database) → s.sealed ≡ Some database → is_whole s.schema database ≡ true

-- what was drawn are identifiers (RFC 4122, 4.1.2)
abbrev pub draws_uuids : Entry → Bool
draws_uuids entry = list_all is_uuid entry.choice.draws
