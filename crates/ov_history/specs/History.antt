-- Which entries of the history are kept.
use Rattle.std.specs.Prelude.{◌≡◌, ℕ, ◌-◌, ◌++◌, List, [], ◌∷◌, map, length, drop, Some, true}
use Rattle.std.specs.List.{list_all}
use Rattle.ov_specs.specs.machine.Machine as machine
use Rattle.ov_specs.specs.machine.Machine.{State, Sent, opening}
use Rattle.ov_specs.specs.machine.History.{run}
use Rattle.ov_specs.specs.machine.Suiting.{draws_uuids}
use Rattle.ov_specs.specs.schema.SchemaTypes.{Schema}
use Rattle.ov_specs.specs.rows.Database.{Database}
use Rattle.ov_specs.specs.rows.Suits.{Suits}
use Rattle.ov_history.specs.declared.event.Entry.{Entry}
use Rattle.ov_history.specs.Entries.{entry_view}

-- the most entries that are kept
abbrev pub most_entries : ℕ
most_entries = 4096

-- the newest of the entries: all of them, or as many as are kept
abbrev pub newest : {A : Type 0} → List A → List A
newest entries = drop (length entries - most_entries) entries

-- the history ends with the entries that are kept
abbrev pub Keeps : List Entry → List machine.Entry → Type 0
Keeps kept history = (front : List machine.Entry) × (front ++ map entry_view kept ≡ history)

-- Entries are appended one after another to those that are kept, and the newest stay.
abbrev pub newest_after : List machine.Entry → List machine.Entry → List machine.Entry
newest_after kept [] = kept
newest_after kept (e ∷ entries) = newest_after (newest (kept ++ e ∷ [])) entries

-- these entries were appended to those that were kept
abbrev pub KeepsNewest : List Entry → List machine.Entry → List Entry → Type 0
KeepsNewest old entries new = map entry_view new ≡ newest_after (map entry_view old) entries

-- Some legal history leads from the opening of a database, made of rows of its schema, to the state. Its entries drew
-- identifiers (RFC 4122, 4.1.2), and the entries that are kept are its newest.
pub record HasHistory (state : State) (kept : List Entry) : Type 0 where
  pub schema : Schema
  pub database : Database
  pub suits : Suits schema database
  pub history : List machine.Entry
  pub sent : List Sent
  pub legal : run (opening schema database) history ≡ Some (record { state = state; sent = sent })
  pub uuids : list_all draws_uuids history ≡ true
  pub ends : map entry_view kept ≡ newest history
