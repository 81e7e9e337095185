-- Each step of the machine keeps the rows those of the schema.
use Rattle.std.proofs.Common.{◌≡◌, List, true, Some, subst}
use Rattle.std.specs.List.{list_all}
use Rattle.ov_specs.specs.machine.History.{run}
use Rattle.ov_specs.specs.machine.Machine.{State, Entry, Stepped, step, opening}
use Rattle.ov_specs.specs.machine.Suiting.{SuitsState, draws_uuids}
use Rattle.ov_specs.specs.rows.Database.{Database}
use Rattle.ov_specs.specs.rows.Suits.{Suits}
use Rattle.ov_specs.specs.schema.SchemaTypes.{Schema}
use Rattle.ov_specs.specs.values.Uuid.{is_uuid}
use Rattle.ov_specs.proofs.laws.OutcomeSuiting.{SuitsTransaction, transaction_suits}
use Rattle.ov_specs.proofs.laws.StepKeeping.{Holds, IsKept, opening_holds, step_holds, run_holds}

of_suits : (s : State) → SuitsState s → Holds Suits (list_all is_uuid) s
of_suits s suits = record { committed = suits.committed; sealed = suits.sealed; drawn = suits.drawn }

to_suits : (s : State) → Holds Suits (list_all is_uuid) s → SuitsState s
to_suits s holds = record { committed = holds.committed; sealed = holds.sealed; drawn = holds.drawn }

suits_kept : IsKept Suits (list_all is_uuid)
suits_kept schema before database owns draws age operations results are suits completes = subst (SuitsTransaction schema) completes (transaction_suits schema before owns draws age operations are suits)

-- a step keeps the schema, and the rows those of the schema
pub step_suits : (s : State) (e : Entry) (t : Stepped) → step s e ≡ Some t → draws_uuids e ≡ true → SuitsState s → (t.state.schema ≡ s.schema) × SuitsState t.state
step_suits s e t h are suits =
    let stays = step_holds Suits (list_all is_uuid) suits_kept s e t h are (of_suits s suits) in
    (stays.0, to_suits t.state stays.1)

-- a run keeps the schema, and the rows those of the schema
pub run_suits : (s : State) (history : List Entry) (t : Stepped) → run s history ≡ Some t → list_all draws_uuids history ≡ true → SuitsState s → (t.state.schema ≡ s.schema) × SuitsState t.state
run_suits s history t h are suits =
    let stays = run_holds Suits (list_all is_uuid) suits_kept s history t h are (of_suits s suits) in
    (stays.0, to_suits t.state stays.1)

pub opening_suits : (schema : Schema) (database : Database) → Suits schema database → SuitsState (opening schema database)
opening_suits schema database suits = to_suits (opening schema database) (opening_holds Suits (list_all is_uuid) schema database suits)
