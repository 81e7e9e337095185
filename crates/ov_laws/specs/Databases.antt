-- The databases of a history, one after another: the one before it, and the one after each commit that the store kept (RFC
-- 7047, 4.1.3).
use Rattle.std.specs.Prelude.{◌≡◌, ℕ, zero, suc, List, [], ◌∷◌, ◌++◌, length, filter, if◌then◌else◌, Option, Some, None}
use Rattle.std.specs.List.{flat_map}
use Rattle.ov_specs.specs.machine.Machine.{State, Event, Open, Take, Close, Tick, Choice, Entry, Attempt, listed, is_kept, pass, takes, step}
use Rattle.ov_specs.specs.rows.Database.{Database}
use Rattle.ov_specs.specs.wire.Message.{Message}

-- the databases that are read of this, or none if the choice does not suit
abbrev pub if_suits : {A : Type 0} → Option A → (A → List Database) → List Database
if_suits None read = []
if_suits (Some a) read = read a

-- those kept by passes over the waiting transactions: a pass ends with the try that is kept, and another pass follows it
abbrev pub kept_by_passes : ℕ → State → ℕ → List Attempt → List Database
kept_by_passes zero s number attempts = []
kept_by_passes (suc most) s number attempts =
    if_suits (pass (record s { outstanding = [] }) number attempts s.outstanding)
    (λ p. if p.has_changed
    then p.tried.stepped.state.database
    ∷ kept_by_passes most p.tried.stepped.state p.next p.tried.others
    else [])

-- those kept by settling, which makes at most as many passes as there are waiting transactions
abbrev pub kept_by_settling : State → ℕ → List Attempt → List Database
kept_by_settling s number attempts = kept_by_passes (length s.outstanding) s number attempts

-- those kept by a message: if the work on it is kept, the waiting transactions are tried after it
abbrev pub kept_by_message : State → Choice → ℕ → Message → List Database
kept_by_message s c session message = if_suits (takes s c session message)
    (λ t. if is_kept (listed 1 c.outcomes).outcome
    then t.stepped.state.database ∷ kept_by_settling t.stepped.state 2 t.others
    else [])

-- those kept by an event
abbrev pub kept_by_event : State → Choice → Event → List Database
kept_by_event s c Open = []
kept_by_event s c (Take session message) = kept_by_message s c session message
kept_by_event s c (Close session cause) = []
kept_by_event s c Tick = kept_by_settling s 1 c.outcomes

-- the state at the moment of the entry
abbrev pub at_moment_of : Entry → State → State
at_moment_of e s = record s { moment = e.choice.moment }

-- those kept by the entries, from this state on
abbrev pub kept_by : State → List Entry → List Database
kept_by s [] = []
kept_by s (e ∷ history) = if_suits (step s e)
    (λ t. kept_by_event (at_moment_of e s) e.choice e.event ++ kept_by t.state history)

-- the databases of the history from this state on
abbrev pub databases : State → List Entry → List Database
databases s history = s.database ∷ kept_by s history

-- the database is the last of these
abbrev pub IsLastOf : Database → List Database → Type 0
IsLastOf last all = (earlier : List Database) × (all ≡ earlier ++ last ∷ [])

-- the attempts of these whose changes the store kept
abbrev pub commits_of : List Attempt → List Attempt
commits_of attempts = filter (λ a. is_kept (Some a.outcome)) attempts

-- the attempts of the entries whose changes the store kept
abbrev pub commits_in : List Entry → List Attempt
commits_in history = commits_of (flat_map (λ e. e.choice.outcomes) history)
