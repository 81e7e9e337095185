-- Which transactions an event tries: by which attempt, and in which state of the machine (RFC 7047, 4.1.3).
use Rattle.std.specs.Prelude.{◌≡◌, ◌≢◌, ℕ, ◌+◌, List, [], ◌∷◌, ◌++◌, true, Some}
use Rattle.ov_specs.specs.machine.Machine.{State, Event, Take, Tick, Choice, Attempt, Outstanding, Stepped, Tried, Transact, work_of, listed, is_kept, arrived, still_waiting, takes, tries_again}
use Rattle.ov_specs.specs.wire.Message.{Message}
use Rattle.serde_json.specs.Data.{Data, Items}

-- The attempt with this number tries a transaction in a state of the machine; `left` is what is listed from the attempt on.
pub record Trial : Type 0 where
  pub number : ℕ
  pub left : List Attempt
  pub state : State
  pub tried : Outstanding

-- Settling goes on as `Settles` has it, and makes this trial on its way.
pub data SettlingTries : State → List Outstanding → ℕ → List Attempt → Trial → Type 0 where
  -- it is the next try
  tries_next : (s : State) (o : Outstanding) (waiting : List Outstanding) (number : ℕ)
      (attempts : List Attempt)
      → SettlingTries s (o ∷ waiting) number attempts
      (record { number = number; left = attempts; state = s; tried = o })
  -- it comes after a try that leaves the database as it was
  tries_on : (s : State) (o : Outstanding) (waiting : List Outstanding) (number : ℕ)
      (attempts : List Attempt) (t : Stepped) (trial : Trial)
      → tries_again s o (listed number attempts).outcome ≡ Some t → t.state.database ≡ s.database
      → SettlingTries t.state (still_waiting t.state waiting) (number + 1)
      (listed number attempts).others trial
      → SettlingTries s (o ∷ waiting) number attempts trial
  -- it comes after a try whose commit changed the database
  tries_anew : (s : State) (o : Outstanding) (waiting : List Outstanding) (number : ℕ)
      (attempts : List Attempt) (t : Stepped) (trial : Trial)
      → tries_again s o (listed number attempts).outcome ≡ Some t → t.state.database ≢ s.database
      → SettlingTries (record t.state { outstanding = [] })
      (still_waiting t.state (t.state.outstanding ++ waiting)) (number + 1)
      (listed number attempts).others trial
      → SettlingTries s (o ∷ waiting) number attempts trial

-- settling from a state, beginning with the attempt of this number, makes the trial
abbrev pub TriesInSettling : State → ℕ → List Attempt → Trial → Type 0
TriesInSettling s number attempts trial =
    SettlingTries (record s { outstanding = [] }) (still_waiting s s.outstanding)
    number attempts trial

-- The event makes the trial.
pub data EventTries : State → Choice → Event → Trial → Type 0 where
  -- attempt 1 tries what the message asks for
  tries_message : (s : State) (c : Choice) (session : ℕ) (message : Message) (id : Data)
      (operations : Items)
      → work_of s session message ≡ Transact id operations
      → EventTries s c (Take session message)
      (record {
        number = 1;
        left = c.outcomes;
        state = s;
        tried = arrived s session id c.draws operations;
      })
  -- if its commit changed the database, the others try those that wait
  tries_after : (s : State) (c : Choice) (session : ℕ) (message : Message) (t : Tried)
      (trial : Trial)
      → takes s c session message ≡ Some t → is_kept (listed 1 c.outcomes).outcome ≡ true
      → TriesInSettling t.stepped.state 2 t.others trial
      → EventTries s c (Take session message) trial
  -- those of a Tick try those that wait
  tries_waiting : (s : State) (c : Choice) (trial : Trial)
      → TriesInSettling s 1 c.outcomes trial
      → EventTries s c Tick trial
