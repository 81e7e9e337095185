-- Which histories a list of stream events makes: the bytes that sessions bring, in whatever pieces, become entries.
use Rattle.std.specs.Prelude.{◌≡◌, ◌⊎◌, ℕ, ◌==◌, ◌++◌, max, map, List, [], ◌∷◌, Bool, true, false, if◌then◌else◌, MatchBool, Some}
use Rattle.ov_specs.specs.wire.Message.{Message, asked}
use Rattle.ov_specs.specs.machine.Machine.{State, Entry, Event, Open, Take, Close, Tick, InputEnded, Damaged, Memory, Stepped, step, is_open}

-- A session opens, bytes of a session arrive, its bytes end, time passes; session n is the n-th that was opened.
pub data StreamEvent : Type 0 where
  Opens : StreamEvent
  Feed : (session : ℕ) (bytes : List ℕ) → StreamEvent
  Finish : (session : ℕ) → StreamEvent
  Passes : (moment : ℕ) → StreamEvent

-- what each session was fed while it was open
abbrev pub Streams : Type 0
Streams = ℕ → List ℕ

-- before any event: nothing was fed
abbrev pub no_streams : Streams
no_streams session = []

-- with these bytes more of a session
abbrev pub with_fed : Streams → ℕ → List ℕ → Streams
with_fed streams session bytes other = if other == session then streams other ++ bytes else streams other

-- The one entry of an event, at this moment or at the last one if that is later, and the step that it makes.
pub record IsEntryAt (at : ℕ) (s : State) (what : Event) (entry : Entry) (t : Stepped) : Type 0 where
  pub event : entry.event ≡ what
  pub moment : entry.choice.moment ≡ max at s.moment
  pub step : step s entry ≡ Some t

-- a piece of this session's stream comes at this moment
pub record Delivery : Type 0 where
  pub moment : ℕ
  pub session : ℕ

-- the delivery of a piece to a session, at a moment
abbrev pub delivered : ℕ → ℕ → Delivery
delivered moment session = record { moment = moment; session = session }

-- out of memory: the session is closed in place of what was due
abbrev pub RunsOut : Delivery → State → Entry → Stepped → Type 0
RunsOut d s entry t = IsEntryAt d.moment s (Close d.session Memory) entry t

-- damage: the stream has it, and the session is closed for it
abbrev pub IsDamage : Delivery → State → Bool → Entry → Stepped → Type 0
IsDamage d s damaged entry t = (damaged ≡ true) × IsEntryAt d.moment s (Close d.session Damaged) entry t

-- the next message of the session is taken
abbrev pub TakesNext : Delivery → State → Message → Entry → Stepped → Type 0
TakesNext d s message entry t = IsEntryAt d.moment s (Take d.session message) entry t

-- The entries of the messages that a piece of the session's stream completes, and then of damage, if it is new. "Out of
-- memory" may close the session in place of each, and after the last; nothing of a closed session follows.
abbrev pub Feeds : Delivery → State → List Message → Bool → List Entry → State → Type 0
Feeds d s [] false [] new = new ≡ s
Feeds d s [] true [] new = ⊥
Feeds d s [] damaged (e ∷ []) new =
    (t : Stepped) × (RunsOut d s e t ⊎ IsDamage d s damaged e t) × (new ≡ t.state)
Feeds d s [] damaged (e ∷ f ∷ entries) new = ⊥
Feeds d s (message ∷ messages) damaged [] new = ⊥
Feeds d s (message ∷ messages) damaged (e ∷ entries) new =
    (t : Stepped) × ((RunsOut d s e t × (entries ≡ []) × (new ≡ t.state))
    ⊎ (TakesNext d s message e t
    × MatchBool (is_open t.state d.session) (Feeds d t.state messages damaged entries new) ((entries ≡ []) × (new ≡ t.state))))

-- a state, and what its sessions were fed
pub record FedState : Type 0 where
  pub state : State
  pub streams : Streams

-- the record of a state and its streams
abbrev pub fed_state : State → Streams → FedState
fed_state state streams = record { state = state; streams = streams }

-- The entries of one stream event, from a state and the streams so far to those after it. A piece brings the messages that the
-- stream asks for with it and not without it; pieces and ends of a session that is not open bring nothing.
abbrev pub Expands : ℕ → FedState → StreamEvent → List Entry → FedState → Type 0
Expands at from Opens entries to =
    (e : Entry) × (t : Stepped) × (entries ≡ e ∷ []) × IsEntryAt at from.state Open e t
    × (to.state ≡ t.state) × (to.streams ≡ from.streams)
Expands at from (Feed n bytes) entries to =
    MatchBool (is_open from.state n)
    ((messages : List Message) × ((asked (from.streams n ++ bytes)).messages ≡ (asked (from.streams n)).messages ++ messages)
    × Feeds (delivered at n) from.state messages (asked (from.streams n ++ bytes)).damaged entries to.state
    × (to.streams ≡ with_fed from.streams n bytes))
    ((entries ≡ []) × (to.state ≡ from.state) × (to.streams ≡ from.streams))
Expands at from (Finish n) entries to =
    MatchBool (is_open from.state n)
    ((e : Entry) × (t : Stepped) × (entries ≡ e ∷ []) × IsEntryAt at from.state (Close n InputEnded) e t
    × (to.state ≡ t.state) × (to.streams ≡ from.streams))
    ((entries ≡ []) × (to.state ≡ from.state) × (to.streams ≡ from.streams))
Expands at from (Passes ms) entries to =
    (e : Entry) × (t : Stepped) × (entries ≡ e ∷ []) × IsEntryAt ms from.state Tick e t
    × (to.state ≡ t.state) × (to.streams ≡ from.streams)

-- the entries of a list of stream events, each at the moment beside it or at the last one if that is later
abbrev pub ExpandsTimed : FedState → List (ℕ × StreamEvent) → List Entry → FedState → Type 0
ExpandsTimed from [] history to = (history ≡ []) × (to ≡ from)
ExpandsTimed from (event ∷ events) history to =
    (front rest : List Entry) × (between : FedState) × (history ≡ front ++ rest)
    × Expands event.0 from event.1 front between × ExpandsTimed between events rest to

-- the entries of a list of stream events: time passes to its own moment, all others have the last one
abbrev pub ExpandsAll : FedState → List StreamEvent → List Entry → FedState → Type 0
ExpandsAll from events history to = ExpandsTimed from (map (λ event. (0, event)) events) history to
