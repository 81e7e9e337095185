-- What single moves make of a core; for private clauses.
use Rattle.std.specs.Prelude.{◌≡◌, ◌⊎◌, ◌≤◌, ℕ, max, List, [], ◌∷◌, ◌++◌, length, Bool, true, false, Option, Some, MatchBool}
use Rattle.ov_specs.specs.machine.Machine as machine
use Rattle.ov_specs.specs.machine.Machine.{is_open}
use Rattle.ov_outbox.specs.Frames.{waiting_for}
use Rattle.ov_order.specs.declared.items.Sent.{Sent}
use Rattle.ov_history.specs.declared.event.Cause.{Cause}
use Rattle.ov_history.specs.Entries.{cause_view}
use Rattle.ov_core.specs.Following.{CoreState}
use Rattle.ov_core.specs.Stepping.{Closes, StepIs}
use Rattle.ov_history.specs.declared.event.Stepped.{Stepped}
use Rattle.ov_specs.specs.values.Uuid.{Uuid}
use Rattle.ov_specs.specs.wire.Message.{Message}
use Rattle.ov_order.specs.declared.items.Brought.{Brought}
use Rattle.ov_order.specs.declared.items.Brought.TheVariants.{Message as Brings, End as Last}
use Rattle.ov_workers.specs.declared.cause.ReadCause.{ReadCause}
use Rattle.rtrb.specs.Ring.{SameProducer}
use Rattle.ov_lanes.specs.Since.{HandsOut}
use Rattle.ov_lanes.specs.Fitting.{framed, most_frames, end_cause}
use Rattle.ov_lanes.specs.declared.lane.Lane.{Lane}

-- The session was closed for the cause, which is then known; or it was not open, and nothing was done.
abbrev pub ClosesOnce : {K D : Type 0} → ℕ → machine.Cause → CoreState K D → CoreState K D → Option Cause → Option Cause → Type 0
ClosesOnce n why old new known known' =
    (Closes old.state.moment n why old new × ((cause : Cause) × (known' ≡ Some cause) × (cause_view cause ≡ why)))
    ⊎ ((new ≡ old) × (is_open old.state n ≡ false) × (known' ≡ known))

-- one frame more than these was handed out
abbrev pub DropsOne : List (List ℕ) → List (List ℕ) → Type 0
DropsOne moved frames = (last : List ℕ) × (frames ≡ moved ++ last ∷ [])

-- Frames were handed out and put into the ring: all that waited, or all but the last one, for which there was no room.
pub record MovesFrames {K D : Type 0} (n : ℕ) (is_all : Bool) (old new : CoreState K D) (put put' : List Sent) : Type 0 where
  pub frames : List (List ℕ)
  pub moved : List (List ℕ)
  pub hands : HandsOut n frames old new
  pub puts : put' ≡ put ++ framed moved
  pub all : MatchBool is_all ((moved ≡ frames) × (waiting_for n new.outbox ≡ [])) (DropsOne moved frames × (most_frames ≤ length put'))

-- The session was closed, if it was open, because it did not take what was sent to it, and what waited for it was dropped.
pub record GivesUp {K D : Type 0} (n : ℕ) (old new : CoreState K D) (known known' : Option Cause) : Type 0 where
  pub mid : CoreState K D
  pub closes : ClosesOnce n machine.Overrun old mid known known'
  pub drops : HandsOut n (waiting_for n mid.outbox) mid new
  pub none_left : waiting_for n new.outbox ≡ []

-- only what was put and what is known of a closing are changed
abbrev pub SameInbound : Lane → Lane → Type 0
SameInbound a b = SameProducer a.outbound b.outbound × (b.inbound ≡ a.inbound) × (b.session ≡ a.session) × (b.ended ≡ a.ended)

-- a machine, beside the lane of one of its sessions
pub record AtLane (K D : Type 0) : Type 0 where
  pub core : CoreState K D
  pub lane : Lane

-- these two
abbrev pub at_lane : {K D : Type 0} → CoreState K D → Lane → AtLane K D
at_lane core lane = record { core = core; lane = lane }

-- what taking an item with a moment reported makes of a session: a message is entered, an end closes it
abbrev pub TakesItem : {K D : Type 0} → (D → Uuid → D → Type 0) → ℕ → Brought Message ReadCause → AtLane K D → AtLane K D → Type 0
TakesItem draws at (Brings message) old new =
    ((answer : Stepped) × StepIs draws (max at old.core.state.moment) (machine.Take old.lane.session.serial message) old.core answer new.core)
    × (new.lane.cause ≡ old.lane.cause) × (new.lane.ended ≡ old.lane.ended)
TakesItem draws at (Last cause) old new =
    ClosesOnce old.lane.session.serial (end_cause cause) old.core new.core old.lane.cause new.lane.cause × (new.lane.ended ≡ true)
