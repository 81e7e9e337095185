-- Settling, try by try, and the result of an event with it.
use Rattle.std.specs.Prelude.{◌≡◌, ℕ, ◌+◌, ◌-◌, ◌*◌, ◌≤◌, ◌++◌, List, [], map, length, false, Option, Some, None}
use Rattle.std.specs.List.{filter}
use Rattle.ov_specs.specs.machine.Machine as machine
use Rattle.ov_specs.specs.machine.Machine.{Sent, settle}
use Rattle.ov_specs.specs.values.Uuid.{Uuid}
use Rattle.ov_specs.proofs.laws.SettlingOn.{Reaches, at_point}
use Rattle.ov_outbox.specs.Frames.{PostsSent}
use Rattle.ov_sessions.specs.Sessions.{IsLeft, has_serial}
use Rattle.ov_requests.specs.Waiting.{WaitingList, many}
use Rattle.ov_history.specs.Entries.{attempt_view}
use Rattle.ov_live.specs.Counting.{CountsTries}
use Rattle.ov_live.specs.Asking.{AsksKeeper, keeper_state}
use Rattle.ov_live.specs.Sessions.{ClosesSession}
use Rattle.ov_live.specs.States.{machine_state}
use Rattle.ov_history.specs.declared.event.Attempt.{Attempt}
use Rattle.ov_history.specs.declared.event.Outcome.{Outcome}
use Rattle.ov_history.specs.declared.event.Outcome.TheVariants as outcome
use Rattle.ov_live.specs.declared.live.Live.{Live}

-- all waiting transactions are to be tried again, from the first one
abbrev pub tried_again : {K : Type 0} → Live K → Live K
tried_again live = record live {
  waiting = record {
    untried = live.waiting.outstanding ++ filter (λ o. has_serial o.session live.sessions.open_sessions) live.waiting.untried;
    outstanding = [];
  };
}

-- what follows a finished try: a failed allocation closes its session, and after a kept change all are tried again
abbrev pub AfterTry : {K : Type 0} → ℕ → Option Outcome → Live K → Live K → Type 0
AfterTry session (Some outcome.NoMemory) old new = ClosesSession session old new
AfterTry session (Some outcome.Committed) old new = new ≡ tried_again old
AfterTry session (Some outcome.Exhausted) old new = new ≡ old
AfterTry session (Some outcome.Failed) old new = new ≡ old
AfterTry session None old new = new ≡ old

-- The most that is left to do: it falls with each try.
abbrev pub to_do : WaitingList → ℕ
to_do w = length w.untried + many w * many w

-- a live state, and the attempts that are listed by then
pub record SettlingState (K : Type 0) : Type 0 where
  pub live : Live K
  pub listed : List Attempt

-- Settling has begun with attempt number `first`, and the next attempt has number `number`: whatever follows, the machine's
-- settling comes to what was sent and the rest of settling from here.
pub record SettlesSoFar {K : Type 0} (failed : K → ℕ) (moment first : ℕ) (from now : SettlingState K) (number : ℕ) : Type 0 where
  pub made : List machine.Attempt
  pub lists : map attempt_view now.listed ≡ map attempt_view from.listed ++ made
  pub sent : List Sent
  pub reaches : Reaches (machine_state from.live moment) first made
      (at_point (machine_state now.live moment) sent number now.live.waiting.untried)
  pub posts : PostsSent sent from.live.outbox.frames now.live.outbox.frames
  pub asks : AsksKeeper made (keeper_state failed from.live.database) (keeper_state failed now.live.database)
  pub left : IsLeft from.live.sessions.open_sessions now.live.sessions.open_sessions
  pub tries : now.live.tries + first ≡ from.live.tries + number
  -- so the number never exceeds that of a first try and one for each pair of those that waited
  pub few : number + number + (length now.live.waiting.untried + length now.live.waiting.untried)
      + many now.live.waiting * many now.live.waiting
      ≤ first + first
      + (length from.live.waiting.outstanding
      + length from.live.waiting.outstanding * length from.live.waiting.outstanding)
      + many now.live.waiting

-- The waiting transactions are settled, beginning with attempt number `first`.
pub record SettlesAll {K : Type 0} (failed : K → ℕ) (moment first : ℕ) (old new : SettlingState K) : Type 0 where
  pub made : List machine.Attempt
  pub lists : map attempt_view new.listed ≡ map attempt_view old.listed ++ made
  pub sent : List Sent
  pub next : ℕ
  pub settles : settle (machine_state old.live moment) first made
      ≡ Some (record {
        tried = record { stepped = record { state = machine_state new.live moment; sent = sent }; others = [] };
        next = next;
        has_changed = false;
      })
  pub posts : PostsSent sent old.live.outbox.frames new.live.outbox.frames
  pub asks : AsksKeeper made (keeper_state failed old.live.database) (keeper_state failed new.live.database)
  pub left : IsLeft old.live.sessions.open_sessions new.live.sessions.open_sessions
  -- each try is counted
  pub tries : new.live.tries ≡ old.live.tries + (next - first)
  pub untried : new.live.waiting.untried ≡ []

-- the choice of an event at the moment, with these identifiers drawn and these attempts listed
abbrev pub choice_of : ℕ → List Uuid → List Attempt → machine.Choice
choice_of moment draws attempts = record { moment = moment; draws = draws; outcomes = map attempt_view attempts }

-- The result of an event with this choice.
pub record ComesTo {K : Type 0} (failed : K → ℕ) (choice : machine.Choice) (event : machine.Event)
    (old new : Live K) : Type 0 where
  pub sent : List Sent
  pub happens : machine.happens (machine_state old choice.moment) choice event
      ≡ Some (record { state = machine_state new choice.moment; sent = sent })
  pub posts : PostsSent sent old.outbox.frames new.outbox.frames
  pub asks : AsksKeeper choice.outcomes (keeper_state failed old.database) (keeper_state failed new.database)
  pub left : IsLeft old.sessions.open_sessions new.sessions.open_sessions
  pub tries : CountsTries (machine_state old choice.moment) choice event old.tries new.tries
  pub untried : new.waiting.untried ≡ []
