-- What a step sends to sessions that are not open: nothing.
use Rattle.std.proofs.Common.{◌≡◌, ◌≢◌, ℕ, List, [], ◌∷◌, refl, sym, ap, ◌∙◌, Bool, true, false, Option, Some}
use Rattle.std.specs.Prelude.{◌&&◌}
use Rattle.std.specs.List.{list_all}
use Rattle.std.specs.List.Sorted.{IsStrictlySortedBy}
use Rattle.std.proofs.lemmas.Bool.{and_parts, ne_eqb, false≢true}
use Rattle.std.proofs.lemmas.Option.{same_Some}
use Rattle.ov_specs.specs.locks.Queues.{DoQueuesAscend}
use Rattle.ov_specs.specs.machine.Machine.{State, Entry, Close, Cause, Sent, Stepped, step, closed, when, is_open, is_without_choice, opening}
use Rattle.ov_specs.specs.machine.History.{frames_to}
use Rattle.ov_specs.specs.rows.Database.{Database}
use Rattle.ov_specs.specs.schema.SchemaTypes.{Schema}
use Rattle.ov_specs.proofs.laws.Queueing.{InOrder, run_in_order, step_sends_open}
use Rattle.ov_specs.proofs.laws.Turns.{stepped}
use Rattle.ov_history.specs.History.{HasHistory}
use Rattle.ov_history.specs.declared.event.Entry.{Entry as Kept}
use Rattle.ov_specs.proofs.laws.Leaves.{leaving_silent}

-- a choice that suits
suits : {A : Type 0} (b : Bool) (o : Option A) (x : A) → when b o ≡ Some x → (b ≡ true) × (o ≡ Some x)
suits true o x h = (refl, h)
suits false o x h = cc

-- if all is sent to open sessions, one that is not open is sent nothing
none_sent : (s : State) (n : ℕ) (sent : List Sent) → list_all (λ x. is_open s x.session) sent ≡ true → is_open s n ≡ false → frames_to n sent ≡ []
none_sent s n [] to_open away = refl
none_sent s n (x ∷ sent) to_open away =
    let parts = and_parts (is_open s x.session) (list_all (λ y. is_open s y.session) sent) to_open in
    let other : x.session ≢ n = λ same. false≢true (sym away ∙ (ap (is_open s) (sym same) ∙ parts.0)) in
    rw (ne_eqb x.session n other) (none_sent s n sent parts.1 away)

-- one that is not open is sent nothing by a step
pub away_silent : (n : ℕ) (s : State) (e : Entry) (t : Stepped) → step s e ≡ Some t → InOrder s → is_open s n ≡ false → frames_to n t.sent ≡ []
away_silent n s e t h order away = none_sent s n t.sent (step_sends_open s e t h order) away

module _ (s : State) (e : Entry) (t : Stepped) (h : step s e ≡ Some t) where
  -- what a closing makes, of an open session
  closing_makes : (m : ℕ) (cause : Cause) → e.event ≡ Close m cause → ((is_without_choice e.choice && is_open s m) ≡ true) × (Some (closed (record s { moment = e.choice.moment }) m) ≡ Some t)
  closing_makes m cause is = suits (is_without_choice e.choice && is_open s m) (Some (closed (record s { moment = e.choice.moment }) m)) t (stepped s e t (Close m cause) is h)

  -- a closing sends its session nothing
  pub close_spares : (m : ℕ) (cause : Cause) → e.event ≡ Close m cause → frames_to m t.sent ≡ []
  close_spares m cause is = ap (λ (v : Stepped). frames_to m v.sent) (sym (same_Some (closed (record s { moment = e.choice.moment }) m) t (closing_makes m cause is).1)) ∙ leaving_silent m s.queues

  -- an open session is closed
  pub close_of_open : (m : ℕ) (cause : Cause) → e.event ≡ Close m cause → is_open s m ≡ true
  close_of_open m cause is = (and_parts (is_without_choice e.choice) (is_open s m) (closing_makes m cause is).0).1

-- at an opening no lock is asked for
none_sorted : DoQueuesAscend []
unfolding IsStrictlySortedBy
none_sorted = tt

pub opening_in_order : (schema : Schema) (database : Database) → InOrder (opening schema database)
opening_in_order schema database = ((none_sorted, tt), tt)

-- the queues of a core are in order
pub known_in_order : (s : State) (kept : List Kept) → HasHistory s kept → InOrder s
known_in_order s kept known = run_in_order (opening known.schema known.database) known.history (record { state = s; sent = known.sent }) known.legal (opening_in_order known.schema known.database)
