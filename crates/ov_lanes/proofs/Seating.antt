-- A session that was opened and has a place.
use Rattle.std.proofs.Common.{◌≡◌, ◌≢◌, inl, inr, ℕ, ◌<◌, ◌≤◌, List, [], ◌∷◌, ◌++◌, length, get_or, slice_set, sym, ap, subst, ◌∙◌, true, false, Option, Some, None, arith}
use Rattle.std.proofs.lemmas.Bool.{cases_eq}
use Rattle.ov_specs.specs.values.Uuid.{Uuid}
use Rattle.ov_specs.specs.machine.Machine as machine
use Rattle.ov_specs.specs.machine.Machine.{Entry, is_open}
use Rattle.ov_sessions.specs.declared.session.Session.{Session}
use Rattle.ov_history.specs.declared.event.Stepped.TheVariants as answer
use Rattle.ov_core.specs.Following.{CoreState, CountsWork}
use Rattle.ov_core.specs.Stepping.{IsEntered}
use Rattle.ov_lanes.specs.Courses.{Spares}
use Rattle.ov_lanes.specs.Moments.{AreTimed}
use Rattle.ov_lanes.specs.Since.{Since, course_of, course_before}
use Rattle.ov_lanes.specs.Lanes.{IsAt, IsNewLane, Serves, ServesOn, PlacesGoOn}
use Rattle.ov_lanes.specs.Opening.{IsUntouched}
use Rattle.ov_lanes.specs.declared.lane.Lane.{Lane}
use Rattle.ov_lanes.proofs.Courses.{EnteredTo, since_enters}
use Rattle.ov_lanes.proofs.Own.{spares_along}
use Rattle.ov_lanes.proofs.Single.{lane_fits}
use Rattle.ov_lanes.proofs.Openings.{asks_same, closed_same, shut_same, others_spared, opened_timed, is_there, fits_new}
use Rattle.ov_lanes.proofs.Coming.{coming_later, coming_away, coming_unclosed, coming_unasked, coming_unshut, coming_unserved}
use Rattle.ov_lanes.proofs.PlaceLaws.{open_before, untold_spared, untold_open, none_some, served_on, serves_taken}

-- what an opening makes of a core whose sessions have places
record Opens {K D : Type 0} {start a : CoreState K D} (at : ℕ) (ls : List (Option Lane)) (s : Serves start a ls) (n : ℕ) (b : CoreState K D) : Type 0 where
  pub after : Since start b
  pub more : List Entry
  pub adds : after.entries ≡ s.since.entries ++ more
  pub timed : AreTimed at a.state more b.state
  pub counts : CountsWork a more b
  pub beside : (other : ℕ) → other ≢ n → Spares (course_of s.since other) (course_of after other)
  pub untouched : IsUntouched (course_of after n)
  pub there : is_open b.state n ≡ true
  pub later : start.state.next ≤ n
  pub unserved : (j : ℕ) (l : Lane) → IsAt ls j l → l.session.serial ≢ n

module _ {K D : Type 0} {start a b : CoreState K D} (at : ℕ) (ls : List (Option Lane)) (s : Serves start a ls) (e : Entry) (is : e.event ≡ machine.Open) (when : e.choice.moment ≡ a.state.moment) (x : EnteredTo s.since e b) where
  opens_next : Opens at ls s a.state.next b
  opens_next =
      let n = a.state.next in
      let low : n ≤ n = omega arith in
      record {
        after = x.after;
        more = e ∷ [];
        adds = x.adds;
        timed = opened_timed s.since e is x when at;
        counts = x.counts;
        beside = others_spared s.since e is x;
        untouched = (
          closed_same s.since e is x n ∙ coming_unclosed s.since n low,
          asks_same s.since e is x n ∙ coming_unasked s.since n low,
          x.handed n ∙ s.untold n (coming_away s.since n low) (coming_unclosed s.since n low),
          shut_same s.since e is x n ∙ coming_unshut s.since n low,
        );
        there = is_there s.since e is x;
        later = coming_later s.since n low;
        unserved = λ j l there serial. coming_unserved s.since n low l (s.fits j l there) serial;
      }

opened : {K D : Type 0} {start a b : CoreState K D} (at : ℕ) (ls : List (Option Lane)) (s : Serves start a ls) (draws : D → Uuid → D → Type 0) (session : Session) → IsEntered draws a.state.moment machine.Open a (answer.Opened session) b → Opens at ls s session.serial b
opened {b = b} at ls s draws session entered =
    let x = since_enters s.since entered.entry entered.moves in
    subst (λ (k : ℕ). Opens at ls s k b) (sym entered.tells.1) (opens_next at ls s entered.entry entered.tells.0 entered.moment x)

module _ {K D : Type 0} {start a b : CoreState K D} (at : ℕ) (ls : List (Option Lane)) (s : Serves start a ls) (n : ℕ) (x : Opens at ls s n b) where
  -- the session has a place now
  seated : (i : ℕ) (m : Lane) → i < length ls → get_or ls i None ≡ None → IsNewLane n m → ServesOn at s b (slice_set ls i (Some m))
  seated i m lt free new =
      served_on at ls (slice_set ls i (Some m)) s x.after
      (serves_taken ls i lt s x.after
      (record {
        spares = λ j l ne there. x.beside l.session.serial (x.unserved j l there);
        untold = λ k. elim (cases_eq k n) [
          | inl e ↦ untold_open (course_of x.after k) (ap (λ (i : ℕ). is_open b.state i) e ∙ x.there)
          | inr ne ↦ untold_spared (course_of s.since k) (course_of x.after k) (x.beside k ne) (s.untold k)
        ];
        earlier = λ k before.
            let low = x.later in
            spares_along (course_before start k) (course_of s.since k) (course_of x.after k) (s.earlier k before) (x.beside k (λ e. omega (arith, before, low, e)));
      })
      m
      (lane_fits x.after n None [] [] false false m
      (record { serial = new.session; cause = new.cause; taken = new.taken; puts = new.puts; is_marked = new.is_marked; is_ended = new.is_ended })
      (fits_new (course_of x.after n) x.untouched x.there))
      (let low = x.later in omega (arith, low, new.session))
      (λ j l ne there e. x.unserved j l there (e ∙ new.session))
      (λ k ne there.
      let ne' : k ≢ n = λ e. ne (e ∙ sym new.session) in
      elim (s.have_places k (open_before (course_of s.since k) (course_of x.after k) (x.beside k ne') there)) [
        | inl was ↦ inl was
        | inr (j, l, is, serial) ↦ inr (j, l, λ e. taken_free j l e free is, is, serial)
      ]))
      x.more x.adds x.timed x.counts
    where
      taken_free : (j : ℕ) (l : Lane) → j ≡ i → get_or ls i None ≡ None → IsAt ls j l → ⊥
      taken_free j l e free is = none_some l (sym free ∙ (ap (λ (k : ℕ). get_or ls k None) (sym e) ∙ is))

pub goes_seated : {K D : Type 0} {a b : CoreState K D} (at : ℕ) (ls : List (Option Lane)) (i : ℕ) (m : Lane) → i < length ls → get_or ls i None ≡ None → (draws : D → Uuid → D → Type 0) (session : Session)
    → IsEntered draws a.state.moment machine.Open a (answer.Opened session) b → IsNewLane session.serial m → PlacesGoOn at a ls b (slice_set ls i (Some m))
goes_seated at ls i m lt free draws session entered new start s = seated at ls s session.serial (opened at ls s draws session entered) i m lt free new
