-- Sessions that were opened, and their lanes.
use Rattle.std.proofs.Common.{◌≡◌, ◌≢◌, inl, inr, ℕ, ◌+◌, List, [], ◌∷◌, ◌++◌, length, refl, sym, ap, subst, ◌∙◌, append-nil, eqb, Bool, true, false, Option, Some, None, arith}
use Rattle.std.specs.Prelude.{not, ◌||◌, is_some}
use Rattle.std.specs.Option.{option_or}
use Rattle.std.proofs.lemmas.Bool.{cases_eq, eq-eqb, ne_eqb, false≢true}
use Rattle.ov_specs.specs.wire.Message.{Message}
use Rattle.ov_specs.specs.values.Uuid.{Uuid}
use Rattle.ov_specs.specs.machine.Machine as machine
use Rattle.ov_specs.specs.machine.Machine.{Entry, is_open}
use Rattle.ov_specs.specs.machine.History.{requests, closed_by, frames_to}
use Rattle.ov_specs.proofs.laws.Histories.{option_or_none}
use Rattle.ov_specs.proofs.laws.Turns.{Turn, turn_open, session_after}
use Rattle.ov_specs.proofs.laws.Truths.{or_truth, or_nothing}
use Rattle.ov_outbox.specs.Frames.{waiting_for}
use Rattle.ov_sessions.specs.declared.session.Session.{Session}
use Rattle.ov_history.specs.declared.event.Stepped.TheVariants as answer
use Rattle.ov_core.specs.Following.{CoreState, Follows}
use Rattle.ov_history.specs.History.{HasHistory}
use Rattle.ov_core.specs.Stepping.{IsEntered}
use Rattle.ov_core.proofs.Counted.{counts_none}
use Rattle.ov_lanes.specs.Courses.{Course, Spares, shut_in, shut_by}
use Rattle.ov_lanes.specs.Since.{Since, course_of, course_before, and_then_handed}
use Rattle.ov_lanes.specs.Fitting.{FitsCourse, IsShut, Took, brought, framed, is_by_reader}
use Rattle.ov_lanes.specs.Moments.{AreTimed}
use Rattle.ov_lanes.proofs.Timing.{at_moment, timed_append}
use Rattle.ov_lanes.proofs.Courses.{EnteredTo, given_same, since_enters, entered_timed, unshut}
use Rattle.ov_lanes.proofs.Own.{spares_along}
use Rattle.ov_lanes.specs.Opening.{IsUntouched, OpensAll, AreSessions}

-- nothing has been done yet
pub since_none : {K D : Type 0} (a : CoreState K D) → HasHistory a.state a.kept → Since a a
since_none a known = record {
  entries = [];
  sent = [];
  handed = λ n. [];
  known = known;
  follows = λ before history given f.
      subst (λ (h : List Entry). Follows before h (and_then_handed given (λ n. [])) a) (sym (append-nil history))
      (given_same before history given (and_then_handed given (λ n. [])) a (λ s. sym (append-nil (given s))) f);
  keeps = refl;
  counts = counts_none a;
  legal = refl;
  frames = λ s. append-nil (waiting_for s a.outbox);
}

pub opens_none : {K D : Type 0} (a : CoreState K D) → HasHistory a.state a.kept → OpensAll a a.state.next 0 a
unfolding since_none
opens_none a known = record {
  since = since_none a known;
  timed = λ reported. refl;
  untouched = λ n. (refl, refl, refl, refl);
  next = omega arith;
  others = λ n low. refl;
  earlier = λ n low. record { more = []; waiting = sym (append-nil (waiting_for n a.outbox)); silent = λ away. refl; handed = refl; asks = refl; shut = refl; closes = inl (refl, refl) };
  there = λ n low high. absurd (omega (arith, low, high));
}

pub none_entered : {K D : Type 0} (a : CoreState K D) (known : HasHistory a.state a.kept) → (opens_none a known).since.entries ≡ []
unfolding opens_none since_none
none_entered a known = refl

-- ---- one session more

module _ {K D : Type 0} {start a b : CoreState K D} (p : Since start a) (e : Entry) (is : e.event ≡ machine.Open) (x : EnteredTo p e b) where
  turn : (n : ℕ) → Turn n a.state e b.state (session_after (is_open a.state n || eqb a.state.next n) (a.state.next + 1) [] None)
  turn n = turn_open n a.state e (record { state = b.state; sent = x.sent }) x.stepped is

  pub asks_same : (n : ℕ) → requests x.after.entries n ≡ requests p.entries n
  asks_same n = x.asks n ∙ (ap (λ (l : List Message). requests p.entries n ++ l) (turn n).taken_is ∙ append-nil (requests p.entries n))

  pub closed_same : (n : ℕ) → closed_by start.state x.after.entries n ≡ closed_by start.state p.entries n
  closed_same n = x.closed n ∙ (ap (option_or (closed_by start.state p.entries n)) (turn n).cause_is ∙ option_or_none (closed_by start.state p.entries n))

  pub shut_same : (n : ℕ) → shut_by x.after.entries n ≡ shut_by p.entries n
  shut_same n = unshut p e x n (ap (shut_in n) is)

  -- a session that was opened before is open if and only if it was
  others_same : (n : ℕ) → n ≢ a.state.next → is_open b.state n ≡ is_open a.state n
  others_same n ne = (turn n).open_is ∙ (ap (λ (k : Bool). is_open a.state n || k) (ne_eqb a.state.next n (λ same. ne (sym same))) ∙ or_nothing (is_open a.state n))

  pub others_spared : (n : ℕ) → n ≢ a.state.next → Spares (course_of p n) (course_of x.after n)
  others_spared n ne = record {
    more = frames_to n x.sent;
    waiting = x.waiting n;
    silent = x.silent n;
    handed = x.handed n;
    asks = asks_same n;
    shut = shut_same n;
    closes = inl (others_same n ne, closed_same n);
  }

  -- it was opened at the last moment
  pub opened_timed : e.choice.moment ≡ a.state.moment → (reported : ℕ) → AreTimed reported a.state (e ∷ []) b.state
  opened_timed when reported = entered_timed p reported e x (at_moment reported a.state e.choice.moment e.event machine.Open is when)

  untouched_still : ((n : ℕ) → IsUntouched (course_of p n)) → (n : ℕ) → IsUntouched (course_of x.after n)
  untouched_still untouched n = let u = untouched n in (closed_same n ∙ u.0, asks_same n ∙ u.1, x.handed n ∙ u.2, shut_same n ∙ u.3)

  pub is_there : is_open b.state a.state.next ≡ true
  is_there = (turn a.state.next).open_is ∙ (ap (λ (k : Bool). is_open a.state a.state.next || k) (eq-eqb a.state.next a.state.next refl) ∙ or_truth (is_open a.state a.state.next))

-- a session that was opened, and nothing else, is fitted by a new lane
pub fits_new : (c : Course) → IsUntouched c → c.is_open ≡ true → FitsCourse c None [] [] false false
fits_new c u there = record {
  took = subst (λ (o : Option machine.Cause). Took o c.asks []) (sym u.0) (ap brought (sym u.1));
  shut = subst (λ (o : Option machine.Cause). IsShut o c.shut c.asks []) (sym u.0) u.3;
  puts = (ap framed (sym u.2), λ by. absurd (false≢true (sym (ap is_by_reader u.0) ∙ by)));
  knows = inl u.0;
  ends = λ ended. absurd (false≢true ended);
  opens = ap is_some u.0 ∙ sym (ap not there);
  unfailed = λ failed. let other : None ≡ Some machine.WriteFault = sym u.0 ∙ failed in cc;
  overrun = λ over. let other : None ≡ Some machine.Overrun = sym u.0 ∙ over in cc;
}

module _ {K D : Type 0} {start a b : CoreState K D} (base count : ℕ) (opens : OpensAll start base count a) where
  pub opens_more : (draws : D → Uuid → D → Type 0) (session : Session) → IsEntered draws a.state.moment machine.Open a (answer.Opened session) b → OpensAll start base (count + 1) b × (session.serial ≡ base + count)
  opens_more draws session entered =
      let p = opens.since in let e = entered.entry in
      let is = entered.tells.0 in
      let x = since_enters p e entered.moves in (
        record {
          since = x.after;
          timed = λ reported.
              subst (λ (l : List Entry). AreTimed reported start.state l b.state) (sym x.adds)
              (timed_append reported start.state p.entries (e ∷ []) a.state b.state (opens.timed reported) (opened_timed p e is x entered.moment reported));
          untouched = untouched_still p e is x opens.untouched;
          next = (turn p e is x 0).next_is ∙ omega (arith, opens.next);
          others = λ n low. others_same p e is x n (λ same. omega (arith, low, opens.next, same)) ∙ opens.others n low;
          earlier = λ n low.
              let ne : n ≢ a.state.next = λ same. omega (arith, low, opens.next, same) in
              spares_along (course_before start n) (course_of p n) (course_of x.after n) (opens.earlier n low) (others_spared p e is x n ne);
          there = λ n low high. elim (cases_eq n a.state.next) [
            | inl same ↦ ap (λ (i : ℕ). is_open b.state i) same ∙ is_there p e is x
            | inr ne ↦ others_same p e is x n ne ∙ opens.there n low (omega (arith, high, opens.next, ne))
          ];
        },
        entered.tells.1 ∙ opens.next,
      )

-- ---- sessions in order

pub sessions_more : (serial : ℕ) (xs : List Session) (x : Session) → AreSessions serial xs → x.serial ≡ serial + length xs → AreSessions serial (xs ++ x ∷ [])
sessions_more serial [] x are is = (omega (arith, is), tt)
sessions_more serial (y ∷ xs) x are is = (are.0, sessions_more (serial + 1) xs x are.1 (omega (arith, is)))

pub sessions_last : (serial : ℕ) (xs : List Session) (x : Session) → AreSessions serial (xs ++ x ∷ []) → AreSessions serial xs × (x.serial ≡ serial + length xs)
sessions_last serial [] x are = (tt, omega (arith, are.0))
sessions_last serial (y ∷ xs) x are = let r = sessions_last (serial + 1) xs x are.1 in ((are.0, r.0), omega (arith, r.1))
