-- Sessions that were opened and are closed again.
use Rattle.std.proofs.Common.{◌≡◌, ◌≢◌, ◌⊎◌, inl, inr, ℕ, ◌+◌, List, [], refl, sym, ap, subst, ◌∙◌, append-nil, Bool, false, Option, Some, None, arith}
use Rattle.std.specs.Option.{option_or}
use Rattle.std.proofs.lemmas.Bool.{cases_eq, false≢true}
use Rattle.ov_specs.specs.machine.Machine as machine
use Rattle.ov_specs.specs.machine.Machine.{Stepped, Entry, is_open}
use Rattle.ov_specs.specs.machine.History.{requests}
use Rattle.ov_specs.proofs.laws.Turns.{turn_close, turn_close_other}
use Rattle.ov_outbox.specs.Frames.{waiting_for}
use Rattle.ov_history.specs.declared.event.Cause.TheVariants as told
use Rattle.ov_history.specs.History.{HasHistory}
use Rattle.ov_core.specs.Following.{CoreState}
use Rattle.ov_core.specs.Stepping.{Closes, closing}
use Rattle.ov_lanes.specs.Courses.{Course, Spares}
use Rattle.ov_lanes.specs.Moments.{AreTimed}
use Rattle.ov_lanes.specs.Since.{Since, HandsOut, course_of}
use Rattle.ov_lanes.proofs.Courses.{shuts, hands_on}
use Rattle.ov_lanes.proofs.Own.{spares_along}
use Rattle.ov_lanes.specs.Opening.{OpensAll, ClosesDown, ClosesAgain, DropsSession, IsIdle, IsGivenUp, IsLeftAlone}
use Rattle.ov_lanes.proofs.Openings.{opens_none}
use Rattle.ov_lanes.proofs.Timing.{timed_append}

-- ---- one session

-- a session that was not meant
given_up_spared : (c d : Course) → Spares c d → IsGivenUp c → IsGivenUp d
given_up_spared c d s (away, why) = elim s.closes [
  | inl (same, closed) ↦ (same ∙ away, closed ∙ why)
  | inr (was, away', closed) ↦ absurd (false≢true (sym away ∙ was))
]

idle_spared : (c d : Course) → Spares c d → IsIdle c → IsIdle d
idle_spared c d s (inl (there, none)) = elim s.closes [
  | inl (same, closed) ↦ inl (same ∙ there, closed ∙ none)
  | inr (was, away, closed) ↦ inr (away, closed ∙ ap (λ (o : Option machine.Cause). option_or o (Some machine.Memory)) none)
]
idle_spared c d s (inr given) = inr (given_up_spared c d s given)

-- what closing it as out of memory makes of why it was closed
now_given_up : (o o' : Option machine.Cause) → o' ≡ option_or o (Some machine.Memory) → (o ≡ None) ⊎ (o ≡ Some machine.Memory) → o' ≡ Some machine.Memory
now_given_up o o' is (inl none) = is ∙ ap (λ (k : Option machine.Cause). option_or k (Some machine.Memory)) none
now_given_up o o' is (inr some) = is ∙ ap (λ (k : Option machine.Cause). option_or k (Some machine.Memory)) some

idle_cause : (c : Course) → IsIdle c → (c.closed ≡ None) ⊎ (c.closed ≡ Some machine.Memory)
idle_cause c (inl (there, none)) = inl none
idle_cause c (inr (away, some)) = inr some

-- one that was not meant, and is open if and only if it was, was not closed
left_alone : (c d : Course) (was : Bool) → Spares c d → d.is_open ≡ c.is_open → IsLeftAlone was c → IsLeftAlone was d
left_alone c d was s same (there, none, handed) = elim s.closes [
  | inl (same', closed) ↦ (same ∙ there, closed ∙ none, s.handed ∙ handed)
  | inr (there', away, closed) ↦ absurd (false≢true (sym away ∙ (same ∙ there')))
]

idle_away : (c : Course) → IsIdle c → c.is_open ≡ false → IsGivenUp c
idle_away c (inl (there, none)) away = absurd (false≢true (sym away ∙ there))
idle_away c (inr given) away = given

-- what the drop of a session makes of it, of the others, and of the core
record Dropped {K D : Type 0} {start a : CoreState K D} (p : Since start a) (n : ℕ) (b : CoreState K D) : Type 0 where
  pub after : Since start b
  pub timed : AreTimed 0 start.state p.entries a.state → AreTimed 0 start.state after.entries b.state
  pub beside : (other : ℕ) → other ≢ n → Spares (course_of p other) (course_of after other)
  pub asks : requests after.entries n ≡ requests p.entries n
  pub own : IsIdle (course_of p n) → IsGivenUp (course_of after n)
  pub opens : (other : ℕ) → other ≢ n → is_open b.state other ≡ is_open a.state other
  pub next : b.state.next ≡ a.state.next

module _ {K D : Type 0} {start a b : CoreState K D} (p : Since start a) (n : ℕ) where
  dropped_open : (mid : CoreState K D) → Closes a.state.moment n machine.Memory a mid → HandsOut n (waiting_for n mid.outbox) mid b → Dropped p n b
  dropped_open mid closes drops =
      let x = shuts 0 n p machine.Memory None (Some told.Memory) mid (inl (closes, (told.Memory, refl, refl))) in
      let y = hands_on n x.goes.after (waiting_for n mid.outbox) drops 0 in
      let t : Stepped = record { state = mid.state; sent = closes.moves.sent } in
      let turn = turn_close n a.state (closing a.state.moment n machine.Memory) t closes.moves.stepped machine.Memory refl in
      record {
        after = y.goes.after;
        timed = λ before.
            let closed : AreTimed 0 start.state x.goes.after.entries mid.state = subst (λ (l : List Entry). AreTimed 0 start.state l mid.state) (sym x.goes.adds) (timed_append 0 start.state p.entries x.goes.more a.state mid.state before x.goes.timed) in
            subst (λ (l : List Entry). AreTimed 0 start.state l b.state) (sym y.goes.adds) (timed_append 0 start.state x.goes.after.entries y.goes.more mid.state b.state closed y.goes.timed);
        beside = λ other ne. spares_along (course_of p other) (course_of x.goes.after other) (course_of y.goes.after other) (x.goes.beside other ne) (y.goes.beside other ne);
        asks = y.own.asks ∙ x.own.asks;
        own = λ idle. (
          y.own.is_open ∙ x.own.away,
          y.own.closed ∙ elim x.own.by [
            | inl (was, closed, shut, known) ↦ now_given_up (course_of p n).closed (course_of x.goes.after n).closed closed (idle_cause (course_of p n) idle)
            | inr (away, closed, shut, known) ↦ (let other : Some told.Memory ≡ None = known in cc)
          ],
        );
        opens = λ other ne.
            ap (λ (r : CoreState K D). is_open r.state other) drops.same
            ∙ (turn_close_other other a.state (closing a.state.moment n machine.Memory) t closes.moves.stepped n machine.Memory (λ same. ne (sym same)) refl).open_is;
        next = ap (λ (r : CoreState K D). r.state.next) drops.same ∙ turn.next_is;
      }

  dropped : DropsSession n a b → Dropped p n b
  dropped (inl (mid, closes, drops)) = dropped_open mid closes drops
  dropped (inr (same, away)) = subst (λ (k : CoreState K D). Dropped p n k) (sym same) (record {
    after = p;
    timed = λ before. before;
    beside = λ other ne. record { more = []; waiting = sym (append-nil (waiting_for other a.outbox)); silent = λ _. refl; handed = refl; asks = refl; shut = refl; closes = inl (refl, refl) };
    asks = refl;
    own = λ idle. idle_away (course_of p n) idle away;
    opens = λ other ne. refl;
    next = refl;
  })

-- ---- all of them

pub closes_none : {K D : Type 0} {start a : CoreState K D} (base count : ℕ) → OpensAll start base count a → ClosesDown start base count count a
closes_none base count o = record {
  since = o.since;
  timed = o.timed 0;
  next = o.next;
  untaken = λ n. (o.untouched n).1;
  idle = λ n low high. inl (o.there n low high, (o.untouched n).0);
  given_up = λ n low high. absurd (omega (arith, low, high));
  others = λ n low. (o.others n low, (o.untouched n).0, (o.untouched n).2);
}

module _ {K D : Type 0} {start a b : CoreState K D} (base total left n0 : ℕ) (serial : n0 ≡ base + left) where
  pub closes_one : ClosesDown start base total (left + 1) a → DropsSession n0 a b → ClosesDown start base total left b
  closes_one p drops =
      let x = dropped p.since n0 drops in
      record {
        since = x.after;
        timed = x.timed p.timed;
        next = x.next ∙ p.next;
        untaken = λ n. elim (cases_eq n n0) [
          | inl same ↦ subst (λ (k : ℕ). requests x.after.entries k ≡ []) (sym same) (x.asks ∙ p.untaken n0)
          | inr ne ↦ (x.beside n ne).asks ∙ p.untaken n
        ];
        idle = λ n low high. idle_spared (course_of p.since n) (course_of x.after n) (x.beside n (λ same. omega (arith, high, same, serial))) (p.idle n low (omega (arith, high)));
        given_up = λ n low high. elim (cases_eq n n0) [
          | inl same ↦ subst (λ (k : ℕ). IsGivenUp (course_of x.after k)) (sym same) (x.own (p.idle n0 (omega (arith, serial)) (omega (arith, serial))))
          | inr ne ↦ given_up_spared (course_of p.since n) (course_of x.after n) (x.beside n ne) (p.given_up n (omega (arith, low, ne, serial)) high)
        ];
        others = λ n low.
            let ne : n ≢ n0 = λ same. omega (arith, low, same, serial) in
            left_alone (course_of p.since n) (course_of x.after n) (is_open start.state n) (x.beside n ne) (x.opens n ne) (p.others n low);
      }

pub closes_all : {K D : Type 0} {start a : CoreState K D} (total : ℕ) → ClosesDown start start.state.next total 0 a → ClosesAgain start a
closes_all total p = record {
  since = p.since;
  timed = p.timed;
  untaken = p.untaken;
  given_up = λ n low high. p.given_up n (omega (arith, low)) (omega (arith, high, p.next));
  others = p.others;
}

-- nothing was opened
pub closes_nothing : {K D : Type 0} (a : CoreState K D) → HasHistory a.state a.kept → ClosesAgain a a
closes_nothing a known = closes_all 0 (closes_none a.state.next 0 (opens_none a known))
