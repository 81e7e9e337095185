-- The sessions to which a lobby gave a place: each has one, or was served to its end.
use Rattle.std.proofs.Common.{◌≡◌, ◌⊎◌, inl, inr, ℕ, ◌+◌, ◌<◌, ◌≤◌, List, [], ◌∷◌, ◌++◌, length, length-append, get_or, slice_set, get_or-set_other, refl, sym, ap, subst, ◌∙◌, append_assoc, append-nil, Bool, false, Option, Some, None, arith}
use Rattle.std.specs.Option.{option_or}
use Rattle.std.proofs.lemmas.Bool.{cases_eq}
use Rattle.std.proofs.lemmas.Grind.{flat_map-append, get_or-set_at}
use Rattle.std.proofs.lemmas.Option.{same_Some}
use Rattle.rtrb.specs.Ring.{sent, received}
use Rattle.ov_specs.specs.wire.Message.{Message}
use Rattle.ov_specs.specs.machine.Machine as machine
use Rattle.ov_specs.specs.machine.Machine.{State, Entry, Stepped, is_open, opening}
use Rattle.ov_specs.specs.machine.History.{run, requests, taken_by, frames_to, closed_by}
use Rattle.ov_specs.proofs.laws.Histories.{closed_by_append}
use Rattle.ov_specs.proofs.laws.Queueing.{run_in_order}
use Rattle.ov_outbox.specs.Frames.{waiting_for}
use Rattle.ov_outbox.proofs.Answered.{frames_to-append}
use Rattle.ov_sessions.specs.declared.session.Session.{Session}
use Rattle.ov_core.specs.Following.{CoreState}
use Rattle.ov_core.proofs.Counted.{counts_on}
use Rattle.ov_lanes.specs.Courses.{Course}
use Rattle.ov_lanes.specs.Fitting.{FitsCourse}
use Rattle.ov_lanes.specs.Since.{Since, course_of}
use Rattle.ov_lanes.specs.Lanes.{IsAt, AreFlushed, SameLane, PutsAlone, StayAs, Serves, ServesOn, DeskGoesOn}
use Rattle.ov_lanes.specs.declared.desk.Desk.{Desk}
use Rattle.ov_lanes.specs.declared.lane.Lane.{Lane}
use Rattle.ov_workers.specs.declared.link.Link.{Link}
use Rattle.ov_lanes.proofs.PlaceLaws.{none_some, some_before, some_after, goes_none}
use Rattle.ov_lanes.proofs.Silence.{known_in_order}
use Rattle.ov_lanes.proofs.Timing.{timed_append, timed_more, tells_more}
use Rattle.ov_hall.specs.Ending.{EndsAs, EndsAfter, finish_for}
use Rattle.ov_workers.specs.Accepting.{SameArrivals, arrived}
use Rattle.ov_workers.specs.LinkStates.{LinkState}
use Rattle.ov_hall.specs.Outcome.{Finish}
use Rattle.ov_hall.specs.Guests.{IsGuest, HasLeft, StayOrLeave, WereThere, SameSession, HaveLeft, HasPlace, HostsOn, HostsBy}
use Rattle.ov_hall.specs.Lists.{AreAmong, EachFrom}
use Rattle.ov_hall.specs.Seats.{HaveLink, WorkAt}
use Rattle.ov_hall.specs.Serving.{IsTended}
use Rattle.ov_hall.specs.declared.hall.Hall.{Hall}
use Rattle.ov_threads.specs.declared.workers.Workers.{Workers}
use Rattle.ov_hall.proofs.Endings.{outcome_as, link_ends}
use Rattle.ov_hall.proofs.Giving.{arrivals_same, arrivals_along}
use Rattle.ov_hall.proofs.Gone.{Gone, goes_from, gone_on}
use Rattle.ov_hall.proofs.Listed.{among_append, from_each, from_append}

-- ---- a session that is over, later

module _ {K D : Type 0} {start a b : CoreState K D} (p : Since start a) (q : Since start b) (more : List Entry) (adds : q.entries ≡ p.entries ++ more) (n : ℕ) where
  module _ (low : n < a.state.next) (away : is_open a.state n ≡ false) where
    gone : Gone n a.state
    gone = record { low = low; away = away; order = run_in_order start.state p.entries (record { state = a.state; sent = p.sent }) p.legal (known_in_order start.state start.kept p.known) }

    pub still_away : is_open b.state n ≡ false
    still_away =
        let then : Stepped = record { state = b.state; sent = q.sent } in
        let from = goes_from start.state p.entries more (record { state = a.state; sent = p.sent }) then p.legal (subst (λ (l : List Entry). run start.state l ≡ Some then) adds q.legal) in
        ap (λ (s : State). is_open s n) (sym from.state) ∙ (gone_on n a.state more from.rest gone from.runs).gone.away

    -- what a history says of it
    still_ends : (finish : Finish) (x y : LinkState) → EndsAfter p n finish x y → EndsAfter q n finish x y
    still_ends finish x y ends schema database history given f =
        let e : EndsAs (opening schema database) (history ++ p.entries) n finish x y = ends schema database history given f in
        let before : State = opening schema database in
        let fp = p.follows before history given f in let fq = q.follows before history given f in
        let first : Stepped = record { state = a.state; sent = fp.sent } in let then : Stepped = record { state = b.state; sent = fq.sent } in
        let reached : e.reached ≡ first = same_Some e.reached first (sym e.legal ∙ fp.legal) in
        let parts : history ++ q.entries ≡ (history ++ p.entries) ++ more = ap (λ (l : List Entry). history ++ l) adds ∙ sym (append_assoc history p.entries more) in
        let from = goes_from before (history ++ p.entries) more first then fp.legal (subst (λ (l : List Entry). run before l ≡ Some then) parts fq.legal) in
        let on = gone_on n a.state more from.rest gone from.runs in
        let closed : closed_by before (history ++ q.entries) n ≡ closed_by before (history ++ p.entries) n =
        ap (λ (l : List Entry). closed_by before l n) parts
        ∙ (closed_by_append before (history ++ p.entries) more n first fp.legal ∙ (ap (λ (o : Option machine.Cause). option_or o (closed_by a.state more n)) e.comes_to.closed_for ∙ sym e.comes_to.closed_for)) in
        let messages : requests (history ++ q.entries) n ≡ requests (history ++ p.entries) n =
        ap (λ (l : List Entry). requests l n) parts
        ∙ (flat_map-append (λ (x : Entry). taken_by n x.event) (history ++ p.entries) more ∙ (ap (λ (l : List Message). requests (history ++ p.entries) n ++ l) on.unasked ∙ append-nil (requests (history ++ p.entries) n))) in
        let sends : frames_to n fq.sent ≡ frames_to n e.reached.sent =
        ap (frames_to n) (sym from.sent)
        ∙ (frames_to-append n fp.sent from.rest.sent ∙ (ap (λ (l : List (List ℕ)). frames_to n fp.sent ++ l) on.silent ∙ (append-nil (frames_to n fp.sent) ∙ ap (λ (v : Stepped). frames_to n v.sent) (sym reached)))) in
        record {
          reached = then;
          legal = fq.legal;
          comes_to = outcome_as (closed_by before (history ++ p.entries) n) (closed_by before (history ++ q.entries) n) (requests (history ++ p.entries) n) (requests (history ++ q.entries) n) (frames_to n e.reached.sent) (frames_to n fq.sent)
              finish x y closed messages sends e.comes_to;
        }

    pub still_guest : {S W : Type 0} (ends : S → W → LinkState) (link : Link S W) → IsGuest ends p n link → IsGuest ends q n link
    still_guest ends link g = record {
      remains = g.remains;
      serial = g.serial;
      comes_to = record {
        why = g.comes_to.why;
        told_for = g.comes_to.told_for;
        ends = still_ends (finish_for g.comes_to.why g.remains.cause) (ends link.reader link.writer) (ends g.remains.reader g.remains.writer) g.comes_to.ends;
      };
    }

-- ---- places

tended_self : (l : Lane) → IsTended l l
tended_self l = (refl, refl, refl, refl, refl, refl)

tended_along : (l m k : Lane) → IsTended l m → IsTended m k → IsTended l k
tended_along l m k x y = (y.0 ∙ x.0, y.1 ∙ x.1, y.2 ∙ x.2, y.3 ∙ x.3, y.4 ∙ x.4, y.5 ∙ x.5)

tended_fits : (c : Course) (l m : Lane) → IsTended l m → FitsCourse c l.cause (received l.inbound) (sent l.outbound) l.marked l.ended → FitsCourse c m.cause (received m.inbound) (sent m.outbound) m.marked m.ended
tended_fits c l m t f =
    subst (λ (b : Bool). FitsCourse c m.cause (received m.inbound) (sent m.outbound) m.marked b) (sym t.4)
    (subst (λ (b : Bool). FitsCourse c m.cause (received m.inbound) (sent m.outbound) b l.ended) (sym t.5)
    (subst (λ o. FitsCourse c m.cause (received m.inbound) (sent o) l.marked l.ended) (sym t.1)
    (subst (λ i. FitsCourse c m.cause (received i) (sent l.outbound) l.marked l.ended) (sym t.0) (subst (λ k. FitsCourse c k (received l.inbound) (sent l.outbound) l.marked l.ended) (sym t.3) f))))

module _ {S W : Type 0} (ends : S → W → LinkState) where
  -- a session that has left had left as well before its bell was rung
  left_before : (l m : Lane) (link : Link S W) → IsTended l m → HasLeft ends m link → HasLeft ends l link
  left_before l m link t x = record {
    remains = x.remains;
    ended = sym t.4 ∙ x.ended;
    comes_to = (x.comes_to.0 ∙ ap (λ k. k.serial) t.2, λ c f. x.comes_to.1 c (tended_fits c l m t f));
  }

module _ {S W L : Type 0} (ends : S → W → LinkState) where
  pub leaves_none : (ls : List (Option Lane)) (ws : List (Option (Workers S W L))) → StayOrLeave IsTended ends ls ws ls ws
  leaves_none ls ws at l w is works = inl (l, is, works, tended_self l)

  pub leaves_tended : (ls ms : List (Option Lane)) (ws : List (Option (Workers S W L))) → StayAs IsTended ls ms → StayOrLeave IsTended ends ls ws ms ws
  leaves_tended ls ms ws s at l w is works = let x = some_after IsTended (get_or ls at None) (get_or ms at None) l (s.each at) is in inl (x.0, x.1, works, x.2)

  pub leaves_along : (ls ms ns : List (Option Lane)) (ws vs us : List (Option (Workers S W L))) → StayOrLeave IsTended ends ls ws ms vs → StayOrLeave IsTended ends ms vs ns us → StayOrLeave IsTended ends ls ws ns us
  leaves_along ls ms ns ws vs us x y at l w is works = elim (x at l w is works) [
    | inl (m, there, works', t) ↦ elim (y at m w there works') [
      | inl (k, there', works'', t') ↦ inl (k, there', works'', tended_along l m k t t')
      | inr (link, has, left) ↦ inr (link, has, left_before ends l m link t left)
    ]
    | inr left ↦ inr left
  ]

  -- the place of a session that has left is free
  pub leaves_at : (ls : List (Option Lane)) (ws : List (Option (Workers S W L))) (i : ℕ) (l : Lane) (w : Workers S W L) (link : Link S W) → IsAt ls i l → WorkAt ws i w → HaveLink link w → HasLeft ends l link → StayOrLeave IsTended ends ls ws (slice_set ls i None) (slice_set ws i None)
  leaves_at ls ws i l w link is works has left at m v there works' = elim (cases_eq at i) [
    | inl e ↦
        let lane : l ≡ m = same_Some l m (sym is ∙ (ap (λ (k : ℕ). get_or ls k None) (sym e) ∙ there)) in
        let worker : w ≡ v = same_Some w v (sym works ∙ (ap (λ (k : ℕ). get_or ws k None) (sym e) ∙ works')) in
        inr (link, subst (λ (u : Workers S W L). HaveLink link u) worker has, subst (λ (k : Lane). HasLeft ends k link) lane left)
    | inr ne ↦ inl (m, get_or-set_other ls i at None None ne ∙ there, get_or-set_other ws i at None None ne ∙ works', tended_self m)
  ]

  -- it was free before
  pub leaves_free : (ls : List (Option Lane)) (ws : List (Option (Workers S W L))) (i : ℕ) → get_or ls i None ≡ None → StayOrLeave IsTended ends ls ws (slice_set ls i None) (slice_set ws i None)
  leaves_free ls ws i none at m v there works = elim (cases_eq at i) [
    | inl e ↦ absurd (none_some m (sym none ∙ (ap (λ (k : ℕ). get_or ls k None) (sym e) ∙ there)))
    | inr ne ↦ inl (m, get_or-set_other ls i at None None ne ∙ there, get_or-set_other ws i at None None ne ∙ works, tended_self m)
  ]

  -- each lane stays as it is, with its workers
  pub leaves_same : (ls ms : List (Option Lane)) (ws vs : List (Option (Workers S W L))) → ((at : ℕ) (l : Lane) (w : Workers S W L) → IsAt ls at l → WorkAt ws at w → IsAt ms at l × WorkAt vs at w) → StayOrLeave IsTended ends ls ws ms vs
  leaves_same ls ms ws vs same at l w is works = let x = same at l w is works in inl (l, x.0, x.1, tended_self l)

  pub session_same : (ls ms : List (Option Lane)) (ws vs : List (Option (Workers S W L))) → ((at : ℕ) (l : Lane) (w : Workers S W L) → IsAt ls at l → WorkAt ws at w → IsAt ms at l × WorkAt vs at w) → StayOrLeave SameSession ends ls ws ms vs
  session_same ls ms ws vs same at l w is works = let x = same at l w is works in inl (l, x.0, x.1, refl)

  pub session_tended : (ls ms : List (Option Lane)) (ws vs : List (Option (Workers S W L))) → StayOrLeave IsTended ends ls ws ms vs → StayOrLeave SameSession ends ls ws ms vs
  session_tended ls ms ws vs x at l w is works = elim (x at l w is works) [
    | inl (m, there, works', t) ↦ inl (m, there, works', t.2)
    | inr left ↦ inr left
  ]

  pub session_stays : (ls ms : List (Option Lane)) (ws : List (Option (Workers S W L))) → StayAs SameLane ls ms → StayOrLeave SameSession ends ls ws ms ws
  session_stays ls ms ws s at l w is works = let y = some_after SameLane (get_or ls at None) (get_or ms at None) l (s.each at) is in inl (y.0, y.1, works, y.2.2)

  pub session_puts : (ls ms : List (Option Lane)) (ws : List (Option (Workers S W L))) → StayAs PutsAlone ls ms → StayOrLeave SameSession ends ls ws ms ws
  session_puts ls ms ws s at l w is works = let y = some_after PutsAlone (get_or ls at None) (get_or ms at None) l (s.each at) is in inl (y.0, y.1, works, y.2.2)

  -- if no place is taken any more, each session has left
  pub all_left : (ls ms : List (Option Lane)) (ws vs : List (Option (Workers S W L))) → StayOrLeave IsTended ends ls ws ms vs → ((at : ℕ) → get_or ms at None ≡ None) → HaveLeft ends ls ws
  all_left ls ms ws vs x free at l w is works = elim (x at l w is works) [
    | inl (m, there, works', t) ↦ absurd (none_some m (sym (free at) ∙ there))
    | inr left ↦ left
  ]

-- ---- lanes that were there

pub there_none : (ls : List (Option Lane)) → WereThere IsTended ls ls
there_none ls at m is = (m, is, (refl, refl, refl, refl, refl, refl))

pub there_tended : (ls ms : List (Option Lane)) → StayAs IsTended ls ms → WereThere IsTended ls ms
there_tended ls ms s at m is = some_before IsTended (get_or ls at None) (get_or ms at None) m (s.each at) is

pub there_along : (ls ms ns : List (Option Lane)) → WereThere IsTended ls ms → WereThere IsTended ms ns → WereThere IsTended ls ns
there_along ls ms ns x y at n is =
    let m = y at n is in let l = x at m.0 m.1 in let t = l.2 in let t' = m.2 in
    (l.0, l.1, (t'.0 ∙ t.0, t'.1 ∙ t.1, t'.2 ∙ t.2, t'.3 ∙ t.3, t'.4 ∙ t.4, t'.5 ∙ t.5))

-- a place was freed
pub there_freed : (ls : List (Option Lane)) (i : ℕ) → i < length ls → WereThere IsTended ls (slice_set ls i None)
there_freed ls i low at m is = elim (cases_eq at i) [
  | inl e ↦ absurd (none_some m (sym (get_or-set_at ls i at None None e low) ∙ is))
  | inr ne ↦ (m, sym (get_or-set_other ls i at None None ne) ∙ is, (refl, refl, refl, refl, refl, refl))
]

-- what waits was moved, and nothing waits after it
pub flushed_there : {K D : Type 0} (a b : Desk K D) → b.core ≡ a.core → WereThere IsTended a.lanes.items b.lanes.items → AreFlushed a → AreFlushed b
flushed_there a b same there flushed at m is =
    let x = there at m is in let t = x.2 in let n = ap (λ (s : Session). s.serial) t.2 in
    elim (flushed at x.0 x.1) [
      | inl marked ↦ inl (t.5 ∙ marked)
      | inr (is_there, none) ↦
          inr (ap (λ k. is_open k.state m.session.serial) same ∙ (ap (λ k. is_open a.core.state k) n ∙ is_there), ap (λ k. waiting_for m.session.serial k.outbox) same ∙ (ap (λ k. waiting_for k a.core.outbox) n ∙ none))
    ]

-- ---- guests

-- workers were handed one link
same_link : {S W L : Type 0} (w : Workers S W L) (k j : Link S W) → HaveLink k w → HaveLink j w → k ≡ j
same_link {S} {W} w k j has has' =
    let reader : k.reader ≡ j.reader = same_Some k.reader j.reader (ap (λ (l : List (Option S)). get_or l 0 None) (sym has.0 ∙ has'.0)) in
    let writer : k.writer ≡ j.writer = same_Some k.writer j.writer (ap (λ (l : List (Option W)). get_or l 0 None) (sym has.1 ∙ has'.1)) in
    ap (λ (r : S). record { reader = r; writer = k.writer }) reader ∙ ap (λ (v : W). record { reader = j.reader; writer = v }) writer

module _ {K D S W : Type 0} (ends : S → W → LinkState) where
  -- a session that has left was a guest
  guest_left : {start a : CoreState K D} (p : Since start a) (n : ℕ) (l : Lane) (link : Link S W) → start.state.next ≤ n → l.session.serial ≡ n
      → FitsCourse (course_of p n) l.cause (received l.inbound) (sent l.outbound) l.marked l.ended → HasLeft ends l link → IsGuest ends p n link
  guest_left p n l link low serial fits left = record {
    remains = left.remains;
    serial = left.comes_to.0 ∙ serial;
    comes_to = link_ends p n low left.remains.cause (ends link.reader link.writer) (ends left.remains.reader left.remains.writer) (left.comes_to.1 (course_of p n) fits);
  }

module _ {K D S W L : Type 0} (ends : S → W → LinkState) where
  pub guest_of : {start a : CoreState K D} (ls : List (Option Lane)) (s : Serves start a ls) (n i : ℕ) (l : Lane) (w : Workers S W L) (link : Link S W) → IsAt ls i l → l.session.serial ≡ n → HaveLink link w → (k : Link S W) × HaveLink k w × HasLeft ends l k → IsGuest ends s.since n link × (is_open a.state n ≡ false)
  guest_of {start = start} {a = a} ls s n i l w link is serial has (k, has', left) =
      let fits : FitsCourse (course_of s.since n) l.cause (received l.inbound) (sent l.outbound) l.marked l.ended =
      subst (λ (k : ℕ). FitsCourse (course_of s.since k) l.cause (received l.inbound) (sent l.outbound) l.marked l.ended) serial (s.fits i l is) in
      let low : start.state.next ≤ n = subst (λ (k : ℕ). start.state.next ≤ k) serial (s.later i l is) in
      (guest_left ends s.since n l link low serial fits (subst (λ (j : Link S W). HasLeft ends l j) (same_link w k link has' has) left), fits.ends left.ended)

  -- how a session is hosted
  abbrev pub Hosted : {start a : CoreState K D} (ls : List (Option Lane)) (ws : List (Option (Workers S W L))) → Since start a → ℕ → Link S W → Type 0
  Hosted {a = a} ls ws p n link = HasPlace ls ws n link ⊎ (IsGuest ends p n link × (is_open a.state n ≡ false))

  -- and so it is after a step
  hosted_later : {start a b : CoreState K D} (at : ℕ) (ls ms : List (Option Lane)) (ws vs : List (Option (Workers S W L))) (s : Serves start a ls) (on : ServesOn at s b ms) → StayOrLeave SameSession ends ls ws ms vs
      → (n : ℕ) (link : Link S W) → n < a.state.next → Hosted ls ws s.since n link → Hosted ms vs on.after.since n link
  hosted_later at ls ms ws vs s on leaves n link low (inl (i, l, w, is, works, serial, has)) = elim (leaves i l w is works) [
    | inl (m, there, works', same) ↦ inl (i, m, w, there, works', ap (λ k. k.serial) same ∙ serial, has)
    | inr left ↦
        let x = guest_of ls s n i l w link is serial has left in
        inr (still_guest s.since on.after.since on.more on.adds n low x.1 ends link x.0, still_away s.since on.after.since on.more on.adds n low x.1)
  ]
  hosted_later at ls ms ws vs s on leaves n link low (inr (guest, away)) =
      inr (still_guest s.since on.after.since on.more on.adds n low away ends link guest, still_away s.since on.after.since on.more on.adds n low away)

  -- What becomes of the sessions in one step, in which links came, and those of them that got a session have a place.
  pub hosts_of : (at : ℕ) (old new : Hall K D S W L) (came seated : List (Link S W)) → SameArrivals old.accepted new.accepted → arrived new.accepted ≡ arrived old.accepted ++ came → AreAmong seated came
      → DeskGoesOn at old.desk new.desk → StayOrLeave SameSession ends old.desk.lanes.items old.workers.items new.desk.lanes.items new.workers.items
      → new.desk.core.state.next ≡ old.desk.core.state.next + length seated → EachFrom (λ n link. HasPlace new.desk.lanes.items new.workers.items n link) old.desk.core.state.next seated → HostsOn ends at old new
  hosts_of at old new came seated ring comes among goes leaves next places = record {
    ring = ring;
    hosts = λ start s.
        let on = goes start s in (
          on,
          λ hosted.
              let ls = old.desk.lanes.items in let ms = new.desk.lanes.items in let ws = old.workers.items in let vs = new.workers.items in
              let was = hosted.many in
              let now = λ (n : ℕ) (link : Link S W). Hosted ms vs on.after.since n link in
              record {
                guests = hosted.guests ++ seated;
                among = subst (λ (l : List (Link S W)). AreAmong (hosted.guests ++ seated) l) (sym comes) (among_append hosted.guests (arrived old.accepted) seated came hosted.among among);
                many = (let long = length-append hosted.guests seated in omega (arith, next, was, long));
                each = from_append now start.state.next hosted.guests seated
                    (from_each (λ (n : ℕ) (link : Link S W). Hosted ls ws s.since n link) now start.state.next hosted.guests (λ n link low is. hosted_later at ls ms ws vs s on leaves n link (omega (arith, low, was)) is) hosted.each)
                    (subst (λ (n : ℕ). EachFrom now n seated) was (from_each (λ (n : ℕ) (link : Link S W). HasPlace ms vs n link) now old.desk.core.state.next seated (λ n link low is. inl is) places));
              },
        );
  }

  -- a step that takes no link
  pub hosts_steady : (at : ℕ) (old new : Hall K D S W L) → new.accepted ≡ old.accepted → DeskGoesOn at old.desk new.desk → StayOrLeave SameSession ends old.desk.lanes.items old.workers.items new.desk.lanes.items new.workers.items → new.desk.core.state.next ≡ old.desk.core.state.next → HostsOn ends at old new
  hosts_steady at old new same goes leaves next = hosts_of at old new [] [] (arrivals_same old.accepted new.accepted same) (ap arrived same ∙ sym (append-nil (arrived old.accepted))) tt goes leaves (omega (arith, next)) tt

  pub hosts_none : (at : ℕ) (a : Hall K D S W L) → HostsOn ends at a a
  hosts_none at a = hosts_steady at a a refl (goes_none at a.desk.core a.desk.lanes.items) (session_tended ends a.desk.lanes.items a.desk.lanes.items a.workers.items a.workers.items (leaves_none ends a.desk.lanes.items a.workers.items)) refl

  -- two steps at one moment
  pub hosts_along : (at : ℕ) (a b c : Hall K D S W L) → HostsOn ends at a b → HostsOn ends at b c → HostsOn ends at a c
  hosts_along at a b c x y = record {
    ring = arrivals_along a.accepted b.accepted c.accepted x.ring y.ring;
    hosts = λ start s.
        let p = x.hosts start s in let q = y.hosts start p.0.after in (
          record {
            after = q.0.after;
            more = p.0.more ++ q.0.more;
            adds = q.0.adds ∙ (ap (λ (l : List Entry). l ++ q.0.more) p.0.adds ∙ append_assoc s.since.entries p.0.more q.0.more);
            timed = timed_append at a.desk.core.state p.0.more q.0.more b.desk.core.state c.desk.core.state p.0.timed q.0.timed;
            counts = counts_on a.desk.core b.desk.core c.desk.core p.0.more q.0.more p.0.counts q.0.counts;
          },
          λ hosted. q.1 (p.1 hosted),
        );
  }

-- ---- by the clock

module _ {K D S W L C : Type 0} (ends : S → W → LinkState) (tells : C → ℕ → C → Type 0) where
  pub hosts_first : (a : Hall K D S W L) (clock : C) → HostsBy ends tells a clock a clock
  hosts_first a clock = record {
    moments = [];
    reported = refl;
    ring = arrivals_same a.accepted a.accepted refl;
    hosts = λ start s. (record { after = s; more = []; adds = sym (append-nil s.since.entries); timed = (refl, refl) }, λ hosted. hosted);
  }

  pub hosts_more : (a b c : Hall K D S W L) (clock mid last : C) (at : ℕ) → HostsBy ends tells a clock b mid → tells mid at last → HostsOn ends at b c → HostsBy ends tells a clock c last
  hosts_more a b c clock mid last at x told goes = record {
    moments = x.moments ++ at ∷ [];
    reported = tells_more tells x.moments at clock mid last x.reported told;
    ring = arrivals_along a.accepted b.accepted c.accepted x.ring goes.ring;
    hosts = λ start s.
        let p = x.hosts start s in let q = goes.hosts start p.0.after in (
          record {
            after = q.0.after;
            more = p.0.more ++ q.0.more;
            adds = q.0.adds ∙ (ap (λ (l : List Entry). l ++ q.0.more) p.0.adds ∙ append_assoc s.since.entries p.0.more q.0.more);
            timed = timed_more x.moments at a.desk.core.state p.0.more q.0.more b.desk.core.state c.desk.core.state p.0.timed q.0.timed;
          },
          λ hosted. q.1 (p.1 hosted),
        );
  }
