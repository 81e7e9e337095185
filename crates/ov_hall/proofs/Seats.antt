-- Places, their lanes and their workers.
use Rattle.std.proofs.Common.{◌≡◌, ◌⊎◌, inl, inr, ℕ, zero, suc, ◌+◌, ◌<◌, List, [], ◌∷◌, ◌++◌, length, length-append, get_or, slice_set, refl, sym, ap, subst, ◌∙◌, get_or-set_other, length-set, Bool, true, false, Option, Some, None, arith}
use Rattle.std.proofs.lemmas.Grind.{get_or-set_at}
use Rattle.std.proofs.lemmas.Bool.{cases_eq, false≢true}
use Rattle.std.proofs.lemmas.Option.{same_Some}
use Rattle.rtrb.specs.Ring.{sent, received, IsPair, SameProducer, SameConsumer}
use Rattle.rtrb.specs.declared.producer.Producer.{Producer}
use Rattle.rtrb.specs.declared.consumer.Consumer.{Consumer}
use Rattle.ov_lanes.specs.Lanes.{SameLane, StaysAs, StayAs, IsNewLane, AreNewLanes}
use Rattle.ov_lanes.specs.Pairs.{Threewise}
use Rattle.ov_lanes.specs.declared.lane.Lane.{Lane}
use Rattle.ov_workers.specs.declared.link.Link.{Link}
use Rattle.ov_threads.specs.Handing.{kept_if}
use Rattle.ov_threads.specs.declared.workers.Workers.{Workers}
use Rattle.ov_sessions.specs.declared.session.Session.{Session}
use Rattle.ov_lanes.specs.Opening.{AreSessions}
use Rattle.ov_hall.proofs.Pairs.{threes_more, threes_ended, threes_lengths}
use Rattle.ov_hall.specs.Seats.{HaveLink, AreWorkersOf, IsSeat, ArePlaces, IsStarted, AreStarted, IsSeatOf}
use Rattle.ov_hall.specs.declared.start.Started.{Started}

-- ---- the ends of a ring of which one was used

module _ {T A P : Type 0} where
  pub pair_inbound : (p : Producer T A P) (c d : Consumer T A P) → SameConsumer c d → IsPair p c → IsPair p d
  pair_inbound p c d same pair = (same.0.0 ∙ pair.0, same.0.1 ∙ pair.1, same.0.2 ∙ pair.2, same.0.3 ∙ pair.3)

  pub pair_outbound : (p q : Producer T A P) (c : Consumer T A P) → SameProducer p q → IsPair p c → IsPair q c
  pair_outbound p q c same pair = (pair.0 ∙ sym same.0.0, pair.1 ∙ sym same.0.1, pair.2 ∙ sym same.0.2, pair.3 ∙ sym same.0.3)

module _ {S W L : Type 0} (keeps : Bool) where
  -- the lane was moved on
  pub workers_stay : (l m : Lane) (w : Workers S W L) → SameLane l m → AreWorkersOf keeps l w → AreWorkersOf keeps m w
  workers_stay l m w same a = record {
    reads = pair_inbound w.reading.handle.promise.inlet.value.ring l.inbound m.inbound same.1 a.reads;
    writes = pair_outbound l.outbound m.outbound w.writing.handle.promise.ring.value same.0 a.writes;
    notes = a.notes ∙ ap (λ k. k.serial) (sym same.2);
    keep = a.keep;
  }

  seat_stays : (p q : Option Lane) (w : Option (Workers S W L)) → StaysAs SameLane p q → IsSeat keeps p w → IsSeat keeps q w
  seat_stays None q w s seat = subst (λ (k : Option Lane). IsSeat keeps k w) (sym s) seat
  seat_stays (Some l) None w s seat = absurd s
  seat_stays (Some l) (Some m) None s seat = absurd seat
  seat_stays (Some l) (Some m) (Some w) s (a, link) = (workers_stay l m w s a, link)

  pub seats_stay : (ls ms : List (Option Lane)) (ws : List (Option (Workers S W L))) → StayAs SameLane ls ms → ArePlaces keeps ls ws → ArePlaces keeps ms ws
  seats_stay ls ms ws s seats = record { many = seats.many ∙ sym s.many; each = λ at. seat_stays (get_or ls at None) (get_or ms at None) (get_or ws at None) (s.each at) (seats.each at) }

  -- one place has another session, or none
  pub seats_set : (ls : List (Option Lane)) (ws : List (Option (Workers S W L))) (i : ℕ) (p : Option Lane) (w : Option (Workers S W L)) → i < length ls → IsSeat keeps p w → ArePlaces keeps ls ws → ArePlaces keeps (slice_set ls i p) (slice_set ws i w)
  seats_set ls ws i p w lt seat seats = record {
    many = length-set ws i w ∙ (seats.many ∙ sym (length-set ls i p));
    each = λ at. elim (cases_eq at i) [
      | inl e ↦
          subst (λ q. IsSeat keeps q (get_or (slice_set ws i w) at None)) (sym (get_or-set_at ls i at p None e lt))
          (subst (λ v. IsSeat keeps p v) (sym (get_or-set_at ws i at w None e (omega (arith, seats.many, lt)))) seat)
      | inr ne ↦
          subst (λ q. IsSeat keeps q (get_or (slice_set ws i w) at None)) (sym (get_or-set_other ls i at p None ne))
          (subst (λ v. IsSeat keeps (get_or ls at None) v) (sym (get_or-set_other ws i at w None ne)) (seats.each at))
    ];
  }

  -- what is known of a place that is taken
  seat_some : (p : Option Lane) (v : Option (Workers S W L)) (l : Lane) (w : Workers S W L) → p ≡ Some l → v ≡ Some w → IsSeat keeps p v → AreWorkersOf keeps l w × ((k : Link S W) × HaveLink k w)
  seat_some None v l w is is' seat = absurd (cc)
  seat_some (Some m) None l w is is' seat = absurd seat
  seat_some (Some m) (Some u) l w is is' seat =
      subst (λ x. AreWorkersOf keeps x w × ((k : Link S W) × HaveLink k w)) (same_Some m l is) (subst (λ y. AreWorkersOf keeps m y × ((k : Link S W) × HaveLink k y)) (same_Some u w is') seat)

  seat_none : (p : Option Lane) (v : Option (Workers S W L)) (l : Lane) → p ≡ Some l → v ≡ None → IsSeat keeps p v → ⊥
  seat_none None v l is none seat = cc
  seat_none (Some m) None l is none seat = seat
  seat_none (Some m) (Some w) l is none seat = cc

  pub seated_at : (ls : List (Option Lane)) (ws : List (Option (Workers S W L))) (i : ℕ) (l : Lane) (w : Workers S W L) → get_or ls i None ≡ Some l → get_or ws i None ≡ Some w → ArePlaces keeps ls ws → AreWorkersOf keeps l w × ((k : Link S W) × HaveLink k w)
  seated_at ls ws i l w is is' seats = seat_some (get_or ls i None) (get_or ws i None) l w is is' (seats.each i)

  pub seated_works : (ls : List (Option Lane)) (ws : List (Option (Workers S W L))) (i : ℕ) (l : Lane) → get_or ls i None ≡ Some l → get_or ws i None ≡ None → ArePlaces keeps ls ws → ⊥
  seated_works ls ws i l is none seats = seat_none (get_or ls i None) (get_or ws i None) l is none (seats.each i)

  -- who works at a place that is taken
  pub works_at : (ls : List (Option Lane)) (ws : List (Option (Workers S W L))) (i : ℕ) (l : Lane) → get_or ls i None ≡ Some l → ArePlaces keeps ls ws → (w : Workers S W L) × (get_or ws i None ≡ Some w)
  works_at ls ws i l is seats = found (get_or ws i None) refl
    where
      found : (v : Option (Workers S W L)) → get_or ws i None ≡ v → (w : Workers S W L) × (v ≡ Some w)
      found None none = absurd (seated_works ls ws i l is none seats)
      found (Some w) there = (w, refl)

-- ---- what was started

module _ {S W L : Type 0} (keeps : Bool) where
  pub started_more : (serial : ℕ) (xs : List (Started S W L)) (x : Started S W L) → AreStarted keeps serial xs → IsStarted keeps (serial + length xs) x → AreStarted keeps serial (xs ++ x ∷ [])
  started_more serial [] x are is = (subst (λ n. IsStarted keeps n x) (omega arith) is, tt)
  started_more serial (y ∷ xs) x are is = (are.0, started_more (serial + 1) xs x are.1 (subst (λ n. IsStarted keeps n x) (omega arith) is))

  pub first_started : (serial : ℕ) (xs ys : List (Started S W L)) (x : Started S W L) → xs ≡ x ∷ ys → AreStarted keeps serial xs → IsStarted keeps serial x × AreStarted keeps (serial + 1) ys
  first_started serial xs ys x e are = subst (λ l. AreStarted keeps serial l) e are

-- if there are none, any serial will do
pub started_from : {S W L : Type 0} (keeps : Bool) (a b count : ℕ) (xs : List (Started S W L)) → length xs ≡ count → (a ≡ b) ⊎ (count ≡ 0) → AreStarted keeps a xs → AreStarted keeps b xs
started_from keeps a b count xs long (inl e) are = subst (λ n. AreStarted keeps n xs) e are
started_from keeps a b count [] long (inr none) are = tt
started_from keeps a b count (x ∷ xs) long (inr none) are = absurd (omega (arith, long, none))

-- ---- seats that go with links

module _ {S W L : Type 0} where
  -- each place is a seat
  seat_of : (k : Link S W) (p : Option Lane) (v : Option (Workers S W L)) → IsSeatOf k p v → IsSeat true p v
  seat_of k p v (l, is, w, is', a, link) = subst (λ q. IsSeat true q v) (sym is) (subst (λ u. IsSeat true (Some l) u) (sym is') (a, (k, link)))

  pub seats_of : (ks : List (Link S W)) (ls : List (Option Lane)) (ws : List (Option (Workers S W L))) → Threewise IsSeatOf ks ls ws → ArePlaces true ls ws
  seats_of [] [] [] t = record { many = refl; each = λ at. refl }
  seats_of [] [] (w ∷ ws) t = absurd t
  seats_of [] (p ∷ ls) ws t = absurd t
  seats_of (k ∷ ks) [] ws t = absurd t
  seats_of (k ∷ ks) (p ∷ ls) [] t = absurd t
  seats_of (k ∷ ks) (p ∷ ls) (w ∷ ws) t =
      let r = seats_of ks ls ws t.1 in
      record { many = (let e = r.many in omega (arith, e)); each = at_each k ks p ls w ws t.0 r }
    where
      at_each : (k : Link S W) (ks : List (Link S W)) (p : Option Lane) (ls : List (Option Lane)) (w : Option (Workers S W L)) (ws : List (Option (Workers S W L))) → IsSeatOf k p w → ArePlaces true ls ws → (at : ℕ) → IsSeat true (get_or (p ∷ ls) at None) (get_or (w ∷ ws) at None)
      at_each k ks p ls w ws s r zero = seat_of k p w s
      at_each k ks p ls w ws s r (suc at) = r.each at

  -- later they are the same
  one_stays : (k : Link S W) (p q : Option Lane) (v : Option (Workers S W L)) → StaysAs SameLane p q → IsSeatOf k p v → IsSeatOf k q v
  one_stays k None q v s (l, is, w, is', a, link) = absurd (let e : None ≡ Some l = is in cc)
  one_stays k (Some m) None v s t = absurd s
  one_stays k (Some m) (Some n) v s (l, is, w, is', a, link) = (n, refl, w, is', workers_stay true m n w s (subst (λ x. AreWorkersOf true x w) (sym (same_Some m l is)) a), link)

  pub seats_later : (ks : List (Link S W)) (ls ms : List (Option Lane)) (ws : List (Option (Workers S W L))) → StayAs SameLane ls ms → Threewise IsSeatOf ks ls ws → Threewise IsSeatOf ks ms ws
  seats_later [] [] [] ws s t = t
  seats_later [] [] (q ∷ ms) ws s t = absurd (let e : length (q ∷ ms) ≡ 0 = s.many in omega (arith, e))
  seats_later [] (p ∷ ls) ms ws s t = absurd t
  seats_later (k ∷ ks) [] ms ws s t = absurd t
  seats_later (k ∷ ks) (p ∷ ls) [] ws s t = absurd (let e : 0 ≡ length (p ∷ ls) = s.many in omega (arith, e))
  seats_later (k ∷ ks) (p ∷ ls) (q ∷ ms) [] s t = absurd t
  seats_later (k ∷ ks) (p ∷ ls) (q ∷ ms) (w ∷ ws) s t = (
    one_stays k p q w (s.each zero) t.0,
    seats_later ks ls ms ws (record { many = (let e : length (q ∷ ms) ≡ length (p ∷ ls) = s.many in omega (arith, e)); each = λ at. s.each (suc at) }) t.1,
  )

-- ---- workers that were started, and have a lane now

kept_some : {T : Type 0} (b : Bool) (o : Option T) (x : T) → b ≡ true → o ≡ kept_if b x → o ≡ Some x
kept_some true o x e is = is
kept_some false o x e is = absurd (false≢true e)

pub kept_not_none : {T : Type 0} (b : Bool) (o p : Option T) (x : T) → b ≡ true → o ≡ kept_if b x → p ≡ o → p ≡ None → ⊥
kept_not_none b o p x e is same none = let s = kept_some b o x e is in let other : None ≡ Some x = sym none ∙ (same ∙ s) in cc

pub kept_is : {T : Type 0} (b : Bool) (o p : Option T) (x y : T) → b ≡ true → o ≡ kept_if b x → p ≡ o → p ≡ Some y → x ≡ y
kept_is b o p x y e is same there = same_Some x y (sym (kept_some b o x e is) ∙ (sym same ∙ there))

module _ {S W L : Type 0} (keeps : Bool) (serial : ℕ) (s : Started S W L) (l : Lane) (v : Workers S W L) (started : IsStarted keeps serial s)
    (inbound : l.inbound ≡ s.inbound) (outbound : l.outbound ≡ s.outbound) (session : l.session.serial ≡ serial)
    (reading : v.reading.handle.promise ≡ s.workers.reading.handle.promise) (writing : v.writing.handle.promise ≡ s.workers.writing.handle.promise) where
  pub started_works : AreWorkersOf keeps l v
  started_works = record {
    reads = subst (λ p. IsPair p.inlet.value.ring l.inbound) (sym reading) (subst (λ i. IsPair s.workers.reading.handle.promise.inlet.value.ring i) (sym inbound) started.reads);
    writes = subst (λ p. IsPair l.outbound p.ring.value) (sym writing) (subst (λ i. IsPair i s.workers.writing.handle.promise.ring.value) (sym outbound) started.writes);
    notes = ap (λ p. p.inlet.value.noter.serial) reading ∙ (started.notes ∙ sym session);
    keep = (ap (λ p. p.keeps) reading ∙ started.keep.0, ap (λ p. p.keeps) writing ∙ started.keep.1);
  }

  pub started_new : (l.cause ≡ None) × (l.ended ≡ false) × (l.marked ≡ false) → IsNewLane serial l
  started_new nothing = record {
    session = session;
    cause = nothing.0;
    taken = ap received inbound ∙ started.fresh.0;
    puts = ap sent outbound ∙ started.fresh.1;
    is_marked = nothing.2;
    is_ended = nothing.1;
  }

pub news_more : (first : ℕ) (ls : List (Option Lane)) (l : Lane) → AreNewLanes first ls → IsNewLane (first + length ls) l → AreNewLanes first (ls ++ Some l ∷ [])
news_more first [] l are is = ((l, refl, subst (λ n. IsNewLane n l) (omega arith) is), tt)
news_more first (p ∷ ls) l are is = (are.0, news_more (first + 1) ls l are.1 (subst (λ n. IsNewLane n l) (omega arith) is))

pub first_session : (serial : ℕ) (xs ys : List Session) (x : Session) → xs ≡ x ∷ ys → AreSessions serial xs → (x.serial ≡ serial) × AreSessions (serial + 1) ys
first_session serial xs ys x e are = subst (λ l. AreSessions serial l) e are

-- one seat more
pub seat_more : {S W L : Type 0} (first : ℕ) (front : List (Link S W)) (ls : List (Option Lane)) (ws : List (Option (Workers S W L))) (k : Link S W) (l : Lane) (v : Workers S W L)
    → AreNewLanes first ls → Threewise IsSeatOf front ls ws → IsNewLane (first + length ls) l → AreWorkersOf true l v → HaveLink k v
    → AreNewLanes first (ls ++ Some l ∷ []) × Threewise IsSeatOf (front ++ k ∷ []) (ls ++ Some l ∷ []) (ws ++ Some v ∷ [])
seat_more first front ls ws k l v news seats new works link = (news_more first ls l news new, threes_more IsSeatOf front ls ws k (Some l) (Some v) (l, refl, v, refl, works, link) seats)

-- ---- the last seat

module _ {S W L : Type 0} (ks : List (Link S W)) (ls ls' : List (Option Lane)) (ws : List (Option (Workers S W L))) (p : Option Lane) (e : ls ≡ ls' ++ p ∷ []) (t : Threewise IsSeatOf ks ls ws) where
  pub last_seated : ws ≡ [] → ⊥
  last_seated none =
      let long = threes_lengths IsSeatOf ks ls ws t in
      let more = ap length e ∙ length-append ls' (p ∷ []) in omega (arith, long, more, ap length none)

  pub last_seat : (ws' : List (Option (Workers S W L))) (v : Option (Workers S W L)) → ws ≡ ws' ++ v ∷ [] → (front : List (Link S W)) × (k : Link S W) × (ks ≡ front ++ k ∷ []) × Threewise IsSeatOf front ls' ws' × IsSeatOf k p v
  last_seat ws' v e' = threes_ended IsSeatOf ks ls ls' ws ws' p v e e' t

-- what is known of a place and of workers that were found there
pub seat_parts : {S W L : Type 0} (k : Link S W) (p : Option Lane) (v : Option (Workers S W L)) (lane : Lane) (worker : Workers S W L) → p ≡ Some lane → v ≡ Some worker → IsSeatOf k p v → AreWorkersOf true lane worker × HaveLink k worker
seat_parts k p v lane worker is is' (l, there, u, there', works, link) =
    let a : l ≡ lane = same_Some l lane (sym there ∙ is) in let b : u ≡ worker = same_Some u worker (sym there' ∙ is') in
    (subst (λ x. AreWorkersOf true x worker) a (subst (λ y. AreWorkersOf true l y) b works), subst (λ y. HaveLink k y) b link)

pub seat_not_none : {S W L : Type 0} (k : Link S W) (p : Option Lane) (v : Option (Workers S W L)) → IsSeatOf k p v → p ≡ None → ⊥
seat_not_none k p v (l, there, u, there', works, link) none = let e : None ≡ Some l = sym none ∙ there in cc

pub seat_works : {S W L : Type 0} (k : Link S W) (p : Option Lane) (v : Option (Workers S W L)) → IsSeatOf k p v → v ≡ None → ⊥
seat_works k p v (l, there, u, there', works, link) none = let e : None ≡ Some u = sym none ∙ there' in cc
