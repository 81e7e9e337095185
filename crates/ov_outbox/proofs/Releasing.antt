-- Frames that are sent one by one, each in a place that was kept for it.
use Rattle.std.proofs.Common.{◌≡◌, ℕ, ◌+◌, ◌≤◌, ◌<◌, List, [], ◌∷◌, ◌++◌, map, filter, Bool, true, false, cond, eqb, refl, sym, ap, ◌∙◌, arith, append_assoc}
use Rattle.std.proofs.lemmas.Bool.{eqb-true, eq-eqb, ne_eqb}
use Rattle.std.proofs.lemmas.List.{append-nil}
use Rattle.std.proofs.lemmas.List.Sums.{sum_by-append, sum_by-cons, sum_by_push}
use Rattle.ov_specs.specs.machine.Machine.{Sent}
use Rattle.ov_specs.specs.machine.History.{frames_to}
use Rattle.ov_outbox.specs.Frames.{WaitingFrames, waiting_for, places_for, PostsFrame, PostsSent, HasSameFrames, GivesUpPlace, TakesPlaces, posted, count_for, frames_for, PostsAll}

-- a place is kept for each of these
abbrev pub HavePlaces : List (ℕ × List ℕ) → WaitingFrames → Type 0
HavePlaces frames queues = (other : ℕ) → count_for other frames ≤ places_for other queues

pub turned : (a b : ℕ) → eqb a b ≡ eqb b a
turned a b = by (eqb b a) refl
  where
    by : (c : Bool) → eqb b a ≡ c → eqb a b ≡ c
    by true e = eq-eqb a b (sym (eqb-true b a e))
    by false e = ne_eqb a b (λ k. let f : true ≡ false = sym (eq-eqb b a (sym k)) ∙ e in cc)

-- frames are for the sessions to which they are sent
pub frames_for-posted : (other : ℕ) (sent : List Sent) → frames_for other (map posted sent) ≡ frames_to other sent
frames_for-posted other [] = refl
frames_for-posted other (t ∷ sent) = by (frames_for-posted other sent) (eqb t.session other)
  where
    by : frames_for other (map posted sent) ≡ frames_to other sent → (b : Bool)
        → map (λ (p : ℕ × List ℕ). p.1) (cond b (posted t ∷ filter (λ p. eqb p.0 other) (map posted sent)) (filter (λ p. eqb p.0 other) (map posted sent)))
        ≡ map (λ (u : Sent). (posted u).1) (cond b (t ∷ filter (λ u. eqb u.session other) sent) (filter (λ u. eqb u.session other) sent))
    by rest true = ap (λ fs. (posted t).1 ∷ fs) rest
    by rest false = rest

pub posts_sent : (frames : List (ℕ × List ℕ)) (old new : WaitingFrames) → PostsAll frames old new → (sent : List Sent) → frames ≡ map posted sent → PostsSent sent old new
posts_sent frames old new all sent is other = all other ∙ ap (λ fs. waiting_for other old ++ fs) (ap (frames_for other) is ∙ frames_for-posted other sent)

-- the first of them
pub frames_for-first : (other s : ℕ) (f : List ℕ) (rest : List (ℕ × List ℕ)) → frames_for other ((s, f) ∷ rest) ≡ cond (eqb other s) (f ∷ []) [] ++ frames_for other rest
frames_for-first other s f rest = ap (λ b. map (λ (p : ℕ × List ℕ). p.1) (cond b ((s, f) ∷ filter (λ p. eqb p.0 other) rest) (filter (λ p. eqb p.0 other) rest))) (turned s other) ∙ by (eqb other s)
  where
    by : (b : Bool) → map (λ (p : ℕ × List ℕ). p.1) (cond b ((s, f) ∷ filter (λ p. eqb p.0 other) rest) (filter (λ p. eqb p.0 other) rest)) ≡ cond b (f ∷ []) [] ++ frames_for other rest
    by true = refl
    by false = refl

pub count_for-first : (other s : ℕ) (f : List ℕ) (rest : List (ℕ × List ℕ)) → count_for other ((s, f) ∷ rest) ≡ cond (eqb other s) 1 0 + count_for other rest
count_for-first other s f rest = sum_by-cons _ (s, f) rest ∙ ap (λ b. cond b 1 0 + count_for other rest) (turned s other)

pub count_for-last : (other s : ℕ) (f : List ℕ) (front : List (ℕ × List ℕ)) → count_for other (front ++ (s, f) ∷ []) ≡ count_for other front + cond (eqb other s) 1 0
count_for-last other s f front = sum_by_push _ front (s, f) ∙ ap (λ b. count_for other front + cond b 1 0) (turned s other)

pub count_for-append : (other : ℕ) (xs ys : List (ℕ × List ℕ)) → count_for other (xs ++ ys) ≡ count_for other xs + count_for other ys
count_for-append other xs ys = sum_by-append _ xs ys

-- a place is kept for the first
pub first_place : (s : ℕ) (f : List ℕ) (rest : List (ℕ × List ℕ)) (queues : WaitingFrames) → HavePlaces ((s, f) ∷ rest) queues → 0 < places_for s queues
first_place s f rest queues room =
    let some = count_for-first s s f rest in
    let one : cond {A = ℕ} (eqb s s) 1 0 ≡ 1 = ap (λ b. cond {A = ℕ} b 1 0) (eq-eqb s s refl) in
    let has = room s in
    omega arith

-- and for the last
pub last_place : (s : ℕ) (f : List ℕ) (front : List (ℕ × List ℕ)) (queues : WaitingFrames) → HavePlaces (front ++ (s, f) ∷ []) queues → 0 < places_for s queues
last_place s f front queues room =
    let some = count_for-last s s f front in
    let one : cond {A = ℕ} (eqb s s) 1 0 ≡ 1 = ap (λ b. cond {A = ℕ} b 1 0) (eq-eqb s s refl) in
    let has = room s in
    omega arith

-- ---- one after the other

-- Those of these frames are left: what waits now, followed by those, is what waited at first, followed by all.
pub record IsReleasing (all left : List (ℕ × List ℕ)) (first now : WaitingFrames) : Type 0 where
  pub frames : (other : ℕ) → waiting_for other now ++ frames_for other left ≡ waiting_for other first ++ frames_for other all
  pub places : (other : ℕ) → places_for other now + count_for other all ≡ places_for other first + count_for other left
  pub room : HavePlaces left now

pub releasing-begins : (all : List (ℕ × List ℕ)) (first : WaitingFrames) → HavePlaces all first → IsReleasing all all first first
releasing-begins all first room = record { frames = λ other. refl; places = λ other. refl; room = room }

-- Those of these frames are left to be given up.
pub record IsGivingUp (all left : List (ℕ × List ℕ)) (first now : WaitingFrames) : Type 0 where
  pub frames : HasSameFrames first now
  pub places : (other : ℕ) → places_for other now + count_for other all ≡ places_for other first + count_for other left
  pub room : HavePlaces left now

pub giving_up-begins : (all : List (ℕ × List ℕ)) (first : WaitingFrames) → HavePlaces all first → IsGivingUp all all first first
giving_up-begins all first room = record { frames = λ other. refl; places = λ other. refl; room = room }

module _ (all : List (ℕ × List ℕ)) (s : ℕ) (f : List ℕ) (rest : List (ℕ × List ℕ)) (first now then : WaitingFrames) where
  -- the places after one was taken
  places_then : ((other : ℕ) → places_for other now + count_for other all ≡ places_for other first + count_for other ((s, f) ∷ rest)) → HavePlaces ((s, f) ∷ rest) now → GivesUpPlace s now then
      → (other : ℕ) → places_for other then + count_for other all ≡ places_for other first + count_for other rest
  places_then places room given other =
      let head = count_for-first other s f rest in
      let has = room other in
      let is = places other in
      let one = given other in
      omega arith

  room_then : HavePlaces ((s, f) ∷ rest) now → GivesUpPlace s now then → HavePlaces rest then
  room_then room given other =
      let head = count_for-first other s f rest in
      let has = room other in
      let one = given other in
      omega arith

  pub releasing-next : IsReleasing all ((s, f) ∷ rest) first now → PostsFrame s f now then → GivesUpPlace s now then → IsReleasing all rest first then
  releasing-next is added given = record {
    frames = λ other.
        ap (λ fs. fs ++ frames_for other rest) (added other) ∙ append_assoc (waiting_for other now) _ (frames_for other rest)
        ∙ ap (λ fs. waiting_for other now ++ fs) (sym (frames_for-first other s f rest)) ∙ is.frames other;
    places = places_then is.places is.room given;
    room = room_then is.room given;
  }

  pub giving_up-next : IsGivingUp all ((s, f) ∷ rest) first now → HasSameFrames now then → GivesUpPlace s now then → IsGivingUp all rest first then
  giving_up-next is same given = record {
    frames = λ other. same other ∙ is.frames other;
    places = places_then is.places is.room given;
    room = room_then is.room given;
  }

pub released : (all : List (ℕ × List ℕ)) (first now : WaitingFrames) → IsReleasing all [] first now → PostsAll all first now
released all first now is other = sym (append-nil (waiting_for other now)) ∙ is.frames other

pub released-places : (all : List (ℕ × List ℕ)) (first now : WaitingFrames) → IsReleasing all [] first now → TakesPlaces all first now
released-places all first now is other = let e = is.places other in omega arith

pub given_up-places : (all : List (ℕ × List ℕ)) (first now : WaitingFrames) → IsGivingUp all [] first now → TakesPlaces all first now
given_up-places all first now is other = let e = is.places other in omega arith

-- the last was taken, and the others are left
pub last-room : (s : ℕ) (f : List ℕ) (front : List (ℕ × List ℕ)) (first now : WaitingFrames) → HavePlaces (front ++ (s, f) ∷ []) first → GivesUpPlace s first now → HavePlaces front now
last-room s f front first now room given other =
    let last = count_for-last other s f front in
    let has = room other in
    let one = given other in
    omega arith

pub last-places : (s : ℕ) (f : List ℕ) (front : List (ℕ × List ℕ)) (first now then : WaitingFrames) → HavePlaces (front ++ (s, f) ∷ []) first → GivesUpPlace s first now → TakesPlaces front now then
    → TakesPlaces (front ++ (s, f) ∷ []) first then
last-places s f front first now then room given taken other =
    let last = count_for-last other s f front in
    let has = room other in
    let one = given other in
    let is = taken other in
    omega arith
