-- What is left of all links, once their lanes fit what became of their sessions.
use Rattle.std.proofs.Common.{◌≡◌, ℕ, zero, suc, ◌+◌, ◌≤◌, List, [], ◌∷◌, get_or, sym, ap, subst, ◌∙◌, Option, Some, None, arith}
use Rattle.std.proofs.lemmas.Option.{same_Some}
use Rattle.ov_core.specs.Following.{CoreState}
use Rattle.ov_lanes.specs.Since.{Since, course_of}
use Rattle.ov_lanes.specs.Lanes.{IsAt, AreNewLanes, LaneFits, SameLane, StayAs}
use Rattle.ov_lanes.specs.Pairs.{Threewise}
use Rattle.ov_lanes.specs.declared.lane.Lane.{Lane}
use Rattle.ov_workers.specs.declared.link.Link.{Link}
use Rattle.ov_lanes.proofs.PlaceLaws.{some_before}
use Rattle.ov_workers.specs.LinkStates.{LinkState}
use Rattle.ov_hall.specs.declared.finish.End.{End}
use Rattle.ov_hall.specs.Ending.{CourseEnds, LinkEnds}
use Rattle.ov_hall.specs.Ends.{EndsLane, EndsSeat}
use Rattle.ov_desk.specs.Serving.{AllEnd}
use Rattle.ov_hall.proofs.Endings.{link_ends}

-- the sessions at the places have consecutive serials; this is the first
pub CountUp : ℕ → List (Option Lane) → Type 0
CountUp serial ls = (i : ℕ) (l : Lane) → IsAt ls i l → l.session.serial ≡ serial + i

pub count_new : (serial : ℕ) (ls : List (Option Lane)) → AreNewLanes serial ls → CountUp serial ls
unfolding CountUp
count_new serial [] are i l is = absurd (none_some l is)
  where
    none_some : (x : Lane) → None ≡ Some x → ⊥
    none_some x h = cc
count_new serial (p ∷ ls) are zero l is = let same : are.0.0 ≡ l = same_Some are.0.0 l (sym are.0.1 ∙ is) in let x = are.0.2.session in omega (arith, x, ap (λ (k : Lane). k.session.serial) same)
count_new serial (p ∷ ls) are (suc i) l is = let x = count_new (serial + 1) ls are.1 i l is in omega (arith, x)

-- they are the same later
pub count_stays : (serial : ℕ) (ls ms : List (Option Lane)) → StayAs SameLane ls ms → CountUp serial ls → CountUp serial ms
unfolding CountUp
count_stays serial ls ms s count i m is =
    let x = some_before SameLane (get_or ls i None) (get_or ms i None) m (s.each i) is in
    ap (λ k. k.serial) x.2.2 ∙ count i x.0 x.1

module _ {K D S W : Type 0} {old new : CoreState K D} (ends : S → W → LinkState) (since : Since old new) where
  one_ends : (base : ℕ) → old.state.next ≤ base → (l : Lane) (e : End S W) (k : Link S W) → l.session.serial ≡ base → LaneFits since l → EndsLane ends k l e
      → LinkEnds since base e.cause (ends k.reader k.writer) (ends e.reader e.writer)
  one_ends base later l e k serial fits comes_to =
      let comes = comes_to.1 (course_of since l.session.serial) fits in
      link_ends since base later e.cause (ends k.reader k.writer) (ends e.reader e.writer)
      (subst (λ (n : ℕ). CourseEnds (course_of since n) e.cause (ends k.reader k.writer) (ends e.reader e.writer)) serial comes)

  pub all_end : (base : ℕ) → old.state.next ≤ base → (ks : List (Link S W)) (ls : List (Option Lane)) (es : List (End S W)) → ((i : ℕ) (l : Lane) → IsAt ls i l → LaneFits since l) → CountUp base ls
      → Threewise (λ k p e. EndsSeat ends k p e) ks ls es → AllEnd ends since base ks es
  unfolding CountUp
  all_end base later [] [] [] fits count t = tt
  all_end base later [] [] (e ∷ es) fits count t = absurd t
  all_end base later [] (p ∷ ls) es fits count t = absurd t
  all_end base later (k ∷ ks) [] es fits count t = absurd t
  all_end base later (k ∷ ks) (p ∷ ls) [] fits count t = absurd t
  all_end base later (k ∷ ks) (p ∷ ls) (e ∷ es) fits count t =
      let l = t.0.0 in let is = t.0.1 in
      let serial : l.session.serial ≡ base = (let x = count zero l is in omega (arith, x)) in (
        t.0.2.0 ∙ serial,
        one_ends base later l e k serial (fits zero l is) t.0.2,
        all_end (base + 1) (omega (arith, later)) ks ls es (λ i m there. fits (suc i) m there) (λ i m there. let x = count (suc i) m there in omega (arith, x)) t.1,
      )
