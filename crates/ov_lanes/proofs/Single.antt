-- A single lane that was moved on.
use Rattle.std.proofs.Common.{◌≡◌, ℕ, List, sym, ap, subst, Bool, Option}
use Rattle.rtrb.specs.Ring.{sent, received}
use Rattle.ov_order.specs.declared.items.Sent.{Sent}
use Rattle.ov_history.specs.declared.event.Cause.{Cause}
use Rattle.ov_core.specs.Following.{CoreState}
use Rattle.ov_lanes.specs.Since.{Since, course_of}
use Rattle.ov_lanes.specs.Fitting.{Items, FitsCourse, IsFlushed}
use Rattle.ov_lanes.specs.Lanes.{LaneFits, LaneFitsWith, Moves, Flushes}
use Rattle.ov_lanes.specs.declared.lane.Lane.{Lane}
use Rattle.ov_lanes.proofs.Moving.{Held, held, Fitting, Flushing}

-- the lane has this cause, these items and flags
pub record IsLane (l : Lane) (n : ℕ) (h : Held) : Type 0 where
  pub serial : l.session.serial ≡ n
  pub cause : l.cause ≡ h.known
  pub taken : received l.inbound ≡ h.items
  pub puts : sent l.outbound ≡ h.put
  pub is_marked : l.marked ≡ h.marked
  pub is_ended : l.ended ≡ h.ended

module _ {K D : Type 0} {first b : CoreState K D} (q : Since first b) (n : ℕ) (known : Option Cause) (items : Items) (put : List Sent) (marked ended : Bool) where
  pub lane_fits : (l : Lane) → IsLane l n (held known items put marked ended) → FitsCourse (course_of q n) known items put marked ended → LaneFits q l
  lane_fits l is f =
      subst (λ (k : ℕ). FitsCourse (course_of q k) l.cause (received l.inbound) (sent l.outbound) l.marked l.ended) (sym is.serial)
      (subst (λ k. FitsCourse (course_of q n) k (received l.inbound) (sent l.outbound) l.marked l.ended) (sym is.cause)
      (subst (λ k. FitsCourse (course_of q n) known k (sent l.outbound) l.marked l.ended) (sym is.taken)
      (subst (λ k. FitsCourse (course_of q n) known items k l.marked l.ended) (sym is.puts)
      (subst (λ k. FitsCourse (course_of q n) known items put k l.ended) (sym is.is_marked)
      (subst (λ k. FitsCourse (course_of q n) known items put marked k) (sym is.is_ended) f)))))

-- the same, but for what was taken
module _ {K D : Type 0} {first b : CoreState K D} (q : Since first b) (n : ℕ) (known : Option Cause) (items : Items) (put : List Sent) (marked ended : Bool) where
  pub fits_with : (l : Lane) → l.session.serial ≡ n → l.cause ≡ known → sent l.outbound ≡ put → l.marked ≡ marked → l.ended ≡ ended → FitsCourse (course_of q n) known items put marked ended → LaneFitsWith q items l
  fits_with l serial cause puts is_marked is_ended f =
      subst (λ (k : ℕ). FitsCourse (course_of q k) l.cause items (sent l.outbound) l.marked l.ended) (sym serial)
      (subst (λ k. FitsCourse (course_of q n) k items (sent l.outbound) l.marked l.ended) (sym cause)
      (subst (λ k. FitsCourse (course_of q n) known items k l.marked l.ended) (sym puts)
      (subst (λ k. FitsCourse (course_of q n) known items put k l.ended) (sym is_marked)
      (subst (λ k. FitsCourse (course_of q n) known items put marked k) (sym is_ended) f))))

module _ {K D : Type 0} {first a b : CoreState K D} (at : ℕ) (p : Since first a) (l l' : Lane) (known : Option Cause) (items : Items) (put : List Sent) (marked ended : Bool) where
  pub moves_as : IsLane l' l.session.serial (held known items put marked ended) → Fitting at l.session.serial p b (held known items put marked ended) → Moves at p l b l'
  moves_as is x = record { goes = x.goes; fits = lane_fits x.goes.after l.session.serial known items put marked ended l' is x.fits }

  pub flushes_as : l'.session.serial ≡ l.session.serial → l'.cause ≡ known → sent l'.outbound ≡ put → l'.marked ≡ marked → l'.ended ≡ ended → Flushing at l.session.serial p b (held known items put marked ended) → Flushes at p items l b l'
  flushes_as serial cause puts is_marked is_ended x = record {
    goes = x.goes;
    fits = fits_with x.goes.after l.session.serial known items put marked ended l' serial cause puts is_marked is_ended x.fits;
    flushed = subst (λ (m : Bool). IsFlushed (course_of x.goes.after l.session.serial) m) (sym is_marked) x.flushed;
  }

-- a lane that is flushed
pub flushing_of : {K D : Type 0} {first a b : CoreState K D} (at : ℕ) (p : Since first a) (items : Items) (l l' : Lane) → l'.session ≡ l.session → Flushes at p items l b l' → Flushing at l.session.serial p b (held l'.cause items (sent l'.outbound) l'.marked l'.ended)
flushing_of at p items l l' same s = record {
  goes = s.goes;
  fits = subst (λ (k : ℕ). FitsCourse (course_of s.goes.after k) l'.cause items (sent l'.outbound) l'.marked l'.ended) (ap (λ k. k.serial) same) s.fits;
  flushed = s.flushed;
}

-- nothing was taken of it meanwhile
pub moves_flushed : {K D : Type 0} {first a b : CoreState K D} (at : ℕ) (p : Since first a) (l l' : Lane) → received l'.inbound ≡ received l.inbound → Flushes at p (received l.inbound) l b l' → Moves at p l b l'
moves_flushed at p l l' same s = record { goes = s.goes; fits = subst (λ (k : Items). LaneFitsWith s.goes.after k l') (sym same) s.fits }
