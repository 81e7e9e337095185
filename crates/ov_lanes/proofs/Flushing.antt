-- Whether a session was given up when its lane was flushed.
use Rattle.std.proofs.Common.{◌≡◌, inl, inr, ℕ, ◌≤◌, List, refl, sym, ap, subst, ◌∙◌, Bool, true, false, Option, Some, None, arith, cond}
use Rattle.std.proofs.lemmas.Bool.{cases_eq}
use Rattle.std.proofs.lemmas.Option.{same_Some}
use Rattle.ov_specs.specs.machine.Machine.{is_open}
use Rattle.ov_outbox.specs.Frames.{waiting_for}
use Rattle.ov_order.specs.declared.items.Sent.{Sent}
use Rattle.ov_core.specs.Following.{CoreState}
use Rattle.ov_lanes.specs.Lanes.{IsFlushedLane, GivesUpIf, unmarked_at}
use Rattle.ov_lanes.specs.Moving.{MovesFrames}
use Rattle.ov_lanes.specs.declared.lane.Lane.{Lane}
use Rattle.ov_lanes.proofs.PlaceLaws.{none_some}

own_is : {K D : Type 0} (core : CoreState K D) (l : Lane) → IsFlushedLane core l → (m : Lane) → Some l ≡ Some m → IsFlushedLane core m
own_is core l h m is = subst (λ (k : Lane). IsFlushedLane core k) (same_Some l m is) h

one_at : (l : Lane) → l.marked ≡ false → unmarked_at (Some l) ≡ 1
one_at l is = ap (λ (b : Bool). cond b 0 1) is

none_at : (l : Lane) → l.marked ≡ true → unmarked_at (Some l) ≡ 0
none_at l is = ap (λ (b : Bool). cond b 0 1) is

at_most : (l : Lane) → unmarked_at (Some l) ≤ 1
at_most l = by l.marked
  where
    by : (b : Bool) → cond b 0 1 ≤ 1
    by true = omega arith
    by false = omega arith

-- it was marked before
pub quiet_marked : {K D : Type 0} (a : CoreState K D) (l : Lane) → l.marked ≡ true → GivesUpIf false a (Some l) a (Some l)
quiet_marked a l marked = ((refl, λ n. inl refl), omega arith, own_is a l (inl marked))

-- there is none
pub quiet_none : {K D : Type 0} (a : CoreState K D) (place : Option Lane) → place ≡ None → GivesUpIf false a place a place
quiet_none a place is = ((refl, λ n. inl refl), omega arith, λ l is'. absurd (none_some l (sym is ∙ is')))

-- it was given up
pub gives_up_now : {K D : Type 0} (a b : CoreState K D) (l m : Lane) → l.marked ≡ false → m.marked ≡ true → GivesUpIf true a (Some l) b (Some m)
gives_up_now a b l m was is = omega (arith, one_at l was, none_at m is)

-- all that waited was moved
pub quiet_moved : {K D : Type 0} (n : ℕ) (a b : CoreState K D) (put put' : List Sent) (l m : Lane) → MovesFrames n true a b put put' → l.marked ≡ false → IsFlushedLane b m → GivesUpIf false a (Some l) b (Some m)
quiet_moved n a b put put' l m moves was flushed = (
  (
    ap (λ (r : CoreState _ _). r.state) moves.hands.same,
    λ k. elim (cases_eq k n) [
      | inl e ↦ inr (ap (λ (i : ℕ). waiting_for i b.outbox) e ∙ moves.all.1)
      | inr ne ↦ inl (moves.hands.others k ne)
    ],
  ),
  omega (arith, one_at l was, at_most m),
  own_is b m flushed,
)

-- the session is open, and nothing waits for it
pub flushed_open : {K D : Type 0} (n : ℕ) (a b : CoreState K D) (put put' : List Sent) (m : Lane) → MovesFrames n true a b put put' → m.session.serial ≡ n → is_open b.state m.session.serial ≡ true → IsFlushedLane b m
flushed_open n a b put put' m moves is there = inr (there, ap (λ (i : ℕ). waiting_for i b.outbox) is ∙ moves.all.1)
