-- A lane that was moved on.
use Rattle.std.proofs.Common.{◌≡◌, inl, inr, ℕ, List, [], ◌∷◌, ◌++◌, refl, sym, ap, subst, ◌∙◌, Bool, true, false, Option, Some}
use Rattle.std.specs.Prelude.{unwrap_or, max}
use Rattle.ov_specs.specs.wire.Message.{Message}
use Rattle.ov_specs.specs.machine.Machine as machine
use Rattle.ov_specs.specs.machine.Machine.{is_open}
use Rattle.ov_outbox.specs.Frames.{waiting_for}
use Rattle.ov_order.specs.declared.items.Sent.{Sent}
use Rattle.ov_order.specs.declared.items.Sent.TheVariants.{End}
use Rattle.ov_specs.specs.values.Uuid.{Uuid}
use Rattle.ov_order.specs.declared.items.Brought.{Brought}
use Rattle.ov_order.specs.declared.items.Brought.TheVariants.{Message as Brings, End as Last}
use Rattle.ov_workers.specs.declared.cause.ReadCause.{ReadCause}
use Rattle.ov_history.specs.declared.event.Cause.{Cause}
use Rattle.ov_history.specs.declared.event.Cause.TheVariants.{Memory}
use Rattle.ov_core.specs.Following.{CoreState}
use Rattle.ov_lanes.specs.Since.{Since, course_of, Goes}
use Rattle.ov_lanes.specs.Fitting.{Items, FitsCourse, IsFlushed, framed, end_cause}
use Rattle.ov_lanes.specs.Moving.{ClosesOnce, MovesFrames, GivesUp, TakesItem, at_lane}
use Rattle.ov_lanes.specs.declared.lane.Lane.{Lane}
use Rattle.ov_core.specs.Stepping.{StepIs}
use Rattle.ov_lanes.proofs.Own.{OwnHanded, OwnTook}
use Rattle.ov_lanes.proofs.Courses.{Does, hands_on, shuts, takes, goes_same, goes_along}
use Rattle.ov_lanes.proofs.Fitting.{fits_moved, fits_marked, fits_given_up, fits_took, fits_ended}

-- what a lane has: what is known of a closing, what was taken and put, and its marks
pub record Held : Type 0 where
  pub known : Option Cause
  pub items : Items
  pub put : List Sent
  pub marked : Bool
  pub ended : Bool

abbrev pub held : Option Cause → Items → List Sent → Bool → Bool → Held
held known items put marked ended = record { known = known; items = items; put = put; marked = marked; ended = ended }

-- what fits a session after more was done, the others not being meant
pub record Fitting {K D : Type 0} {first a : CoreState K D} (at n : ℕ) (p : Since first a) (b : CoreState K D) (h : Held) : Type 0 where
  pub goes : Goes at n p b
  pub fits : FitsCourse (course_of goes.after n) h.known h.items h.put h.marked h.ended

-- and nothing more can be moved
pub record Flushing {K D : Type 0} {first a : CoreState K D} (at n : ℕ) (p : Since first a) (b : CoreState K D) (h : Held) : Type 0 where
  pub goes : Goes at n p b
  pub fits : FitsCourse (course_of goes.after n) h.known h.items h.put h.marked h.ended
  pub flushed : IsFlushed (course_of goes.after n) h.marked

module _ {K D : Type 0} {first a : CoreState K D} (at n : ℕ) (p : Since first a) where
  pub flushes_marked : (known : Option Cause) (items : Items) (put : List Sent) (ended : Bool) → FitsCourse (course_of p n) known items put true ended → Flushing at n p a (held known items put true ended)
  flushes_marked known items put ended f = record { goes = goes_same at n p; fits = f; flushed = inl refl }

module _ {K D : Type 0} {first a b : CoreState K D} (at n : ℕ) (p : Since first a) (known : Option Cause) (items : Items) (put put' : List Sent) (ended : Bool) (f : FitsCourse (course_of p n) known items put false ended) where
  -- all frames were moved
  moved_all : MovesFrames n true a b put put' → Fitting at n p b (held known items put' false ended)
  moved_all m =
      let h = hands_on n p m.frames m.hands at in
      record {
        goes = h.goes;
        fits = fits_moved (course_of p n) (course_of h.goes.after n) known items put put' ended m.frames h.own (m.puts ∙ ap (λ (l : List (List ℕ)). put ++ framed l) m.all.0) f;
      }

  -- and the session is open
  pub flushes_open : MovesFrames n true a b put put' → is_open b.state n ≡ true → Flushing at n p b (held known items put' false ended)
  flushes_open m there = let x = moved_all m in record { goes = x.goes; fits = x.fits; flushed = inr (there, m.all.1) }

  -- or it is not, and was marked
  pub flushes_shut : MovesFrames n true a b put put' → is_open b.state n ≡ false → Flushing at n p b (held (Some (unwrap_or known Memory)) items (put' ++ End ∷ []) true ended)
  flushes_shut m away =
      let x = moved_all m in
      record { goes = x.goes; fits = fits_marked (course_of x.goes.after n) known items put' ended away m.all.1 x.fits; flushed = inl refl }

  -- there was no room for one of them
  pub flushes_given_up : (c : CoreState K D) (known' : Option Cause) → MovesFrames n false a b put put' → GivesUp n b c known known' → Flushing at n p c (held (Some (unwrap_or known' Memory)) items (put' ++ End ∷ []) true ended)
  flushes_given_up c known' m g =
      let last = m.all.0 in
      let h = hands_on n p m.frames m.hands at in
      let s = shuts at n h.goes.after machine.Overrun known known' g.mid g.closes in
      let d = hands_on n s.goes.after (waiting_for n g.mid.outbox) g.drops at in
      let goes = goes_along at n p (goes_along at n p h.goes s.goes) d.goes in
      record {
        goes = goes;
        fits = fits_given_up (course_of p n) (course_of h.goes.after n) (course_of s.goes.after n) (course_of d.goes.after n) known known' items put put' ended m.moved last.0
            (subst (λ (l : List (List ℕ)). OwnHanded (course_of p n) (course_of h.goes.after n) l) last.1 h.own) s.own d.own g.none_left m.puts m.all.1 f;
        flushed = inl refl;
      }

-- ---- what is taken of a ring

module _ {K D : Type 0} {first a b c : CoreState K D} (at n : ℕ) (p : Since first a) (known : Option Cause) (items : Items) (put : List Sent) (marked ended : Bool) (s : Flushing at n p b (held known items put marked ended)) where
  -- a message
  pub moves_message : (message : Message) → ((q : Since first b) → Does at n q c (λ d f. OwnTook d f message)) → Fitting at n p c (held known (items ++ Brings message ∷ []) put marked ended)
  moves_message message takes =
      let t = takes s.goes.after in
      record {
        goes = goes_along at n p s.goes t.goes;
        fits = fits_took (course_of s.goes.after n) (course_of t.goes.after n) message known items put marked ended t.own s.fits;
      }

  -- the reader's end
  pub moves_end : (cause : ReadCause) (known' : Option Cause) → ClosesOnce n (end_cause cause) b c known known' → Fitting at n p c (held known' (items ++ Last cause ∷ []) put marked true)
  moves_end cause known' closes =
      let t = shuts at n s.goes.after (end_cause cause) known known' c closes in
      record {
        goes = goes_along at n p s.goes t.goes;
        fits = fits_ended (course_of s.goes.after n) (course_of t.goes.after n) cause known known' items put marked ended t.own s.fits s.flushed;
      }

-- an item
module _ {K D : Type 0} {first a b c : CoreState K D} (at : ℕ) (p : Since first a) (items : Items) (put : List Sent) (marked : Bool) (v w : Lane) where
  pub moves_item : (n : ℕ) → v.session.serial ≡ n → Flushing at n p b (held v.cause items put marked v.ended) → (draws : D → Uuid → D → Type 0) (item : Brought Message ReadCause) → TakesItem draws at item (at_lane b v) (at_lane c w)
      → Fitting at n p c (held w.cause (items ++ item ∷ []) put marked w.ended)
  moves_item n serial s draws (Brings message) ((answer, is), same, same') =
      subst (λ (k : Option Cause). Fitting at n p c (held k (items ++ Brings message ∷ []) put marked w.ended)) (sym same)
      (subst (λ (k : Bool). Fitting at n p c (held v.cause (items ++ Brings message ∷ []) put marked k)) (sym same')
      (moves_message at n p v.cause items put marked v.ended s message (λ q. takes at n q message draws c answer (subst (λ (k : ℕ). StepIs draws (max at b.state.moment) (machine.Take k message) b answer c) serial is))))
  moves_item n serial s draws (Last cause) (closes, is) =
      subst (λ (k : Bool). Fitting at n p c (held w.cause (items ++ Last cause ∷ []) put marked k)) (sym is)
      (moves_end at n p v.cause items put marked v.ended s cause w.cause (subst (λ (k : ℕ). ClosesOnce k (end_cause cause) b c v.cause w.cause) serial closes))
