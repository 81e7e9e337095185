-- What was done to a session itself, or beside it.
use Rattle.std.proofs.Common.{◌≡◌, ◌⊎◌, inl, inr, ℕ, List, [], ◌∷◌, ◌++◌, refl, sym, ap, ◌∙◌, append_assoc, append-nil, true, false, Option, Some}
use Rattle.std.specs.Option.{option_or}
use Rattle.std.proofs.lemmas.Bool.{false≢true}
use Rattle.ov_specs.specs.wire.Message.{Message}
use Rattle.ov_specs.specs.machine.Machine as machine
use Rattle.ov_history.specs.declared.event.Cause.{Cause}
use Rattle.ov_history.specs.Entries.{cause_view}
use Rattle.ov_lanes.specs.Courses.{Course, Spares}

pub spares_same : (c : Course) → Spares c c
spares_same c = record { more = []; waiting = sym (append-nil c.waiting); silent = λ away. refl; handed = refl; asks = refl; shut = refl; closes = inl (refl, refl) }

pub spares_along : (c d f : Course) → Spares c d → Spares d f → Spares c f
spares_along c d f x y = record {
  more = x.more ++ y.more;
  waiting = y.waiting ∙ (ap (λ (l : List (List ℕ)). l ++ y.more) x.waiting ∙ append_assoc c.waiting x.more y.more);
  silent = λ away. ap (λ (l : List (List ℕ)). l ++ y.more) (x.silent away) ∙ y.silent (still away);
  handed = y.handed ∙ x.handed;
  asks = y.asks ∙ x.asks;
  shut = y.shut ∙ x.shut;
  closes = elim x.closes [
    | inl (same, closed) ↦ elim y.closes [
      | inl (same', closed') ↦ inl (same' ∙ same, closed' ∙ closed)
      | inr (was, away, closed') ↦ inr (sym same ∙ was, away, closed' ∙ ap (λ o. option_or o (Some machine.Memory)) closed)
    ]
    | inr (was, away, closed) ↦ elim y.closes [
      | inl (same', closed') ↦ inr (was, same' ∙ away, closed' ∙ closed)
      | inr (was', away', closed') ↦ absurd (false≢true (sym away ∙ was'))
    ]
  ];
}
  where
    still : c.is_open ≡ false → d.is_open ≡ false
    still away = elim x.closes [
      | inl (same, closed) ↦ same ∙ away
      | inr (was, away', closed) ↦ away'
    ]

-- frames of the session itself were handed out
pub record OwnHanded (c d : Course) (frames : List (List ℕ)) : Type 0 where
  pub is_open : d.is_open ≡ c.is_open
  pub closed : d.closed ≡ c.closed
  pub asks : d.asks ≡ c.asks
  pub shut : d.shut ≡ c.shut
  pub handed : d.handed ≡ c.handed ++ frames
  pub waiting : c.waiting ≡ frames ++ d.waiting

-- The session itself was closed for a cause, which is known then, if it was open.
pub record OwnClosed (c d : Course) (why : machine.Cause) (known known' : Option Cause) : Type 0 where
  pub asks : d.asks ≡ c.asks
  pub handed : d.handed ≡ c.handed
  pub waiting : d.waiting ≡ c.waiting
  pub away : d.is_open ≡ false
  pub by : ((c.is_open ≡ true) × (d.closed ≡ option_or c.closed (Some why)) × (d.shut ≡ c.shut ++ why ∷ []) × ((cause : Cause) × (known' ≡ Some cause) × (cause_view cause ≡ why)))
      ⊎ ((c.is_open ≡ false) × (d.closed ≡ c.closed) × (d.shut ≡ c.shut) × (known' ≡ known))

-- A message of the session itself was taken, or it was closed instead as out of memory; or it is closed, and the message was
-- dropped.
pub record OwnTook (c d : Course) (message : Message) : Type 0 where
  pub more : List (List ℕ)
  pub waiting : d.waiting ≡ c.waiting ++ more
  pub silent : c.is_open ≡ false → more ≡ []
  pub handed : d.handed ≡ c.handed
  pub by : ((c.is_open ≡ false) × (d.is_open ≡ false) × (d.closed ≡ c.closed) × (d.asks ≡ c.asks) × (d.shut ≡ c.shut))
      ⊎ (((c.is_open ≡ true) × (d.is_open ≡ true) × (d.closed ≡ c.closed) × (d.asks ≡ c.asks ++ message ∷ []) × (d.shut ≡ c.shut))
      ⊎ ((c.is_open ≡ true) × (d.is_open ≡ false) × (d.closed ≡ option_or c.closed (Some machine.Memory))
      × (((d.asks ≡ c.asks ++ message ∷ []) × (d.shut ≡ c.shut)) ⊎ ((d.asks ≡ c.asks) × (d.shut ≡ c.shut ++ machine.Memory ∷ [])))))
