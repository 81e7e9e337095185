-- What the accepting worker brings: the links that its listener gave.
use Rattle.std.specs.Prelude.{◌≡◌, List, [], ◌∷◌, Bool, false, not, Option, Some, None}
use Rattle.rtrb.specs.Ring.{received, SameConsumer}
use Rattle.ov_order.specs.declared.items.Brought.{Brought}
use Rattle.ov_order.specs.declared.items.Brought.TheVariants.{Message, End}
use Rattle.ov_workers.specs.declared.arrivals.Arrivals.{Arrivals}
use Rattle.ov_workers.specs.declared.link.Link.{Link}
use Rattle.ov_workers.specs.LinkStates.{LinkState, IsNewLink}

-- those of these items
abbrev pub links_in : {A : Type 0} → List (Brought A (Unit {0})) → List A
links_in [] = []
links_in (Message link ∷ items) = link ∷ links_in items
links_in (End last ∷ items) = links_in items

-- The listener gave these, one after another, and this is what it was after that. Nothing had gone over any of them.
abbrev pub Gives : {S W T : Type 0} → (S → W → LinkState) → (T → Option (Link S W) → T → Type 0) → T → List (Link S W) → T → Type 0
Gives ends gives listener [] last = last ≡ listener
Gives {T = T} ends gives listener (link ∷ links) last =
    (next : T) × gives listener (Some link) next × IsNewLink (ends link.reader link.writer) × Gives ends gives next links last

-- The listener gave these, and then answered that there are no more; this is what it was after that.
abbrev pub GivesAll : {S W T : Type 0} → (S → W → LinkState) → (T → Option (Link S W) → T → Type 0) → T → List (Link S W) → T → Type 0
GivesAll {T = T} ends gives listener links last = (before : T) × Gives ends gives listener links before × gives before None last

-- ---- the desk's side of the worker, if there is one

-- it may bring more
abbrev pub may_come : {S W : Type 0} → Option (Arrivals S W) → Bool
may_come None = false
may_come (Some arrivals) = not arrivals.ended

-- the links that were taken from its ring
abbrev pub arrived : {S W : Type 0} → Option (Arrivals S W) → List (Link S W)
arrived None = []
arrived (Some arrivals) = links_in (received arrivals.ring)

-- the same ring
abbrev pub SameArrivals : {S W : Type 0} → Option (Arrivals S W) → Option (Arrivals S W) → Type 0
SameArrivals None None = Unit {0}
SameArrivals None (Some b) = ⊥
SameArrivals (Some a) None = ⊥
SameArrivals (Some a) (Some b) = SameConsumer a.ring b.ring
