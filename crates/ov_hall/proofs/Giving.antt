-- The desk's side of the accepting worker, over time.
use Rattle.std.proofs.Common.{◌≡◌, List, ◌++◌, sym, ap, subst, ◌∙◌, Option, Some, None, rules}
use Rattle.rtrb.specs.Ring.{received, SameConsumer}
use Rattle.ov_workers.specs.Accepting.{SameArrivals, arrived, links_in}
use Rattle.ov_workers.specs.declared.arrivals.Arrivals.{Arrivals}
use Rattle.ov_workers.specs.declared.link.Link.{Link}

module _ {S W : Type 0} where
  itself : (a : Option (Arrivals S W)) → SameArrivals a a
  itself None = tt
  itself (Some x) = search rules

  pub arrivals_same : (a b : Option (Arrivals S W)) → b ≡ a → SameArrivals a b
  arrivals_same a b same = subst (λ (o : Option (Arrivals S W)). SameArrivals a o) (sym same) (itself a)

  pub arrivals_along : (a b c : Option (Arrivals S W)) → SameArrivals a b → SameArrivals b c → SameArrivals a c
  arrivals_along None None c x y = y
  arrivals_along None (Some b) c x y = absurd x
  arrivals_along (Some a) None c x y = absurd x
  arrivals_along (Some a) (Some b) None x y = absurd y
  arrivals_along (Some a) (Some b) (Some c) x y = search rules

  -- an item was taken
  pub arrivals_took : (a b : Option (Arrivals S W)) (x y : Arrivals S W) → a ≡ Some x → b ≡ Some y → SameConsumer x.ring y.ring → SameArrivals a b
  arrivals_took a b x y is is' same = subst (λ (o : Option (Arrivals S W)). SameArrivals o b) (sym is) (subst (λ (o : Option (Arrivals S W)). SameArrivals (Some x) o) (sym is') same)

  pub arrived_more : (a b : Option (Arrivals S W)) (x y : Arrivals S W) (links : List (Link S W)) → a ≡ Some x → b ≡ Some y → links_in (received y.ring) ≡ links_in (received x.ring) ++ links → arrived b ≡ arrived a ++ links
  arrived_more a b x y links is is' taken = ap arrived is' ∙ (taken ∙ ap (λ (l : List (Link S W)). l ++ links) (sym (ap arrived is)))

  -- it is there still
  pub arrivals_there : (a b : Option (Arrivals S W)) (x : Arrivals S W) → a ≡ Some x → SameArrivals a b → b ≡ None → ⊥
  arrivals_there a b x is same none = subst (λ (o : Option (Arrivals S W)). SameArrivals (Some x) o) none (subst (λ (o : Option (Arrivals S W)). SameArrivals o b) is same)

  -- and it is that of the same worker
  pub arrivals_pair : (a b : Option (Arrivals S W)) (x y : Arrivals S W) → a ≡ Some x → b ≡ Some y → SameArrivals a b → SameConsumer x.ring y.ring
  arrivals_pair a b x y is is' same = subst (λ (o : Option (Arrivals S W)). SameArrivals (Some x) o) is' (subst (λ (o : Option (Arrivals S W)). SameArrivals o b) is same)
