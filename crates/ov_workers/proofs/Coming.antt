-- Links that a listener gave, and a worker brought.
use Rattle.std.proofs.Common.{◌≡◌, List, [], ◌∷◌, ◌++◌, refl, ap, subst, Option, Some}
use Rattle.ov_order.specs.declared.items.Brought.{Brought}
use Rattle.ov_order.specs.declared.items.Brought.TheVariants.{Message, End}
use Rattle.ov_workers.specs.declared.link.Link.{Link}
use Rattle.ov_workers.specs.LinkStates.{LinkState, IsNewLink}
use Rattle.ov_workers.specs.Accepting.{Gives, links_in}

pub links_append : {A : Type 0} (xs ys : List (Brought A (Unit {0}))) → links_in (xs ++ ys) ≡ links_in xs ++ links_in ys
links_append [] ys = refl
links_append (Message link ∷ xs) ys = ap (λ rest. link ∷ rest) (links_append xs ys)
links_append (End last ∷ xs) ys = links_append xs ys

module _ {S W T : Type 0} (ends : S → W → LinkState) (gives : T → Option (Link S W) → T → Type 0) where
  -- it gave one more
  pub gives_more : (a : T) (links : List (Link S W)) (b : T) (link : Link S W) (c : T) → Gives ends gives a links b → gives b (Some link) c → IsNewLink (ends link.reader link.writer) → Gives ends gives a (links ++ link ∷ []) c
  gives_more a [] b link c same gave unused = (c, subst (λ (t : T). gives t (Some link) c) same gave, unused, refl)
  gives_more a (k ∷ links) b link c (next, first, new, rest) gave unused = (next, first, new, gives_more next links b link c rest gave unused)
