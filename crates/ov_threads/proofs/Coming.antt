-- Links that a worker's thread brought, of the listener that it was handed.
use Rattle.std.proofs.Common.{◌≡◌, inl, inr, List, [], ◌∷◌, ◌++◌, get_or, sym, ap, subst, ◌∙◌, Option, Some, None}
use Rattle.std.proofs.lemmas.Option.{same_Some}
use Rattle.ov_workers.specs.declared.link.Link.{Link}
use Rattle.ov_workers.specs.LinkStates.{LinkState}
use Rattle.ov_workers.specs.Accepting.{GivesAll}
use Rattle.ov_threads.specs.Handing.{BringsLinks, HaveCome}

module _ {S W T : Type 0} (ends : S → W → LinkState) (gives : T → Option (Link S W) → T → Type 0) where
  -- what was taken is the first of what was brought of the listener that was handed
  pub have_come : (listener : T) (handed ahead : List (Option T)) (come rest links : List (Link S W)) → handed ++ ahead ≡ Some listener ∷ [] → BringsLinks ends gives handed links → come ++ rest ≡ links → HaveCome ends gives listener come
  have_come listener handed ahead come rest links all (inl (none, nothing)) first =
      absurd (let e : None ≡ Some listener = ap (λ (l : List (Option T)). get_or (l ++ ahead) 0 None) (sym none) ∙ ap (λ (l : List (Option T)). get_or l 0 None) all in cc)
  have_come listener handed ahead come rest links all (inr (one, is, last, gave)) first =
      let e : one ≡ listener = same_Some one listener (ap (λ (l : List (Option T)). get_or (l ++ ahead) 0 None) (sym is) ∙ ap (λ (l : List (Option T)). get_or l 0 None) all) in
      record {
        links = links;
        last = last;
        gave = subst (λ (t : T). GivesAll ends gives t links last) e gave;
        rest = rest;
        first = first;
      }
