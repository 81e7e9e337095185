use Rattle.std.proofs.Common.{rules, ◌≡◌, ℕ, None, get_or, sym, subst}
use Rattle.ov_lobby.proofs.Places.{empty_more}
use Rattle.ov_lobby.proofs.lobby.empty_places.Goals as goal

pub loop-places-preserved : goal.loop-places-preserved
loop-places-preserved g c =
    let was = c.loop-places.invariant in (
      search rules,
      search rules,
      subst (λ l. (at : ℕ) → get_or l at None ≡ None) (sym c.push_reserved.ensures.items) (empty_more c.loop-places.places.items was.2),
    )
