use Rattle.std.proofs.Common.{◌≡◌, ◌≤◌, ◌-◌, ℕ, get_or, None, vec_len}
use Rattle.std.specs.Prelude.{vec_capacity}
use Rattle.ov_lobby.proofs.lobby.empty_places.Given as goal

abbrev pub invariant-loop-places : goal.invariant-loop-places
invariant-loop-places g l = (64 ≤ vec_capacity l.places) × (vec_len l.places ≤ 64) × ((at : ℕ) → get_or l.places.items at None ≡ None)

abbrev pub decreases-loop-places : goal.decreases-loop-places
decreases-loop-places g l = 64 - vec_len l.places
