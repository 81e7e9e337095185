use Rattle.std.proofs.Common.{rules, ◌≡◌, ℕ, length, refl, sym, subst, true, arith}
use Rattle.std.specs.VecDeque.{deque_len}
use Rattle.ov_lanes.specs.Places.{has_places}
use Rattle.ov_desk.proofs.Serving.{few_places}
use Rattle.ov_desk.proofs.links.serve_as.Goals as goal

pub returns-in_default : goal.returns-in_default
returns-in_default g c =
    let long : length c.args.links.items ≡ deque_len c.args.links = search rules in
    rw c.new-desk.ensures.core (record {
      served = tt;
      refused = ((subst (λ (n : ℕ). has_places n c.args.core.state ≡ true) (sym long) c.requires.places, c.shows_nothing_opened.ensures.closed), refl);
      untouched = refl;
      honest = tt;
      honest_refused = λ honest. honest;
    })

pub in_scope-requires-clause-parts : goal.in_scope-requires-clause-parts
in_scope-requires-clause-parts g c κs within = let f = few_places _ c.args.core.state c.requires.places in omega (arith, f, c.of.ensures)
