use Rattle.std.proofs.Common.{rules, ◌≡◌, ℕ, length, subst, sym, refl, ◌∙◌}
use Rattle.std.specs.VecDeque.{deque_len}
use Rattle.ov_desk.specs.Opening.{IsOpened}
use Rattle.ov_desk.specs.Serving.{RefusesLinks}
use Rattle.ov_desk.proofs.links.fn.in_scope.scope.Goals as goal

pub serve_opened-served-requires-after_bounds : goal.serve_opened-served-requires-after_bounds
serve_opened-served-requires-after_bounds g c κs within = (c.captures.core, subst (λ (n : ℕ). IsOpened n c.captures.core c.open_all.new.core c.in-Ok.opened) c.requires.bells c.in-Ok.ensures.opened)

pub returns-in-Ok : goal.returns-in-Ok
returns-in-Ok g c = record {
  answers = record {
    served = c.serve_opened-served.ensures.served c.captures.core (subst (λ (n : ℕ). IsOpened n c.captures.core c.open_all.new.core c.in-Ok.opened) c.requires.bells c.in-Ok.ensures.opened);
    refused = tt;
    untouched = tt;
    honest = λ honest. c.open_all.ensures.honest (c.serve_opened-served.ensures.honest honest);
    honest_refused = tt;
  };
  same_clock = refl;
}

pub returns-in-Err : goal.returns-in-Err
returns-in-Err g c =
    let long : length c.captures.links.items ≡ deque_len c.captures.links = search rules in
    rw c.new-desk.ensures.core (record {
      answers = record {
        served = tt;
        refused = (subst (λ (n : ℕ). RefusesLinks n c.captures.core c.in-Err.fault c.open_all.new.core) (c.requires.bells ∙ sym long) c.in-Err.ensures.refused, refl);
        untouched = refl;
        honest = tt;
        honest_refused = c.open_all.ensures.honest;
      };
      same_clock = refl;
    })
