use Rattle.std.proofs.Common.{refl}
use Rattle.ov_core.proofs.Opening.{unsealed_held}
use Rattle.ov_core.proofs.Steps.{has_none, follows_none}
use Rattle.ov_core.proofs.machine.Core.open.Goals as goal

pub invariant_of-result : goal.invariant_of-result
invariant_of-result g c =
    let places = c.in-Ok.ensures in
    rw (c.new-2.ensures, places.sessions, places.waiting) (has_none c.in_ok-database.database c.in-Ok.places.history c.shows_kept.ensures.committed_kept.suits c.in_ok-database.ensures.rest.1 places.history, refl)

pub returns-clause-opened : goal.returns-clause-opened
returns-clause-opened g c =
    let places = c.in-Ok.ensures in
    let it = c.in_ok-database.ensures.opened in
    rw (c.new-2.ensures, places.sessions, places.waiting) (record {
      start = follows_none c.args.schema c.in_ok-database.database _ c.in_ok-database.ensures.rest.0 c.in_ok-database.ensures.rest.1 refl places.history refl;
      none_open = refl;
      schema_is = c.in_ok-database.ensures.rest.0;
      tries = refl;
      failures = refl;
      opens = record { version = it.version; drawn = it.drawn; another = it.another; held = it.held; left = it.left; honest = it.honest };
      found = λ now held here. unsealed_held c.args.schema c.in_ok-database.database held c.in_ok-database.ensures.rest.0 c.in_ok-database.ensures.rest.1 (c.shows_left.ensures.held now held here);
    })
