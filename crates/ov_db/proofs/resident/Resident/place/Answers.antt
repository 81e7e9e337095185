use Rattle.std.proofs.Common.{sym, subst}
use Rattle.ov_specs.specs.rows.Changed.{IsAfter}
use Rattle.ov_stored.specs.Changing.{applied}
use Rattle.ov_stored.proofs.Places.{Changes}
use Rattle.ov_db.proofs.Residing.{applied_after, both_ok}
use Rattle.ov_db.proofs.resident.Resident.place.Goals as goal

pub returns-clause-on : goal.returns-clause-on
returns-clause-on c =
    let delta = c.args.delta.now in
    let before = c.args.self.now.rows in
    let after = subst (λ (changes : Changes). IsAfter changes before (applied delta before)) (sym c.map-changes.ensures) (applied_after delta before) in
    both_ok c.place_rows.result (λ same placed. record {
      same = same;
      places = placed;
      links = c.in_ok-place.ensures.on (applied delta before) after;
      indexes = c.in_ok-place-2.ensures.on (applied delta before) after;
    }) c.place_rows.ensures.same c.place_rows.ensures.placed
