use Rattle.std.proofs.Common.{rules, ◌≡◌, ℕ, true, length, vec_len, subst, ◌∙◌}
use Rattle.ov_lanes.specs.Opening.{OpensAll}
use Rattle.ov_desk.proofs.Serving.{first_serial}
use Rattle.ov_hall.proofs.Seats.{started_from}
use Rattle.ov_desk.proofs.links.open_all.Goals as goal

pub returns-clause-opened : goal.returns-clause-opened
returns-clause-opened g c =
    let count = vec_len c.args.bells.now in
    let len : c.len.result ≡ count = search rules in
    let len2 : c.len-4.result ≡ count = search rules in
    let started = c.in_ok-started.started in
    let long : length started.items ≡ count = search rules in
    record {
      opens = subst (λ (n : ℕ). OpensAll c.args.core.now c.args.core.now.state.next n c.open_sessions.new.core) len2 c.in-Some.ensures.opened;
      sessions = c.in-Some.ensures.serials.0;
      started = started_from true c.unwrap_or-first.result c.args.core.now.state.next count started.items long (first_serial count c.args.core.now.state c.unwrap_or-first.result (search rules) c.requires.places) c.in_ok-started.ensures.started.0;
      many = (c.in-Some.ensures.serials.1 ∙ len2, c.in_ok-started.ensures.started.1);
      lanes = (search rules, search rules);
      workers = (search rules, search rules);
      ends = (search rules, search rules);
    }
