use Rattle.std.proofs.Common.{◌≡◌}
use Rattle.serde_json.specs.View.{members_view}
use Rattle.ov_specs.specs.monitors.Requests as spec
use Rattle.ov_specs.specs.schema.SchemaShape.{each_member}
use Rattle.ov_atoms.proofs.Lists.{after}
use Rattle.ov_watch.proofs.requests.each_table.Given as goal

abbrev pub invariant-loop-name : goal.invariant-loop-name
invariant-loop-name l =
    each_member spec.table_requests_read (members_view l.members.entries) ≡ after l.tables.items (each_member spec.table_requests_read (members_view l.name-iterator))
