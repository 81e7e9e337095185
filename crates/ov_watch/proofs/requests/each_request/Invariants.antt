use Rattle.std.proofs.Common.{◌≡◌, drop}
use Rattle.serde_json.specs.View.{items_view}
use Rattle.ov_specs.specs.monitors.Requests as spec
use Rattle.ov_specs.specs.values.Reading.{each_read}
use Rattle.ov_atoms.proofs.Lists.{after}
use Rattle.ov_watch.proofs.requests.each_request.Given as goal

abbrev pub invariant-loop-item : goal.invariant-loop-item
invariant-loop-item l = each_read spec.request_read (items_view l.items) ≡ after l.requests.items (each_read spec.request_read (items_view (drop l.item-index l.items)))
