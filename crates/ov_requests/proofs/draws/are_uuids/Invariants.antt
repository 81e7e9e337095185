use Rattle.std.proofs.Common.{◌≡◌, drop}
use Rattle.std.specs.List.{list_all}
use Rattle.ov_specs.specs.values.Uuid.{is_uuid}
use Rattle.ov_requests.proofs.draws.are_uuids.Given as goal

abbrev pub invariant-loop-draw : goal.invariant-loop-draw
invariant-loop-draw l = list_all is_uuid l.draws ≡ list_all is_uuid (drop l.draw-index l.draws)
