use Rattle.std.proofs.Common.{rules, ◌≡◌, ◌<◌, ◌∙◌, None, Some, length, get_or}
use Rattle.std.proofs.lemmas.List.{get_or_default}
use Rattle.ov_lanes.proofs.lanes.are_over.Goals.{then-not-lane-via-then-not-lane, then-not-lane-via-else-not-lane+then-not-lane-2}
use Rattle.ov_lanes.proofs.lanes.are_over.Goals as goal

pub returns-then-not-lane : goal.returns-then-not-lane
returns-then-not-lane c over =
    let ls = c.args.lanes.now.items in let i = c.loop-place.place-index in let lane = c.in-Some.lane in
    let low : i < length ls = search rules in
    let read : get_or ls i (Some lane) ≡ Some lane = search rules in
    let both = over i lane (get_or_default ls i None (Some lane) low ∙ read) in
    elim c.then-not-lane.branch [
      | then-not-lane-via-then-not-lane w ↦ let ended = both.0 in search rules
      | then-not-lane-via-else-not-lane+then-not-lane-2 w ↦ let marked = both.1 in search rules
    ]
