-- What remains of each link, beside its lane.
use Rattle.std.specs.Prelude.{◌≡◌, Option, Some}
use Rattle.ov_lanes.specs.Courses.{Course}
use Rattle.ov_lanes.specs.Lanes.{FitsLane}
use Rattle.ov_lanes.specs.declared.lane.Lane.{Lane}
use Rattle.ov_workers.specs.declared.link.Link.{Link}
use Rattle.ov_workers.specs.LinkStates.{LinkState}
use Rattle.ov_hall.specs.declared.finish.End.{End}
use Rattle.ov_hall.specs.Ending.{CourseEnds}

-- whatever became of the session that the lane fits, this is what the link comes to
abbrev pub EndsLane : {S W : Type 0} → (S → W → LinkState) → Link S W → Lane → End S W → Type 0
EndsLane ends k l e =
    (e.serial ≡ l.session.serial)
    × ((c : Course) → FitsLane c l → CourseEnds c e.cause (ends k.reader k.writer) (ends e.reader e.writer))

-- the same of the lane at a place
abbrev pub EndsSeat : {S W : Type 0} → (S → W → LinkState) → Link S W → Option Lane → End S W → Type 0
EndsSeat ends k p e = (l : Lane) × (p ≡ Some l) × EndsLane ends k l e
