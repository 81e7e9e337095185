-- A reader's side of its session, over time.
use Rattle.std.specs.Prelude.{◌≡◌}
use Rattle.rtrb.specs.Ring.{SameProducer}
use Rattle.ov_workers.specs.declared.inlet.Inlet.{Inlet}

-- the same end of the same ring, and the same noter, who may have noted since
abbrev pub SameInlet : {L : Type 0} → Inlet L → Inlet L → Type 0
SameInlet a b = SameProducer a.ring b.ring × (b.noter.serial ≡ a.noter.serial) × (b.noter.share.parts ≡ a.noter.share.parts)
