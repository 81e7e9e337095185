-- Identifiers drawn from a source, one after another.
use Rattle.std.specs.Prelude.{◌≡◌, List, [], ◌∷◌}
use Rattle.ov_specs.specs.values.Uuid.{Uuid}

-- the draws lead the source from one state to another
abbrev pub DrawsFrom : {D : Type 0} → (D → Uuid → D → Type 0) → D → List Uuid → D → Type 0
DrawsFrom draws old [] new = new ≡ old
DrawsFrom {D} draws old (x ∷ xs) new = (mid : D) × draws old x mid × DrawsFrom draws mid xs new
