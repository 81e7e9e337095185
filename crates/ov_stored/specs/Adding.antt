-- Keys of rows that are added to a database and removed again.
use Rattle.std.specs.Borrow.{Bor}
use Rattle.std.specs.Prelude.{List, map}
use Rattle.ov_specs.specs.rows.Lines.{LineKey}

-- borrowed keys
abbrev pub lent_keys : List (Bor LineKey) → List LineKey
lent_keys = map (λ key. key.now)
