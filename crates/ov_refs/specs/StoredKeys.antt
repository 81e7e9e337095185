-- How the keys of a set are stored.
use Rattle.std.specs.Prelude.{List, [], ◌∷◌}
use Rattle.ov_refs.specs.declared.key_set.Keys.{Keys}
use Rattle.ov_refs.specs.declared.key_set.Keys.TheVariants.{Empty, One, Many}
use Rattle.ov_specs.specs.rows.Lines.{LineKey}

-- the keys of a set, wherever they are stored
abbrev pub keys_in : Keys → List LineKey
keys_in Empty = []
keys_in (One key) = key ∷ []
keys_in (Many set) = set.keys
