-- The targets of references, as the code stores and finds them.
use Rattle.std.specs.Prelude.{Bool, List, [], Option, Some, None, refl}
use Rattle.std.specs.Coded.{Coded, code_by, coded×, coded_bool, coded_ℕ, coded_list}
use Rattle.std.specs.FinMap.{keys, values}
use Rattle.std.specs.List.{flat_map}
use Rattle.std.specs.Option.{option_to_list}
use Rattle.ov_specs.specs.integrity.References.{Target, RowReference, target_of}
use Rattle.ov_specs.specs.rows.Lines.{LineKey}
use Rattle.ov_specs.specs.schema.SchemaTypes.{Reference}
use Rattle.ov_specs.specs.values.Value.{Atom, Datum, Atoms, Pairs}

-- a target as a pair
abbrev pub target_code : Coded Target
target_code =
    code_by (LineKey × Bool) (coded× (coded× (coded_list coded_ℕ) (coded_list coded_ℕ)) coded_bool)
    (λ t. (t.key, t.is_strong)) (λ p. record { key = p.0; is_strong = p.1 }) (λ _. refl)

-- a reference as a pair
abbrev pub row_reference_code : Coded RowReference
row_reference_code =
    code_by (LineKey × Target) (coded× (coded× (coded_list coded_ℕ) (coded_list coded_ℕ)) target_code)
    (λ r. (r.from, r.to)) (λ p. record { from = p.0; to = p.1 }) (λ _. refl)

-- ---- for private clauses

-- the atoms of a set, or the keys of a map
abbrev pub key_atoms : Datum → List Atom
key_atoms (Atoms atoms) = keys atoms
key_atoms (Pairs pairs) = keys pairs

-- the values of a map
abbrev pub value_atoms : Datum → List Atom
value_atoms (Atoms atoms) = []
value_atoms (Pairs pairs) = values pairs

-- what an atom refers to
abbrev pub one_target : Reference → Atom → List Target
one_target refers atom = option_to_list (target_of (Some refers) atom)

-- what atoms refer to
abbrev pub all_targets : Option Reference → List Atom → List Target
all_targets None atoms = []
all_targets (Some refers) atoms = flat_map (one_target refers) atoms
