-- What a value refers to, by its atoms.
use Rattle.std.proofs.Common.{◌≡◌, List, [], ◌∷◌, ◌++◌, Option, Some, None, refl, sym, ap, ◌∙◌}
use Rattle.std.specs.Prelude.{option_and_then}
use Rattle.std.specs.List.{filter_map, cons_option}
use Rattle.std.specs.Option.{option_to_list}
use Rattle.std.specs.FinMap.{keys, values}
use Rattle.ov_specs.specs.integrity.References.{Target, target_of, datum_targets, value_targets}
use Rattle.ov_specs.specs.schema.SchemaTypes.{Reference, BaseType, ColumnType}
use Rattle.ov_specs.specs.values.Value.{Atom, Datum, Atoms, Pairs}
use Rattle.ov_refs.specs.Targets.{key_atoms, value_atoms, one_target, all_targets}

first_of : (o : Option Target) (targets : List Target) → cons_option o targets ≡ option_to_list o ++ targets
first_of None targets = refl
first_of (Some target) targets = refl

-- atoms of a type that refers to nothing
no_targets : (atoms : List Atom) → filter_map (target_of None) atoms ≡ []
no_targets [] = refl
no_targets (a ∷ rest) = no_targets rest

some_targets : (refers : Reference) (atoms : List Atom) → filter_map (target_of (Some refers)) atoms ≡ all_targets (Some refers) atoms
some_targets refers [] = refl
some_targets refers (a ∷ rest) = first_of (target_of (Some refers) a) _ ∙ ap (λ targets. one_target refers a ++ targets) (some_targets refers rest)

of_atoms : (o : Option Reference) (atoms : List Atom) → filter_map (target_of o) atoms ≡ all_targets o atoms
of_atoms None atoms = no_targets atoms
of_atoms (Some refers) atoms = some_targets refers atoms

nothing_more : (o : Option Reference) → all_targets o [] ≡ []
nothing_more None = refl
nothing_more (Some refers) = refl

none_after : (targets : List Target) → targets ≡ targets ++ []
none_after [] = refl
none_after (t ∷ ts) = ap (λ rest. t ∷ rest) (none_after ts)

of_values : (o : Option BaseType) (atoms : List Atom) → value_targets o atoms ≡ all_targets (option_and_then (λ b. b.refers) o) atoms
of_values None atoms = refl
of_values (Some b) atoms = of_atoms b.refers atoms

-- what a value refers to by the atoms of a set or the keys of a map, and then by the values of a map
pub by_parts : (t : ColumnType) (d : Datum) → datum_targets t d ≡ all_targets t.key.refers (key_atoms d) ++ all_targets (option_and_then (λ b. b.refers) t.value) (value_atoms d)
by_parts t (Atoms atoms) =
    of_atoms t.key.refers (keys atoms)
    ∙ (none_after _ ∙ ap (λ rest. all_targets t.key.refers (keys atoms) ++ rest) (sym (nothing_more (option_and_then (λ b. b.refers) t.value))))
by_parts t (Pairs pairs) = λ i. of_atoms t.key.refers (keys pairs) i ++ of_values t.value (values pairs) i
