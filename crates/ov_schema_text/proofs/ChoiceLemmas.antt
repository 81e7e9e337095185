-- The set of an `enum`, by what is read.
use Rattle.std.proofs.Common.{◌≡◌, arith, length, List, [], ◌∷◌, map, true, false, not, Option, Some, None, option_map, refl, sym, ap, ◌∙◌, Less, Equal, Greater}
use Rattle.std.specs.FinMap.Entries.{by_order}
use Rattle.std.specs.FinMap.{put, entries, keys, len-entries, len-empty, entries-insert}
use Rattle.serde_json.specs.Data.{Data}
use Rattle.ov_specs.specs.values.Value.{Atom, AtomSet, atom_cmp, set_of, Datum, Atoms, Pairs, atoms_in}
use Rattle.ov_specs.specs.values.Reading as reading
use Rattle.ov_specs.specs.values.Reading.{Reading, set_reading, atoms_read}
use Rattle.ov_specs.specs.values.Uuid.{no_names}
use Rattle.ov_specs.specs.schema.SchemaShape.{TypeName, Kind, Real}
use Rattle.ov_specs.specs.schema.Schema.{is_empty, is_set_of_one_or_more, reads_as_choices, choices_of, is_some_and}
use Rattle.ov_specs.proofs.laws.Order.{atom_cmp_total}
use Rattle.ov_schema.specs.Sets.{set_in}

-- the set that was read, if one was
abbrev pub set_told : Reading Datum → Option AtomSet
set_told (reading.Reads d) = Some (set_in d)
set_told reading.Unreadable = None
set_told reading.Clashing = None

pub set_told-set_reading : (o : Option (List Atom)) → set_told (set_reading o) ≡ option_map set_of o
set_told-set_reading None = refl
set_told-set_reading (Some atoms) = refl

put_one : (k : Atom) (es : List (Atom × Unit {0})) → is_empty (map (λ e. e.0) (put atom_cmp k tt es)) ≡ false
put_one k [] = refl
put_one k (e ∷ es) = elim (atom_cmp k e.0) as (λ o. is_empty (map (λ x. x.0) (by_order o ((k, tt) ∷ e ∷ es) ((e.0, tt) ∷ es) (e ∷ put atom_cmp k tt es))) ≡ false) [
  | Less ↦ refl
  | Equal ↦ refl
  | Greater ↦ refl
]

no_entries : (es : List (Atom × Unit {0})) → length es ≡ 0 → is_empty (map (λ e. e.0) es) ≡ true
no_entries [] e = refl
no_entries (x ∷ es) e = absurd (omega arith)

no_keys : is_empty (keys (set_of [])) ≡ true
no_keys = no_entries (entries (set_of [])) (sym (len-entries (set_of [])) ∙ len-empty atom_cmp (Unit {0}))

is_set_of_one_or_more-keys : (o : Option (List Atom)) → is_set_of_one_or_more o ≡ is_some_and (λ m. not (is_empty (keys m))) (option_map set_of o)
is_set_of_one_or_more-keys None = refl
is_set_of_one_or_more-keys (Some []) = sym (ap not no_keys)
is_set_of_one_or_more-keys (Some (a ∷ atoms)) =
    sym (ap (λ es. not (is_empty (map (λ e. e.0) es))) (entries-insert atom_cmp_total (set_of atoms) a tt) ∙ ap not (put_one a (entries (set_of atoms))))

-- an `enum` reads as it should if its set has an atom
pub reads_as_choices-keys : (of : TypeName) (d : Data) → reads_as_choices of d ≡ is_some_and (λ m. not (is_empty (keys m))) (choices_of of (Some d))
reads_as_choices-keys (Kind of) d = is_set_of_one_or_more-keys (atoms_read no_names of d)
reads_as_choices-keys Real d = refl

pub no_keys-atoms_in : (d : Datum) → None ≡ atoms_in d → is_empty (keys (set_in d)) ≡ true
no_keys-atoms_in (Atoms m) is = cc
no_keys-atoms_in (Pairs m) is = no_keys
