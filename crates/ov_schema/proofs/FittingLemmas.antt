-- Which values fit, by the lists that a value gives.
use Rattle.std.proofs.Common.{◌≡◌, pos, List, [], map, Bool, true, false, ◌&&◌, Some, None, sym, ap, ◌∙◌}
use Rattle.std.proofs.lemmas.List.{nil_from_length}
use Rattle.std.specs.List.{list_all, list_any}
use Rattle.std.specs.Ordering.{eq_by_cmp}
use Rattle.std.specs.FinMap.{keys, entries, contains_key, contains_key-keys, get-empty, len-entries, len-empty}
use Rattle.std.specs.Prelude.{is_some}
use Rattle.ov_specs.specs.values.Value.{Atom, atom_cmp, Datum, Atoms, Pairs, atoms_in, pairs_in, count, set_of}
use Rattle.ov_specs.specs.schema.SchemaTypes.{ColumnType}
use Rattle.ov_specs.specs.schema.Fitting.{is_between, atom_fits, value_fits, fits}
use Rattle.ov_schema.specs.Sets.{set_in}
use Rattle.std.proofs.lemmas.Option.{same_Some}

keys-atoms_in : (d : Datum) (atoms : List Atom) → Some atoms ≡ atoms_in d → atoms ≡ keys (set_in d)
keys-atoms_in (Atoms m) atoms is = cc
keys-atoms_in (Pairs m) atoms is = cc

pub contains_key-atoms_in : (d : Datum) (a : Atom) (atoms : List Atom) → Some atoms ≡ atoms_in d → list_any (eq_by_cmp atom_cmp a) atoms ≡ contains_key (set_in d) a
contains_key-atoms_in d a atoms is = ap (list_any (eq_by_cmp atom_cmp a)) (keys-atoms_in d atoms is) ∙ sym (contains_key-keys (set_in d) a)

pub contains_key-no_atoms : (d : Datum) (a : Atom) → None ≡ atoms_in d → contains_key (set_in d) a ≡ false
contains_key-no_atoms (Atoms m) a is = cc
contains_key-no_atoms (Pairs m) a is = ap is_some (get-empty atom_cmp a)

no_keys : keys (set_of []) ≡ []
no_keys = ap (map (λ e. e.0)) (nil_from_length (entries (set_of [])) (sym (len-entries (set_of [])) ∙ len-empty atom_cmp (Unit {0})))

pub keys-no_atoms : (d : Datum) → None ≡ atoms_in d → [] ≡ keys (set_in d)
keys-no_atoms (Atoms m) is = cc
keys-no_atoms (Pairs m) is = sym no_keys

-- the count is between the bounds of the type
abbrev pub counts : ColumnType → Datum → Bool
counts t d = is_between (Some t.min) t.max (pos (count d))

and_false : (a b : Bool) → a ≡ false → (a && b) ≡ false
and_false a b is = ap (λ x. x && b) is

and_true : (a b : Bool) → a ≡ true → (a && b) ≡ b
and_true a b is = ap (λ x. x && b) is

pub fits-miscounted : (t : ColumnType) (d : Datum) → counts t d ≡ false → fits t d ≡ false
fits-miscounted t (Atoms m) is = and_false _ _ is
fits-miscounted t (Pairs m) is = and_false _ _ is

pub fits-atoms : (t : ColumnType) (d : Datum) (atoms : List Atom) → counts t d ≡ true → Some atoms ≡ atoms_in d → fits t d ≡ list_all (atom_fits t.key) atoms
fits-atoms t (Atoms m) atoms is e = and_true _ _ is ∙ ap (list_all (atom_fits t.key)) (same_Some _ _ (sym e))
fits-atoms t (Pairs m) atoms is e = cc

pub fits-pairs : (t : ColumnType) (d : Datum) (pairs : List (Atom × Atom)) → counts t d ≡ true → Some pairs ≡ pairs_in d → fits t d ≡ list_all (λ p. atom_fits t.key p.0 && value_fits t.value p.1) pairs
fits-pairs t (Atoms m) pairs is e = cc
fits-pairs t (Pairs m) pairs is e = and_true _ _ is ∙ ap (list_all (λ p. atom_fits t.key p.0 && value_fits t.value p.1)) (same_Some _ _ (sym e))

-- a value is a set or a map
pub either : (d : Datum) → None ≡ atoms_in d → None ≡ pairs_in d → ⊥
either (Atoms m) a p = cc
either (Pairs m) a p = cc
