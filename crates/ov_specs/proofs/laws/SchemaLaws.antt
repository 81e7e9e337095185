-- The default of a column is of its kinds.
use Rattle.std.proofs.Common.{◌≡◌, true, false, if◌then◌else◌, ◌&&◌, [], ◌∷◌, refl, pos}
use Rattle.std.proofs.lemmas.Bool.{and_from}
use Rattle.std.specs.Prelude.{int_lt}
use Rattle.std.specs.Str.{is_utf8, chars}
use Rattle.ov_specs.specs.values.Value.{AtomKind, Integers, Booleans, Texts, Uuids, is_atom_of, Kinds, Single, Pair, is_of, default_atom, nothing_of, one_default_of}
use Rattle.ov_specs.specs.schema.SchemaTypes.{ColumnType, kinds_of}
use Rattle.ov_specs.specs.schema.Fitting.{default_of}
use Rattle.ov_specs.proofs.laws.OfKinds.{set_is_of, map_is_of}

default_atom_is_of : (kind : AtomKind) → is_atom_of kind (default_atom kind) ≡ true
unfolding is_utf8 chars
default_atom_is_of Integers = refl
default_atom_is_of Booleans = refl
default_atom_is_of Texts = refl
default_atom_is_of Uuids = refl

pub nothing_is_of : (kinds : Kinds) → is_of kinds (nothing_of kinds) ≡ true
nothing_is_of (Single kind) = set_is_of kind [] refl
nothing_is_of (Pair key value) = map_is_of key value [] refl

pub one_default_is_of : (kinds : Kinds) → is_of kinds (one_default_of kinds) ≡ true
one_default_is_of (Single kind) = set_is_of kind (default_atom kind ∷ []) (and_from (is_atom_of kind (default_atom kind)) true (default_atom_is_of kind) refl)
one_default_is_of (Pair key value) =
    map_is_of key value ((default_atom key, default_atom value) ∷ [])
    (and_from (is_atom_of key (default_atom key) && is_atom_of value (default_atom value)) true (and_from (is_atom_of key (default_atom key)) (is_atom_of value (default_atom value)) (default_atom_is_of key) (default_atom_is_of value)) refl)

pub default_is_of : (t : ColumnType) → is_of (kinds_of t) (default_of t) ≡ true
default_is_of t =
    elim (int_lt (pos 0) t.min) as (λ b. is_of (kinds_of t) (if b then one_default_of (kinds_of t) else nothing_of (kinds_of t)) ≡ true) [
      | true ↦ one_default_is_of (kinds_of t)
      | false ↦ nothing_is_of (kinds_of t)
    ]
