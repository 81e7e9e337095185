-- Which values fit a column, and the default of a column (RFC 7047, 3.2 and 5.2.1).
use Rattle.std.specs.Prelude.{ℕ, ℤ, pos, int_lt, Bool, true, not, ◌&&◌, List, length, if◌then◌else◌, Option, Some, None}
use Rattle.std.specs.List.{list_all}
use Rattle.std.specs.Str.{chars}
use Rattle.std.specs.FinMap.{keys, entries, len, contains_key}
use Rattle.ov_specs.specs.values.Value.{Atom, Integer, Boolean, Text, Uuid, Datum, Atoms, Pairs, nothing_of, one_default_of}
use Rattle.ov_specs.specs.schema.SchemaTypes.{BaseType, ColumnType, kinds_of}

-- a test that holds if there is nothing to test
abbrev pub is_none_or : {A : Type 0} → (A → Bool) → Option A → Bool
is_none_or test None = true
is_none_or test (Some a) = test a

-- neither below the least nor above the greatest (RFC 7047, 3.2, <base-type>)
abbrev pub is_between : Option ℤ → Option ℤ → ℤ → Bool
is_between least greatest n = is_none_or (λ l. not (int_lt n l)) least && is_none_or (λ g. not (int_lt g n)) greatest

-- how many characters a text has: Unicode scalar values (RFC 7047, 3.2, <base-type>)
abbrev pub char_count : List ℕ → ℕ
char_count text = length (chars text)

-- the number, or the length of the text, is in its range (RFC 7047, 3.2, <base-type>)
abbrev pub in_range : BaseType → Atom → Bool
in_range b (Integer n) = is_between b.least b.greatest n
in_range b (Text text) = is_between b.shortest b.longest (pos (char_count text))
in_range b (Boolean truth) = true
in_range b (Uuid bytes) = true

-- the atom is one of the choices, and in its range (RFC 7047, 3.2, <base-type>)
abbrev pub atom_fits : BaseType → Atom → Bool
atom_fits b a = is_none_or (λ choices. contains_key choices a) b.choices && in_range b a

-- a map's value fits the type of the values (RFC 7047, 3.2, <type>)
abbrev pub value_fits : Option BaseType → Atom → Bool
value_fits type_of a = is_none_or (λ b. atom_fits b a) type_of

-- the count lies between `min` and `max`, and each atom fits (RFC 7047, 3.2, <type>)
abbrev pub fits : ColumnType → Datum → Bool
fits t (Atoms atoms) = is_between (Some t.min) t.max (pos (len atoms)) && list_all (atom_fits t.key) (keys atoms)
fits t (Pairs pairs) =
    is_between (Some t.min) t.max (pos (len pairs))
    && list_all (λ p. atom_fits t.key p.0 && value_fits t.value p.1) (entries pairs)

-- nothing if the count may be 0, else one default atom or pair (RFC 7047, 5.2.1)
abbrev pub default_of : ColumnType → Datum
default_of t = if int_lt (pos 0) t.min then one_default_of (kinds_of t) else nothing_of (kinds_of t)
