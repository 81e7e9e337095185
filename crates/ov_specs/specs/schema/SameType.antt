-- Which columns have the same type (RFC 7047, 3.2, <type>).
use Rattle.std.specs.Prelude.{◌==◌, ◌&&◌, Bool}
use Rattle.std.specs.Bool.{beq}
use Rattle.std.specs.Cmp.Lexicographic.{pointwise}
use Rattle.std.specs.FinMap.{keys}
use Rattle.std.specs.Option.{option_eq}
use Rattle.std.specs.Ordering.{eq_by_cmp, int_eq}
use Rattle.std.specs.Str.{bytes_eq}
use Rattle.ov_specs.specs.schema.SchemaTypes.{Reference, BaseType, ColumnType}
use Rattle.ov_specs.specs.values.Value.{AtomKind, kind_rank, AtomSet, atom_cmp}

-- RFC 7047, 3.2, <atomic-type>
abbrev pub same_kind : AtomKind → AtomKind → Bool
same_kind a b = kind_rank a == kind_rank b

-- the same choices, in whatever order they were written (RFC 7047, 3.2, <base-type>, enum)
abbrev pub same_choices : AtomSet → AtomSet → Bool
same_choices a b = pointwise (eq_by_cmp atom_cmp) (keys a) (keys b)

-- the same table, and both strong or both weak (RFC 7047, 3.2, <base-type>, refTable and refType)
abbrev pub same_reference : Reference → Reference → Bool
same_reference a b = bytes_eq a.table b.table && beq a.is_strong b.is_strong

-- the same bounds of integers, and of the lengths of texts (RFC 7047, 3.2, <base-type>)
abbrev pub same_ranges : BaseType → BaseType → Bool
same_ranges a b =
    option_eq int_eq a.least b.least && option_eq int_eq a.greatest b.greatest
    && option_eq int_eq a.shortest b.shortest && option_eq int_eq a.longest b.longest

-- RFC 7047, 3.2, <base-type>
abbrev pub same_base : BaseType → BaseType → Bool
same_base a b =
    same_kind a.kind b.kind && option_eq same_choices a.choices b.choices && same_ranges a b
    && option_eq same_reference a.refers b.refers

-- the same type for keys and for values, and the same counts (RFC 7047, 3.2, <type>)
abbrev pub same_type : ColumnType → ColumnType → Bool
same_type a b = same_base a.key b.key && option_eq same_base a.value b.value && int_eq a.min b.min && option_eq int_eq a.max b.max
