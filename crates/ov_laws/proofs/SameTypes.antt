-- Types of columns that are the same are equal.
use Rattle.std.proofs.Common.{◌≡◌, List, [], ◌∷◌, map, Bool, true, ◌&&◌, Option, Some, None, refl, ap, subst}
use Rattle.std.proofs.lemmas.Bool.{and_parts, and_from}
use Rattle.std.proofs.lemmas.Option.{same_Some}
use Rattle.std.proofs.lemmas.Slice.Eq.{bytes_eq-Decides, slice_eq-Decides}
use Rattle.std.specs.Bool.{Decides}
use Rattle.std.specs.Cmp.{booleans_Decides, signed_Decides, eq_by_cmp_equiv}
use Rattle.std.specs.FinMap.{keys, entries, same_entries_map}
use Rattle.std.specs.Option.{option_eq}
use Rattle.std.specs.Ordering.{eq_by_cmp}
use Rattle.ov_specs.specs.schema.SameType.{same_kind, same_choices, same_reference, same_ranges, same_base, same_type}
use Rattle.ov_specs.specs.schema.SchemaTypes.{Reference, BaseType, ColumnType}
use Rattle.ov_specs.specs.values.Value.{AtomKind, Integers, Booleans, Texts, Uuids, Atom, AtomSet, atom_cmp, marked}
use Rattle.ov_specs.proofs.laws.Order.{atom_cmp_total, atom_cmp-IsAntisymmetric}
use Rattle.ov_specs.proofs.laws.Truths.{equal_is}

-- ---- tests that decide

-- two at once
both : {P Q : Type 0} {a b : Bool} → Decides a P → Decides b Q → Decides (a && b) (P × Q)
both {P} {Q} {a} {b} p q = (λ h. let parts = and_parts a b h in (p.0 parts.0, q.0 parts.1), λ h. and_from a b (p.1 h.0) (q.1 h.1))

-- the same thing in other words
turned : {P Q : Type 0} {a : Bool} → Decides a P → (P → Q) → (Q → P) → Decides a Q
turned p there back = (λ h. there (p.0 h), λ h. p.1 (back h))

of_options : {X : Type 0} (E : X → X → Bool) → ((x y : X) → Decides (E x y) (x ≡ y)) → (o p : Option X) → Decides (option_eq E o p) (o ≡ p)
of_options E is None None = (λ h. refl, λ h. refl)
of_options E is None (Some y) = (λ h. cc, λ h. cc)
of_options E is (Some x) None = (λ h. cc, λ h. cc)
of_options E is (Some x) (Some y) = (λ h. ap Some ((is x y).0 h), λ h. (is x y).1 (same_Some x y h))

-- ---- parts of types

kind_itself : (a : AtomKind) → same_kind a a ≡ true
kind_itself Integers = refl
kind_itself Booleans = refl
kind_itself Texts = refl
kind_itself Uuids = refl

kind_is : (a b : AtomKind) → same_kind a b ≡ true → a ≡ b
kind_is Integers Integers h = refl
kind_is Booleans Booleans h = refl
kind_is Texts Texts h = refl
kind_is Uuids Uuids h = refl
kind_is a b h = cc

of_kinds : (a b : AtomKind) → Decides (same_kind a b) (a ≡ b)
of_kinds a b = (kind_is a b, λ h. subst (λ k. same_kind a k ≡ true) h (kind_itself a))

of_atoms : (a b : Atom) → Decides (eq_by_cmp atom_cmp a b) (a ≡ b)
of_atoms a b = (λ h. atom_cmp-IsAntisymmetric a b (equal_is _ h), λ h. subst (λ x. eq_by_cmp atom_cmp a x ≡ true) h ((eq_by_cmp_equiv atom_cmp_total).refl a))

-- a set's entries are its atoms
marked_keys : (es : List (Atom × Unit {0})) → map marked (map (λ e. e.0) es) ≡ es
marked_keys [] = refl
marked_keys (e ∷ es) = ap (λ fs. e ∷ fs) (marked_keys es)

same_keys : (a b : AtomSet) → keys a ≡ keys b → a ≡ b
same_keys a b h = same_entries_map a b (subst (λ es. es ≡ entries b) (marked_keys (entries a)) (subst (λ es. map marked (keys a) ≡ es) (marked_keys (entries b)) (ap (map marked) h)))

of_choices : (a b : AtomSet) → Decides (same_choices a b) (a ≡ b)
of_choices a b = turned (slice_eq-Decides of_atoms (keys a) (keys b) (same_choices a b) refl) (same_keys a b) (ap keys)

of_references : (a b : Reference) → Decides (same_reference a b) (a ≡ b)
of_references a b =
    turned (both (bytes_eq-Decides a.table b.table) (booleans_Decides a.is_strong b.is_strong))
    (λ p i. record { table = p.0 i; is_strong = p.1 i })
    (λ e. (ap (λ r. r.table) e, ap (λ r. r.is_strong) e))

abbrev AreSameRanges : BaseType → BaseType → Type 0
AreSameRanges a b = (((a.least ≡ b.least) × (a.greatest ≡ b.greatest)) × (a.shortest ≡ b.shortest)) × (a.longest ≡ b.longest)

of_ranges : (a b : BaseType) → Decides (same_ranges a b) (AreSameRanges a b)
of_ranges a b =
    both (both (both (of_options _ signed_Decides a.least b.least) (of_options _ signed_Decides a.greatest b.greatest)) (of_options _ signed_Decides a.shortest b.shortest))
    (of_options _ signed_Decides a.longest b.longest)

of_bases : (a b : BaseType) → Decides (same_base a b) (a ≡ b)
of_bases a b =
    turned (both (both (both (of_kinds a.kind b.kind) (of_options same_choices of_choices a.choices b.choices)) (of_ranges a b)) (of_options same_reference of_references a.refers b.refers))
    (λ p i. record { kind = p.0.0.0 i; choices = p.0.0.1 i; least = p.0.1.0.0.0 i; greatest = p.0.1.0.0.1 i; shortest = p.0.1.0.1 i; longest = p.0.1.1 i; refers = p.1 i })
    (λ e. (((ap (λ t. t.kind) e, ap (λ t. t.choices) e), (((ap (λ t. t.least) e, ap (λ t. t.greatest) e), ap (λ t. t.shortest) e), ap (λ t. t.longest) e)), ap (λ t. t.refers) e))

pub of_types : (a b : ColumnType) → Decides (same_type a b) (a ≡ b)
of_types a b =
    turned (both (both (both (of_bases a.key b.key) (of_options same_base of_bases a.value b.value)) (signed_Decides a.min b.min)) (of_options _ signed_Decides a.max b.max))
    (λ p i. record { key = p.0.0.0 i; value = p.0.0.1 i; min = p.0.1 i; max = p.1 i })
    (λ e. (((ap (λ t. t.key) e, ap (λ t. t.value) e), ap (λ t. t.min) e), ap (λ t. t.max) e))
