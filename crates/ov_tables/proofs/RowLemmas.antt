-- Rows that begin with a key, and the tests that a statement makes of them.
use Rattle.std.proofs.Common.{◌≡◌, ℕ, ℤ, List, [], ◌∷◌, ◌++◌, map, filter, Bool, true, false, not, cond, ◌&&◌, ◌||◌, Some, refl, sym, ap, ap₂, ◌∙◌}
use Rattle.std.specs.List.{list_any, list_all, flat_map}
use Rattle.std.specs.Ordering.{is_eq, nat_cmp, int_cmp, ordering_then, eq_by_cmp}
use Rattle.std.specs.declared.cmp.Ordering.{Ordering}
use Rattle.std.specs.declared.cmp.Ordering.TheVariants.{Less, Equal, Greater}
use Rattle.std.proofs.lemmas.List.Elements.{filter_agree}
use Rattle.std.specs.Cmp.{eq_by_cmp_equiv}
use Rattle.std.specs.FinMap.{int_cmp-IsAntisymmetric}
use Rattle.std.specs.Cmp.Lexicographic.{slice_cmp, nat_list_cmp_total}
use Rattle.sqlite.specs.declared.types.Value.TheVariants.{Int, Text, Blob}
use Rattle.sqlite.specs.Order.{Row, column, value_cmp}
use Rattle.sqlite_value.specs.declared.value.Value.{Value}
use Rattle.sqlite_value.specs.Order.{bytes}
use Rattle.sqlite_value.proofs.OrderLemmas.{value_cmp-Int, value_cmp-Text, value_cmp-Blob}
use Rattle.sqlite.specs.Tree.{has_rowid, without_rowid}
use Rattle.sqlite_rules.specs.Edit.{without_all}
use Rattle.sqlite_sql.specs.Term.{holds}
use Rattle.sqlite_sql.specs.Ops.{binary, is_true, from_truth}
use Rattle.sqlite_sql.specs.declared.ops.BinaryOp.TheVariants.{Compare}
use Rattle.sqlite_sql.specs.declared.ops.CompareOp.TheVariants.{Eq}
use Rattle.sqlite.specs.Collation.TheVariants.{Binary}
use Rattle.ov_specs.specs.rows.Lines.{LineKey, line_cmp}
use Rattle.ov_specs.specs.schema.SchemaTypes.{name_cmp}
use Rattle.ov_tables.specs.Format.{HasNumber, IsKeyed, IsCell, row_key}
use Rattle.ov_tables.proofs.Statements.{key_terms, cell_key_terms}
use Rattle.ov_specs.proofs.laws.Truths.{equal_is}

-- the row passes the tests of the key
abbrev pub passes : LineKey → Row → Bool
passes k r = list_all (holds ((Text k.0 ∷ Blob k.1 ∷ []) ∷ r ∷ [])) key_terms

-- the row has the key
abbrev pub has_key : LineKey → Row → Bool
has_key k r = eq_by_cmp line_cmp k (row_key r)

is_eq_then : (a b : Ordering) → is_eq (ordering_then a b) ≡ (is_eq a && is_eq b)
is_eq_then Less b = refl
is_eq_then Equal b = refl
is_eq_then Greater b = refl

pub truth_of : (b : Bool) → is_true (from_truth (Some b)) ≡ b
truth_of true = refl
truth_of false = refl

and_true : (a b : Bool) → (a && (b && true)) ≡ (a && b)
and_true true true = refl
and_true true false = refl
and_true false b = refl

pub equal_texts : (s t : List ℕ) → is_true (binary (Compare Eq Binary) (Text s) (Text t)) ≡ is_eq (slice_cmp nat_cmp t s)
unfolding binary
equal_texts s t = truth_of _ ∙ ap is_eq (value_cmp-Text s t) ∙ (eq_by_cmp_equiv nat_list_cmp_total).symm s t

pub equal_blobs : (s t : List ℕ) → is_true (binary (Compare Eq Binary) (Blob s) (Blob t)) ≡ is_eq (slice_cmp nat_cmp t s)
unfolding binary
equal_blobs s t = truth_of _ ∙ ap is_eq (value_cmp-Blob s t) ∙ (eq_by_cmp_equiv nat_list_cmp_total).symm s t

equal_to_text : (v : Value) (s t : List ℕ) → v ≡ Text s → is_true (binary (Compare Eq Binary) v (Text t)) ≡ is_eq (slice_cmp nat_cmp t (bytes v))
equal_to_text v s t e = rw e (equal_texts s t)

equal_to_blob : (v : Value) (s t : List ℕ) → v ≡ Blob s → is_true (binary (Compare Eq Binary) v (Blob t)) ≡ is_eq (slice_cmp nat_cmp t (bytes v))
equal_to_blob v s t e = rw e (equal_blobs s t)

-- which asks for its key
pub passes_key : (k : LineKey) (r : Row) → IsKeyed r → passes k r ≡ has_key k r
passes_key k r l =
    and_true _ _ ∙ ap₂ ◌&&◌ (equal_to_text (column r 1) l.tbl k.0 l.tbl_is) (equal_to_blob (column r 2) l.id k.1 l.id_is)
    ∙ sym (is_eq_then (slice_cmp nat_cmp k.0 (bytes (column r 1))) (slice_cmp nat_cmp k.1 (bytes (column r 2))))

-- the row passes the tests of the key of a cell, in a statement that has more parameters
abbrev pub passes_cell : LineKey → List ℕ → Row → Row → Bool
passes_cell k name more r = list_all (holds ((Text k.0 ∷ Blob k.1 ∷ Text name ∷ more) ∷ r ∷ [])) cell_key_terms

-- the row is the cell of this column in the row of this key
abbrev pub is_cell_at : LineKey → List ℕ → Row → Bool
is_cell_at k name r = has_key k r && eq_by_cmp name_cmp name (bytes (column r 3))

-- a test after two others
and_last : (a b c d : Bool) → (a && (b && true)) ≡ d → (a && (b && (c && true))) ≡ (d && c)
and_last true true true d e = ap (λ x. x && true) e
and_last true true false d e = ap (λ x. x && false) e
and_last true false c d e = ap (λ x. x && c) e
and_last false b c d e = ap (λ x. x && c) e

-- which ask for that cell
pub passes_cell_at : (k : LineKey) (name : List ℕ) (more r : Row) → IsCell r → passes_cell k name more r ≡ is_cell_at k name r
passes_cell_at k name more r is =
    and_last _ _ _ _ (passes_key k r is.keyed) ∙ ap (λ b. has_key k r && b) (equal_to_text (column r 3) is.col name is.col_is)

same_int : (m n : ℤ) → is_eq (int_cmp m n) ≡ true → m ≡ n
same_int m n h = int_cmp-IsAntisymmetric m n (equal_is _ h)

pub keyed_number : (r : Row) → IsKeyed r → HasNumber r
keyed_number r k = (k.number, k.number_is)

-- rows of one number have one number
pub same_number : (r s : Row) → HasNumber r → HasNumber s → true ≡ is_eq (value_cmp (column r 0) (column s 0)) → column r 0 ≡ column s 0
same_number r s l m h = l.1 ∙ ap Int (same_int l.0 m.0 (ap is_eq (sym (value_cmp-Int l.0 m.0)) ∙ ap₂ (λ a b. is_eq (value_cmp a b)) (sym l.1) (sym m.1) ∙ sym h)) ∙ sym m.1

pub filter_filter : {X : Type 0} (p q : X → Bool) (xs : List X) → filter p (filter q xs) ≡ filter (λ x. q x && p x) xs
filter_filter p q [] = refl
filter_filter p q (x ∷ xs) =
    elim (q x) as (λ b. filter p (cond b (x ∷ filter q xs) (filter q xs)) ≡ cond (b && p x) (x ∷ filter (λ y. q y && p y) xs) (filter (λ y. q y && p y) xs)) [
      | true ↦ ap (cond (p x) (x ∷ filter p (filter q xs))) (filter_filter p q xs) ∙ ap (λ ys. cond (p x) (x ∷ ys) (filter (λ y. q y && p y) xs)) (filter_filter p q xs)
      | false ↦ filter_filter p q xs
    ]

keeps_all : {X : Type 0} (xs : List X) → xs ≡ filter (λ _. true) xs
keeps_all [] = refl
keeps_all (x ∷ xs) = ap (λ ys. x ∷ ys) (keeps_all xs)

not_or : (a b : Bool) → (not a && not b) ≡ not (a || b)
not_or true b = refl
not_or false b = refl

pub without_all_filter : (ids : List ℤ) (rows : List Row) → without_all rows ids ≡ filter (λ r. not (list_any (λ id. has_rowid id r) ids)) rows
without_all_filter [] rows = keeps_all rows
without_all_filter (id ∷ ids) rows =
    without_all_filter ids (without_rowid id rows) ∙ filter_filter _ _ rows ∙ filter_agree _ _ (λ r. not_or (has_rowid id r) (list_any (λ n. has_rowid n r) ids)) rows

pub flat_filter : {X Y : Type 0} (b : X → Bool) (f : X → Y) (xs : List X) → flat_map (λ x. cond (b x) (f x ∷ []) []) xs ≡ map f (filter b xs)
flat_filter b f [] = refl
flat_filter {X} {Y} b f (x ∷ xs) =
    elim (b x) as (λ v. cond {A = List Y} v (f x ∷ []) [] ++ flat_map (λ y. cond (b y) (f y ∷ []) []) xs ≡ map f (cond {A = List X} v (x ∷ filter b xs) (filter b xs))) [
      | true ↦ ap (λ ys. f x ∷ ys) (flat_filter b f xs)
      | false ↦ flat_filter b f xs
    ]

pub map_then : {X Y Z : Type 0} (f : X → Y) (g : Y → Z) (xs : List X) → map g (map f xs) ≡ map (λ x. g (f x)) xs
map_then f g [] = refl
map_then f g (x ∷ xs) = ap (λ ys. g (f x) ∷ ys) (map_then f g xs)
