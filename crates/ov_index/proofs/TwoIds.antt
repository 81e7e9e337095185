-- Sets of identifiers with two in them.
use Rattle.std.proofs.Common.{◌≡◌, ◌==◌, List, [], ◌∷◌, map, length, Bool, true, false, cond, T, Option, Some, None, is_some, nat_lt, refl, sym, ap, ◌∙◌, arith}
use Rattle.std.proofs.lemmas.Bool.Decides.{nat_tests}
use Rattle.std.proofs.lemmas.List.{nil_from_length}
use Rattle.std.proofs.lemmas.Slice.Eq.{bytes_eq-Decides}
use Rattle.std.specs.Cmp.{eq_by_cmp_equiv}
use Rattle.std.specs.Cmp.Lexicographic.{texts_ties}
use Rattle.std.specs.FinMap.{find, is_sorted, empty, get, contains_key, len-empty, entries, keys, len, len-entries, get-entries, entries_sorted}
use Rattle.std.specs.List.{list_any}
use Rattle.std.specs.Ordering.{eq_by_cmp, is_eq}
use Rattle.std.specs.Str.{bytes_eq}
use Rattle.ov_rows.specs.Nested.{id_cmp}
use Rattle.ov_specs.specs.values.Uuid.{Uuid}
use Rattle.ov_specs.proofs.laws.Names.{name_cmp_total, name_exact}
use Rattle.ov_specs.proofs.laws.Truths.{left_holds, less_is, equal_is}
use Rattle.ov_index.specs.Indexing.{IdSet}
use Rattle.ov_index.proofs.Nesting.{any-map}
use Rattle.ov_index.proofs.MapEntries.{contradicts, any_entry_is, entry_is_any}

abbrev Marks : Type 0
Marks = List (Uuid × Unit {0})

-- the identifier is one of them
abbrev has : Marks → Uuid → Bool
has es id = is_some (find id_cmp id es)

itself : (id : Uuid) → eq_by_cmp id_cmp id id ≡ true
itself id = (eq_by_cmp_equiv name_cmp_total).refl id

has_first : (e : Uuid × Unit {0}) (es : Marks) → has (e ∷ es) e.0 ≡ true
has_first e es = ap (λ b. is_some (cond b (Some e.1) (find id_cmp e.0 es))) (itself e.0)

has_second : (d e : Uuid × Unit {0}) (es : Marks) → has (d ∷ e ∷ es) e.0 ≡ true
has_second d e es = by (eq_by_cmp id_cmp e.0 d.0)
  where
    by : (b : Bool) → is_some (cond b (Some d.1) (find id_cmp e.0 (e ∷ es))) ≡ true
    by true = refl
    by false = has_first e es

neighbours_differ : (d e : Uuid × Unit {0}) (es : Marks) → T (is_sorted id_cmp (d ∷ e ∷ es)) → bytes_eq d.0 e.0 ≡ false
neighbours_differ d e es h = texts_ties d.0 e.0 ∙ ap is_eq (less_is _ (left_holds _ _ (left_holds _ _ h)))

-- the two are different, and both are there
abbrev pub AreTwo : IdSet → Uuid → Uuid → Type 0
AreTwo ids a b = (contains_key ids a ≡ true) × (contains_key ids b ≡ true) × (bytes_eq a b ≡ false)

pub two_ids : (ids : IdSet) → nat_lt 1 (len ids) ≡ true → (a : Uuid) × (b : Uuid) × AreTwo ids a b
two_ids ids many = by (entries ids) (entries_sorted ids) (ap (nat_lt 1) (sym (len-entries ids)) ∙ many) (λ q. ap is_some (get-entries ids q))
  where
    by : (es : Marks) → T (is_sorted id_cmp es) → nat_lt 1 (length es) ≡ true → ((q : Uuid) → contains_key ids q ≡ has es q) → (a : Uuid) × (b : Uuid) × AreTwo ids a b
    by [] h more are = cc
    by (d ∷ []) h more are = cc
    by (d ∷ e ∷ es) h more are = (d.0, e.0, (are d.0 ∙ has_first d (e ∷ es), are e.0 ∙ has_second d e es, neighbours_differ d e es h))

-- and the other way round
pub are_two : (ids : IdSet) (a b : Uuid) → AreTwo ids a b → nat_lt 1 (len ids) ≡ true
are_two ids a b two = ap (nat_lt 1) (len-entries ids) ∙ by (entries ids) (sym (ap is_some (get-entries ids a)) ∙ two.0) (sym (ap is_some (get-entries ids b)) ∙ two.1)
  where
    only : (e : Uuid × Unit {0}) (id : Uuid) (t : Bool) → eq_by_cmp id_cmp id e.0 ≡ t → is_some (cond t (Some e.1) None) ≡ true → id ≡ e.0
    only e id true tied h = name_exact id e.0 (equal_is _ tied)
    only e id false tied h = cc

    by : (es : Marks) → has es a ≡ true → has es b ≡ true → nat_lt 1 (length es) ≡ true
    by [] in_a in_b = cc
    by (e ∷ []) in_a in_b =
        let same : a ≡ b = only e a (eq_by_cmp id_cmp a e.0) refl in_a ∙ sym (only e b (eq_by_cmp id_cmp b e.0) refl in_b) in
        absurd (contradicts (bytes_eq a b) ((bytes_eq-Decides a b).1 same) two.2)
    by (d ∷ e ∷ es) in_a in_b = grind (arith, nat_tests)

-- one that is there
pub one_id : (ids : IdSet) → (len ids == 0) ≡ false → (a : Uuid) × (contains_key ids a ≡ true)
one_id ids some = by (entries ids) (ap (λ n. n == 0) (sym (len-entries ids)) ∙ some) (λ q. ap is_some (get-entries ids q))
  where
    by : (es : Marks) → (length es == 0) ≡ false → ((q : Uuid) → contains_key ids q ≡ has es q) → (a : Uuid) × (contains_key ids a ≡ true)
    by [] none are = cc
    by (e ∷ es) more are = (e.0, are e.0 ∙ has_first e es)

-- ---- what holds of one of them

pub any_id_is : (test : Uuid → Bool) (ids : IdSet) → list_any test (keys ids) ≡ true → (a : Uuid) × (contains_key ids a ≡ true) × (test a ≡ true)
any_id_is test ids any =
    let found = any_entry_is id_cmp name_cmp_total name_exact (λ (e : Uuid × Unit {0}). test e.0) ids (sym (any-map test (λ (e : Uuid × Unit {0}). e.0) (entries ids)) ∙ any) in
    (found.0, ap is_some found.2, found.3)

pub id_is_any : (test : Uuid → Bool) (ids : IdSet) (a : Uuid) → contains_key ids a ≡ true → test a ≡ true → list_any test (keys ids) ≡ true
id_is_any test ids a there is = any-map test (λ (e : Uuid × Unit {0}). e.0) (entries ids) ∙ by (get ids a) refl there
  where
    by : (o : Option (Unit {0})) → get ids a ≡ o → is_some o ≡ true → list_any (λ (e : Uuid × Unit {0}). test e.0) (entries ids) ≡ true
    by None at h = cc
    by (Some u) at h = entry_is_any id_cmp name_cmp_total name_exact (λ (e : Uuid × Unit {0}). test e.0) ids a u at is

pub no_keys : keys (empty {X = Unit {0}} {R = id_cmp}) ≡ []
no_keys = ap (map (λ (e : Uuid × Unit {0}). e.0)) (nil_from_length _ (sym (len-entries (empty {X = Unit {0}} {R = id_cmp})) ∙ len-empty id_cmp (Unit {0})))
