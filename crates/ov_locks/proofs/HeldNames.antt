-- The names that sessions have asked for, of the code as those of the definitions.
use Rattle.std.proofs.Common.{◌≡◌, ℕ, ◌+◌, List, [], ◌∷◌, map, length, suc, Bool, true, false, cond, eqb, Option, Some, None, option_map, refl, sym, ap, ◌∙◌, inl, inr, arith, String, string_bytes, Global, Ordering, Less, Equal, Greater}
use Rattle.std.proofs.lemmas.Bool.{eqb-true, eq-eqb, ne_eqb, cases_order}
use Rattle.std.proofs.lemmas.List.Sums.{sum_by-cons}
use Rattle.std.proofs.lemmas.Option.{same_Some}
use Rattle.std.proofs.lemmas.Map.Entries.{sum_by-set_value, sum_by-insert_entry, sum_by-remove_entry}
use Rattle.std.specs.BTreeMap.{is_at, insert_entry}
use Rattle.std.specs.BTreeSet.{insert_key}
use Rattle.std.specs.Cmp.{nat_cmp_is, nat_cmp_total}
use Rattle.std.specs.List.{sum_by, list_any}
use Rattle.std.specs.List.Sorted.{IsStrictlySortedBy}
use Rattle.std.specs.Map.{keys_of, lookup, values_of, set_value, remove_entry}
use Rattle.std.specs.Ordering.{nat_cmp, is_eq, match_ordering}
use Rattle.std.specs.Prelude.{unwrap_or}
use Rattle.std.specs.Set.{remove_key}
use Rattle.ov_specs.specs.schema.SchemaTypes.{name_cmp}
use Rattle.ov_specs.proofs.laws.Lists.{any-map}
use Rattle.ov_locks.specs.Held.{NameSet, names_asked, names_of_set, names_taken, requests_in, held_of}
use Rattle.ov_locks.proofs.Named.{text_order, text_is}

abbrev pub Sets : Type 0
Sets = List (ℕ × NameSet)

-- ---- what is found

found_more : (b : Bool) (s : NameSet) (o : Option (List (List ℕ))) (p : Option NameSet) → o ≡ option_map names_of_set p → cond b (Some (names_of_set s)) o ≡ option_map names_of_set (cond b (Some s) p)
found_more true s o p again = refl
found_more false s o p again = again

lookup-held : (test : ℕ → Bool) (es : Sets) → lookup test (held_of es) ≡ option_map names_of_set (lookup test es)
lookup-held test [] = refl
lookup-held test (e ∷ es) = found_more (test e.0) e.1 (lookup test (held_of es)) (lookup test es) (lookup-held test es)

-- the names of a session are those of its set
pub names-found : (session : ℕ) (es : Sets) → names_asked session (held_of es) ≡ names_taken (lookup (is_at (nat_cmp session)) es)
names-found session es = ap (λ o. unwrap_or o []) (lookup-held (is_at (nat_cmp session)) es)

same_test : (a b : ℕ) → is_at (nat_cmp a) b ≡ eqb b a
same_test a b = elim (cases_order a b) [
  | inl e ↦ ap is_eq (sym (nat_cmp_is a b Equal e)) ∙ sym (eq-eqb b a (sym e))
  | inr other ↦ elim other [
    | inl less ↦ ap is_eq (sym (nat_cmp_is a b Less less)) ∙ sym (ne_eqb b a (λ e. omega arith))
    | inr more ↦ ap is_eq (sym (nat_cmp_is a b Greater more)) ∙ sym (ne_eqb b a (λ e. omega arith))
  ]
]

-- after the set of one session has become another
pub names-after : (session : ℕ) (w : Option NameSet) (es es' : Sets) → ((q : ℕ) → lookup (is_at (nat_cmp q)) es' ≡ cond (is_at (nat_cmp session) q) w (lookup (is_at (nat_cmp q)) es))
    → (other : ℕ) → names_asked other (held_of es') ≡ cond (eqb other session) (names_taken w) (names_asked other (held_of es))
names-after session w es es' h other =
    names-found other es' ∙ ap names_taken (h other ∙ ap (λ b. cond b w (lookup (is_at (nat_cmp other)) es)) (same_test session other)) ∙ by (eqb other session)
    ∙ ap (cond (eqb other session) (names_taken w)) (sym (names-found other es))
  where
    by : (b : Bool) → names_taken (cond b w (lookup (is_at (nat_cmp other)) es)) ≡ cond b (names_taken w) (names_taken (lookup (is_at (nat_cmp other)) es))
    by true = refl
    by false = refl

-- the names of one session become these of its former ones, and those of the others stay
pub names-become : (session : ℕ) (w o : Option NameSet) (f : List (List ℕ) → List (List ℕ)) (es es' : Sets)
    → ((q : ℕ) → lookup (is_at (nat_cmp q)) es' ≡ cond (is_at (nat_cmp session) q) w (lookup (is_at (nat_cmp q)) es)) → o ≡ lookup (is_at (nat_cmp session)) es → names_taken w ≡ f (names_taken o)
    → (other : ℕ) → names_asked other (held_of es') ≡ cond (eqb other session) (f (names_asked other (held_of es))) (names_asked other (held_of es))
names-become session w o f es es' h found is other = names-after session w es es' h other ∙ by (eqb other session) refl
  where
    by : (b : Bool) → eqb other session ≡ b → cond b (names_taken w) (names_asked other (held_of es)) ≡ cond b (f (names_asked other (held_of es))) (names_asked other (held_of es))
    by true same = is ∙ ap f (ap names_taken found ∙ sym (names-found session es)) ∙ ap (λ s. f (names_asked s (held_of es))) (sym (eqb-true other session same))
    by false same = refl

-- if a session has no set, there is nothing to take out
pub names-none : (session : ℕ) (f : List (List ℕ) → List (List ℕ)) (es : Sets) → None ≡ lookup (is_at (nat_cmp session)) es → f [] ≡ []
    → (other : ℕ) → names_asked other (held_of es) ≡ cond (eqb other session) (f (names_asked other (held_of es))) (names_asked other (held_of es))
names-none session f es none is other = by (eqb other session) refl
  where
    by : (b : Bool) → eqb other session ≡ b → names_asked other (held_of es) ≡ cond b (f (names_asked other (held_of es))) (names_asked other (held_of es))
    by true same =
        let nothing = ap (λ s. names_asked s (held_of es)) (eqb-true other session same) ∙ names-found session es ∙ ap names_taken (sym none) in
        nothing ∙ sym is ∙ ap f (sym nothing)
    by false same = refl

-- a set is put back with the names that it had
pub held-same : (test : ℕ → Bool) (old new : NameSet) (es : Sets) → Some old ≡ lookup test es → names_of_set new ≡ names_of_set old → held_of (set_value test es new) ≡ held_of es
held-same test old new [] found same = refl
held-same test old new (e ∷ es) found same = by (held-same test old new es) (test e.0) found
  where
    by : (Some old ≡ lookup test es → names_of_set new ≡ names_of_set old → held_of (set_value test es new) ≡ held_of es) → (b : Bool) → Some old ≡ cond b (Some e.1) (lookup test es)
        → held_of (cond b ((e.0, new) ∷ es) (e ∷ set_value test es new)) ≡ held_of (e ∷ es)
    by rest true at = ap (λ ns. (e.0, ns) ∷ held_of es) (same ∙ ap names_of_set (same_Some old e.1 at))
    by rest false at = ap (λ h. (e.0, names_of_set e.1) ∷ h) (rest at same)

-- ---- names in a set

pub insert-names : (k : String Global) (ks : List (String Global)) → map string_bytes (insert_key text_order ks k) ≡ insert_key name_cmp (map string_bytes ks) (string_bytes k)
insert-names k [] = refl
insert-names k (x ∷ xs) = by (insert-names k xs) (text_order k x)
  where
    by : map string_bytes (insert_key text_order xs k) ≡ insert_key name_cmp (map string_bytes xs) (string_bytes k) → (o : Ordering)
        → map string_bytes (match_ordering o (k ∷ x ∷ xs) (x ∷ xs) (x ∷ insert_key text_order xs k))
        ≡ match_ordering o (string_bytes k ∷ map string_bytes (x ∷ xs)) (map string_bytes (x ∷ xs)) (string_bytes x ∷ insert_key name_cmp (map string_bytes xs) (string_bytes k))
    by rest Less = refl
    by rest Equal = refl
    by rest Greater = ap (λ ns. string_bytes x ∷ ns) rest

pub remove-names : (name : List ℕ) (ks : List (String Global)) → map string_bytes (remove_key (text_is name) ks) ≡ remove_key (is_at (name_cmp name)) (map string_bytes ks)
remove-names name [] = refl
remove-names name (x ∷ xs) = by (remove-names name xs) (text_is name x)
  where
    by : map string_bytes (remove_key (text_is name) xs) ≡ remove_key (is_at (name_cmp name)) (map string_bytes xs) → (b : Bool)
        → map string_bytes (cond b xs (x ∷ remove_key (text_is name) xs)) ≡ cond b (map string_bytes xs) (string_bytes x ∷ remove_key (is_at (name_cmp name)) (map string_bytes xs))
    by rest true = refl
    by rest false = ap (λ ns. string_bytes x ∷ ns) rest

pub as_many : (ks : List (String Global)) → length (map string_bytes ks) ≡ length ks
as_many [] = refl
as_many (k ∷ ks) = ap suc (as_many ks)

pub any-names : (name : List ℕ) (ks : List (String Global)) → list_any (text_is name) ks ≡ list_any (is_at (name_cmp name)) (map string_bytes ks)
any-names name ks = sym (any-map (is_at (name_cmp name)) string_bytes ks)

-- ---- how many

-- how many names a set has
abbrev pub size : NameSet → ℕ
size set = length (names_of_set set)

pub requests-held : (es : Sets) → requests_in (held_of es) ≡ sum_by size (values_of es)
requests-held [] = refl
requests-held (e ∷ es) =
    sum_by-cons length (names_of_set e.1) (values_of (held_of es)) ∙ ap (λ n. size e.1 + n) (requests-held es) ∙ sym (sum_by-cons size e.1 (values_of es))

module _ (session : ℕ) (es es' : Sets) where
  -- one set becomes another
  pub count-set : (old new : NameSet) → es' ≡ set_value (is_at (nat_cmp session)) es new → Some old ≡ lookup (is_at (nat_cmp session)) es
      → requests_in (held_of es') + size old ≡ requests_in (held_of es) + size new
  count-set old new is found =
      let total = sum_by-set_value size (is_at (nat_cmp session)) es old new (sym found) in
      omega (arith, requests-held es, requests-held es' ∙ ap (λ xs. sum_by size (values_of xs)) is, total)

  -- a session gets its first set
  pub count-first : (new : NameSet) → IsStrictlySortedBy nat_cmp (keys_of es) → es' ≡ insert_entry nat_cmp es session new → None ≡ lookup (is_at (nat_cmp session)) es
      → requests_in (held_of es') ≡ requests_in (held_of es) + size new
  count-first new ascend is none =
      let total = sum_by-insert_entry size nat_cmp_total es session new ascend in
      omega (arith, requests-held es, requests-held es' ∙ ap (λ xs. sum_by size (values_of xs)) is, total, ap (λ o. unwrap_or (option_map size o) 0) none)

  -- a set is taken out
  pub count-out : (o : Option NameSet) → es' ≡ remove_entry (is_at (nat_cmp session)) es → o ≡ lookup (is_at (nat_cmp session)) es
      → requests_in (held_of es') + length (names_taken o) ≡ requests_in (held_of es)
  count-out o is found =
      let total = sum_by-remove_entry size (is_at (nat_cmp session)) es in
      omega (arith, requests-held es, requests-held es' ∙ ap (λ xs. sum_by size (values_of xs)) is, total, weight o ∙ ap (λ p. unwrap_or (option_map size p) 0) found)
    where
      weight : (p : Option NameSet) → length (names_taken p) ≡ unwrap_or (option_map size p) 0
      weight None = refl
      weight (Some set) = refl

-- a set with one name more, or one fewer
pub size-more : (old new : NameSet) (b : Bool) → length new.keys ≡ length old.keys + cond b 1 0 → b ≡ true → size new ≡ size old + 1
size-more old new b len is = as_many new.keys ∙ len ∙ ap (λ c. length old.keys + cond c 1 0) is ∙ ap (λ n. n + 1) (sym (as_many old.keys))

pub size-less : (old new : NameSet) (b : Bool) → length new.keys + cond b 1 0 ≡ length old.keys → b ≡ true → size new + 1 ≡ size old
size-less old new b len is = ap (λ n. n + 1) (as_many new.keys) ∙ ap (λ c. length new.keys + cond c 1 0) (sym is) ∙ len ∙ sym (as_many old.keys)
