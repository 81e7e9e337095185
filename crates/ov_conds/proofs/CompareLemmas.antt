-- Values compared by their lists stand as the values do.
use Rattle.std.proofs.Common.{◌≡◌, ℕ, List, [], ◌∷◌, true, false, cond, not, T, ◌&&◌, ◌||◌, Some, option_map, refl, sym, ap, subst, ◌∙◌, Less}
use Rattle.std.specs.List.{list_any, list_all}
use Rattle.std.specs.Option.{unwrap_or}
use Rattle.std.specs.Ordering.{is_eq}
use Rattle.std.specs.Cmp.{eq_by_cmp_equiv}
use Rattle.std.specs.FinMap.{find, contains_key, keys, entries, entries_sorted, get-entries, contains_key-keys}
use Rattle.ov_specs.specs.operations.Conditions as conditions
use Rattle.ov_specs.specs.operations.Conditions.{has_pair, number_in}
use Rattle.ov_specs.specs.rows.Database.{same_atom, same_pair, same_datum}
use Rattle.ov_specs.specs.values.Value.{Atom, Uuid, atom_cmp, AtomSet, AtomMap, Datum, Atoms, Pairs}
use Rattle.ov_specs.specs.rows.Database.{one_uuid}
use Rattle.ov_specs.proofs.laws.Clashing.{same-is}
use Rattle.ov_specs.proofs.laws.Order.{atom_cmp_total}
use Rattle.ov_specs.proofs.laws.ReadingBack.{keys-set_of}
use Rattle.ov_conds.specs.Compared as compared
use Rattle.ov_conds.specs.Compared.{elements_of, number_of, are_same, lists_include, lists_exclude}
use Rattle.ov_conds.specs.Walks.{includes_atoms, includes_pairs, excludes_atoms, excludes_pairs}
use Rattle.ov_conds.proofs.WalkLemmas.{below, ascends, none-below, walk-all, keys-ascend, entries-ascend}
use Rattle.ov_specs.proofs.laws.Truths.{or_nothing, left_holds, right_holds}

abbrev pub Pair : Type 0
Pair = Atom × Atom

pub is_atom-swap : (a b : Atom) → same_atom a b ≡ same_atom b a
is_atom-swap a b = (eq_by_cmp_equiv atom_cmp_total).symm a b

pub atom-apart : (x c : Atom) → atom_cmp x c ≡ Less → same_atom x c ≡ false
atom-apart x c up = ap is_eq up

pub atom-beyond : (x c : Atom) → atom_cmp c x ≡ Less → same_atom x c ≡ false
atom-beyond x c up = is_atom-swap x c ∙ ap is_eq up

pub pair-apart : (p q : Pair) → atom_cmp p.0 q.0 ≡ Less → same_pair p q ≡ false
pair-apart p q up = ap (λ b. b && same_atom p.1 q.1) (atom-apart p.0 q.0 up)

pub pair-beyond : (p q : Pair) → atom_cmp q.0 p.0 ≡ Less → same_pair p q ≡ false
pair-beyond p q up = ap (λ b. b && same_atom p.1 q.1) (atom-beyond p.0 q.0 up)

-- ---- what is in a set or a map

pub any-contains_key : (s : AtomSet) (a : Atom) → list_any (λ b. same_atom b a) (keys s) ≡ contains_key s a
any-contains_key s a = (λ i. list_any (λ b. is_atom-swap b a i) (keys s)) ∙ sym (contains_key-keys s a)

found-below : (p : Pair) (es : List Pair) → T (below (λ e. e.0) p.0 es) → list_any (λ q. same_pair q p) es ≡ false
found-below p es h = none-below (λ e. e.0) (λ q. same_pair q p) p.0 (λ q up. pair-beyond q p up) es h

any-find : (p : Pair) (es : List Pair) → T (ascends (λ e. e.0) es) → list_any (λ q. same_pair q p) es ≡ unwrap_or (option_map (same_atom p.1) (find atom_cmp p.0 es)) false
any-find p [] h = refl
any-find p (e ∷ es) h =
    elim (same_atom e.0 p.0) as (λ b. same_atom e.0 p.0 ≡ b → ((b && same_atom e.1 p.1) || list_any (λ q. same_pair q p) es) ≡ unwrap_or (option_map (same_atom p.1) (cond (same_atom p.0 e.0) (Some e.1) (find atom_cmp p.0 es))) false) [
      | true ↦ λ is.
          let none = found-below p es (subst (λ k. T (below (λ x. x.0) k es)) (same-is e.0 p.0 is) (left_holds (below (λ x. x.0) e.0 es) (ascends (λ x. x.0) es) h)) in
          ap (λ b. same_atom e.1 p.1 || b) none ∙ (or_nothing (same_atom e.1 p.1) ∙ (is_atom-swap e.1 p.1 ∙ sym (ap (λ b. unwrap_or (option_map (same_atom p.1) (cond b (Some e.1) (find atom_cmp p.0 es))) false) (is_atom-swap p.0 e.0 ∙ is))))
      | false ↦ λ is.
          any-find p es (right_holds (below (λ x. x.0) e.0 es) (ascends (λ x. x.0) es) h)
          ∙ sym (ap (λ b. unwrap_or (option_map (same_atom p.1) (cond b (Some e.1) (find atom_cmp p.0 es))) false) (is_atom-swap p.0 e.0 ∙ is))
    ] refl

pub any-has_pair : (m : AtomMap) (p : Pair) → list_any (λ q. same_pair q p) (entries m) ≡ has_pair m p
any-has_pair m p = any-find p (entries m) (entries-ascend (entries m) (entries_sorted m)) ∙ sym (ap (λ o. unwrap_or (option_map (same_atom p.1) o) false) (get-entries m p.0))

-- ---- walks

pub includes_atoms-keys : (s v : AtomSet) → includes_atoms (keys s) (keys v) ≡ list_all (contains_key s) (keys v)
includes_atoms-keys s v =
    walk-all (λ a. a) (λ a. a) same_atom atom-apart atom-beyond (λ b. b) includes_atoms (λ xs. refl) (λ xs c cs. refl) (keys s) (keys v) (keys-ascend (entries s) (entries_sorted s)) (keys-ascend (entries v) (entries_sorted v))
    ∙ λ i. list_all (λ a. any-contains_key s a i) (keys v)

pub excludes_atoms-keys : (s v : AtomSet) → excludes_atoms (keys s) (keys v) ≡ list_all (λ a. not (contains_key s a)) (keys v)
excludes_atoms-keys s v =
    walk-all (λ a. a) (λ a. a) same_atom atom-apart atom-beyond not excludes_atoms (λ xs. refl) (λ xs c cs. refl) (keys s) (keys v) (keys-ascend (entries s) (entries_sorted s)) (keys-ascend (entries v) (entries_sorted v))
    ∙ λ i. list_all (λ a. not (any-contains_key s a i)) (keys v)

pub includes_pairs-entries : (m v : AtomMap) → includes_pairs (entries m) (entries v) ≡ list_all (has_pair m) (entries v)
includes_pairs-entries m v =
    walk-all (λ p. p.0) (λ p. p.0) same_pair pair-apart pair-beyond (λ b. b) includes_pairs (λ xs. refl) (λ xs c cs. refl) (entries m) (entries v) (entries-ascend (entries m) (entries_sorted m)) (entries-ascend (entries v) (entries_sorted v))
    ∙ λ i. list_all (λ p. any-has_pair m p i) (entries v)

pub excludes_pairs-entries : (m v : AtomMap) → excludes_pairs (entries m) (entries v) ≡ list_all (λ p. not (has_pair m p)) (entries v)
excludes_pairs-entries m v =
    walk-all (λ p. p.0) (λ p. p.0) same_pair pair-apart pair-beyond not excludes_pairs (λ xs. refl) (λ xs c cs. refl) (entries m) (entries v) (entries-ascend (entries m) (entries_sorted m)) (entries-ascend (entries v) (entries_sorted v))
    ∙ λ i. list_all (λ p. not (any-has_pair m p i)) (entries v)

-- ---- values

pub number_of-elements_of : (d : Datum) → number_of (elements_of d) ≡ number_in d
number_of-elements_of (Atoms s) = refl
number_of-elements_of (Pairs m) = refl

pub are_same-elements_of : (d v : Datum) → are_same (elements_of d) (elements_of v) ≡ same_datum d v
are_same-elements_of (Atoms s) (Atoms v) = refl
are_same-elements_of (Atoms s) (Pairs v) = refl
are_same-elements_of (Pairs m) (Atoms v) = refl
are_same-elements_of (Pairs m) (Pairs v) = refl

pub lists_include-elements_of : (d v : Datum) → lists_include (elements_of d) (elements_of v) ≡ conditions.includes d v
lists_include-elements_of (Atoms s) (Atoms v) = includes_atoms-keys s v
lists_include-elements_of (Atoms s) (Pairs v) = refl
lists_include-elements_of (Pairs m) (Atoms v) = refl
lists_include-elements_of (Pairs m) (Pairs v) = includes_pairs-entries m v

pub lists_exclude-elements_of : (d v : Datum) → lists_exclude (elements_of d) (elements_of v) ≡ conditions.excludes d v
lists_exclude-elements_of (Atoms s) (Atoms v) = excludes_atoms-keys s v
lists_exclude-elements_of (Atoms s) (Pairs v) = refl
lists_exclude-elements_of (Pairs m) (Atoms v) = refl
lists_exclude-elements_of (Pairs m) (Pairs v) = excludes_pairs-entries m v

-- values are compared as their elements are
pub ruleset by_elements = (number_of-elements_of, are_same-elements_of, lists_include-elements_of, lists_exclude-elements_of)

-- an identifier is a set of one
pub elements_of-one_uuid : (id : List ℕ) → compared.Atoms (Uuid id ∷ []) ≡ elements_of (one_uuid id)
elements_of-one_uuid id = ap compared.Atoms (sym (keys-set_of (Uuid id ∷ []) tt))
