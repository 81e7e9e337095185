-- The written form of a value reads back as the value.
use Rattle.std.proofs.Common.{◌≡◌, ◌^◌, ℤ, nat_lt, pos, negsuc, List, [], ◌∷◌, map, Bool, true, T, Option, Some, None, refl, sym, ap, ◌∙◌, inl, codes}
use Rattle.std.proofs.lemmas.Bool.{and_parts, false≢true}
use Rattle.std.specs.List.{list_all}
use Rattle.std.specs.FinMap.{FinMap, keys, entries, entries_sorted, is_sorted, same_map, get-entries, get-from_entries, get-from_sorted, from_entries, from_sorted, entries-from_sorted}
use Rattle.serde_json.specs.Data.{Data}
use Rattle.serde_json.specs.View.{items_of}
use Rattle.serde_json.specs.Find.{of_integer}
use Rattle.uuid.specs.Text.{lower}
use Rattle.uuid.proofs.RoundTrips.{parses_hyphenated_text}
use Rattle.ov_specs.specs.values.Uuid.{Names}
use Rattle.ov_specs.specs.values.Value.{AtomKind, Integers, Booleans, Texts, Uuids, Atom, Integer, Boolean, Text, Uuid, is_in_64_bits, atom_cmp, Kinds, Single, Pair, AtomSet, marked, set_of, Datum, Atoms, Pairs, is_atom_of, is_pair_of, is_of}
use Rattle.ov_specs.specs.values.Reading.{Reads, tagged, integer_read, atom_read, pair_read, each_read, atoms_read, set_reading, map_reading, reads}
use Rattle.ov_specs.specs.values.Writing.{atom_tree, pair_tree, set_tree, tree}
use Rattle.ov_specs.proofs.laws.Order.{atom_cmp_total, atom_cmp-IsAntisymmetric}
use Rattle.ov_specs.proofs.laws.Clashing.{has_clash-ascending}
use Rattle.ov_specs.proofs.laws.Uuids.{uuid_bytes}

-- ---- a set or a map and the list of what is in it

marked-keys : (es : List (Atom × Unit {0})) → map marked (map (λ e. e.0) es) ≡ es
marked-keys [] = refl
marked-keys (e ∷ es) = ap (λ xs. e ∷ xs) (marked-keys es)

pub keys-marked : (xs : List Atom) → map (λ e. e.0) (map marked xs) ≡ xs
keys-marked [] = refl
keys-marked (x ∷ xs) = ap (λ ys. x ∷ ys) (keys-marked xs)

module _ {X : Type 0} where
  from_entries-entries : (m : FinMap atom_cmp X) → from_entries (entries m) ≡ m
  from_entries-entries m = same_map atom_cmp_total atom_cmp-IsAntisymmetric _ m (λ q. get-from_entries atom_cmp_total (entries m) q ∙ sym (get-entries m q))

  pub entries-from_entries : (es : List (Atom × X)) → T (is_sorted atom_cmp es) → entries (from_entries {R = atom_cmp} es) ≡ es
  entries-from_entries es h =
      ap entries (same_map atom_cmp_total atom_cmp-IsAntisymmetric (from_entries es) (from_sorted es) (λ q. get-from_entries atom_cmp_total es q ∙ sym (get-from_sorted atom_cmp es q h)))
      ∙ entries-from_sorted atom_cmp es h

pub keys-set_of : (xs : List Atom) → T (is_sorted atom_cmp (map marked xs)) → keys (set_of xs) ≡ xs
keys-set_of xs h = ap (map (λ e. e.0)) (entries-from_entries (map marked xs) h) ∙ keys-marked xs

pub set_of-keys : (s : AtomSet) → set_of (keys s) ≡ s
set_of-keys s = ap from_entries (marked-keys (entries s)) ∙ from_entries-entries s

-- ---- atoms

integer_read-of_integer : (n : ℤ) → is_in_64_bits n ≡ true → integer_read (of_integer n) ≡ Some n
integer_read-of_integer (pos n) h = let fits : nat_lt n (2 ^ 63) ≡ true = h in rw (fits, h) refl
integer_read-of_integer (negsuc n) h = rw h refl

after-atom_tree : (a : Atom) → tagged (codes "set") (atom_tree a) ≡ None
after-atom_tree (Integer n) = refl
after-atom_tree (Boolean b) = refl
after-atom_tree (Text text) = refl
after-atom_tree (Uuid bytes) = refl

module _ (names : Names) where
  pub atom_read-atom_tree : (kind : AtomKind) (a : Atom) → is_atom_of kind a ≡ true → atom_read names kind (atom_tree a) ≡ Some a
  atom_read-atom_tree Integers (Integer n) h = rw (integer_read-of_integer n h) refl
  atom_read-atom_tree Booleans (Boolean b) h = refl
  atom_read-atom_tree Texts (Text text) h = rw h refl
  atom_read-atom_tree Uuids (Uuid bytes) h =
      let sixteen = uuid_bytes bytes h in
      let e = parses_hyphenated_text lower bytes (inl refl) sixteen.0 sixteen.1 in
      rw (← e) refl
  atom_read-atom_tree kind a h = absurd (false≢true h)

  pair_read-pair_tree : (key value : AtomKind) (p : Atom × Atom) → is_pair_of key value p ≡ true → pair_read names key value (pair_tree p) ≡ Some p
  pair_read-pair_tree key value p h =
      let parts = and_parts (is_atom_of key p.0) (is_atom_of value p.1) h in
      rw (atom_read-atom_tree key p.0 parts.0, atom_read-atom_tree value p.1 parts.1) refl

  each_read-map : {A : Type 0} (reader : Data → Option A) (written : A → Data) (test : A → Bool) → ((a : A) → test a ≡ true → reader (written a) ≡ Some a)
      → (xs : List A) → list_all test xs ≡ true → each_read reader (items_of (map written xs)) ≡ Some xs
  each_read-map reader written test back [] h = refl
  each_read-map reader written test back (x ∷ xs) h =
      let parts = and_parts (test x) (list_all test xs) h in
      rw (back x parts.0, each_read-map reader written test back xs parts.1) refl

  -- ---- values

  atoms_read-set_tree : (kind : AtomKind) (xs : List Atom) → list_all (is_atom_of kind) xs ≡ true → atoms_read names kind (set_tree xs) ≡ Some xs
  atoms_read-set_tree kind [] h = refl
  atoms_read-set_tree kind (a ∷ []) h = rw (after-atom_tree a, atom_read-atom_tree kind a (and_parts _ _ h).0) refl
  atoms_read-set_tree kind (a ∷ b ∷ xs) h = each_read-map (atom_read names kind) atom_tree (is_atom_of kind) (atom_read-atom_tree kind) (a ∷ b ∷ xs) h

  pub reads-tree : (kinds : Kinds) (d : Datum) → is_of kinds d ≡ true → reads names kinds (tree d) ≡ Reads d
  reads-tree (Single kind) (Atoms s) h = ap set_reading (atoms_read-set_tree kind (keys s) h) ∙ ap (λ x. Reads (Atoms x)) (set_of-keys s)
  reads-tree (Pair key value) (Pairs m) h =
      let all = each_read-map (pair_read names key value) pair_tree (is_pair_of key value) (pair_read-pair_tree key value) (entries m) h in
      let apart = has_clash-ascending (entries m) (entries_sorted m) in
      ap map_reading all ∙ (rw apart (ap (λ x. Reads (Pairs x)) (from_entries-entries m)))
  reads-tree kinds d h = absurd (false≢true h)
