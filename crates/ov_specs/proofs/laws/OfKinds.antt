-- What is read is of its kinds: numbers of 64 bits, texts in UTF-8 without U+0000, identifiers of sixteen bytes.
use Rattle.std.proofs.Common.{◌≡◌, ◌&&◌, List, [], ◌∷◌, map, Bool, true, false, Option, Some, None, option_map, option_and_then, if◌then◌else◌, refl, sym, subst, ◌∙◌, ℕ, codes, Less, Equal, Greater}
use Rattle.std.proofs.lemmas.Bool.{and_parts, and_from}
use Rattle.std.specs.List.{list_all}
use Rattle.std.specs.Option.{option_or, option_zip}
use Rattle.std.specs.FinMap.{entries, entries-insert, put, from_entries, empty, len-entries, len-empty}
use Rattle.std.specs.FinMap.Entries.{by_order}
use Rattle.serde_json.specs.Data.{Num, Data, Items, no_items, item}
use Rattle.serde_json.specs.Find.{as_number, as_bool, as_str, as_array, as_i64}
use Rattle.uuid.specs.Text.{parsed_hyphenated}
use Rattle.ov_specs.specs.values.Uuid.{is_uuid, is_id, Names, AreUuids}
use Rattle.ov_specs.specs.values.Value.{AtomKind, Integers, Booleans, Texts, Uuids, Atom, Integer, Boolean, Text, Uuid, is_in_64_bits, is_text, atom_cmp, Kinds, Single, Pair, marked, set_of, map_of, Datum, Atoms, Pairs, is_atom_of, is_pair_of, is_of}
use Rattle.ov_specs.specs.values.Reading.{Reading, Reads, Unreadable, Clashing, as_two, tagged, in_64_bits, integer_read, text_read, name_read, uuid_read, atom_read, pair_read, each_read, list_read, listed_or_one, atoms_read, pairs_read, has_clash, set_reading, map_reading, reads}
use Rattle.ov_specs.specs.values.Results.{in_front}
use Rattle.ov_specs.proofs.laws.Order.{atom_cmp_total}
use Rattle.ov_specs.proofs.laws.Uuids.{hyphenated_is_uuid}
use Rattle.std.proofs.lemmas.List.{nil_from_length}

-- ---- what stands in an answer that may be none

-- the value, if there is one, passes the test
abbrev pub Passes : {A : Type 0} → (A → Bool) → Option A → Type 0
Passes test None = Unit {0}
Passes test (Some a) = test a ≡ true

pub passes-then : {A B : Type 0} (test : B → Bool) (f : A → Option B) → ((a : A) → Passes test (f a)) → (o : Option A) → Passes test (option_and_then f o)
passes-then test f h None = tt
passes-then test f h (Some a) = h a

passes-map : {A B : Type 0} (test : A → Bool) (goal : B → Bool) (f : A → B) → ((a : A) → test a ≡ true → goal (f a) ≡ true) → (o : Option A) → Passes test o → Passes goal (option_map f o)
passes-map test goal f h None p = tt
passes-map test goal f h (Some a) p = h a p

pub passes-or : {A : Type 0} (test : A → Bool) (o p : Option A) → Passes test o → Passes test p → Passes test (option_or o p)
passes-or test None p h k = k
passes-or test (Some a) p h k = h

pub passes-if : {A : Type 0} (test : A → Bool) (b : Bool) (a : A) → (b ≡ true → test a ≡ true) → Passes test (if b then Some a else None)
passes-if test true a h = h refl
passes-if test false a h = tt

pub passes-from : {A : Type 0} (test : A → Bool) (o : Option A) → ((a : A) → o ≡ Some a → test a ≡ true) → Passes test o
passes-from test None h = tt
passes-from test (Some a) h = h a refl

passes-both : (key value : AtomKind) (a b : Option Atom) → Passes (is_atom_of key) a → Passes (is_atom_of value) b → Passes (is_pair_of key value) (option_zip a b)
passes-both key value None b h k = tt
passes-both key value (Some a) None h k = tt
passes-both key value (Some a) (Some b) h k = and_from (is_atom_of key a) (is_atom_of value b) h k

passes-front : {A : Type 0} (test : A → Bool) (a : Option A) (rest : Option (List A)) → Passes test a → Passes (list_all test) rest → Passes (list_all test) (in_front a rest)
passes-front test None rest h k = tt
passes-front test (Some a) None h k = tt
passes-front test (Some a) (Some rest) h k = and_from (test a) (list_all test rest) h k

-- ---- atoms

integer_is_in_64_bits : (n : Num) → Passes is_in_64_bits (integer_read n)
integer_is_in_64_bits n = passes-then is_in_64_bits in_64_bits (λ z. passes-if is_in_64_bits (is_in_64_bits z) z (λ e. e)) (as_i64 n)

text_is_text : (text : List ℕ) → Passes is_text (text_read text)
text_is_text text = passes-if is_text (is_text text) text (λ e. e)

module _ (names : Names) (are : AreUuids names) where
  named_is_uuid : (name : List ℕ) → Passes is_uuid (name_read names name)
  named_is_uuid name =
      elim (is_id name) as (λ b. Passes is_uuid (if b then names name else None)) [
        | true ↦ passes-from is_uuid (names name) (are name)
        | false ↦ tt
      ]

  pub uuid_is_uuid : (d : Data) → Passes is_uuid (uuid_read names d)
  uuid_is_uuid d =
      passes-or is_uuid _ _
      (passes-then is_uuid parsed_hyphenated (λ text. passes-from is_uuid (parsed_hyphenated text) (hyphenated_is_uuid text)) (option_and_then as_str (tagged (codes "uuid") d)))
      (passes-then is_uuid (name_read names) named_is_uuid (option_and_then as_str (tagged (codes "named-uuid") d)))

  atom_is_of : (kind : AtomKind) (d : Data) → Passes (is_atom_of kind) (atom_read names kind d)
  atom_is_of Integers d = passes-map is_in_64_bits (is_atom_of Integers) Integer (λ n h. h) _ (passes-then is_in_64_bits integer_read integer_is_in_64_bits (as_number d))
  atom_is_of Booleans d = passes-map (λ b. true) (is_atom_of Booleans) Boolean (λ b h. refl) _ (passes-from (λ b. true) (as_bool d) (λ b e. refl))
  atom_is_of Texts d = passes-map is_text (is_atom_of Texts) Text (λ t h. h) _ (passes-then is_text text_read text_is_text (as_str d))
  atom_is_of Uuids d = passes-map is_uuid (is_atom_of Uuids) Uuid (λ u h. h) _ (uuid_is_uuid d)

  pub atom_read_is_of : (kind : AtomKind) (d : Data) (a : Atom) → atom_read names kind d ≡ Some a → is_atom_of kind a ≡ true
  atom_read_is_of kind d a e = subst (Passes (is_atom_of kind)) e (atom_is_of kind d)

  pair_is_of : (key value : AtomKind) (d : Data) → Passes (is_pair_of key value) (pair_read names key value d)
  pair_is_of key value d =
      passes-then (is_pair_of key value) (λ p. option_zip (atom_read names key p.0) (atom_read names value p.1))
      (λ p. passes-both key value (atom_read names key p.0) (atom_read names value p.1) (atom_is_of key p.0) (atom_is_of value p.1)) (as_two d)

  -- ---- lists

  each_passes : {A : Type 0} (test : A → Bool) (reader : Data → Option A) → ((d : Data) → Passes test (reader d)) → (ds : Items) → Passes (list_all test) (each_read reader ds)
  each_passes test reader h no_items = refl
  each_passes test reader h (item d ds) = passes-front test (reader d) (each_read reader ds) (h d) (each_passes test reader h ds)

  list_passes : {A : Type 0} (test : A → Bool) (reader : Data → Option A) → ((d : Data) → Passes test (reader d)) → (d : Data) → Passes (list_all test) (list_read reader d)
  list_passes test reader h d = passes-then (list_all test) (each_read reader) (each_passes test reader h) (as_array d)

  listed_passes : (test : Atom → Bool) (reader : Data → Option Atom) → ((d : Data) → Passes test (reader d)) → (list : Option Data) (d : Data) → Passes (list_all test) (listed_or_one reader list d)
  listed_passes test reader h None d = passes-map test (list_all test) (λ a. a ∷ []) (λ a p. and_from (test a) true p refl) (reader d) (h d)
  listed_passes test reader h (Some list) d = list_passes test reader h list

  atoms_are_of : (kind : AtomKind) (d : Data) → Passes (list_all (is_atom_of kind)) (atoms_read names kind d)
  atoms_are_of kind d = listed_passes (is_atom_of kind) (atom_read names kind) (atom_is_of kind) (tagged (codes "set") d) d

  pairs_are_of : (key value : AtomKind) (d : Data) → Passes (list_all (is_pair_of key value)) (pairs_read names key value d)
  pairs_are_of key value d =
      passes-then (list_all (is_pair_of key value)) (list_read (pair_read names key value)) (list_passes (is_pair_of key value) (pair_read names key value) (pair_is_of key value)) (tagged (codes "map") d)

-- ---- the set and the map of a list

no_entries : (X : Type 0) → entries {X = X} {R = atom_cmp} empty ≡ []
no_entries X = nil_from_length _ (sym (len-entries empty) ∙ len-empty atom_cmp X)

module _ {X : Type 0} (f : Atom → Bool) (g : X → Bool) where
  abbrev passes : Atom × X → Bool
  passes e = f e.0 && g e.1

  all-put : (k : Atom) (v : X) → f k ≡ true → g v ≡ true → (es : List (Atom × X)) → list_all passes es ≡ true → list_all passes (put atom_cmp k v es) ≡ true
  all-put k v h j [] p = and_from (f k && g v) true (and_from (f k) (g v) h j) refl
  all-put k v h j (e ∷ es) p =
      let parts = and_parts (f e.0 && g e.1) (list_all passes es) p in
      let own = and_parts (f e.0) (g e.1) parts.0 in
      elim (atom_cmp k e.0) as (λ o. list_all passes (by_order o ((k, v) ∷ e ∷ es) ((e.0, v) ∷ es) (e ∷ put atom_cmp k v es)) ≡ true) [
        | Less ↦ and_from (f k && g v) (list_all passes (e ∷ es)) (and_from (f k) (g v) h j) p
        | Equal ↦ and_from (f e.0 && g v) (list_all passes es) (and_from (f e.0) (g v) own.0 j) parts.1
        | Greater ↦ and_from (f e.0 && g e.1) (list_all passes (put atom_cmp k v es)) parts.0 (all-put k v h j es parts.1)
      ]

  all-entries : (es : List (Atom × X)) → list_all passes es ≡ true → list_all passes (entries (from_entries {R = atom_cmp} es)) ≡ true
  all-entries [] p = rw (no_entries X) refl
  all-entries (e ∷ es) p =
      let parts = and_parts (f e.0 && g e.1) (list_all passes es) p in
      let own = and_parts (f e.0) (g e.1) parts.0 in
      rw (entries-insert atom_cmp_total (from_entries es) e.0 e.1) (all-put e.0 e.1 own.0 own.1 (entries (from_entries es)) (all-entries es parts.1))

abbrev anything : Unit {0} → Bool
anything u = true

all-marked : (f : Atom → Bool) (xs : List Atom) → list_all f xs ≡ true → list_all (passes f anything) (map marked xs) ≡ true
all-marked f [] h = refl
all-marked f (x ∷ xs) h =
    let parts = and_parts (f x) (list_all f xs) h in
    and_from (f x && true) (list_all (passes f anything) (map marked xs)) (and_from (f x) true parts.0 refl) (all-marked f xs parts.1)

all-keys : (f : Atom → Bool) (es : List (Atom × Unit {0})) → list_all (passes f anything) es ≡ true → list_all f (map (λ e. e.0) es) ≡ true
all-keys f [] h = refl
all-keys f (e ∷ es) h =
    let parts = and_parts (f e.0 && true) (list_all (passes f anything) es) h in
    and_from (f e.0) (list_all f (map (λ e. e.0) es)) (and_parts (f e.0) true parts.0).0 (all-keys f es parts.1)

pub set_is_of : (kind : AtomKind) (xs : List Atom) → list_all (is_atom_of kind) xs ≡ true → is_of (Single kind) (Atoms (set_of xs)) ≡ true
set_is_of kind xs h = all-keys (is_atom_of kind) (entries (set_of xs)) (all-entries (is_atom_of kind) anything (map marked xs) (all-marked (is_atom_of kind) xs h))

pub map_is_of : (key value : AtomKind) (ps : List (Atom × Atom)) → list_all (is_pair_of key value) ps ≡ true → is_of (Pair key value) (Pairs (map_of ps)) ≡ true
map_is_of key value ps h = all-entries (is_atom_of key) (is_atom_of value) ps h

-- ---- values

abbrev ReadsOf : Kinds → Reading Datum → Type 0
ReadsOf kinds (Reads d) = is_of kinds d ≡ true
ReadsOf kinds Unreadable = Unit {0}
ReadsOf kinds Clashing = Unit {0}

set_reads_of : (kind : AtomKind) (o : Option (List Atom)) → Passes (list_all (is_atom_of kind)) o → ReadsOf (Single kind) (set_reading o)
set_reads_of kind None h = tt
set_reads_of kind (Some xs) h = set_is_of kind xs h

map_reads_of : (key value : AtomKind) (o : Option (List (Atom × Atom))) → Passes (list_all (is_pair_of key value)) o → ReadsOf (Pair key value) (map_reading o)
map_reads_of key value None h = tt
map_reads_of key value (Some ps) h =
    elim (has_clash ps) as (λ b. ReadsOf (Pair key value) (if b then Clashing else Reads (Pairs (map_of ps)))) [
      | true ↦ tt
      | false ↦ map_is_of key value ps h
    ]

reads_of : (names : Names) → AreUuids names → (kinds : Kinds) (d : Data) → ReadsOf kinds (reads names kinds d)
reads_of names are (Single kind) d = set_reads_of kind (atoms_read names kind d) (atoms_are_of names are kind d)
reads_of names are (Pair key value) d = map_reads_of key value (pairs_read names key value d) (pairs_are_of names are key value d)

pub reads_is_of : (names : Names) → AreUuids names → (kinds : Kinds) (d : Data) (v : Datum) → reads names kinds d ≡ Reads v → is_of kinds v ≡ true
reads_is_of names are kinds d v e = subst (ReadsOf kinds) e (reads_of names are kinds d)
