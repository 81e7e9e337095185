-- The text of a row's body reads as the body, if its values are of any kinds.
use Rattle.std.proofs.Common.{rules, ◌≡◌, ℕ, suc, ◌<◌, ◌≤◌, ◌^◌, pos, negsuc, List, [], ◌∷◌, ◌++◌, map, Bool, true, true≢false, ◌&&◌, ◌-◌, int_le, int_lt, T, max, Greater, Some, option_map, option_and_then, refl, sym, ap, ap₂, ◌∙◌, subst}
use Rattle.std.proofs.lemmas.List.{append_assoc, append-nil}
use Rattle.std.specs.Ordering.{ordering_reverse, match_ordering}
use Rattle.std.specs.FinMap.{is_sorted, keys, entries, entries_sorted}
use Rattle.std.specs.List.{list_all}
use Rattle.std.proofs.lemmas.Bool.{and_parts}
use Rattle.serde_json.specs.View.{items_of}
use Rattle.std.specs.FinMap.Entries.{below_all}
use Rattle.json.specs.Lex.{tokens}
use Rattle.json.specs.Tree as json_tree
use Rattle.json.specs.Json as json
use Rattle.json.specs.Tree.{json_tokens}
use Rattle.serde_json.specs.Data.{Data, null, boolean, number, string, array, object, Items, no_items, item, Members, no_members, member, put, depth, items_depth, members_depth}
use Rattle.serde_json.specs.Read.{read, of_json, of_items, of_members, number_of, max_depth}
use Rattle.serde_json.specs.Written.{number_text, outline, items_outline, members_outline}
use Rattle.serde_json.proofs.Numbers.{number_of-decimal, number_of-negative}
use Rattle.json.proofs.Printed.Trees.{value-json_tokens}
use Rattle.ov_specs.specs.rows.Database.{Columns, placed, object_of, written_column}
use Rattle.ov_specs.specs.schema.SchemaTypes.{name_cmp}
use Rattle.ov_specs.specs.values.Value.{AtomKind, Integers, Booleans, Texts, Uuids, Atom, Integer, Boolean, Text, Uuid, is_atom_of, is_pair_of, Kinds, Single, Pair, Datum, Atoms, Pairs, is_of}
use Rattle.ov_specs.specs.values.Writing.{atom_tree, pair_tree, set_tree, tree}
use Rattle.ov_specs.proofs.laws.Names.{name_cmp_total, EachEntry}
use Rattle.ov_specs.proofs.laws.Nesting.{body_depth}
use Rattle.ov_specs.proofs.laws.Truths.{both_hold, left_holds, right_holds, less_is}

-- ---- a tree without objects, whose numbers read as they are written

abbrev mutual
  pub IsWhole : Data → Type 0
  IsWhole null = Unit {0}
  IsWhole (boolean b) = Unit {0}
  IsWhole (number n) = number_of (number_text n) ≡ Some n
  IsWhole (string s) = Unit {0}
  IsWhole (array items) = AreWhole items
  IsWhole (object ms) = ⊥

  pub AreWhole : Items → Type 0
  AreWhole no_items = Unit {0}
  AreWhole (item d items) = IsWhole d × AreWhole items

mutual
  pub reads-outline : (d : Data) → IsWhole d → of_json (outline d) ≡ Some d
  reads-outline null h = refl
  reads-outline (boolean b) h = refl
  reads-outline (number n) h = ap (option_map number) h
  reads-outline (string s) h = refl
  reads-outline (array items) h = ap (option_map array) (reads-items items h)
  reads-outline (object ms) h = absurd h

  reads-items : (items : Items) → AreWhole items → of_items (items_outline items) ≡ Some items
  reads-items no_items h = refl
  reads-items (item d items) h =
      ap (option_and_then (λ e. option_map (item e) (of_items (items_outline items)))) (reads-outline d h.0) ∙ ap (option_map (item d)) (reads-items items h.1)

mutual
  pub depth-outline : (d : Data) → json_tree.depth (outline d) ≡ depth d
  depth-outline null = refl
  depth-outline (boolean b) = refl
  depth-outline (number n) = refl
  depth-outline (string s) = refl
  depth-outline (array items) = ap suc (depth-items items)
  depth-outline (object ms) = ap suc (depth-members ms)

  depth-items : (items : Items) → json_tree.items_depth (items_outline items) ≡ items_depth items
  depth-items no_items = refl
  depth-items (item d items) = ap₂ max (depth-outline d) (depth-items items)

  depth-members : (members : Members) → json_tree.members_depth (members_outline members) ≡ members_depth members
  depth-members no_members = refl
  depth-members (member k d members) = ap₂ max (depth-outline d) (depth-members members)

-- ---- the members of an object, in the order of a list

abbrev pub in_order : List (List ℕ × Data) → Members
in_order [] = no_members
in_order (m ∷ ms) = member m.0 m.1 (in_order ms)

abbrev EachWhole : List (List ℕ × Data) → Type 0
EachWhole [] = Unit {0}
EachWhole (m ∷ ms) = IsWhole m.1 × EachWhole ms

reads-members : (ms : List (List ℕ × Data)) (found : Members) → EachWhole ms → of_members (members_outline (in_order ms)) found ≡ Some (placed found ms)
reads-members [] found h = refl
reads-members (m ∷ ms) found h =
    ap (option_and_then (λ d. of_members (members_outline (in_order ms)) (put m.0 d found))) (reads-outline m.1 h.0) ∙ reads-members ms (put m.0 m.1 found) h.1

-- each of the first names is below all others
abbrev AllBelow : List (List ℕ × Data) → List (List ℕ × Data) → Type 0
AllBelow [] ms = Unit {0}
AllBelow (d ∷ done) ms = T (below_all name_cmp d.0 ms) × AllBelow done ms

above : (d m : List ℕ × Data) (ms : List (List ℕ × Data)) → T (below_all name_cmp d.0 (m ∷ ms)) → name_cmp m.0 d.0 ≡ Greater
above d m ms h = name_cmp_total.antisymm m.0 d.0 ∙ ap ordering_reverse (less_is (name_cmp d.0 m.0) (left_holds _ _ h))

put-last : (done : List (List ℕ × Data)) (m : List ℕ × Data) (ms : List (List ℕ × Data)) → AllBelow done (m ∷ ms) → put m.0 m.1 (in_order done) ≡ in_order (done ++ m ∷ [])
put-last [] m ms h = refl
put-last (d ∷ done) m ms h =
    ap (λ o. match_ordering o (member m.0 m.1 (in_order (d ∷ done))) (member d.0 m.1 (in_order done)) (member d.0 d.1 (put m.0 m.1 (in_order done)))) (above d m ms h.0)
    ∙ ap (member d.0 d.1) (put-last done m ms h.1)

one-more-below : (done : List (List ℕ × Data)) (m : List ℕ × Data) (ms : List (List ℕ × Data)) → AllBelow done (m ∷ ms) → T (below_all name_cmp m.0 ms) → AllBelow (done ++ m ∷ []) ms
one-more-below [] m ms h k = (k, tt)
one-more-below (d ∷ done) m ms h k = (right_holds _ _ h.0, one-more-below done m ms h.1 k)

placed-after : (done ms : List (List ℕ × Data)) → AllBelow done ms → T (is_sorted name_cmp ms) → placed (in_order done) ms ≡ in_order (done ++ ms)
placed-after done [] h k = ap in_order (sym (append-nil done))
placed-after done (m ∷ ms) h k =
    ap (λ members. placed members ms) (put-last done m ms h)
    ∙ (placed-after (done ++ m ∷ []) ms (one-more-below done m ms h (left_holds _ _ k)) (right_holds _ _ k) ∙ ap in_order (append_assoc done (m ∷ []) ms))

pub placed-in_order : (ms : List (List ℕ × Data)) → T (is_sorted name_cmp ms) → placed no_members ms ≡ in_order ms
placed-in_order ms h = placed-after [] ms tt h

-- a text of these tokens reads as the object
pub reads-object : (ms : List (List ℕ × Data)) (text : List ℕ) → T (is_sorted name_cmp ms) → EachWhole ms → depth (object_of ms) ≤ max_depth
    → tokens text ≡ json_tokens (outline (object_of ms)) → read text ≡ Some (object_of ms)
reads-object ms text h whole deep is =
    let placed : object_of ms ≡ object (in_order ms) = ap object (placed-in_order ms h) in
    let form = outline (object_of ms) in
    let shallow = subst (λ n. n ≤ max_depth) (sym (depth-outline (object_of ms))) deep in
    let found : of_json form ≡ Some (object_of ms) =
    ap (λ d. of_json (outline d)) placed ∙ (ap (option_map object) (reads-members ms no_members whole)) in
    ap (λ o. option_and_then of_json (option_and_then (λ p. json.if_last p.0 p.1) o))
    (ap (json.value max_depth) (is ∙ sym (append-nil (json_tokens form))) ∙ value-json_tokens form max_depth [] shallow) ∙ found

-- ---- the written form of a value of any kinds

small : (n : ℕ) → (int_le (negsuc (2 ^ 63 - 1)) (pos n) && int_lt (pos n) (pos (2 ^ 63))) ≡ true → n < 2 ^ 64
small n h = search rules

small-negative : (n : ℕ) → (int_le (negsuc (2 ^ 63 - 1)) (negsuc n) && int_lt (negsuc n) (pos (2 ^ 63))) ≡ true → n < 2 ^ 63
small-negative n h = search rules

atom-whole : (kind : AtomKind) (a : Atom) → is_atom_of kind a ≡ true → IsWhole (atom_tree a)
atom-whole Integers (Integer (pos n)) h = number_of-decimal n (small n h)
atom-whole Integers (Integer (negsuc n)) h = number_of-negative n (small-negative n h)
atom-whole Booleans (Integer n) h = absurd (true≢false (sym h))
atom-whole Texts (Integer n) h = absurd (true≢false (sym h))
atom-whole Uuids (Integer n) h = absurd (true≢false (sym h))
atom-whole kind (Boolean b) h = tt
atom-whole kind (Text text) h = tt
atom-whole kind (Uuid bytes) h = (tt, (tt, tt))

each-whole : {A : Type 0} (form : A → Data) (is : A → Bool) → ((a : A) → is a ≡ true → IsWhole (form a)) → (xs : List A) → list_all is xs ≡ true → AreWhole (items_of (map form xs))
each-whole form is one [] h = tt
each-whole form is one (x ∷ xs) h = let parts = and_parts (is x) (list_all is xs) h in (one x parts.0, each-whole form is one xs parts.1)

pair-whole : (key value : AtomKind) (p : Atom × Atom) → is_pair_of key value p ≡ true → IsWhole (pair_tree p)
pair-whole key value p h = let parts = and_parts (is_atom_of key p.0) (is_atom_of value p.1) h in (atom-whole key p.0 parts.0, (atom-whole value p.1 parts.1, tt))

set-whole : (kind : AtomKind) (atoms : List Atom) → list_all (is_atom_of kind) atoms ≡ true → IsWhole (set_tree atoms)
set-whole kind [] h = (tt, (tt, tt))
set-whole kind (a ∷ []) h = atom-whole kind a (and_parts (is_atom_of kind a) true h).0
set-whole kind (a ∷ b ∷ atoms) h = (tt, (each-whole atom_tree (is_atom_of kind) (atom-whole kind) (a ∷ b ∷ atoms) h, tt))

pub datum-whole : (kinds : Kinds) (d : Datum) → is_of kinds d ≡ true → IsWhole (tree d)
datum-whole (Single kind) (Atoms atoms) h = set-whole kind (keys atoms) h
datum-whole (Pair key value) (Pairs pairs) h = (tt, (each-whole pair_tree (is_pair_of key value) (pair-whole key value) (entries pairs) h, tt))
datum-whole (Single kind) (Pairs pairs) h = absurd (true≢false (sym h))
datum-whole (Pair key value) (Atoms atoms) h = absurd (true≢false (sym h))

columns-whole : (es : List (List ℕ × Datum)) → EachEntry (λ name datum. (kinds : Kinds) × (is_of kinds datum ≡ true)) es → EachWhole (map written_column es)
columns-whole [] h = tt
columns-whole (e ∷ es) h = (datum-whole h.0.0 e.1 h.0.1, columns-whole es h.1)

written-below : (name : List ℕ) (es : List (List ℕ × Datum)) → T (below_all name_cmp name es) → T (below_all name_cmp name (map written_column es))
written-below name [] h = tt
written-below name (e ∷ es) h = both_hold _ _ (left_holds _ _ h) (written-below name es (right_holds _ _ h))

pub written-sorted : (es : List (List ℕ × Datum)) → T (is_sorted name_cmp es) → T (is_sorted name_cmp (map written_column es))
written-sorted [] h = tt
written-sorted (e ∷ es) h = both_hold _ _ (written-below e.0 es (left_holds _ _ h)) (written-sorted es (right_holds _ _ h))

-- a text of the tokens of a row's body reads as the body
pub body-reads : (columns : Columns) (text : List ℕ) → EachEntry (λ name datum. (kinds : Kinds) × (is_of kinds datum ≡ true)) (entries columns)
    → tokens text ≡ json_tokens (outline (object_of (map written_column (entries columns)))) → read text ≡ Some (object_of (map written_column (entries columns)))
body-reads columns text of_kinds is =
    reads-object (map written_column (entries columns)) text (written-sorted (entries columns) (entries_sorted columns)) (columns-whole (entries columns) of_kinds) (body_depth (entries columns)) is
