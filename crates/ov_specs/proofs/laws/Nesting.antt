-- How deep the written forms of values nest, and the body of a row.
use Rattle.std.proofs.Common.{◌≤◌, ℕ, List, [], ◌∷◌, map, Ordering, Less, Equal, Greater, arith}
use Rattle.std.specs.FinMap.{keys, entries}
use Rattle.std.specs.Ordering.{match_ordering}
use Rattle.serde_json.specs.Data.{Data, depth, items_depth, members_depth, Members, no_members, member, put}
use Rattle.serde_json.specs.Read.{max_depth}
use Rattle.serde_json.specs.View.{items_of}
use Rattle.ov_specs.specs.rows.Database.{placed, object_of, written_column}
use Rattle.ov_specs.specs.values.Value.{Atom, Integer, Boolean, Text, Uuid, Datum, Atoms, Pairs}
use Rattle.ov_specs.specs.values.Writing.{atom_tree, pair_tree, set_tree, map_tree, tree}

atom_depth : (a : Atom) → depth (atom_tree a) ≤ 1
atom_depth (Integer n) = omega arith
atom_depth (Boolean b) = omega arith
atom_depth (Text text) = omega arith
atom_depth (Uuid bytes) = omega arith

pair_depth : (p : Atom × Atom) → depth (pair_tree p) ≤ 2
pair_depth p = omega (arith, atom_depth p.0, atom_depth p.1)

each_depth : {A : Type 0} (written : A → Data) (n : ℕ) → ((a : A) → depth (written a) ≤ n) → (xs : List A) → items_depth (items_of (map written xs)) ≤ n
each_depth written n h [] = omega arith
each_depth written n h (x ∷ xs) = omega (arith, h x, each_depth written n h xs)

set_depth : (atoms : List Atom) → depth (set_tree atoms) ≤ 4
set_depth [] = omega arith
set_depth (a ∷ []) = omega (arith, atom_depth a)
set_depth (a ∷ b ∷ atoms) = omega (arith, each_depth atom_tree 1 atom_depth (a ∷ b ∷ atoms))

map_depth : (pairs : List (Atom × Atom)) → depth (map_tree pairs) ≤ 4
map_depth pairs = omega (arith, each_depth pair_tree 2 pair_depth pairs)

tree_depth : (d : Datum) → depth (tree d) ≤ 4
tree_depth (Atoms atoms) = set_depth (keys atoms)
tree_depth (Pairs pairs) = map_depth (entries pairs)

by_order_depth : (o : Ordering) (a b c : Members) (n : ℕ) → members_depth a ≤ n → members_depth b ≤ n → members_depth c ≤ n → members_depth (match_ordering o a b c) ≤ n
by_order_depth Less a b c n p q r = p
by_order_depth Equal a b c n p q r = q
by_order_depth Greater a b c n p q r = r

put_depth : (k : List ℕ) (d : Data) (ms : Members) (n : ℕ) → depth d ≤ n → members_depth ms ≤ n → members_depth (put k d ms) ≤ n
put_depth k d no_members n p q = omega arith
put_depth k d (member l e ms) n p q = by_order_depth _ (member k d (member l e ms)) (member l d ms) (member l e (put k d ms)) n (omega arith) (omega arith) (omega (arith, put_depth k d ms n p (omega arith)))

placed_depth : (es : List (List ℕ × Datum)) (ms : Members) → members_depth ms ≤ 4 → members_depth (placed ms (map written_column es)) ≤ 4
placed_depth [] ms h = h
placed_depth (e ∷ es) ms h = placed_depth es (put e.0 (tree e.1) ms) (put_depth e.0 (tree e.1) ms 4 (tree_depth e.1) h)

-- the body of a row nests few levels
pub body_depth : (es : List (List ℕ × Datum)) → depth (object_of (map written_column es)) ≤ max_depth
body_depth es = omega (arith, placed_depth es no_members (omega arith))
