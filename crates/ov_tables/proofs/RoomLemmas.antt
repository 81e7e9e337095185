-- A schema with one more table after all that it had.
use Rattle.std.proofs.Common.{◌≡◌, ◌≢◌, ◌⊎◌, ◌<◌, ◌≤◌, ◌+◌, ℕ, max, fold, List, [], ◌∷◌, ◌++◌, find, slice_get, Bool, true, false, not, ◌&&◌, ◌||◌, ◌==◌, cond, Option, Some, None, is_some, unwrap_or, option_map, option_and_then, refl, sym, ap, ap₂, subst, ◌∙◌, arith, codes, inl, inr, ne_eqb}
use Rattle.std.specs.Option.{option_or}
use Rattle.std.specs.Fmt.{digits}
use Rattle.std.specs.List.{list_any, list_all, position_from, AllZip}
use Rattle.std.proofs.lemmas.Bool.{or_parts, or_from, or_right}
use Rattle.std.proofs.lemmas.List.Folds.{find-append, list_any-append}
use Rattle.sqlite.specs.Order.{Row}
use Rattle.sqlite.specs.Table.{Table}
use Rattle.sqlite.specs.Schema.{Schema}
use Rattle.sqlite.specs.Change.{created, next_tree, past_views, is_used, KeepsRows}
use Rattle.sqlite.specs.Rows.{sequence}
use Rattle.sqlite.specs.Does.{lacks_sequence}
use Rattle.sqlite.specs.Effect.{Database, IsDatabase}
use Rattle.sqlite_schema.specs.declared.schema.Index.{Index}
use Rattle.sqlite_schema.specs.declared.schema.Reference.{Reference}
use Rattle.sqlite_schema.specs.Names.{same_name, table_named, index_named, view_named}
use Rattle.sqlite_rules.specs.Lists.{Has}
use Rattle.sqlite_rules.proofs.ListLemmas.{test_from, test_has, has_left, has_right, has_either, has_found}
use Rattle.sqlite_catalog.specs.Listing.{IsIndexRow, automatic}
use Rattle.sqlite_catalog.proofs.LayoutLemmas.{index_owner}
use Rattle.sqlite_trees.specs.Tree.{Trees}
use Rattle.ov_tables.specs.Tables.{plain_table, meta_table, head_table, cell_table, no_schema, table_of, points_to, is_apart, is_key_to, key_index, is_allowed, HasFreeName, HasFreeNames, HasTable}
use Rattle.sqlite_schema.specs.declared.schema.Column.{Column}
use Rattle.ov_tables.proofs.TableLemmas.{found_place}

-- ---- numbers of trees

module _ {X : Type 0} (f : X → ℕ) where
  rises : (n : ℕ) (xs : List X) → n ≤ fold (λ m x. max m (f x + 1)) n xs
  rises n [] = omega arith
  rises n (x ∷ xs) = omega (arith, rises (max n (f x + 1)) xs)

  below : (n : ℕ) (xs : List X) (x : X) → Has xs x → f x < fold (λ m x. max m (f x + 1)) n xs
  below n [] x h = absurd h
  below n (y ∷ xs) x (inl same) = omega (arith, ap f same, rises (max n (f y + 1)) xs)
  below n (y ∷ xs) x (inr later) = below (max n (f y + 1)) xs x later

pub tree_below : (schema : Schema) (t : Table) → Has schema.tables t → t.tree < next_tree schema
tree_below schema t h = omega (arith, below (λ (u : Table). u.tree) (past_views schema) schema.tables t h, rises (λ (i : Index). i.tree) (fold (λ n u. max n (u.tree + 1)) (past_views schema) schema.tables) schema.indexes)

-- ---- names

no_place : (o : Option ℕ) → is_some o ≡ false → o ≡ None
no_place None h = refl
no_place (Some at) h = absurd cc

module _ {X : Type 0} (p : X → Bool) where
  pub none_found : (from : ℕ) (xs : List X) → position_from p from xs ≡ None → find p xs ≡ None
  none_found from [] h = refl
  none_found from (x ∷ xs) h = go (p x) (none_found (from + 1) xs) h
    where
      go : (b : Bool) → (position_from p (from + 1) xs ≡ None → find p xs ≡ None) → cond b (Some from) (position_from p (from + 1) xs) ≡ None → cond b (Some x) (find p xs) ≡ None
      go true later e = absurd cc
      go false later e = later e

  none_placed : (from : ℕ) (xs : List X) → find p xs ≡ None → position_from p from xs ≡ None
  none_placed from [] h = refl
  none_placed from (x ∷ xs) h = go (p x) (none_placed (from + 1) xs) h
    where
      go : (b : Bool) → (find p xs ≡ None → position_from p (from + 1) xs ≡ None) → cond b (Some x) (find p xs) ≡ None → cond b (Some from) (position_from p (from + 1) xs) ≡ None
      go true later e = absurd cc
      go false later e = later e

  none_after : (from : ℕ) (xs : List X) (a : X) → position_from p from xs ≡ None → p a ≡ false → position_from p from (xs ++ a ∷ []) ≡ None
  none_after from [] a h other = rw other refl
  none_after from (x ∷ xs) a h other = go (p x) (λ e. none_after (from + 1) xs a e other) h
    where
      go : (b : Bool) → (position_from p (from + 1) xs ≡ None → position_from p (from + 1) (xs ++ a ∷ []) ≡ None) → cond b (Some from) (position_from p (from + 1) xs) ≡ None
          → cond b (Some from) (position_from p (from + 1) (xs ++ a ∷ [])) ≡ None
      go true later e = absurd cc
      go false later e = later e

  none_has : (xs : List X) (x : X) → list_any p xs ≡ false → Has xs x → p x ≡ false
  none_has [] x none h = absurd h
  none_has (y ∷ xs) x none (inl same) = rw same (or_parts _ _ none).0
  none_has (y ∷ xs) x none (inr later) = none_has xs x (or_parts _ _ none).1 later

  none_from : (xs : List X) → ((x : X) → Has xs x → p x ≡ false) → list_any p xs ≡ false
  none_from [] each = refl
  none_from (y ∷ xs) each = or_from _ _ (each y (inl refl)) (none_from xs (λ x h. each x (inr h)))

-- nothing has the name
pub record IsFree (schema : Schema) (name : List ℕ) : Type 0 where
  pub table : table_named schema name ≡ None
  pub index : index_named schema name ≡ None
  pub view : view_named schema name ≡ None

pub is_free : (schema : Schema) (name : List ℕ) → is_used schema name ≡ false → IsFree schema name
is_free schema name unused =
    let parts = or_parts _ _ unused in
    let front = or_parts _ _ parts.0 in
    record { table = no_place _ front.0; index = no_place _ front.1; view = no_place _ parts.1 }

-- ---- the table of the counts

sequence_found : (p : Table → Bool) (tables : List Table) → is_some (option_and_then (slice_get tables) (position_from p 0 tables)) ≡ is_some (find p tables)
sequence_found p tables = go (find p tables) refl
  where
    go : (o : Option Table) → find p tables ≡ o → is_some (option_and_then (slice_get tables) (position_from p 0 tables)) ≡ is_some o
    go None h = rw (none_placed p 0 tables h) refl
    go (Some t) h = let it = found_place p 0 tables t h in let place : position_from p 0 tables ≡ Some it.0 = it.1 ∙ ap Some (omega arith) in rw (place, it.2) refl

still_there : (a : Bool) (o more : Option Table) → (a && not (is_some o)) ≡ false → ((a || false) && not (is_some (option_or o more))) ≡ false
still_there true None more h = absurd cc
still_there true (Some t) more h = refl
still_there false o more h = refl

-- a table whose rows are not counted leaves it as it is
pub counts_kept : (schema : Schema) (table : Table) → table.is_counted ≡ false → lacks_sequence schema ≡ false → lacks_sequence (created schema table) ≡ false
counts_kept schema table uncounted none =
    let new : Table = record table { tree = next_tree schema } in
    let p = λ (t : Table). same_name t.name (codes "sqlite_sequence") in
    let was : (list_any (λ (t : Table). t.is_counted) schema.tables && not (is_some (find p schema.tables))) ≡ false =
    ap (λ b. list_any (λ (t : Table). t.is_counted) schema.tables && not b) (sym (sequence_found p schema.tables)) ∙ none in
    let any : list_any (λ (t : Table). t.is_counted) (schema.tables ++ new ∷ []) ≡ (list_any (λ (t : Table). t.is_counted) schema.tables || false) =
    list_any-append (λ (t : Table). t.is_counted) schema.tables (new ∷ []) ∙ ap (λ b. list_any (λ (t : Table). t.is_counted) schema.tables || (b || false)) uncounted in
    let there : is_some (sequence (created schema table)) ≡ is_some (option_or (find p schema.tables) (find p (new ∷ []))) =
    sequence_found p (schema.tables ++ new ∷ []) ∙ ap is_some (find-append p schema.tables (new ∷ [])) in
    ap₂ (λ a b. a && not b) any there ∙ still_there (list_any (λ (t : Table). t.is_counted) schema.tables) (find p schema.tables) (find p (new ∷ [])) was

-- ---- the schema with one more

far : (a n : ℕ) (b : Bool) → a ≢ n → (not (a == n) || b) ≡ true
far a n b other = rw (ne_eqb a n other) refl

unlike : (u a b : Bool) → a ≡ false → (not (u && a) || b) ≡ true
unlike true a b h = rw h refl
unlike false a b h = refl

-- each index is of a table
abbrev pub AreOwned : Schema → Type 0
AreOwned schema = (i : Index) → Has schema.indexes i → (t : Table) × Has schema.tables t × (i.table ≡ t.tree)

module _ (schema : Schema) (name : List ℕ) (columns : List Column) (key : List ℕ) where
  abbrev n : ℕ
  n = next_tree schema

  abbrev new : Table
  new = plain_table name n columns key

  abbrev after : Schema
  after = created schema (plain_table name 0 columns key)

  abbrev new_index : Index
  new_index = automatic new 0 key (n + 1)

  before_new : (t : Table) → Has schema.tables t → t.tree ≢ n
  before_new t h e = absurd (omega (arith, tree_below schema t h, e))

  last_of : {X : Type 0} (a t : X) → Has (a ∷ []) t → t ≡ a
  last_of a t (inl is) = is
  last_of a t (inr none) = absurd none

  pub each_table : (t : Table) → Has after.tables t → Has schema.tables t ⊎ (t ≡ new)
  each_table t h = elim (has_either schema.tables (new ∷ []) t h) [ inl old ↦ inl old | inr it ↦ inr (last_of new t it) ]

  each_index : (i : Index) → Has after.indexes i → Has schema.indexes i ⊎ (i ≡ new_index)
  each_index i h = elim (has_either schema.indexes (new_index ∷ []) i h) [ inl old ↦ inl old | inr it ↦ inr (last_of new_index i it) ]

  pub old_table : (t : Table) → Has schema.tables t → Has after.tables t
  old_table t h = has_left schema.tables (new ∷ []) t h

  found_in : (p : Table → Bool) → find p after.tables ≡ option_or (find p schema.tables) (find p (new ∷ []))
  found_in p = find-append p schema.tables (new ∷ [])

  -- what is found by a name that the new table has not
  found_old : (p : Table → Bool) → p new ≡ false → find p after.tables ≡ find p schema.tables
  found_old p other = found_in p ∙ ap (option_or (find p schema.tables)) none ∙ ends (find p schema.tables)
    where
      none : find p (new ∷ []) ≡ None
      none = rw other refl

      ends : (o : Option Table) → option_or o None ≡ o
      ends None = refl
      ends (Some t) = refl

  -- ---- the new table

  module _ (room : HasFreeName schema name) (itself : same_name name name ≡ true) (indexed : same_name (key_index name) new_index.name ≡ true) (owned : AreOwned schema) where
    new_named : table_of after name ≡ Some new
    new_named = found_in _ ∙ ap (λ o. option_or o (find (λ t. same_name t.name name) (new ∷ []))) (none_found _ 0 schema.tables (is_free schema name room.free).table) ∙ rw itself refl

    new_alone : list_all (λ t. not (t.tree == n) || same_name t.name name) after.tables ≡ true
    new_alone = test_from _ after.tables (λ t h. elim (each_table t h) [ inl old ↦ far t.tree n _ (before_new t old) | inr is ↦ rw is (or_right _ _ itself) ])

    -- a foreign key that does not name it points to another table, or to none
    points_past : (ref : Reference) → is_key_to name ref ≡ false → points_to n after ref ≡ false
    points_past ref other = ap (λ (o : Option Table). unwrap_or (option_map (λ t. t.tree == n) o) false) (found_old (λ t. same_name t.name ref.parent) other) ∙ go (find (λ t. same_name t.name ref.parent) schema.tables) refl
      where
        go : (o : Option Table) → find (λ t. same_name t.name ref.parent) schema.tables ≡ o → unwrap_or (option_map (λ (t : Table). t.tree == n) o) false ≡ false
        go None h = refl
        go (Some t) h = ne_eqb t.tree n (before_new t (has_found (λ t. same_name t.name ref.parent) schema.tables t h).0)

    new_apart : list_all (is_apart n after) after.tables ≡ true
    new_apart = test_from _ after.tables (λ t h. elim (each_table t h) [
      | inl old ↦ let keys = none_has (λ (t : Table). list_any (is_key_to name) t.references) schema.tables t room.keys old in
          ap not (none_from (points_to n after) t.references (λ ref h. points_past ref (none_has (is_key_to name) t.references ref keys h)))
      | inr is ↦ rw is refl
    ])

    new_allowed : list_all (is_allowed (key_index name) n) after.indexes ≡ true
    new_allowed = test_from _ after.indexes (λ i h. elim (each_index i h) [
      | inl old ↦ let it = owned i old in unlike i.is_unique (i.table == n) _ (ne_eqb i.table n (λ e. before_new it.0 it.1 (sym it.2 ∙ e)))
      | inr is ↦ rw is (or_right _ _ indexed)
    ])

    pub made : HasTable after new
    made = record { named = new_named; alone = new_alone; apart = new_apart; allowed = new_allowed }

  -- its index is of it
  pub owned_after : AreOwned schema → AreOwned after
  owned_after owned i h = elim (each_index i h) [
    | inl old ↦ let it = owned i old in (it.0, old_table it.0 it.1, it.2)
    | inr is ↦ (new, has_right schema.tables (new ∷ []) new (inl refl), ap (λ (j : Index). j.table) is)
  ]

  -- ---- a table that was there

  module _ (u : Table) (has : HasTable schema u) where
    u_below : u.tree ≢ n
    u_below = before_new u (has_found (λ t. same_name t.name u.name) schema.tables u has.named).0

    still_apart : (ref : Reference) → points_to u.tree schema ref ≡ false → points_to u.tree after ref ≡ false
    still_apart ref none = ap (λ (o : Option Table). unwrap_or (option_map (λ t. t.tree == u.tree) o) false) (found_in (λ t. same_name t.name ref.parent)) ∙ go (find (λ t. same_name t.name ref.parent) schema.tables) none
      where
        go : (o : Option Table) → unwrap_or (option_map (λ (t : Table). t.tree == u.tree) o) false ≡ false → unwrap_or (option_map (λ (t : Table). t.tree == u.tree) (option_or o (find (λ t. same_name t.name ref.parent) (new ∷ [])))) false ≡ false
        go (Some t) h = h
        go None h = elim (same_name name ref.parent) as (λ b. unwrap_or (option_map (λ (t : Table). t.tree == u.tree) (cond b (Some new) None)) false ≡ false) [
          | true ↦ ne_eqb n u.tree (λ e. u_below (sym e))
          | false ↦ refl
        ]

    was_apart : (b : Bool) → not b ≡ true → b ≡ false
    was_apart true h = absurd cc
    was_apart false h = refl

    pub kept : HasTable after u
    kept = record {
      named = found_in _ ∙ ap (λ o. option_or o (find (λ t. same_name t.name u.name) (new ∷ []))) has.named;
      alone = test_from _ after.tables (λ t h. elim (each_table t h) [ inl old ↦ test_has _ schema.tables t has.alone old | inr is ↦ rw is (far n u.tree _ (λ e. u_below (sym e))) ]);
      apart = test_from _ after.tables (λ t h. elim (each_table t h) [
        | inl old ↦ let none = was_apart _ (test_has _ schema.tables t has.apart old) in ap not (none_from (points_to u.tree after) t.references (λ ref r. still_apart ref (none_has (points_to u.tree schema) t.references ref none r)))
        | inr is ↦ rw is refl
      ]);
      allowed = test_from _ after.indexes (λ i h. elim (each_index i h) [
        | inl old ↦ test_has _ schema.indexes i has.allowed old
        | inr is ↦ rw is (unlike true (n == u.tree) _ (ne_eqb n u.tree (λ e. u_below (sym e))))
      ]);
    }

  -- ---- room that was there

  pub room_kept : (other : List ℕ) → HasFreeName schema other → same_name name other ≡ false → same_name new_index.name other ≡ false → HasFreeName after other
  room_kept other room table index =
      let free = is_free schema other room.free in
      record {
        free = or_from _ _ (or_from _ _ (ap is_some (none_after _ 0 schema.tables new free.table table)) (ap is_some (none_after _ 0 schema.indexes new_index free.index index))) (ap is_some free.view);
        keys = list_any-append (λ t. list_any (is_key_to other) t.references) schema.tables (new ∷ []) ∙ or_from _ _ room.keys refl;
      }

owner : (tables : List Table) (rows : List Row) (indexes : List Index) → AllZip (IsIndexRow tables) rows indexes → (i : Index) → Has indexes i → (t : Table) × Has tables t × (i.table ≡ t.tree)
owner tables [] [] all i h = absurd h
owner tables [] (j ∷ indexes) all i h = absurd all
owner tables (r ∷ rows) [] all i h = absurd h
owner tables (r ∷ rows) (j ∷ indexes) all i (inl is) = (all.0.table, all.0.listed, ap (λ (k : Index). k.table) is ∙ index_owner all.0.table j _ all.0.defined)
owner tables (r ∷ rows) (j ∷ indexes) all i (inr later) = owner tables rows indexes all.1 i later

pub owned_by : (db : Database) → IsDatabase db → AreOwned db.schema
owned_by db sound = owner db.schema.tables _ db.schema.indexes sound.lists.listed.indexes

-- ---- the three tables

pub meta_itself : same_name (codes "meta") (codes "meta") ≡ true
unfolding same_name
meta_itself = refl

pub head_itself : same_name (codes "head") (codes "head") ≡ true
unfolding same_name
head_itself = refl

pub cell_itself : same_name (codes "cell") (codes "cell") ≡ true
unfolding same_name
cell_itself = refl

module _ (schema : Schema) where
  pub meta_indexed : same_name (key_index (codes "meta")) (automatic (meta_table (next_tree schema)) 0 (1 ∷ []) (next_tree schema + 1)).name ≡ true
  unfolding digits same_name
  meta_indexed = refl

  pub head_indexed : same_name (key_index (codes "head")) (automatic (head_table (next_tree schema)) 0 (1 ∷ 2 ∷ []) (next_tree schema + 1)).name ≡ true
  unfolding digits same_name
  head_indexed = refl

  pub cell_indexed : same_name (key_index (codes "cell")) (automatic (cell_table (next_tree schema)) 0 (1 ∷ 2 ∷ 3 ∷ []) (next_tree schema + 1)).name ≡ true
  unfolding digits same_name
  cell_indexed = refl

  -- room for one is kept where another is made
  pub head_after_meta : HasFreeName schema (codes "head") → HasFreeName (created schema (meta_table 0)) (codes "head")
  unfolding digits same_name
  head_after_meta room = room_kept schema (codes "meta") _ (1 ∷ []) (codes "head") room refl refl

  pub cell_after_meta : HasFreeName schema (codes "cell") → HasFreeName (created schema (meta_table 0)) (codes "cell")
  unfolding digits same_name
  cell_after_meta room = room_kept schema (codes "meta") _ (1 ∷ []) (codes "cell") room refl refl

  pub cell_after_head : HasFreeName schema (codes "cell") → HasFreeName (created schema (head_table 0)) (codes "cell")
  unfolding digits same_name
  cell_after_head room = room_kept schema (codes "head") _ (1 ∷ 2 ∷ []) (codes "cell") room refl refl

pub room_of_blank : (schema : Schema) → schema ≡ no_schema → HasFreeNames schema
room_of_blank schema blank =
    subst HasFreeNames (sym blank) (record { meta = record { free = refl; keys = refl }; head = record { free = refl; keys = refl }; cell = record { free = refl; keys = refl }; counts = refl })

-- ---- the rows of the other tables

pub kept_then : (tables more : List Table) (a b c : Trees) → KeepsRows tables a b → KeepsRows (tables ++ more) b c → KeepsRows tables a c
kept_then [] more a b c one two = tt
kept_then (t ∷ tables) more a b c one two = (two.0 ∙ one.0, kept_then tables more a b c one.1 two.1)
