-- Where a table of ours stands in a schema, and that no change of its rows sets off an action of a foreign key.
use Rattle.std.proofs.Common.{◌≡◌, ◌≢◌, ◌<◌, ◌+◌, ◌^◌, ℕ, suc, List, [], ◌∷◌, ◌++◌, length, find, Bool, true, false, not, ◌&&◌, ◌||◌, ◌==◌, nat_lt, nat_le, slice_get, cond, Option, Some, None, IfSome, option_and_then, option_map, refl, sym, ap, ap₂, subst, ◌∙◌, arith, Ok, inl, inr}
use Rattle.std.specs.List.{list_any, list_all, flat_map, filter_map, position_from}
use Rattle.std.proofs.lemmas.Bool.Decides.{nat_tests}
use Rattle.sqlite.specs.Table.{Table}
use Rattle.sqlite.specs.Schema.{Schema}
use Rattle.sqlite_value.specs.Order.{Row}
use Rattle.sqlite_schema.specs.declared.schema.Keys.{Keys}
use Rattle.sqlite_schema.specs.declared.schema.Reference.{Reference}
use Rattle.sqlite_schema.specs.Names.{same_name, table_named}
use Rattle.sqlite_schema.specs.Rules.{key_in, key_places, declared_order}
use Rattle.sqlite_rules.specs.Lists.{Has}
use Rattle.sqlite_rules.specs.Action.{work_for, work_by, deed_for, pairs, Writes}
use Rattle.sqlite_rules.specs.Edit.{Edit, taken_by, Applies}
use Rattle.sqlite_trees.specs.Tree.{Trees}
use Rattle.sqlite.proofs.Callers.{one_step}
use Rattle.sqlite_rules.specs.declared.action.Deed.{Deed}
use Rattle.ov_tables.specs.Tables.{table_of, tree_number, points_to, is_apart, HasTable}

-- a table at its place in a schema, where nothing else has its name or its tree
pub record Stands (schema : Schema) (table : Table) (at : ℕ) : Type 0 where
  pub named : table_named schema table.name ≡ Some at
  pub placed : slice_get schema.tables at ≡ Some table
  pub alone : find (λ t. t.tree == table.tree) schema.tables ≡ Some table
  pub low : nat_lt table.tree (2 ^ 31) ≡ true
  pub not_high : nat_le (2 ^ 31) table.tree ≡ false

module _ {X : Type 0} (p : X → Bool) where
  -- what is found stands at a place
  pub found_place : (from : ℕ) (xs : List X) (x : X) → find p xs ≡ Some x → (at : ℕ) × (position_from p from xs ≡ Some (from + at)) × (slice_get xs at ≡ Some x)
  found_place from [] x h = absurd cc
  found_place from (y ∷ xs) x h = go (p y) (found_place (from + 1) xs x) h
    where
      go : (b : Bool) → (find p xs ≡ Some x → (at : ℕ) × (position_from p (from + 1) xs ≡ Some (from + 1 + at)) × (slice_get xs at ≡ Some x)) → cond b (Some y) (find p xs) ≡ Some x
          → (at : ℕ) × (cond b (Some from) (position_from p (from + 1) xs) ≡ Some (from + at)) × (slice_get (y ∷ xs) at ≡ Some x)
      go true later e = (0, ap Some (omega arith), e)
      go false later e = let it = later e in (suc it.0, it.1 ∙ ap Some (omega arith), it.2)

  pub found_has : (xs : List X) (x : X) → find p xs ≡ Some x → Has xs x
  found_has [] x h = absurd cc
  found_has (y ∷ xs) x h = elim (p y) as (λ b. cond b (Some y) (find p xs) ≡ Some x → Has (y ∷ xs) x) [ true ↦ λ e. inl (let same : y ≡ x = cc in sym same) | false ↦ λ e. inr (found_has xs x e) ] h

eqb_itself : (n : ℕ) → (n == n) ≡ true
eqb_itself n = grind (arith, nat_tests)

pub some_table : {a b : Table} → Some a ≡ Some b → a ≡ b
some_table e = cc

both_parts : (a b : Bool) → (a && b) ≡ true → (a ≡ true) × (b ≡ true)
both_parts true b h = (refl, h)
both_parts false b h = absurd cc

one_of : (a b : Bool) → (not a || b) ≡ true → b ≡ false → a ≡ false
one_of true b h e = absurd (let clash : true ≡ false = sym h ∙ e in cc)
one_of false b h e = refl

-- the first table of its name is the first with its tree
tree_found : (table : Table) (tables : List Table) → find (λ t. same_name t.name table.name) tables ≡ Some table
    → list_all (λ t. not (t.tree == table.tree) || same_name t.name table.name) tables ≡ true → find (λ t. t.tree == table.tree) tables ≡ Some table
tree_found table [] h all = h
tree_found table (t ∷ tables) h all = go (tree_found table tables) (same_name t.name table.name) refl h
  where
    here : t ≡ table → cond (t.tree == table.tree) (Some t) (find (λ u. u.tree == table.tree) tables) ≡ Some table
    here same = subst (λ u. cond (u.tree == table.tree) (Some u) (find (λ v. v.tree == table.tree) tables) ≡ Some table) (sym same) (rw (eqb_itself table.tree) refl)

    go : (find (λ u. same_name u.name table.name) tables ≡ Some table → list_all (λ u. not (u.tree == table.tree) || same_name u.name table.name) tables ≡ true → find (λ u. u.tree == table.tree) tables ≡ Some table)
        → (b : Bool) → same_name t.name table.name ≡ b → cond b (Some t) (find (λ u. same_name u.name table.name) tables) ≡ Some table → cond (t.tree == table.tree) (Some t) (find (λ u. u.tree == table.tree) tables) ≡ Some table
    go later true e found = here (some_table found)
    go later false e found =
        let parts = both_parts _ _ all in
        rw (one_of (t.tree == table.tree) (same_name t.name table.name) parts.0 e) (later found parts.1)

pub stands : (schema : Schema) (table : Table) → HasTable schema table → table.tree < 65536 → (at : ℕ) × Stands schema table at
stands schema table has low =
    let it = found_place (λ t. same_name t.name table.name) 0 schema.tables table has.named in
    (it.0, record { named = it.1 ∙ ap Some (omega arith); placed = it.2; alone = tree_found table schema.tables has.named has.alone; low = grind (arith, nat_tests); not_high = grind (arith, nat_tests) })

-- tables of two names have trees of their own
pub trees_apart : (schema : Schema) (t u : Table) → HasTable schema t → HasTable schema u → t.name ≢ u.name → t.tree ≢ u.tree
trees_apart schema t u one two other same =
    other (ap (λ (x : Table). x.name) (some_table (sym (tree_found t schema.tables one.named one.alone) ∙ ap (λ n. find (λ x. x.tree == n) schema.tables) same ∙ tree_found u schema.tables two.named two.alone)))

-- the table of a name has the tree of the name
pub tree_is : (schema : Schema) (table : Table) → HasTable schema table → tree_number schema table.name ≡ table.tree
tree_is schema table has = ap (λ (o : Option Table). Rattle.std.proofs.Common.unwrap_or (option_map (λ t. t.tree) o) 0) has.named

-- ---- foreign keys

no_part : (a b : Bool) → (a || b) ≡ false → (a ≡ false) × (b ≡ false)
no_part true b h = absurd cc
no_part false b h = (refl, h)

was_false : (b : Bool) → not b ≡ true → b ≡ false
was_false true h = absurd cc
was_false false h = refl

module _ (schema : Schema) (tree : ℕ) where
  no_work : (depth : ℕ) (moves : List (Row × Row)) (child : Table) (ref : Reference) (deed : Option Deed) (parent : Option Table) → IfSome parent (λ t. (t.tree == tree) ≡ false)
      → work_by depth tree moves child ref deed (option_and_then (λ t. option_and_then (key_in t) (key_places t ref.parent_columns)) parent) ≡ None
  no_work depth moves child ref None parent far = refl
  no_work depth moves child ref (Some deed) None far = refl
  no_work depth moves child ref (Some deed) (Some t) far = at_places (key_places t ref.parent_columns)
    where
      at_order : (places : List ℕ) (o : Option _) → work_by depth tree moves child ref (Some deed) (option_map (λ o. (t.tree, places, o)) o) ≡ None
      at_order places None = refl
      at_order places (Some o) = rw far refl

      at_places : (places : Option (List ℕ)) → work_by depth tree moves child ref (Some deed) (option_and_then (key_in t) places) ≡ None
      at_places None = refl
      at_places (Some places) = at_order places (declared_order t places)

  found_apart : (ref : Reference) → points_to tree schema ref ≡ false → IfSome (table_of schema ref.parent) (λ t. (t.tree == tree) ≡ false)
  found_apart ref none = go (table_of schema ref.parent) none
    where
      go : (o : Option Table) → Rattle.std.proofs.Common.unwrap_or (option_map (λ t. t.tree == tree) o) false ≡ false → IfSome o (λ t. (t.tree == tree) ≡ false)
      go None h = tt
      go (Some t) h = h

  module _ (keys : Keys) (depth : ℕ) (olds news : List Row) where
    none_by : (child : Table) (ref : Reference) → points_to tree schema ref ≡ false → work_for schema keys depth tree olds news child ref ≡ None
    none_by child ref none = no_work depth (pairs olds news) child ref (deed_for keys (length news == 0) ref) _ (found_apart ref none)

    none_of : (child : Table) (refs : List Reference) → list_any (points_to tree schema) refs ≡ false → filter_map (work_for schema keys depth tree olds news child) refs ≡ []
    none_of child [] none = refl
    none_of child (ref ∷ refs) none = let parts = no_part (points_to tree schema ref) (list_any (points_to tree schema) refs) none in rw (none_by child ref parts.0) (none_of child refs parts.1)

    none_in : (tables : List Table) → list_all (is_apart tree schema) tables ≡ true → flat_map (λ child. filter_map (work_for schema keys depth tree olds news child) child.references) tables ≡ []
    none_in [] is = refl
    none_in (t ∷ more) is =
        let parts = both_parts (is_apart tree schema t) (list_all (is_apart tree schema) more) is in
        ap₂ (λ a b. a ++ b) (none_of t t.references (was_false _ parts.0)) (none_in more parts.1)

-- so a write of such a table is its one step
pub our_step : (schema : Schema) (edit : Edit) → HasTable schema edit.table → (keys : Keys) (db next : Trees) → Writes schema keys db edit (Ok next) → Applies schema keys db edit next
our_step schema edit has keys db next =
    one_step schema keys db next edit (none_in schema edit.table.tree keys 0 (taken_by db edit) edit.news schema.tables has.apart)
