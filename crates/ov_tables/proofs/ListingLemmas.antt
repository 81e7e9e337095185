-- The trees of our tables by the list of objects, as the schema has them, and that a change of one table keeps the rest.
use Rattle.std.proofs.Common.{◌≡◌, ◌≢◌, ◌<◌, ◌+◌, ◌-◌, ℕ, List, [], ◌∷◌, filter, find, cond, Bool, true, false, ◌&&◌, ◌||◌, ◌==◌, ne_eqb, Some, refl, sym, ap, subst, ◌∙◌, arith}
use Rattle.std.specs.List.{AllByRecursion, AllZip}
use Rattle.sqlite.specs.Order.{Row, column}
use Rattle.sqlite_value.specs.Order.{bytes}
use Rattle.sqlite_trees.specs.Tree.{Trees, rowid}
use Rattle.sqlite_trees.specs.Objects.{catalog_tree, number_in}
use Rattle.sqlite_schema.specs.Names.{same_name}
use Rattle.sqlite.specs.Table.{Table}
use Rattle.sqlite_schema.specs.declared.schema.Index.{Index}
use Rattle.sqlite_schema.specs.declared.schema.Keys.{Keys}
use Rattle.sqlite_rules.specs.Edit.{Edit, Applies, IsNoIndex}
use Rattle.sqlite_rules.proofs.ListLemmas.{all_has}
use Rattle.sqlite_catalog.specs.Listing.{IsTableRow, IsIndexRow, is_table_row}
use Rattle.sqlite.specs.Effect.{Database, IsDatabase}
use Rattle.sqlite_trees.proofs.ListLemmas.{all_weaker}
use Rattle.ov_tables.specs.Tables.{HasTable}
use Rattle.ov_tables.specs.Format.{lists_table, tree_listed, rows_listed}
use Rattle.ov_tables.specs.Holding.{is_among, KeepsOthers}
use Rattle.ov_tables.proofs.TableLemmas.{some_table, found_has, Stands, stands}

-- the row of a table that the schema has by its name
row_found : (name : List ℕ) (objects : List Row) (tables : List Table) (table : Table) → AllZip IsTableRow (filter is_table_row objects) tables
    → find (λ t. same_name t.name name) tables ≡ Some table → (row : Row) × (find (lists_table name) objects ≡ Some row) × IsTableRow row table
row_found name [] [] table all h = absurd cc
row_found name [] (t ∷ tables) table all h = absurd all
row_found name (r ∷ objects) tables table all h = go (λ tables. row_found name objects tables table) (is_table_row r) tables all h
  where
    Found : List Table → Type 0
    Found tables = AllZip IsTableRow (filter is_table_row objects) tables → find (λ t. same_name t.name name) tables ≡ Some table → (row : Row) × (find (lists_table name) objects ≡ Some row) × IsTableRow row table

    named : (t : Table) (tables : List Table) → IsTableRow r t → (find (λ t. same_name t.name name) tables ≡ Some table → (row : Row) × (find (lists_table name) objects ≡ Some row) × IsTableRow row table)
        → (c : Bool) → cond c (Some t) (find (λ t. same_name t.name name) tables) ≡ Some table → (row : Row) × (cond c (Some r) (find (lists_table name) objects) ≡ Some row) × IsTableRow row table
    named t tables is next true found = (r, refl, subst (IsTableRow r) (some_table found) is)
    named t tables is next false found = next found

    go : ((tables : List Table) → Found tables) → (b : Bool) (tables : List Table) → AllZip IsTableRow (cond b (r ∷ filter is_table_row objects) (filter is_table_row objects)) tables
        → find (λ t. same_name t.name name) tables ≡ Some table → (row : Row) × (cond (b && same_name (bytes (column r 2)) name) (Some r) (find (lists_table name) objects) ≡ Some row) × IsTableRow row table
    go next false tables all h = next tables all h
    go next true [] all h = absurd all
    go next true (t ∷ tables) all h =
        subst (λ v. (row : Row) × (cond (same_name (bytes v) name) (Some r) (find (lists_table name) objects) ≡ Some row) × IsTableRow row table) (sym all.0.described.name_is)
        (named t tables all.0 (next tables all.1) (same_name t.name name) h)

number_below : (n : ℕ) → n + 1 - 1 ≡ n
number_below n = omega arith

-- the list of objects has the table where the schema has it
pub listed : (db : Database) (table : Table) → HasTable db.schema table → IsDatabase db → (tree_listed table.name db.trees ≡ table.tree) × (table.tree < 65536)
unfolding tree_listed
listed db table has sound =
    let it = row_found table.name (db.trees catalog_tree) db.schema.tables table sound.lists.listed.tables has.named in
    (rw it.1 (ap (λ v. number_in v - 1) it.2.described.id ∙ number_below table.tree), it.2.described.low)

indexes_low : (tables : List Table) (rows : List Row) (indexes : List Index) → AllZip (IsIndexRow tables) rows indexes → AllByRecursion (λ i. i.tree ≢ catalog_tree) indexes
indexes_low tables [] [] all = tt
indexes_low tables [] (i ∷ indexes) all = absurd all
indexes_low tables (r ∷ rows) [] all = absurd all
indexes_low tables (r ∷ rows) (i ∷ indexes) all = (λ e. absurd (omega (arith, all.0.described.low, e)), indexes_low tables rows indexes all.1)

-- in another database that has the same list of objects, the table is where it was
pub still : (name : List ℕ) (old new : Trees) → new catalog_tree ≡ old catalog_tree → tree_listed name new ≡ tree_listed name old
unfolding tree_listed
still name old new same = ap (λ objects. number_in (rowid (Rattle.std.proofs.Common.unwrap_or (find (lists_table name) objects) [])) - 1) same

module _ (db : Database) (table : Table) (has : HasTable db.schema table) (sound : IsDatabase db) where
  pub stands_in : (at : ℕ) × Stands db.schema table at
  stands_in = stands db.schema table has (listed db table has sound).1

  pub rows_are : rows_listed table.name db.trees ≡ db.trees table.tree
  unfolding rows_listed
  rows_are = ap db.trees (listed db table has sound).0

-- only the rows of this table have changed, and the entries of its indexes
pub record Touches (table : Table) (old new : Database) : Type 0 where
  pub schema : new.schema ≡ old.schema
  pub catalog : new.trees catalog_tree ≡ old.trees catalog_tree
  pub tables : AllByRecursion (λ t. t.tree ≢ table.tree → new.trees t.tree ≡ old.trees t.tree) old.schema.tables
  pub trees : (t : ℕ) → t ≢ table.tree → IsNoIndex old.schema t → new.trees t ≡ old.trees t
  pub sound : IsDatabase new

-- a step of an edit of the table does that
pub touches : (old new : Database) (table : Table) → HasTable old.schema table → IsDatabase old → (keys : Keys) (edit : Edit) → edit.table ≡ table → Applies old.schema keys old.trees edit new.trees
    → new.schema ≡ old.schema → IsDatabase new → Touches table old new
touches old new table has was keys edit is step same sound =
    let low = (listed old table has was).1 in
    let tree = ap (λ (t : Table). t.tree) is in
    record {
      schema = same;
      catalog = step.others catalog_tree (λ e. absurd (omega (arith, low, e, tree))) (indexes_low _ _ old.schema.indexes was.lists.listed.indexes);
      tables = subst (λ n. AllByRecursion (λ (t : Table). t.tree ≢ n → new.trees t.tree ≡ old.trees t.tree) old.schema.tables) tree step.tables;
      trees = λ t other. step.others t (λ e. other (e ∙ tree));
      sound = sound;
    }

-- and so does what keeps everything outside its tree
pub touches_of : (old new : Database) (table : Table) → HasTable old.schema table → IsDatabase old → KeepsOthers (table.tree ∷ []) old.schema old.trees new.trees → new.schema ≡ old.schema → IsDatabase new → Touches table old new
touches_of old new table has was kept same sound =
    let low = (listed old table has was).1 in
    record {
      schema = same;
      catalog = kept.trees catalog_tree (apart catalog_tree (λ e. absurd (omega (arith, low, e)))) (indexes_low _ _ old.schema.indexes was.lists.listed.indexes);
      tables = all_weaker _ _ (λ t rows other. rows (apart t.tree other)) old.schema.tables kept.tables;
      trees = λ t other. kept.trees t (apart t other);
      sound = sound;
    }
  where
    apart : (t : ℕ) → t ≢ table.tree → ((t == table.tree) || false) ≡ false
    apart t other = rw (ne_eqb t table.tree other) refl

module _ (old new : Database) (table : Table) (t : Touches table old new) where
  -- the rows of the table itself
  pub rows_after : HasTable old.schema table → IsDatabase old → rows_listed table.name new.trees ≡ new.trees table.tree
  unfolding rows_listed
  rows_after has was = ap new.trees (still table.name old.trees new.trees t.catalog ∙ (listed old table has was).0)

  -- another table of ours keeps its rows
  pub rows_beside : (other : Table) → HasTable old.schema other → IsDatabase old → other.tree ≢ table.tree → rows_listed other.name new.trees ≡ rows_listed other.name old.trees
  unfolding rows_listed
  rows_beside other has was apart =
      ap new.trees (still other.name old.trees new.trees t.catalog ∙ (listed old other has was).0)
      ∙ all_has _ old.schema.tables other t.tables (found_has _ old.schema.tables other has.named) apart
      ∙ sym (rows_are old other has was)

  -- and so does everything outside some trees, if that of the table is among them
  pub others_kept : (exempt : List ℕ) → is_among exempt table.tree ≡ true → KeepsOthers exempt old.schema old.trees new.trees
  others_kept exempt among = record {
    tables = all_weaker _ _ (λ u same free. same (apart u.tree free)) old.schema.tables t.tables;
    trees = λ n free none. t.trees n (apart n free) none;
  }
    where
      apart : (n : ℕ) → is_among exempt n ≡ false → n ≢ table.tree
      apart n free e = let clash : true ≡ false = sym among ∙ sym (ap (is_among exempt) e) ∙ free in absurd cc
