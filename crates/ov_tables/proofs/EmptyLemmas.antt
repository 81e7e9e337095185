-- The tables of stored format 2 without rows, made of what either format had.
use Rattle.std.proofs.Common.{◌≡◌, ◌≢◌, ◌==◌, ◌||◌, ℕ, List, [], ◌∷◌, Bool, true, false, None, Ok, codes, get_or, refl, sym, ap, subst, ◌∙◌, arith, IsTrue, ne_eqb, inl, inr}
use Rattle.std.specs.List.{AllByRecursion}
use Rattle.std.proofs.lemmas.Bool.{or_parts, or_from}
use Rattle.sqlite.specs.Table.{Table}
use Rattle.sqlite.specs.Schema.{Schema}
use Rattle.sqlite.specs.Change.{created, next_tree}
use Rattle.sqlite.specs.Effect.{IsDatabase}
use Rattle.sqlite.specs.State.{State, Executes}
use Rattle.sqlite.specs.Listing.{understood}
use Rattle.sqlite.specs.Command.TheVariants.{Delete}
use Rattle.sqlite_syntax.specs.declared.statement.Parsed.{Parsed}
use Rattle.sqlite_trees.specs.Tree.{Trees}
use Rattle.sqlite_trees.proofs.ListLemmas.{all_weaker}
use Rattle.sqlite_rules.specs.Lists.{Has}
use Rattle.sqlite_rules.proofs.ListLemmas.{all_has, all_from}
use Rattle.ov_tables.specs.Tables.{meta_table, line_table, head_table, cell_table, table_of, tree_number, cell_trees, line_trees, HasTable, HasFreeName, HasLineTables, HasCellTables}
use Rattle.ov_tables.specs.Format.{HasNumber, IsMeta, IsLine, IsHead, IsCell, rows_listed}
use Rattle.ov_tables.specs.Holding.{HoldsLines, HoldsCells, KeepsOthers, is_among}
use Rattle.ov_tables.specs.Emptying.{Clears, Empties}
use Rattle.ov_tables.specs.Making.{CreatesRows, IsBare}
use Rattle.ov_tables.proofs.TableLemmas.{Stands, found_has, tree_is, trees_apart}
use Rattle.ov_tables.proofs.ListingLemmas.{touches_of, rows_are, rows_beside, others_kept}
use Rattle.ov_tables.proofs.Statements.{numbers, runs, does}
use Rattle.ov_tables.proofs.DeleteLemmas.{deletes}
use Rattle.ov_tables.proofs.RemoveLemmas.{none_remain}
use Rattle.ov_tables.proofs.KeepLemmas.{others_then, others_wider}
use Rattle.ov_tables.proofs.MetaLemmas.{first_among, head_not_meta, cell_not_meta, cell_not_head}
use Rattle.ov_tables.proofs.RoomLemmas.{is_free, none_found, old_table, tree_below}
use Rattle.ov_tables.proofs.CreateLemmas.{bare_rows, meta_last, head_last, cell_last}

-- ---- one table

module _ (old new : State) (table : Table) (sql : List ℕ) (parsed : Parsed) (has : HasTable old.now.schema table) (sound : IsDatabase old.now)
    (known : (at : ℕ) → Stands old.now.schema table at → understood old.now.schema sql ≡ Ok (does parsed (Delete at (runs (numbers [] table.tree))))) (all : AllByRecursion HasNumber (rows_listed table.name old.now.trees)) where
  pub clears : (count : ℕ) → Executes sql [] old new (Ok count) → IsTrue new.in_transaction → IsTrue old.is_open → IsTrue new.is_open → tree_number old.now.schema table.name ≡ table.tree → Clears table.name old new
  clears count ran mode was up tree =
      let d = deletes old new table sql [] [] parsed has sound known count ran in
      record {
        mode = mode;
        was_open = was;
        is_open = up;
        schema = d.only.schema;
        rows = d.left ∙ none_remain (rows_listed table.name old.now.trees) d.rows all d.same;
        others = subst (λ n. KeepsOthers (n ∷ []) old.now.schema old.now.trees new.now.trees) (sym tree) (others_kept old.now new.now table d.only (table.tree ∷ []) (first_among table.tree []));
        sound = d.only.sound;
      }

-- ---- numbers of rows

pub heads_numbers : (rows : List _) → AllByRecursion IsHead rows → AllByRecursion HasNumber rows
heads_numbers rows all = all_weaker _ _ (λ r (is : IsHead r). (is.keyed.number, is.keyed.number_is)) rows all

pub cells_numbers : (rows : List _) → AllByRecursion IsCell rows → AllByRecursion HasNumber rows
cells_numbers rows all = all_weaker _ _ (λ r (is : IsCell r). (is.keyed.number, is.keyed.number_is)) rows all

pub lines_numbers : (rows : List _) → AllByRecursion IsLine rows → AllByRecursion HasNumber rows
lines_numbers rows all = all_weaker _ _ (λ r (is : IsLine r). (is.keyed.number, is.keyed.number_is)) rows all

pub meta_numbers : (n : ℕ) (text : List ℕ) (rows : List _) → IsMeta n text rows → AllByRecursion HasNumber rows
meta_numbers n text rows m = subst (AllByRecursion HasNumber) (sym m.all) (elim m.are [
  | inl p ↦ ((p.0.number, p.0.number_is), ((p.1.number, p.1.number_is), tt))
  | inr p ↦ ((p.0.number, p.0.number_is), ((p.1.number, p.1.number_is), tt))
])

-- ---- the trees that may change

among_one : (a b : Bool) → (a || b) ≡ false → (a || false) ≡ false
among_one true b h = h
among_one false b h = refl

module _ (m h c t : ℕ) (free : is_among (m ∷ h ∷ c ∷ []) t ≡ false) where
  pub not_first : is_among (m ∷ []) t ≡ false
  not_first = among_one _ _ free

  pub not_second : is_among (h ∷ []) t ≡ false
  not_second = among_one _ _ (or_parts _ _ free).1

  pub not_third : is_among (c ∷ []) t ≡ false
  not_third = (or_parts _ _ (or_parts _ _ free).1).1

  pub not_rows : is_among (h ∷ c ∷ []) t ≡ false
  not_rows = (or_parts _ _ free).1

-- no database has the tables of both formats
pub not_both : (schema : Schema) → HasLineTables schema → HasCellTables schema → ⊥
not_both schema lines cells = let none : table_of schema (codes "head") ≡ None = none_found _ 0 schema.tables (is_free schema (codes "head") lines.head.free).table in let clash = sym none ∙ cells.head.named in absurd cc

pub meta_not_line : (schema : Schema) → HasLineTables schema → tree_number schema (codes "meta") ≢ tree_number schema (codes "line")
meta_not_line schema has = trees_apart schema (meta_table (tree_number schema (codes "meta"))) (line_table (tree_number schema (codes "line"))) has.meta has.line (λ e. absurd (omega (arith, ap (λ l. get_or l 0 0) e)))

-- ---- from format 2

module _ (text : List ℕ) (old a b new : State) (stored : HoldsCells text old.now) (one : Clears (codes "cell") old a) (two : Clears (codes "head") a b) (three : Clears (codes "meta") b new) where
  abbrev first : Schema
  first = old.now.schema

  has : HasCellTables first
  has = stored.format.schema

  cells_first : KeepsOthers (tree_number first (codes "cell") ∷ []) first old.now.trees a.now.trees
  cells_first = one.others

  heads_then : KeepsOthers (tree_number first (codes "head") ∷ []) first a.now.trees b.now.trees
  heads_then = subst (λ s. KeepsOthers (tree_number s (codes "head") ∷ []) s a.now.trees b.now.trees) one.schema two.others

  meta_then : KeepsOthers (tree_number first (codes "meta") ∷ []) first b.now.trees new.now.trees
  meta_then = subst (λ s. KeepsOthers (tree_number s (codes "meta") ∷ []) s b.now.trees new.now.trees) (two.schema ∙ one.schema) three.others

  all_kept : KeepsOthers (cell_trees first) first old.now.trees new.now.trees
  all_kept =
      let wide = others_then (cell_trees first) first old.now.trees a.now.trees b.now.trees
      (others_wider _ (cell_trees first) first old.now.trees a.now.trees (λ t free. not_third _ _ _ t free) cells_first)
      (others_wider _ (cell_trees first) first a.now.trees b.now.trees (λ t free. not_second _ _ _ t free) heads_then) in
      others_then (cell_trees first) first old.now.trees b.now.trees new.now.trees wide (others_wider _ (cell_trees first) first b.now.trees new.now.trees (λ t free. not_first _ _ _ t free) meta_then)

  pub empties_cells : Empties old new
  empties_cells =
      let same = three.schema ∙ two.schema ∙ one.schema in
      let at_a = subst HasCellTables (sym one.schema) has in
      let at_b = subst HasCellTables (sym (two.schema ∙ one.schema)) has in
      let head_touched = touches_of a.now b.now (head_table (tree_number a.now.schema (codes "head"))) at_a.head one.sound two.others two.schema two.sound in
      let meta_touched = touches_of b.now new.now (meta_table (tree_number b.now.schema (codes "meta"))) at_b.meta two.sound three.others three.schema three.sound in
      record {
        mode = three.mode;
        was_open = one.was_open;
        is_open = three.is_open;
        bare = record {
          tables = subst HasCellTables (sym same) has;
          meta = three.rows;
          head = rows_beside b.now new.now _ meta_touched (head_table (tree_number b.now.schema (codes "head"))) at_b.head two.sound (head_not_meta b.now.schema at_b) ∙ two.rows;
          cell = rows_beside b.now new.now _ meta_touched (cell_table (tree_number b.now.schema (codes "cell"))) at_b.cell two.sound (cell_not_meta b.now.schema at_b)
              ∙ rows_beside a.now b.now _ head_touched (cell_table (tree_number a.now.schema (codes "cell"))) at_a.cell one.sound (cell_not_head a.now.schema at_a) ∙ one.rows;
          sound = three.sound;
        };
        rest = λ next later. (
          λ lines. absurd (not_both first lines has),
          λ _. others_then (cell_trees first) first old.now.trees new.now.trees next all_kept (subst (λ s. KeepsOthers (cell_trees s) s new.now.trees next) same later),
        );
      }

-- ---- from format 1

module _ (text : List ℕ) (old a b new : State) (stored : HoldsLines text old.now) (one : Clears (codes "line") old a) (two : Clears (codes "meta") a b) (c : CreatesRows b new) where
  abbrev before : Schema
  before = old.now.schema

  lines : HasLineTables before
  lines = stored.format.schema

  same : b.now.schema ≡ before
  same = two.schema ∙ one.schema

  abbrev m : ℕ
  m = tree_number before (codes "meta")

  meta_here : HasTable b.now.schema (meta_table m)
  meta_here = subst (λ s. HasTable s (meta_table m)) (sym same) lines.meta

  head_room : HasFreeName b.now.schema (codes "head")
  head_room = subst (λ s. HasFreeName s (codes "head")) (sym same) lines.head

  cell_room : HasFreeName b.now.schema (codes "cell")
  cell_room = subst (λ s. HasFreeName s (codes "cell")) (sym same) lines.cell

  meta_gone : b.now.trees m ≡ []
  meta_gone = sym (rows_are b.now (meta_table m) meta_here two.sound) ∙ two.rows

  bare : IsBare new.now
  bare = bare_rows b new m meta_here head_room cell_room two.sound c (all_has _ b.now.schema.tables (meta_table m) c.others (found_has _ b.now.schema.tables (meta_table m) meta_here.named) ∙ meta_gone)

  abbrev last : Schema
  last = new.now.schema

  m_is : tree_number last (codes "meta") ≡ m
  m_is = tree_is last (meta_table m) (meta_last b new m meta_here head_room cell_room two.sound c)

  h_is : tree_number last (codes "head") ≡ next_tree b.now.schema
  h_is = tree_is last (head_table (next_tree b.now.schema)) (head_last b new m meta_here head_room cell_room two.sound c)

  c_is : tree_number last (codes "cell") ≡ next_tree (created b.now.schema (head_table 0))
  c_is = tree_is last (cell_table (next_tree (created b.now.schema (head_table 0)))) (cell_last b new m meta_here head_room cell_room two.sound c)

  other_row : (next : Trees) → KeepsOthers (cell_trees last) last new.now.trees next → (t : Table) → Has before.tables t → is_among (line_trees before) t.tree ≡ false → next t.tree ≡ old.now.trees t.tree
  other_row next later t here free =
      let parts = or_parts _ _ free in
      let in_b = subst (λ (s : Schema). Has s.tables t) (sym same) here in
      let in_head = old_table b.now.schema (codes "head") _ (1 ∷ 2 ∷ []) t in_b in
      let in_last = subst (λ (s : Schema). Has s.tables t) (sym c.schema) (old_table (created b.now.schema (head_table 0)) (codes "cell") _ (1 ∷ 2 ∷ 3 ∷ []) t in_head) in
      let not_meta : (t.tree == tree_number last (codes "meta")) ≡ false = ap (λ n. t.tree == n) m_is ∙ parts.0 in
      let not_head : (t.tree == tree_number last (codes "head")) ≡ false = ne_eqb t.tree _ (λ e. absurd (omega (arith, tree_below b.now.schema t in_b, e, h_is))) in
      let not_cell : (t.tree == tree_number last (codes "cell")) ≡ false = ne_eqb t.tree _ (λ e. absurd (omega (arith, tree_below (created b.now.schema (head_table 0)) t in_head, e, c_is))) in
      let step_last = all_has _ last.tables t later.tables in_last (or_from _ _ not_meta (or_from _ _ not_head (or_from _ _ not_cell refl))) in
      let step_made = all_has _ b.now.schema.tables t c.others in_b in
      let in_a = subst (λ (s : Schema). Has s.tables t) (sym one.schema) here in
      let step_meta = all_has _ a.now.schema.tables t two.others.tables in_a (or_from _ _ (ap (λ s. t.tree == tree_number s (codes "meta")) one.schema ∙ parts.0) refl) in
      let step_line = all_has _ before.tables t one.others.tables here parts.1 in
      step_last ∙ step_made ∙ step_meta ∙ step_line

  pub empties_lines : Empties old new
  empties_lines = record {
    mode = c.mode;
    was_open = one.was_open;
    is_open = c.is_open;
    bare = bare;
    rest = λ next later. (λ _. all_from _ before.tables (λ t here free. other_row next later t here free), λ cells. absurd (not_both before lines cells));
  }
