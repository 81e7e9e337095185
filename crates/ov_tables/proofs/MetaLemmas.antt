-- The rows of `meta` as they are put, one after the other, into a table without rows.
use Rattle.std.proofs.Common.{◌≡◌, ◌≢◌, inl, inr, ℕ, ℤ, List, [], ◌∷◌, true, false, not, ◌&&◌, ◌||◌, ◌==◌, get_or, Ok, refl, sym, ap, subst, ◌∙◌, arith, codes, IsUtf8, IsTrue}
use Rattle.std.specs.declared.cmp.Ordering.{Ordering}
use Rattle.std.specs.declared.cmp.Ordering.TheVariants.{Less, Equal, Greater}
use Rattle.std.specs.Ordering.{is_eq, match_ordering}
use Rattle.std.proofs.lemmas.Bool.Decides.{nat_tests}
use Rattle.std.specs.List.{AllByRecursion}
use Rattle.sqlite.specs.declared.types.Value.TheVariants.{Int, Text, Blob}
use Rattle.sqlite.specs.Order.{Row, value_cmp}
use Rattle.sqlite.specs.Schema.{Schema}
use Rattle.sqlite_rules.specs.Edit.{are_fresh}
use Rattle.sqlite_trees.specs.Tree.{put_row}
use Rattle.sqlite.specs.Effect.{Database, IsDatabase}
use Rattle.sqlite.specs.State.{State, Executes}
use Rattle.ov_tables.specs.Tables.{meta_table, head_table, cell_table, tree_number, HasCellTables, meta_insert_text}
use Rattle.ov_tables.specs.Format.{IsMeta, IsFormatRow, IsSchemaRow, IsHead, IsCell, head_of, cell_of, rows_of_meta, rows_of_head, rows_of_cell}
use Rattle.ov_tables.specs.Holding.{KeepsOthers, HoldsCells, IsNumbered}
use Rattle.ov_tables.specs.Making.{meta_row, AddsMeta, IsBare, Fills}
use Rattle.ov_tables.proofs.TableLemmas.{trees_apart}
use Rattle.ov_tables.proofs.ListingLemmas.{rows_beside, others_kept}
use Rattle.ov_tables.proofs.Statements.{meta_insert_terms, meta_insert_parsed}
use Rattle.ov_tables.proofs.MetaTexts.{meta_insert_is}
use Rattle.ov_tables.proofs.InsertLemmas.{inserts, meta_adds}
use Rattle.ov_tables.proofs.KeepLemmas.{others_then}

-- ---- the trees of the three tables

pub itself : (n : ℕ) → (n == n) ≡ true
itself n = grind (arith, nat_tests)

-- a tree is among those that begin with it
pub first_among : (n : ℕ) (more : List ℕ) → Rattle.ov_tables.specs.Holding.is_among (n ∷ more) n ≡ true
first_among n more = rw (itself n) refl

module _ (schema : Schema) (has : HasCellTables schema) where
  abbrev m : ℕ
  m = tree_number schema (codes "meta")

  abbrev h : ℕ
  h = tree_number schema (codes "head")

  abbrev c : ℕ
  c = tree_number schema (codes "cell")

  pub head_not_meta : h ≢ m
  head_not_meta = trees_apart schema (head_table h) (meta_table m) has.head has.meta (λ e. absurd (omega (arith, ap (λ l. get_or l 0 0) e)))

  pub cell_not_meta : c ≢ m
  cell_not_meta = trees_apart schema (cell_table c) (meta_table m) has.cell has.meta (λ e. absurd (omega (arith, ap (λ l. get_or l 0 0) e)))

  pub head_not_cell : h ≢ c
  head_not_cell = trees_apart schema (head_table h) (cell_table c) has.head has.cell (λ e. absurd (omega (arith, ap (λ l. get_or l 0 0) e)))

  pub cell_not_head : c ≢ h
  cell_not_head e = head_not_cell (sym e)

  pub meta_not_head : m ≢ h
  meta_not_head e = head_not_meta (sym e)

  pub meta_not_cell : m ≢ c
  meta_not_cell e = cell_not_meta (sym e)

-- ---- what the INSERT does

pub adds_meta : (old new : State) (k v : List ℕ) (count : ℕ) → HasCellTables old.now.schema → IsDatabase old.now → Executes meta_insert_text (Text k ∷ Blob v ∷ []) old new (Ok count)
    → IsTrue new.in_transaction → IsTrue old.is_open → IsTrue new.is_open → AddsMeta k v old new
adds_meta old new k v count has sound ran mode was up =
    let schema = old.now.schema in
    let m = tree_number schema (codes "meta") in
    let d = inserts old new (codes "meta") m _ (1 ∷ []) meta_insert_text meta_insert_terms 3 (Text k ∷ Blob v ∷ []) (meta_row k v) meta_insert_parsed has.meta sound (λ at it. meta_insert_is schema at m it) (meta_adds m k v) count ran in
    record {
      mode = mode;
      was_open = was;
      is_open = up;
      schema = d.only.schema;
      number = d.number;
      rows = d.rows;
      fresh = d.fresh;
      head = rows_beside old.now new.now (meta_table m) d.only (head_table (tree_number schema (codes "head"))) has.head sound (head_not_meta schema has);
      cell = rows_beside old.now new.now (meta_table m) d.only (cell_table (tree_number schema (codes "cell"))) has.cell sound (cell_not_meta schema has);
      others = others_kept old.now new.now (meta_table m) d.only (m ∷ []) (first_among m []);
      sound = d.only.sound;
    }

-- ---- the two rows

pub two_rows : (n m : ℤ) (text : List ℕ) (rows : List Row) → IsUtf8 text → rows ≡ put_row (meta_row (codes "format") (50 ∷ []) n) []
    → are_fresh rows (meta_row (codes "schema") text m ∷ []) ≡ true → IsMeta 2 text (put_row (meta_row (codes "schema") text m) rows)
two_rows n m text rows utf8 is fresh =
    let f = meta_row (codes "format") (50 ∷ []) n in
    let s = meta_row (codes "schema") text m in
    let format : IsFormatRow 2 f = record { number = n; number_is = refl; key = refl; value = refl; known = inr refl } in
    let schema : IsSchemaRow text s = record { number = m; number_is = refl; key = refl; value = refl; utf8 = utf8 } in
    let P = λ (o : Ordering). (not (is_eq o || false) && true) ≡ true → IsMeta 2 text (match_ordering o (f ∷ s ∷ []) (s ∷ []) (s ∷ f ∷ [])) in
    rw is (elim (value_cmp (Int n) (Int m)) as P [
      | Less ↦ λ e. record { first = f; second = s; all = refl; are = inl (format, schema) }
      | Equal ↦ λ e. absurd cc
      | Greater ↦ λ e. record { first = s; second = f; all = refl; are = inr (schema, format) }
    ] (rw is at fresh))

-- stored format 2 without rows
pub no_rows : (text : List ℕ) (db : Database) → HasCellTables db.schema → IsMeta 2 text (rows_of_meta db.trees) → rows_of_head db.trees ≡ [] → rows_of_cell db.trees ≡ [] → IsDatabase db → HoldsCells text db
no_rows text db has meta head cell sound = record {
  format = record {
    schema = has;
    meta = meta;
    heads = subst (AllByRecursion IsHead) (sym head) tt;
    cells = subst (AllByRecursion IsCell) (sym cell) tt;
    owned = rw cell refl;
  };
  heads_numbered = subst (IsNumbered head_of) (sym head) tt;
  cells_numbered = subst (IsNumbered cell_of) (sym cell) tt;
  sound = sound;
}

pub fills : (text : List ℕ) (old mid new : State) → IsUtf8 text → IsBare old.now → AddsMeta (codes "format") (50 ∷ []) old mid → AddsMeta (codes "schema") text mid new → Fills text old new
fills text old mid new utf8 bare one two =
    let schema = old.now.schema in
    let rows = one.rows ∙ ap (put_row (meta_row (codes "format") (50 ∷ []) one.number)) bare.meta in
    let meta = subst (IsMeta 2 text) (sym two.rows) (two_rows one.number two.number text (rows_of_meta mid.now.trees) utf8 rows two.fresh) in
    let same = two.schema ∙ one.schema in
    let head = two.head ∙ one.head ∙ bare.head in
    let cell = two.cell ∙ one.cell ∙ bare.cell in
    record {
      mode = two.mode;
      was_open = one.was_open;
      is_open = two.is_open;
      schema = same;
      stored = no_rows text new.now (subst HasCellTables (sym same) bare.tables) meta head cell two.sound;
      no_head = head;
      no_cell = cell;
      others = others_then _ schema old.now.trees mid.now.trees new.now.trees one.others (subst (λ s. KeepsOthers (tree_number s (codes "meta") ∷ []) s mid.now.trees new.now.trees) one.schema two.others);
    }
