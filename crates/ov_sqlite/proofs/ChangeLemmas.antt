-- What the statements make of a database of stored format 2.
use Rattle.std.proofs.Common.{◌≡◌, ℕ, ℤ, List, [], ◌∷◌, map, length, Bool, true, false, ◌||◌, Some, None, IfSome, IsTrue, IsUtf8, Ok, codes, refl, sym, ap, subst, ◌∙◌}
use Rattle.std.specs.List.{AllByRecursion, list_any}
use Rattle.std.proofs.lemmas.List.Sorted.{list_any-IsPermutation}
use Rattle.std.specs.FinMap.{empty, get, remove}
use Rattle.sqlite.specs.declared.types.Value.TheVariants.{Text, Blob}
use Rattle.sqlite.specs.Order.{Row, column}
use Rattle.sqlite_trees.specs.Tree.{put_row}
use Rattle.sqlite_rules.specs.Edit.{next_rowid, put_all}
use Rattle.sqlite_trees.proofs.TreeLemmas.{all-put_row}
use Rattle.sqlite_trees.proofs.ListLemmas.{all_weaker, all_both, all-filter}
use Rattle.sqlite.specs.State.{State, Executes}
use Rattle.ov_specs.specs.rows.Lines.{LineKey}
use Rattle.ov_specs.specs.rows.Cells.{CellLine, CellLines, cell_lines}
use Rattle.ov_tables.specs.Tables.{meta_table, head_table, cell_table, tree_number, row_trees, HasCellTables, cell_insert_text, cell_delete_text, cell_update_text, head_insert_text, head_delete_text, head_update_text}
use Rattle.ov_tables.specs.Format.{IsMeta, IsKeyed, IsHead, IsCell, row_key, head_of, cell_of, stored_cells, rows_of_head, rows_of_cell}
use Rattle.ov_tables.specs.Holding.{HoldsCells, IsNumbered, is_among}
use Rattle.ov_sqlite.specs.Changing.{MakesRows, Becomes, IsEmptied, IsRowBegun, IsCellAdded, AreCellsAdded}
use Rattle.ov_sqlite.specs.Renewing.{HasVersion, HasBody}
use Rattle.ov_sqlite.specs.Joining.{CellEntry, entry_in}
use Rattle.ov_tables.proofs.ListingLemmas.{Touches, rows_beside, others_kept}
use Rattle.ov_tables.proofs.Statements.{key_terms, head_insert_terms, cell_insert_terms, head_insert_parsed, cell_insert_parsed, head_delete_parsed, cell_delete_parsed}
use Rattle.ov_tables.proofs.HeadTexts.{head_insert_is, head_delete_is}
use Rattle.ov_tables.proofs.CellTexts.{cell_insert_is, cell_delete_is}
use Rattle.ov_tables.proofs.RowLemmas.{has_key}
use Rattle.ov_tables.proofs.DeleteLemmas.{deletes}
use Rattle.ov_tables.proofs.InsertLemmas.{inserts, head_row, cell_row, head_adds, cell_adds}
use Rattle.ov_tables.proofs.RemoveLemmas.{left_keyed, filter_numbered, numbered_part}
use Rattle.ov_tables.proofs.RenewLemmas.{heads_with, cells_with, keys_stay, cell_key_stays, head_updates, cell_updates}
use Rattle.ov_sqlite.proofs.PutLemmas.{not_taken, put_numbered, any_put, passes_none}
use Rattle.ov_sqlite.proofs.CellLemmas.{others, others_all, IsAbsent, HasHead, heads_each, each_heads, head_stays, head_there, bare, emptied, removed, headed, celled, get_lines, line_at}
use Rattle.ov_sqlite.proofs.KeyLemmas.{AreApart, apart_by_key, new_head, new_cell, agree_heads, agree_cells}
use Rattle.ov_sqlite.proofs.OpenLemmas.{every_shuffled}
use Rattle.ov_sqlite.proofs.HeldLemmas.{map_all}
use Rattle.ov_sqlite.proofs.InPlaceLemmas.{version_put, body_put}
use Rattle.ov_sqlite.proofs.FourTexts.{four_cells_text, four_cells_terms, four_cells_parsed, four_cells_is, four_values, four_adds}
use Rattle.ov_sqlite.proofs.ManyLemmas.{InsertsAll, next_rows, inserts_all, all_put, all_numbered, cells_added}
use Rattle.ov_tables.proofs.MetaLemmas.{first_among, head_not_cell, cell_not_head, meta_not_head, meta_not_cell, itself}

module _ (text : List ℕ) (old new : State) (stored : HoldsCells text old.now) (mode : IsTrue new.in_transaction) (was : IsTrue old.is_open) (committed : new.committed ≡ old.committed) where
  abbrev H : List Row
  H = rows_of_head old.now.trees

  abbrev C : List Row
  C = rows_of_cell old.now.trees

  abbrev h : ℕ
  h = tree_number old.now.schema (codes "head")

  abbrev c : ℕ
  c = tree_number old.now.schema (codes "cell")

  has : HasCellTables old.now.schema
  has = stored.format.schema

  pub heads_are : AllByRecursion (HasHead H) C
  heads_are = heads_each H C stored.format.owned

  -- `head` has other rows
  head_changed : (Became : CellLines → CellLines → Type 0) (rows : List Row) → Touches (head_table h) old.now new.now → rows_of_head new.now.trees ≡ rows → AllByRecursion IsHead rows → IsNumbered head_of rows
      → AllByRecursion (HasHead rows) C → Became (stored_cells old.now.trees) (cell_lines (map head_of rows) (map cell_of C)) → MakesRows Became text old new
  head_changed Became rows only are heads numbered owned became =
      let meta = rows_beside old.now new.now (head_table h) only (meta_table (tree_number old.now.schema (codes "meta"))) has.meta stored.sound (meta_not_head old.now.schema has) in
      let cells = rows_beside old.now new.now (head_table h) only (cell_table c) has.cell stored.sound (cell_not_head old.now.schema has) in
      record {
        mode = mode;
        opens = λ _. was;
        stored = λ _. record {
          format = record {
            schema = subst HasCellTables (sym only.schema) has;
            meta = subst (IsMeta 2 text) (sym meta) stored.format.meta;
            heads = subst (AllByRecursion IsHead) (sym are) heads;
            cells = subst (AllByRecursion IsCell) (sym cells) stored.format.cells;
            owned = rw (are, cells) (each_heads rows C owned);
          };
          heads_numbered = subst (IsNumbered head_of) (sym are) numbered;
          cells_numbered = subst (IsNumbered cell_of) (sym cells) stored.cells_numbered;
          sound = only.sound;
        };
        lines_are = rw (are, cells) became;
        meta = meta;
        schema = only.schema;
        others = others_kept old.now new.now (head_table h) only (row_trees old.now.schema) (first_among h (c ∷ []));
        committed = committed;
      }

  last_among : is_among (row_trees old.now.schema) c ≡ true
  last_among = in_second _ (itself c)
    where
      in_second : (a : Bool) {b : Bool} → b ≡ true → (a || (b || false)) ≡ true
      in_second true e = refl
      in_second false e = rw e refl

  -- `cell` has other rows
  cell_changed : (Became : CellLines → CellLines → Type 0) (rows : List Row) → Touches (cell_table c) old.now new.now → rows_of_cell new.now.trees ≡ rows → AllByRecursion IsCell rows → IsNumbered cell_of rows
      → AllByRecursion (HasHead H) rows → Became (stored_cells old.now.trees) (cell_lines (map head_of H) (map cell_of rows)) → MakesRows Became text old new
  cell_changed Became rows only are cells numbered owned became =
      let meta = rows_beside old.now new.now (cell_table c) only (meta_table (tree_number old.now.schema (codes "meta"))) has.meta stored.sound (meta_not_cell old.now.schema has) in
      let heads = rows_beside old.now new.now (cell_table c) only (head_table h) has.head stored.sound (head_not_cell old.now.schema has) in
      record {
        mode = mode;
        opens = λ _. was;
        stored = λ _. record {
          format = record {
            schema = subst HasCellTables (sym only.schema) has;
            meta = subst (IsMeta 2 text) (sym meta) stored.format.meta;
            heads = subst (AllByRecursion IsHead) (sym heads) stored.format.heads;
            cells = subst (AllByRecursion IsCell) (sym are) cells;
            owned = rw (heads, are) (each_heads H rows owned);
          };
          heads_numbered = subst (IsNumbered head_of) (sym heads) stored.heads_numbered;
          cells_numbered = subst (IsNumbered cell_of) (sym are) numbered;
          sound = only.sound;
        };
        lines_are = rw (heads, are) became;
        meta = meta;
        schema = only.schema;
        others = others_kept old.now new.now (cell_table c) only (row_trees old.now.schema) last_among;
        committed = committed;
      }

  module _ (k : LineKey) (count : ℕ) where
    pub cells_removed : Executes cell_delete_text (Text k.0 ∷ Blob k.1 ∷ []) old new (Ok count) → MakesRows (IsEmptied k) text old new
    cells_removed ran =
        let d = deletes old new (cell_table c) cell_delete_text key_terms (Text k.0 ∷ Blob k.1 ∷ []) cell_delete_parsed has.cell stored.sound (λ at it. cell_delete_is old.now.schema at c it) count ran in
        let keyed = all_weaker _ _ (λ r (is : IsCell r). is.keyed) C stored.format.cells in
        let left = d.left ∙ left_keyed k C d.rows keyed (numbered_part cell_of (λ c. c.key) C stored.cells_numbered) d.same in
        cell_changed (IsEmptied k) (others k C) d.only left (all-filter _ _ C stored.format.cells) (filter_numbered cell_of _ C stored.cells_numbered) (all-filter _ _ C heads_are) (emptied k H C)

    pub head_removed : IfSome (get (stored_cells old.now.trees) k) (λ l. l.1 ≡ empty) → Executes head_delete_text (Text k.0 ∷ Blob k.1 ∷ []) old new (Ok count) → MakesRows (Becomes (λ m. remove m k)) text old new
    head_removed none ran =
        let d = deletes old new (head_table h) head_delete_text key_terms (Text k.0 ∷ Blob k.1 ∷ []) head_delete_parsed has.head stored.sound (λ at it. head_delete_is old.now.schema at h it) count ran in
        let keyed = all_weaker _ _ (λ r (is : IsHead r). is.keyed) H stored.format.heads in
        let left = d.left ∙ left_keyed k H d.rows keyed (numbered_part head_of (λ x. x.key) H stored.heads_numbered) d.same in
        let absent = bare k H C heads_are none in
        head_changed (Becomes (λ m. remove m k)) (others k H) d.only left (all-filter _ _ H stored.format.heads) (filter_numbered head_of _ H stored.heads_numbered)
        (all_both _ _ _ (λ r there apart. head_stays k H r apart there) C heads_are absent) (ap (λ rows. cell_lines (map head_of (others k H)) (map cell_of rows)) (sym (others_all k C absent)) ∙ removed k H C)

    pub head_updated : (v : List ℕ) → length v ≡ 16 → Executes head_update_text (Text k.0 ∷ Blob k.1 ∷ Blob v ∷ []) old new (Ok count) → MakesRows (HasVersion k v) text old new
    head_updated v ver_sixteen ran =
        let d = head_updates old new h stored.sound k v ver_sixteen has.head stored.format.heads stored.heads_numbered count ran in
        let rows = rows_of_head new.now.trees in
        let table = subst (λ s. Rattle.ov_tables.specs.Tables.HasTable s (head_table h)) (sym d.only.schema) has.head in
        let apart : AreApart (1 ∷ 2 ∷ []) rows = apart_by_key new.now (codes "head") h _ (1 ∷ 2 ∷ []) table d.only.sound in
        let owned : AllByRecursion (HasHead rows) C =
        all_weaker _ _ (λ r there. sym (list_any-IsPermutation (has_key (row_key r)) (heads_with k v H) rows d.rows) ∙ keys_stay k v (row_key r) H ∙ there) C heads_are in
        head_changed (HasVersion k v) rows d.only refl d.heads d.numbered owned (version_put H rows C k v d.rows (agree_heads rows d.heads apart d.numbered))

    pub cell_updated : (name body : List ℕ) → Executes cell_update_text (Text k.0 ∷ Blob k.1 ∷ Text name ∷ Blob body ∷ []) old new (Ok count) → MakesRows (HasBody k name body) text old new
    cell_updated name body ran =
        let d = cell_updates old new c stored.sound k name body has.cell stored.format.cells stored.cells_numbered count ran in
        let rows = rows_of_cell new.now.trees in
        let table = subst (λ s. Rattle.ov_tables.specs.Tables.HasTable s (cell_table c)) (sym d.only.schema) has.cell in
        let apart : AreApart (1 ∷ 2 ∷ 3 ∷ []) rows = apart_by_key new.now (codes "cell") c _ (1 ∷ 2 ∷ 3 ∷ []) table d.only.sound in
        let kept : AllByRecursion (HasHead H) (cells_with k name body C) =
        map_all (HasHead H) _ C (all_weaker _ _ (λ r there. subst (λ q. list_any (has_key q) H ≡ true) (sym (cell_key_stays k name body r)) there) C heads_are) in
        let owned : AllByRecursion (HasHead H) rows = every_shuffled (HasHead H) (cells_with k name body C) rows d.rows kept in
        cell_changed (HasBody k name body) rows d.only refl d.cells d.numbered owned (λ was l there has. body_put H C rows k name body d.rows (agree_cells rows d.cells apart d.numbered) l was there has)

  module _ (t i : List ℕ) (named : IsUtf8 t) (id_sixteen : length i ≡ 16) (count : ℕ) where
    keyed_row : (r : Row) (n : ℤ) → column r 0 ≡ Rattle.sqlite.specs.declared.types.Value.TheVariants.Int n → column r 1 ≡ Text t → column r 2 ≡ Blob i → IsKeyed r
    keyed_row r n number tbl id = record { number = n; tbl = t; id = i; number_is = number; tbl_is = tbl; id_is = id; named = named; id_sixteen = id_sixteen }

    pub head_inserted : (v : List ℕ) → length v ≡ 16 → Executes head_insert_text (Text t ∷ Blob i ∷ Blob v ∷ []) old new (Ok count)
        → MakesRows (IsRowBegun (t, i) v) text old new
    head_inserted v ver_sixteen ran =
        let d = inserts old new (codes "head") h _ (1 ∷ 2 ∷ []) head_insert_text head_insert_terms 4 (Text t ∷ Blob i ∷ Blob v ∷ []) (head_row t i v) head_insert_parsed has.head stored.sound (λ at it. head_insert_is old.now.schema at h it) (head_adds h t i v) count ran in
        let x = head_row t i v d.number in
        let fresh = not_taken H x d.fresh in
        let is : IsHead x = record { keyed = keyed_row x d.number refl refl refl; ver = v; ver_is = refl; ver_sixteen = ver_sixteen } in
        let table = subst (λ s. Rattle.ov_tables.specs.Tables.HasTable s (head_table h)) (sym d.only.schema) has.head in
        let apart = subst (AreApart (1 ∷ 2 ∷ [])) d.rows (apart_by_key new.now (codes "head") h _ (1 ∷ 2 ∷ []) table d.only.sound) in
        let absent = new_head x H d.fresh stored.format.heads is apart in
        let none : get (stored_cells old.now.trees) (t, i) ≡ None = get_lines C H (t, i) ∙ ap (line_at C (t, i)) (passes_none (has_key (t, i)) H absent) in
        let bare_cells : IsAbsent (t, i) C = bare (t, i) H C heads_are (subst (λ o. IfSome o (λ l. l.1 ≡ empty)) (sym none) tt) in
        head_changed (IsRowBegun (t, i) v) (put_row x H) d.only d.rows (all-put_row IsHead x H is stored.format.heads) (put_numbered head_of x H fresh stored.heads_numbered)
        (all_weaker _ _ (λ r there. any_put (has_key (row_key r)) x H fresh ∙ or_true _ _ there) C heads_are) (none, headed x H C fresh absent bare_cells)
      where
        or_true : (a b : Bool) → b ≡ true → (a || b) ≡ true
        or_true true b e = refl
        or_true false b e = e

    pub cell_inserted : (name body : List ℕ) (l : CellLine) → IsUtf8 name → get (stored_cells old.now.trees) (t, i) ≡ Some l → Executes cell_insert_text (Text t ∷ Blob i ∷ Text name ∷ Blob body ∷ []) old new (Ok count)
        → MakesRows (IsCellAdded (t, i) name body) text old new
    cell_inserted name body l col_named line ran =
        let d = inserts old new (codes "cell") c _ (1 ∷ 2 ∷ 3 ∷ []) cell_insert_text cell_insert_terms 5 (Text t ∷ Blob i ∷ Text name ∷ Blob body ∷ []) (cell_row t i name body) cell_insert_parsed has.cell stored.sound (λ at it. cell_insert_is old.now.schema at c it) (cell_adds c t i name body) count ran in
        let x = cell_row t i name body d.number in
        let fresh = not_taken C x d.fresh in
        let is : IsCell x = record { keyed = keyed_row x d.number refl refl refl; col = name; body = body; col_is = refl; body_is = refl; col_named = col_named } in
        let table = subst (λ s. Rattle.ov_tables.specs.Tables.HasTable s (cell_table c)) (sym d.only.schema) has.cell in
        let apart = subst (AreApart (1 ∷ 2 ∷ 3 ∷ [])) d.rows (apart_by_key new.now (codes "cell") c _ (1 ∷ 2 ∷ 3 ∷ []) table d.only.sound) in
        let free = new_cell x C d.fresh stored.format.cells is apart in
        cell_changed (IsCellAdded (t, i) name body) (put_row x C) d.only d.rows (all-put_row IsCell x C is stored.format.cells) (put_numbered cell_of x C fresh stored.cells_numbered)
        (all-put_row (HasHead H) x C (head_there H C x l line) heads_are) (λ l e. celled x C fresh free H l e)

    abbrev pub cell_rows : List CellEntry → List (ℤ → Row)
    cell_rows entries = map (λ (e : CellEntry). cell_row t i e.0 e.1) entries

    rows_are_cells : (entries : List CellEntry) (rows : List Row) → AllByRecursion (λ (e : CellEntry). IsUtf8 e.0) entries → AllByRecursion (λ x. IsCell x × (row_key x ≡ (t, i))) (next_rows (cell_rows entries) rows)
    rows_are_cells [] rows all = tt
    rows_are_cells (e ∷ entries) rows all =
        let n = next_rowid rows in
        let x = cell_row t i e.0 e.1 n in
        ((record { keyed = keyed_row x n refl refl refl; col = e.0; body = e.1; col_is = refl; body_is = refl; col_named = all.0 }, refl), rows_are_cells entries (put_row x rows) all.1)

    rows_have : (entries : List CellEntry) (rows : List Row) → map entry_in (next_rows (cell_rows entries) rows) ≡ entries
    rows_have [] rows = refl
    rows_have (e ∷ entries) rows = ap (λ es. e ∷ es) (rows_have entries (put_row (cell_row t i e.0 e.1 (next_rowid rows)) rows))

    -- `cell` has more rows, each a cell of this row
    more_inserted : (entries : List CellEntry) (l : CellLine) → AllByRecursion (λ (e : CellEntry). IsUtf8 e.0) entries → get (stored_cells old.now.trees) (t, i) ≡ Some l → InsertsAll (cell_table c) (cell_rows entries) old new → MakesRows (AreCellsAdded (t, i) entries) text old new
    more_inserted entries l named_all line d =
        let xs = next_rows (cell_rows entries) C in
        let are = rows_are_cells entries C named_all in
        let cells = all_weaker _ IsCell (λ x (it : IsCell x × (row_key x ≡ (t, i))). it.0) xs are in
        let owned = all_weaker _ (HasHead H) (λ x (it : IsCell x × (row_key x ≡ (t, i))). head_there H C x l (subst (λ (k : LineKey). get (stored_cells old.now.trees) k ≡ Some l) (sym it.1) line)) xs are in
        let table = subst (λ s. Rattle.ov_tables.specs.Tables.HasTable s (cell_table c)) (sym d.only.schema) has.cell in
        let apart = subst (AreApart (1 ∷ 2 ∷ 3 ∷ [])) d.rows (apart_by_key new.now (codes "cell") c _ (1 ∷ 2 ∷ 3 ∷ []) table d.only.sound) in
        let added = cells_added H (t, i) xs C l d.fresh stored.format.cells are apart line in
        cell_changed (AreCellsAdded (t, i) entries) (put_all C xs) d.only d.rows (all_put IsCell xs C cells stored.format.cells) (all_numbered cell_of xs C d.fresh stored.cells_numbered) (all_put (HasHead H) xs C owned heads_are)
        (subst (λ es. AreCellsAdded (t, i) es (stored_cells old.now.trees) (cell_lines (map head_of H) (map cell_of (put_all C xs)))) (rows_have entries C) added)

    pub four_inserted : (p q r s : CellEntry) (l : CellLine) → IsUtf8 p.0 → IsUtf8 q.0 → IsUtf8 r.0 → IsUtf8 s.0 → get (stored_cells old.now.trees) (t, i) ≡ Some l
        → Executes four_cells_text (four_values t i p q r s) old new (Ok count) → MakesRows (AreCellsAdded (t, i) (p ∷ q ∷ r ∷ s ∷ [])) text old new
    four_inserted p q r s l np nq nr ns line ran =
        more_inserted (p ∷ q ∷ r ∷ s ∷ []) l (np, (nq, (nr, (ns, tt)))) line
        (inserts_all old new (codes "cell") c _ (1 ∷ 2 ∷ 3 ∷ []) four_cells_text four_cells_terms 5 (four_values t i p q r s) (cell_rows (p ∷ q ∷ r ∷ s ∷ [])) four_cells_parsed has.cell stored.sound (λ at it. four_cells_is old.now.schema at c it) (four_adds c t i p q r s) count ran)
