-- From the rows that are read to what the tables hold.
use Rattle.std.proofs.Common.{◌≡◌, ◌≢◌, ◌⊎◌, inl, inr, ℕ, ◌+◌, List, [], ◌∷◌, map, find, Bool, true, false, ◌||◌, Option, Some, None, option_map, refl, sym, ap, ap₂, subst, ◌∙◌, length, get_or, arith, codes}
use Rattle.std.specs.List.{AllByRecursion, list_any}
use Rattle.std.specs.List.Sorted.{IsPermutation}
use Rattle.std.specs.FinMap.{from_entries, get-from_entries, same_map}
use Rattle.std.specs.FinMap.{find as entry_at}
use Rattle.std.proofs.lemmas.List.Sorted.{IsPermutation-sym, length_permutation, list_any-IsPermutation}
use Rattle.std.specs.Cmp.{eq_by_cmp_equiv}
use Rattle.std.specs.Ordering.{is_eq}
use Rattle.sqlite.specs.declared.types.Value.TheVariants.{Text, Blob}
use Rattle.sqlite.specs.Order.{Row, column, value_cmp}
use Rattle.sqlite.specs.Tree.{Trees}
use Rattle.sqlite_value.specs.Order.{bytes}
use Rattle.sqlite_value.specs.declared.value.Value.{Value}
use Rattle.sqlite_value.proofs.OrderLemmas.{value_cmp-Text, value_cmp-Blob, value_cmp_total}
use Rattle.sqlite_trees.proofs.ListLemmas.{all_weaker, all_both}
use Rattle.sqlite.specs.Effect.{Database, IsDatabase}
use Rattle.ov_specs.specs.rows.Lines.{LineKey, LineBody, line_cmp}
use Rattle.ov_specs.specs.rows.Cells.{Whole, InCells, cell_lines, cells_at, have_heads}
use Rattle.ov_specs.proofs.laws.LineKeys.{key_total, key_exact}
use Rattle.ov_tables.specs.Tables.{line_table, HasTable, HasCellTables}
use Rattle.ov_tables.specs.Format.{IsKeyed, IsLine, IsHead, IsCell, IsMeta, IsFormatRow, IsSchemaRow, row_key, entry, head_of, cell_of, is_cells_row, stored_schema, stored_lines, stored_cells, stored_in, rows_of_meta, rows_of_line, rows_of_head, rows_of_cell}
use Rattle.ov_tables.specs.Holding.{IsNumbered, HoldsLines, HoldsCells}
use Rattle.ov_sqlite.specs.Joining.{AreDistinct, AreNumbered}
use Rattle.ov_tables.specs.Querying.{meta_selected, head_selected, row_selected}
use Rattle.ov_sqlite.proofs.OpenLemmas.{every_shuffled}
use Rattle.ov_tables.proofs.RowLemmas.{has_key}
use Rattle.ov_sqlite.proofs.CellLemmas.{names_total, names_exact, HasHead, heads_each, each_heads, has_cell, keyed, get_cells, get_lines, line_at}
use Rattle.ov_sqlite.proofs.KeyLemmas.{Agree, AreApart, Apart, same_found, selected_found, apart_by_key, key_number, agree_heads, agree_cells}

pub all_map : {X Y : Type 0} (P : Y → Type 0) (f : X → Y) (xs : List X) → AllByRecursion P (map f xs) → AllByRecursion (λ x. P (f x)) xs
all_map P f [] all = tt
all_map P f (x ∷ xs) all = (all.0, all_map P f xs all.1)

pub map_all : {X Y : Type 0} (P : Y → Type 0) (f : X → Y) (xs : List X) → AllByRecursion (λ x. P (f x)) xs → AllByRecursion P (map f xs)
map_all P f [] all = tt
map_all P f (x ∷ xs) all = (all.0, map_all P f xs all.1)

-- ---- rows of which the columns were read

module _ (selected : Row → Row) (stored read : List Row) (same : IsPermutation (map selected stored) read) where
  pub stored_all : (P : Row → Type 0) → ((r : Row) → P (selected r) → P r) → AllByRecursion P read → AllByRecursion P stored
  stored_all P back all = all_weaker _ _ back stored (all_map P selected stored (every_shuffled P read (map selected stored) (IsPermutation-sym (map selected stored) read same) all))

  pub read_all : (P : Row → Type 0) → ((r : Row) → P r → P (selected r)) → AllByRecursion P stored → AllByRecursion P read
  read_all P shown all = every_shuffled P (map selected stored) read same (map_all P selected stored (all_weaker _ _ shown stored all))

  pub stored_numbered : {X : Type 0} (is : Row → X) → ((r : Row) → is (selected r) ≡ is r) → ((r : Row) → column (selected r) 0 ≡ column r 0) → IsNumbered (λ r. r) read → IsNumbered is stored
  stored_numbered is kept number numbered =
      let back = IsPermutation-sym (map selected stored) read same in
      let outer = all_map _ selected stored (every_shuffled _ read (map selected stored) back numbered) in
      all_weaker _ _ (λ r ones. all_weaker _ _ (λ s one e. sym (kept s) ∙ ap is (one (number s ∙ e ∙ sym (number r))) ∙ kept r) stored (all_map _ selected stored (every_shuffled _ read (map selected stored) back ones))) stored outer

keyed_shown : (sel : Row → Row) (r : Row) → column (sel r) 0 ≡ column r 0 → column (sel r) 1 ≡ column r 1 → column (sel r) 2 ≡ column r 2 → IsKeyed r → IsKeyed (sel r)
keyed_shown sel r a b c k = record { number = k.number; tbl = k.tbl; id = k.id; number_is = a ∙ k.number_is; tbl_is = b ∙ k.tbl_is; id_is = c ∙ k.id_is; named = k.named; id_sixteen = k.id_sixteen }

shown_keyed : (sel : Row → Row) (r : Row) → column (sel r) 0 ≡ column r 0 → column (sel r) 1 ≡ column r 1 → column (sel r) 2 ≡ column r 2 → IsKeyed (sel r) → IsKeyed r
shown_keyed sel r a b c k = record { number = k.number; tbl = k.tbl; id = k.id; number_is = sym a ∙ k.number_is; tbl_is = sym b ∙ k.tbl_is; id_is = sym c ∙ k.id_is; named = k.named; id_sixteen = k.id_sixteen }

pub line_shown : (r : Row) → IsLine r → IsLine (row_selected r)
line_shown r l = record { keyed = keyed_shown row_selected r refl refl refl l.keyed; ver = l.ver; body = l.body; ver_is = l.ver_is; body_is = l.body_is; ver_sixteen = l.ver_sixteen }

pub shown_line : (r : Row) → IsLine (row_selected r) → IsLine r
shown_line r l = record { keyed = shown_keyed row_selected r refl refl refl l.keyed; ver = l.ver; body = l.body; ver_is = l.ver_is; body_is = l.body_is; ver_sixteen = l.ver_sixteen }

pub head_shown : (r : Row) → IsHead r → IsHead (head_selected r)
head_shown r l = record { keyed = keyed_shown head_selected r refl refl refl l.keyed; ver = l.ver; ver_is = l.ver_is; ver_sixteen = l.ver_sixteen }

pub shown_head : (r : Row) → IsHead (head_selected r) → IsHead r
shown_head r l = record { keyed = shown_keyed head_selected r refl refl refl l.keyed; ver = l.ver; ver_is = l.ver_is; ver_sixteen = l.ver_sixteen }

pub cell_shown : (r : Row) → IsCell r → IsCell (row_selected r)
cell_shown r l = record { keyed = keyed_shown row_selected r refl refl refl l.keyed; col = l.col; body = l.body; col_is = l.col_is; body_is = l.body_is; col_named = l.col_named }

pub shown_cell : (r : Row) → IsCell (row_selected r) → IsCell r
shown_cell r l = record { keyed = shown_keyed row_selected r refl refl refl l.keyed; col = l.col; body = l.body; col_is = l.col_is; body_is = l.body_is; col_named = l.col_named }

-- ---- the rows of `meta`

-- two elements in some order
pair_of : {X : Type 0} (xs : List X) (a b : X) → IsPermutation xs (a ∷ b ∷ []) → (xs ≡ a ∷ b ∷ []) ⊎ (xs ≡ b ∷ a ∷ [])
pair_of {X} xs a b same = go xs same (length_permutation xs (a ∷ b ∷ []) same)
  where
    one_of : X → X → X → Type 0
    one_of u v z = (z ≡ u) ⊎ (z ≡ v)

    both : (x y : X) → (x ≡ a) ⊎ (x ≡ b) → (y ≡ a) ⊎ (y ≡ b) → (a ≡ x) ⊎ (a ≡ y) → (b ≡ x) ⊎ (b ≡ y) → (x ∷ y ∷ [] ≡ a ∷ b ∷ []) ⊎ (x ∷ y ∷ [] ≡ b ∷ a ∷ [])
    both x y (inl xa) (inl ya) p (inl bx) = inl (ap₂ (λ u v. u ∷ v ∷ []) xa (ya ∙ sym xa ∙ sym bx))
    both x y (inl xa) (inl ya) p (inr by) = inl (ap₂ (λ u v. u ∷ v ∷ []) xa (sym by))
    both x y (inl xa) (inr yb) p q = inl (ap₂ (λ u v. u ∷ v ∷ []) xa yb)
    both x y (inr xb) (inl ya) p q = inr (ap₂ (λ u v. u ∷ v ∷ []) xb ya)
    both x y (inr xb) (inr yb) (inl ax) q = inr (ap₂ (λ u v. u ∷ v ∷ []) xb (yb ∙ sym xb ∙ sym ax))
    both x y (inr xb) (inr yb) (inr ay) q = inr (ap₂ (λ u v. u ∷ v ∷ []) xb (sym ay))

    go : (xs : List X) → IsPermutation xs (a ∷ b ∷ []) → length (a ∷ b ∷ []) ≡ length xs → (xs ≡ a ∷ b ∷ []) ⊎ (xs ≡ b ∷ a ∷ [])
    go [] same len = absurd (omega arith)
    go (x ∷ []) same len = absurd (omega arith)
    go (x ∷ y ∷ []) same len =
        let there = every_shuffled (one_of a b) (a ∷ b ∷ []) (x ∷ y ∷ []) (IsPermutation-sym (x ∷ y ∷ []) (a ∷ b ∷ []) same) (inl refl, (inr refl, tt)) in
        let back = every_shuffled (one_of x y) (x ∷ y ∷ []) (a ∷ b ∷ []) same (inl refl, (inr refl, tt)) in
        both x y there.0 there.1.0 back.0 back.1.0
    go (x ∷ y ∷ z ∷ more) same len = absurd (omega arith)

map_two : {X Y : Type 0} (f : X → Y) (xs : List X) (a b : Y) → map f xs ≡ a ∷ b ∷ [] → (x : X) × (y : X) × (xs ≡ x ∷ y ∷ []) × (f x ≡ a) × (f y ≡ b)
map_two f [] a b e = absurd (omega (arith, ap length e))
map_two f (x ∷ []) a b e = absurd (omega (arith, ap length e))
map_two f (x ∷ y ∷ []) a b e = (x, y, refl, ap (λ zs. get_or zs 0 a) e, ap (λ zs. get_or zs 1 b) e)
map_two f (x ∷ y ∷ z ∷ more) a b e = absurd (omega (arith, ap length e))

format_row : (n : ℕ) (x a : Row) → meta_selected x ≡ a → IsFormatRow n a → IsFormatRow n x
format_row n x a e f = record { number = f.number; number_is = ap (λ r. column r 0) e ∙ f.number_is; key = ap (λ r. column r 1) e ∙ f.key; value = ap (λ r. column r 2) e ∙ f.value; known = f.known }

schema_row : (text : List ℕ) (x a : Row) → meta_selected x ≡ a → IsSchemaRow text a → IsSchemaRow text x
schema_row text x a e s = record { number = s.number; number_is = ap (λ r. column r 0) e ∙ s.number_is; key = ap (λ r. column r 1) e ∙ s.key; value = ap (λ r. column r 2) e ∙ s.value; utf8 = s.utf8 }

format_shown : (n : ℕ) (x : Row) → IsFormatRow n x → IsFormatRow n (meta_selected x)
format_shown n x f = record { number = f.number; number_is = f.number_is; key = f.key; value = f.value; known = f.known }

schema_shown : (text : List ℕ) (x : Row) → IsSchemaRow text x → IsSchemaRow text (meta_selected x)
schema_shown text x s = record { number = s.number; number_is = s.number_is; key = s.key; value = s.value; utf8 = s.utf8 }

module _ (n : ℕ) (text : List ℕ) (stored read : List Row) (same : IsPermutation (map meta_selected stored) read) where
  pub meta_stored : IsMeta n text read → IsMeta n text stored
  meta_stored m = go (pair_of (map meta_selected stored) m.first m.second (subst (IsPermutation (map meta_selected stored)) m.all same)) m.are
    where
      go : (map meta_selected stored ≡ m.first ∷ m.second ∷ []) ⊎ (map meta_selected stored ≡ m.second ∷ m.first ∷ []) → (IsFormatRow n m.first × IsSchemaRow text m.second) ⊎ (IsSchemaRow text m.first × IsFormatRow n m.second) → IsMeta n text stored
      go (inl e) (inl p) = let t = map_two meta_selected stored m.first m.second e in record { first = t.0; second = t.1; all = t.2; are = inl (format_row n t.0 m.first t.3 p.0, schema_row text t.1 m.second t.4 p.1) }
      go (inl e) (inr p) = let t = map_two meta_selected stored m.first m.second e in record { first = t.0; second = t.1; all = t.2; are = inr (schema_row text t.0 m.first t.3 p.0, format_row n t.1 m.second t.4 p.1) }
      go (inr e) (inl p) = let t = map_two meta_selected stored m.second m.first e in record { first = t.0; second = t.1; all = t.2; are = inr (schema_row text t.0 m.second t.3 p.1, format_row n t.1 m.first t.4 p.0) }
      go (inr e) (inr p) = let t = map_two meta_selected stored m.second m.first e in record { first = t.0; second = t.1; all = t.2; are = inl (format_row n t.0 m.second t.3 p.1, schema_row text t.1 m.first t.4 p.0) }

  pub meta_read : IsMeta n text stored → IsMeta n text read
  meta_read m =
      let shows = ap (map meta_selected) m.all in
      go (pair_of read (meta_selected m.first) (meta_selected m.second) (IsPermutation-sym _ read (subst (λ xs. IsPermutation xs read) shows same))) m.are
    where
      go : (read ≡ meta_selected m.first ∷ meta_selected m.second ∷ []) ⊎ (read ≡ meta_selected m.second ∷ meta_selected m.first ∷ []) → (IsFormatRow n m.first × IsSchemaRow text m.second) ⊎ (IsSchemaRow text m.first × IsFormatRow n m.second) → IsMeta n text read
      go (inl e) (inl p) = record { first = meta_selected m.first; second = meta_selected m.second; all = e; are = inl (format_shown n m.first p.0, schema_shown text m.second p.1) }
      go (inl e) (inr p) = record { first = meta_selected m.first; second = meta_selected m.second; all = e; are = inr (schema_shown text m.first p.0, format_shown n m.second p.1) }
      go (inr e) (inl p) = record { first = meta_selected m.second; second = meta_selected m.first; all = e; are = inr (schema_shown text m.second p.1, format_shown n m.first p.0) }
      go (inr e) (inr p) = record { first = meta_selected m.second; second = meta_selected m.first; all = e; are = inl (format_shown n m.second p.1, schema_shown text m.first p.0) }

-- ---- what `meta` says

text_itself : (v : Value) (t : List ℕ) → v ≡ Text t → is_eq (value_cmp v (Text t)) ≡ true
text_itself v t e = rw e ((eq_by_cmp_equiv value_cmp_total).refl (Text t))

format_no_schema : (v : Value) → v ≡ Text (codes "format") → is_eq (value_cmp v (Text (codes "schema"))) ≡ false
format_no_schema v e = rw e (ap is_eq (value_cmp-Text (codes "format") (codes "schema")))

schema_no_format : (v : Value) → v ≡ Text (codes "schema") → is_eq (value_cmp v (Text (codes "format"))) ≡ false
schema_no_format v e = rw e (ap is_eq (value_cmp-Text (codes "schema") (codes "format")))

-- the text that `meta` gives
pub schema_is : (n : ℕ) (text : List ℕ) (rows : List Row) → IsMeta n text rows → stored_schema rows ≡ text
schema_is n text rows m = ap stored_schema m.all ∙ go m.are
  where
    go : (IsFormatRow n m.first × IsSchemaRow text m.second) ⊎ (IsSchemaRow text m.first × IsFormatRow n m.second) → stored_schema (m.first ∷ m.second ∷ []) ≡ text
    go (inl p) = rw (format_no_schema (column m.first 1) p.0.key, text_itself (column m.second 1) (codes "schema") p.1.key) (ap bytes p.1.value)
    go (inr p) = rw (text_itself (column m.first 1) (codes "schema") p.0.key) (ap bytes p.0.value)

-- whether a row names format 2
names_two : (v : Value) → v ≡ Blob ((48 + 2) ∷ []) → is_eq (value_cmp v (Blob ((48 + 2) ∷ []))) ≡ true
names_two v e = rw e ((eq_by_cmp_equiv value_cmp_total).refl (Blob ((48 + 2) ∷ [])))

names_one : (v : Value) → v ≡ Blob ((48 + 1) ∷ []) → is_eq (value_cmp v (Blob ((48 + 2) ∷ []))) ≡ false
names_one v e = rw e (ap is_eq (value_cmp-Blob ((48 + 1) ∷ []) ((48 + 2) ∷ [])))

pub names_cells : (text : List ℕ) (rows : List Row) → IsMeta 2 text rows → list_any is_cells_row rows ≡ true
names_cells text rows m = ap (list_any is_cells_row) m.all ∙ go m.are
  where
    go : (IsFormatRow 2 m.first × IsSchemaRow text m.second) ⊎ (IsSchemaRow text m.first × IsFormatRow 2 m.second) → list_any is_cells_row (m.first ∷ m.second ∷ []) ≡ true
    go (inl p) = rw (text_itself (column m.first 1) (codes "format") p.0.key, names_two (column m.first 2) p.0.value) refl
    go (inr p) = rw (schema_no_format (column m.first 1) p.0.key, text_itself (column m.second 1) (codes "format") p.1.key, names_two (column m.second 2) p.1.value) refl

pub names_lines : (text : List ℕ) (rows : List Row) → IsMeta 1 text rows → list_any is_cells_row rows ≡ false
names_lines text rows m = ap (list_any is_cells_row) m.all ∙ go m.are
  where
    go : (IsFormatRow 1 m.first × IsSchemaRow text m.second) ⊎ (IsSchemaRow text m.first × IsFormatRow 1 m.second) → list_any is_cells_row (m.first ∷ m.second ∷ []) ≡ false
    go (inl p) = rw (text_itself (column m.first 1) (codes "format") p.0.key, names_one (column m.first 2) p.0.value, schema_no_format (column m.second 1) p.1.key) refl
    go (inr p) = rw (schema_no_format (column m.first 1) p.0.key, text_itself (column m.second 1) (codes "format") p.1.key, names_one (column m.second 2) p.1.value) refl

-- what is held in format 2, by what `meta` says
pub held_cells_meta : (text : List ℕ) (trees : Trees) → IsMeta 2 text (rows_of_meta trees) → stored_in trees ≡ record { schema = text; lines = InCells (stored_cells trees) }
held_cells_meta text trees m = rw (schema_is 2 text (rows_of_meta trees) m, names_cells text (rows_of_meta trees) m) refl

pub held_cells : (text : List ℕ) (db : Database) → HoldsCells text db → stored_in db.trees ≡ record { schema = text; lines = InCells (stored_cells db.trees) }
held_cells text db it = held_cells_meta text db.trees it.format.meta

pub held_lines : (text : List ℕ) (db : Database) → HoldsLines text db → stored_in db.trees ≡ record { schema = text; lines = Whole (stored_lines (rows_of_line db.trees)) }
held_lines text db it = rw (schema_is 1 text (rows_of_meta db.trees) it.format.meta, names_lines text (rows_of_meta db.trees) it.format.meta) refl

-- ---- the order in which the rows are read

agree_selected : (p : Row → Bool) (V : Type 0) (f : Row → V) (selected : Row → Row) (rows : List Row) → ((r : Row) → p (selected r) ≡ p r) → ((r : Row) → f (selected r) ≡ f r) → Agree p f rows → Agree p f (map selected rows)
agree_selected p V f selected rows test value ones =
    map_all _ selected rows (all_weaker _ _ (λ r inner. map_all _ selected rows (all_weaker _ _ (λ s one here there. value s ∙ one (sym (test r) ∙ here) (sym (test s) ∙ there) ∙ sym (value r)) rows inner)) rows ones)

module _ (db : Database) (l : ℕ) (has : HasTable db.schema (line_table l)) (sound : IsDatabase db) (are : AllByRecursion IsLine (rows_of_line db.trees)) (numbered : IsNumbered entry (rows_of_line db.trees)) (read : List Row)
    (same : IsPermutation (map row_selected (rows_of_line db.trees)) read) where
  abbrev L : List Row
  L = rows_of_line db.trees

  agree_lines : (q : LineKey) → Agree (has_key q) (λ r. (entry r).1) L
  agree_lines q = all_both _ _ _ (λ r m rest. all_both _ _ _ (λ s n both here there. one r s m n both here there) L line_keys rest) L line_keys
      (all_both _ _ _ (λ r apart ones. all_both _ _ _ (λ s a o. (a, o)) L apart ones) L (apart_by_key db (codes "line") _ _ (1 ∷ 2 ∷ []) has sound) numbered)
    where
      line_keys : AllByRecursion IsKeyed L
      line_keys = all_weaker _ _ (λ r (is : IsLine r). is.keyed) L are

      one : (r s : Row) → IsKeyed r → IsKeyed s → Apart (1 ∷ 2 ∷ []) r s × (column s 0 ≡ column r 0 → entry s ≡ entry r) → has_key q r ≡ true → has_key q s ≡ true → (entry s).1 ≡ (entry r).1
      one r s m n both here there = ap (λ (e : LineKey × LineBody). e.1) (both.1 (key_number s r n m (sym (keyed q s there) ∙ keyed q r here) both.0))

  in_entries : (q : LineKey) (rows : List Row) → entry_at line_cmp q (map entry rows) ≡ option_map (λ r. (entry r).1) (find (has_key q) rows)
  in_entries q [] = refl
  in_entries q (r ∷ rows) = elim (has_key q r) as (λ b. Rattle.std.proofs.Common.cond b (Some (entry r).1) (entry_at line_cmp q (map entry rows)) ≡ option_map (λ r. (entry r).1) (Rattle.std.proofs.Common.cond b (Some r) (find (has_key q) rows))) [
    | true ↦ refl
    | false ↦ in_entries q rows
  ]

  -- the lines that were read are those that are stored
  pub lines_same : stored_lines L ≡ from_entries (map entry read)
  lines_same = same_map key_total key_exact _ _ (λ q.
      get-from_entries key_total (map entry L) q ∙ in_entries q L
      ∙ sym (selected_found (has_key q) (λ r. (entry r).1) row_selected (λ r. refl) (λ r. refl) L)
      ∙ same_found (has_key q) (λ r. (entry r).1) (map row_selected L) read same (agree_selected (has_key q) _ (λ r. (entry r).1) row_selected L (λ r. refl) (λ r. refl) (agree_lines q))
      ∙ sym (in_entries q read) ∙ sym (get-from_entries key_total (map entry read) q))

module _ (db : Database) (has : HasCellTables db.schema) (sound : IsDatabase db) (heads_are : AllByRecursion IsHead (rows_of_head db.trees)) (cells_are : AllByRecursion IsCell (rows_of_cell db.trees))
    (heads_numbered : IsNumbered head_of (rows_of_head db.trees)) (cells_numbered : IsNumbered cell_of (rows_of_cell db.trees)) (heads cells : List Row) (same_heads : IsPermutation (map head_selected (rows_of_head db.trees)) heads) (same_cells : IsPermutation (map row_selected (rows_of_cell db.trees)) cells) where
  abbrev H : List Row
  H = rows_of_head db.trees

  abbrev C : List Row
  C = rows_of_cell db.trees

  heads_apart : AreApart (1 ∷ 2 ∷ []) H
  heads_apart = apart_by_key db (codes "head") _ _ (1 ∷ 2 ∷ []) has.head sound

  cells_apart : AreApart (1 ∷ 2 ∷ 3 ∷ []) C
  cells_apart = apart_by_key db (codes "cell") _ _ (1 ∷ 2 ∷ 3 ∷ []) has.cell sound

  cells_same : (q : LineKey) → cells_at (map cell_of C) q ≡ cells_at (map cell_of cells) q
  cells_same q = same_map names_total names_exact _ _ (λ c.
      get_cells C q c ∙ sym (selected_found (has_cell q c) (λ r. bytes (column r 4)) row_selected (λ r. refl) (λ r. refl) C)
      ∙ same_found (has_cell q c) (λ r. bytes (column r 4)) (map row_selected C) cells same_cells (agree_selected (has_cell q c) _ (λ r. bytes (column r 4)) row_selected C (λ r. refl) (λ r. refl) (agree_cells C cells_are cells_apart cells_numbered q c))
      ∙ sym (get_cells cells q c))

  heads_same : (q : LineKey) → option_map (λ r. bytes (column r 3)) (find (has_key q) H) ≡ option_map (λ r. bytes (column r 3)) (find (has_key q) heads)
  heads_same q =
      sym (selected_found (has_key q) (λ r. bytes (column r 3)) head_selected (λ r. refl) (λ r. refl) H)
      ∙ same_found (has_key q) (λ r. bytes (column r 3)) (map head_selected H) heads same_heads (agree_selected (has_key q) _ (λ r. bytes (column r 3)) head_selected H (λ r. refl) (λ r. refl) (agree_heads H heads_are heads_apart heads_numbered q))

  -- the heads and cells that were read are those that are stored
  pub joined_same : stored_cells db.trees ≡ cell_lines (map head_of heads) (map cell_of cells)
  joined_same = same_map key_total key_exact _ _ (λ q. get_lines C H q ∙ at q (find (has_key q) H) (find (has_key q) heads) (heads_same q) ∙ sym (get_lines cells heads q))
    where
      at : (q : LineKey) (o p : Option Row) → option_map (λ r. bytes (column r 3)) o ≡ option_map (λ r. bytes (column r 3)) p → line_at C q o ≡ line_at cells q p
      at q None None e = refl
      at q None (Some s) e = absurd cc
      at q (Some r) None e = absurd cc
      at q (Some r) (Some s) e = let version : bytes (column r 3) ≡ bytes (column s 3) = cc in ap₂ (λ v m. Some (v, m)) version (cells_same q)

module _ (db : Database) (has : HasCellTables db.schema) (sound : IsDatabase db) (heads_are : AllByRecursion IsHead (rows_of_head db.trees)) (heads : List Row) (same_heads : IsPermutation (map head_selected (rows_of_head db.trees)) heads) where
  heads_keyed : AllByRecursion IsKeyed heads
  heads_keyed = all_weaker _ _ (λ r (is : IsHead r). is.keyed) heads (read_all head_selected (rows_of_head db.trees) heads same_heads IsHead head_shown heads_are)

  heads_apart_read : AreApart (1 ∷ 2 ∷ []) heads
  heads_apart_read =
      let stored = rows_of_head db.trees in
      every_shuffled _ (map head_selected stored) heads same_heads
      (map_all _ head_selected stored (all_weaker _ _ (λ r inner. every_shuffled _ (map head_selected stored) heads same_heads (map_all (Apart (1 ∷ 2 ∷ []) (head_selected r)) head_selected stored (all_weaker _ _ (λ s a. a) stored inner))) stored (apart_by_key db (codes "head") _ _ (1 ∷ 2 ∷ []) has.head sound)))

  -- no two heads that were read have one key
  pub heads_distinct : AreNumbered heads → AreDistinct heads
  heads_distinct numbers = go heads numbers heads_keyed heads_apart_read
    where
      go : (rows : List Row) → AreNumbered rows → AllByRecursion IsKeyed rows → AreApart (1 ∷ 2 ∷ []) rows → AreDistinct rows
      go [] n k a = tt
      go (r ∷ rows) n k a = (
        all_both (λ s. IsKeyed s × Apart (1 ∷ 2 ∷ []) r s) (λ s. column r 0 ≢ column s 0) (λ s. row_key r ≢ row_key s) (λ s both other e. other (sym (key_number s r both.0 k.0 (sym e) both.1))) rows
            (all_both IsKeyed (Apart (1 ∷ 2 ∷ []) r) (λ s. IsKeyed s × Apart (1 ∷ 2 ∷ []) r s) (λ s l p. (l, p)) rows k.1 a.0.1) n.0,
        go rows n.1 k.1 (all_weaker _ _ (λ s (inner : AllByRecursion (Apart (1 ∷ 2 ∷ []) s) (r ∷ rows)). inner.1) rows a.1),
      )

module _ (stored_heads heads stored cells : List Row) (same_heads : IsPermutation (map head_selected stored_heads) heads) (same_cells : IsPermutation (map row_selected stored) cells) where
  any_head : (q : LineKey) → list_any (has_key q) stored_heads ≡ list_any (has_key q) heads
  any_head q = sym (any_map stored_heads) ∙ list_any-IsPermutation (has_key q) (map head_selected stored_heads) heads same_heads
    where
      any_map : (rows : List Row) → list_any (has_key q) (map head_selected rows) ≡ list_any (has_key q) rows
      any_map [] = refl
      any_map (r ∷ rows) = ap (λ b. has_key q r || b) (any_map rows)

  -- each cell that is stored has its head if each that was read has it, and the other way round
  pub owned_stored : have_heads (map head_of heads) (map cell_of cells) ≡ true → have_heads (map head_of stored_heads) (map cell_of stored) ≡ true
  owned_stored owned =
      each_heads stored_heads stored (stored_all row_selected stored cells same_cells (HasHead stored_heads) (λ r h. h) (all_weaker _ _ (λ r h. any_head (row_key r) ∙ h) cells (heads_each heads cells owned)))

  pub owned_read : have_heads (map head_of stored_heads) (map cell_of stored) ≡ true → have_heads (map head_of heads) (map cell_of cells) ≡ true
  owned_read owned =
      each_heads heads cells (all_weaker _ _ (λ r h. sym (any_head (row_key r)) ∙ h) cells (read_all row_selected stored cells same_cells (HasHead stored_heads) (λ r h. h) (heads_each stored_heads stored owned)))
