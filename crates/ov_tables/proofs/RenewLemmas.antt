-- A head that gets another version, and a cell that gets another body.
use Rattle.std.proofs.Common.{◌≡◌, ℕ, ℤ, List, [], ◌∷◌, map, filter, find, length, cond, Bool, true, false, ◌&&◌, ◌||◌, Some, Ok, option_map, refl, sym, ap, ap₂, ◌∙◌}
use Rattle.std.specs.List.{AllByRecursion, list_any}
use Rattle.std.specs.List.Sorted.{IsPermutation}
use Rattle.std.proofs.lemmas.List.Sorted.{IsPermutation-trans}
use Rattle.std.specs.Ordering.{eq_by_cmp}
use Rattle.sqlite.specs.declared.types.Value.{Value}
use Rattle.sqlite.specs.declared.types.Value.TheVariants.{Int, Text, Blob}
use Rattle.sqlite.specs.Order.{Row, column}
use Rattle.sqlite.specs.Ops.{unary}
use Rattle.sqlite.specs.Kind.TheVariants as kind
use Rattle.sqlite.specs.Cast.{cast}
use Rattle.sqlite_trees.proofs.ListLemmas.{filter_same, all_weaker, all-map, all-permutation, IsPermutation-same}
use Rattle.sqlite.specs.Effect.{IsDatabase}
use Rattle.sqlite.specs.State.{State, Executes}
use Rattle.ov_specs.specs.rows.Lines.{LineKey, line_cmp}
use Rattle.ov_specs.specs.rows.Cells.{Head, Cell}
use Rattle.ov_specs.specs.schema.SchemaTypes.{name_cmp}
use Rattle.ov_tables.specs.Tables.{HasTable, head_table, cell_table, head_update_text, cell_update_text}
use Rattle.ov_tables.specs.Format.{IsKeyed, IsHead, IsCell, row_key, head_of, cell_of, rows_of_head, rows_of_cell}
use Rattle.ov_tables.specs.Holding.{IsNumbered}
use Rattle.ov_tables.proofs.ListingLemmas.{Touches}
use Rattle.ov_tables.proofs.Statements.{key_terms, cell_key_terms, head_update_parsed, head_update_terms, cell_update_parsed, cell_update_terms}
use Rattle.ov_tables.proofs.RowLemmas.{has_key, passes_key, is_cell_at, passes_cell_at, keyed_number}
use Rattle.ov_tables.proofs.DeleteLemmas.{passing}
use Rattle.ov_tables.proofs.HeadTexts.{head_update_is}
use Rattle.ov_tables.proofs.CellTexts.{cell_update_is}
use Rattle.ov_tables.proofs.InsertLemmas.{either}
use Rattle.ov_tables.proofs.RemoveLemmas.{together_by}
use Rattle.ov_tables.proofs.UpdateLemmas.{made, renewed, updates, updated_rows}

-- a row of `head` with this version
abbrev pub with_version : List ℕ → Row → Row
with_version v r = column r 0 ∷ column r 1 ∷ column r 2 ∷ Blob v ∷ []

-- a row of `cell` with this body
abbrev pub with_body : List ℕ → Row → Row
with_body b r = column r 0 ∷ column r 1 ∷ column r 2 ∷ column r 3 ∷ Blob b ∷ []

-- the rows of `head`, where those of the key have this version
abbrev pub heads_with : LineKey → List ℕ → List Row → List Row
heads_with k v = map (renewed (has_key k) (with_version v))

-- the rows of `cell`, where those of the key and the column have this body
abbrev pub cells_with : LineKey → List ℕ → List ℕ → List Row → List Row
cells_with k name b = map (renewed (is_cell_at k name) (with_body b))

-- the line of `head` with this version, if it has the key
abbrev pub head_with : LineKey → List ℕ → Head → Head
head_with k v h = cond (eq_by_cmp line_cmp k h.key) (record { key = h.key; version = v }) h

-- the line of `cell` with this body, if it is the one of the key and the column
abbrev pub cell_with : LineKey → List ℕ → List ℕ → Cell → Cell
cell_with k name b c = cond (eq_by_cmp line_cmp k c.key && eq_by_cmp name_cmp name c.column) (record { key = c.key; column = c.column; body = b }) c

-- ---- rows as they are written

-- a number stays what it is where a column takes it
number_stays : (x : Value) (n : ℤ) → x ≡ Int n → cast kind.Integer x ≡ x
unfolding unary
number_stays x n e = rw e (either _ (Int n))

-- and so does a text
text_stays : (x : Value) (t : List ℕ) → x ≡ Text t → cast kind.Text x ≡ x
text_stays x t e = rw e refl

-- the statement makes the row with the version of a head
head_made : (l : ℕ) (k : LineKey) (v : List ℕ) (r : Row) → IsKeyed r → made (head_table l) head_update_terms (Text k.0 ∷ Blob k.1 ∷ Blob v ∷ []) r ≡ with_version v r
head_made l k v r is = ap₂ (λ n t. n ∷ t ∷ column r 2 ∷ Blob v ∷ []) (number_stays (column r 0) is.number is.number_is) (text_stays (column r 1) is.tbl is.tbl_is)

-- and the row with the body of a cell
cell_made : (l : ℕ) (k : LineKey) (name b : List ℕ) (r : Row) → IsCell r → made (cell_table l) cell_update_terms (Text k.0 ∷ Blob k.1 ∷ Text name ∷ Blob b ∷ []) r ≡ with_body b r
cell_made l k name b r is =
    ap₂ (λ n t. n ∷ t ∷ column r 2 ∷ cast kind.Text (column r 3) ∷ Blob b ∷ []) (number_stays (column r 0) is.keyed.number is.keyed.number_is) (text_stays (column r 1) is.keyed.tbl is.keyed.tbl_is)
    ∙ ap (λ c. column r 0 ∷ column r 1 ∷ column r 2 ∷ c ∷ Blob b ∷ []) (text_stays (column r 3) is.col is.col_is)

-- two changes that are the same for each row
map_same : (f g : Row → Row) (rows : List Row) → AllByRecursion (λ r. f r ≡ g r) rows → map f rows ≡ map g rows
map_same f g [] all = refl
map_same f g (r ∷ rows) all = ap₂ (λ x xs. x ∷ xs) all.0 (map_same f g rows all.1)

-- ---- what the rows are

-- a row with the number and the key of another
keyed_as : (r s : Row) → column s 0 ≡ column r 0 → column s 1 ≡ column r 1 → column s 2 ≡ column r 2 → IsKeyed r → IsKeyed s
keyed_as r s number tbl id is = record {
  number = is.number;
  tbl = is.tbl;
  id = is.id;
  number_is = number ∙ is.number_is;
  tbl_is = tbl ∙ is.tbl_is;
  id_is = id ∙ is.id_is;
  named = is.named;
  id_sixteen = is.id_sixteen;
}

-- heads stay heads
pub heads_stay : (k : LineKey) (v : List ℕ) (rows : List Row) → length v ≡ 16 → AllByRecursion IsHead rows → AllByRecursion IsHead (heads_with k v rows)
heads_stay k v rows sixteen heads =
    all-map IsHead _ rows (all_weaker _ _ (λ r (is : IsHead r). elim (has_key k r) as (λ b. IsHead (cond b (with_version v r) r)) [
      | true ↦ record { keyed = keyed_as r (with_version v r) refl refl refl is.keyed; ver = v; ver_is = refl; ver_sixteen = sixteen }
      | false ↦ is
    ]) rows heads)

-- cells stay cells
pub cells_stay : (k : LineKey) (name b : List ℕ) (rows : List Row) → AllByRecursion IsCell rows → AllByRecursion IsCell (cells_with k name b rows)
cells_stay k name b rows cells =
    all-map IsCell _ rows (all_weaker _ _ (λ r (is : IsCell r). elim (is_cell_at k name r) as (λ a. IsCell (cond a (with_body b r) r)) [
      | true ↦ record { keyed = keyed_as r (with_body b r) refl refl refl is.keyed; col = is.col; body = b; col_is = is.col_is; body_is = refl; col_named = is.col_named }
      | false ↦ is
    ]) rows cells)

-- a head keeps its key
pub head_key_stays : (k : LineKey) (v : List ℕ) (r : Row) → row_key (renewed (has_key k) (with_version v) r) ≡ row_key r
head_key_stays k v r = elim (has_key k r) as (λ b. row_key (cond b (with_version v r) r) ≡ row_key r) [ true ↦ refl | false ↦ refl ]

-- a cell keeps its key
pub cell_key_stays : (k : LineKey) (name b : List ℕ) (r : Row) → row_key (renewed (is_cell_at k name) (with_body b) r) ≡ row_key r
cell_key_stays k name b r = elim (is_cell_at k name r) as (λ a. row_key (cond a (with_body b r) r) ≡ row_key r) [ true ↦ refl | false ↦ refl ]

-- so each key has a head as before
pub keys_stay : (k : LineKey) (v : List ℕ) (q : LineKey) (rows : List Row) → list_any (has_key q) (heads_with k v rows) ≡ list_any (has_key q) rows
keys_stay k v q [] = refl
keys_stay k v q (r ∷ rows) = ap₂ (λ a b. a || b) (ap (eq_by_cmp line_cmp q) (head_key_stays k v r)) (keys_stay k v q rows)

-- what is found among changed rows is what becomes of the row that was found before
found_with : (p : Row → Bool) (g : Row → Row) → ((r : Row) → p (g r) ≡ p r) → (rows : List Row) → find p (map g rows) ≡ option_map g (find p rows)
found_with p g same [] = refl
found_with p g same (r ∷ rows) = go (p (g r)) (p r) (same r) (found_with p g same rows)
  where
    go : (a b : Bool) → a ≡ b → find p (map g rows) ≡ option_map g (find p rows) → cond a (Some (g r)) (find p (map g rows)) ≡ option_map g (cond b (Some r) (find p rows))
    go a true e later = rw e refl
    go a false e later = rw e later

-- the head of each key is found as before
pub heads_found : (k : LineKey) (v : List ℕ) (q : LineKey) (rows : List Row) → find (has_key q) (heads_with k v rows) ≡ option_map (renewed (has_key k) (with_version v)) (find (has_key q) rows)
heads_found k v q = found_with (has_key q) (renewed (has_key k) (with_version v)) (λ r. ap (eq_by_cmp line_cmp q) (head_key_stays k v r))

-- and so is the cell of each key and column
pub cells_found : (k : LineKey) (name b : List ℕ) (q : LineKey) (n : List ℕ) (rows : List Row) → find (is_cell_at q n) (cells_with k name b rows) ≡ option_map (renewed (is_cell_at k name) (with_body b)) (find (is_cell_at q n) rows)
cells_found k name b q n =
    found_with (is_cell_at q n) (renewed (is_cell_at k name) (with_body b))
    (λ r. elim (is_cell_at k name r) as (λ a. is_cell_at q n (cond a (with_body b r) r) ≡ is_cell_at q n r) [ true ↦ refl | false ↦ refl ])

-- the line that such a head is
head_is : (k : LineKey) (v : List ℕ) (r : Row) → head_of (renewed (has_key k) (with_version v) r) ≡ head_with k v (head_of r)
head_is k v r = elim (has_key k r) as (λ b. head_of (cond b (with_version v r) r) ≡ cond b (record { key = row_key r; version = v }) (head_of r)) [ true ↦ refl | false ↦ refl ]

-- the line that such a cell is
cell_is : (k : LineKey) (name b : List ℕ) (r : Row) → cell_of (renewed (is_cell_at k name) (with_body b) r) ≡ cell_with k name b (cell_of r)
cell_is k name b r = elim (is_cell_at k name r) as (λ a. cell_of (cond a (with_body b r) r) ≡ cond a (record { key = row_key r; column = (cell_of r).column; body = b }) (cell_of r)) [ true ↦ refl | false ↦ refl ]

-- the lines that the rows of `head` are
pub heads_are : (k : LineKey) (v : List ℕ) (rows : List Row) → map head_of (heads_with k v rows) ≡ map (head_with k v) (map head_of rows)
heads_are k v [] = refl
heads_are k v (r ∷ rows) = ap₂ (λ x xs. x ∷ xs) (head_is k v r) (heads_are k v rows)

-- the lines that the rows of `cell` are
pub cells_are : (k : LineKey) (name b : List ℕ) (rows : List Row) → map cell_of (cells_with k name b rows) ≡ map (cell_with k name b) (map cell_of rows)
cells_are k name b [] = refl
cells_are k name b (r ∷ rows) = ap₂ (λ x xs. x ∷ xs) (cell_is k name b r) (cells_are k name b rows)

-- a number still names one row where the rows keep their numbers, and a change tells what becomes of what each was
numbered_with : {X : Type 0} (is : Row → X) (change : X → X) (g : Row → Row) → ((r : Row) → column (g r) 0 ≡ column r 0) → ((r : Row) → is (g r) ≡ change (is r)) → (rows : List Row) → IsNumbered is rows → IsNumbered is (map g rows)
numbered_with is change g number what rows numbered =
    all-map _ g rows (all_weaker _ _ (λ r ones. all-map _ g rows (all_weaker _ _ (λ s one e. what s ∙ ap change (one (sym (number s) ∙ e ∙ number r)) ∙ sym (what r)) rows ones)) rows numbered)

-- so it is of heads
pub heads_stay_numbered : (k : LineKey) (v : List ℕ) (rows : List Row) → IsNumbered head_of rows → IsNumbered head_of (heads_with k v rows)
heads_stay_numbered k v =
    numbered_with head_of (head_with k v) (renewed (has_key k) (with_version v))
    (λ r. elim (has_key k r) as (λ b. column (cond b (with_version v r) r) 0 ≡ column r 0) [ true ↦ refl | false ↦ refl ]) (head_is k v)

-- and of cells
pub cells_stay_numbered : (k : LineKey) (name b : List ℕ) (rows : List Row) → IsNumbered cell_of rows → IsNumbered cell_of (cells_with k name b rows)
cells_stay_numbered k name b =
    numbered_with cell_of (cell_with k name b) (renewed (is_cell_at k name) (with_body b))
    (λ r. elim (is_cell_at k name r) as (λ a. column (cond a (with_body b r) r) 0 ≡ column r 0) [ true ↦ refl | false ↦ refl ]) (cell_is k name b)

-- and in any order
pub numbered_shuffled : {X : Type 0} (is : Row → X) (xs ys : List Row) → IsPermutation xs ys → IsNumbered is xs → IsNumbered is ys
numbered_shuffled is xs ys same numbered = all-permutation _ xs ys same (all_weaker _ _ (λ r ones. all-permutation _ xs ys same ones) xs numbered)

-- ---- the two statements

-- the rows of `head` are those that were there, of which those of the key have this version
pub record HeadUpdates (k : LineKey) (v : List ℕ) (tree : ℕ) (old new : State) (count : ℕ) : Type 0 where
  pub only : Touches (head_table tree) old.now new.now
  pub rows : IsPermutation (heads_with k v (rows_of_head old.now.trees)) (rows_of_head new.now.trees)
  pub heads : AllByRecursion IsHead (rows_of_head new.now.trees)
  pub numbered : IsNumbered head_of (rows_of_head new.now.trees)
  pub counted : count ≡ length (filter (has_key k) (rows_of_head old.now.trees))

-- the rows of `cell` are those that were there, of which those of the key and the column have this body
pub record CellUpdates (k : LineKey) (name b : List ℕ) (tree : ℕ) (old new : State) (count : ℕ) : Type 0 where
  pub only : Touches (cell_table tree) old.now new.now
  pub rows : IsPermutation (cells_with k name b (rows_of_cell old.now.trees)) (rows_of_cell new.now.trees)
  pub cells : AllByRecursion IsCell (rows_of_cell new.now.trees)
  pub numbered : IsNumbered cell_of (rows_of_cell new.now.trees)
  pub counted : count ≡ length (filter (is_cell_at k name) (rows_of_cell old.now.trees))

module _ (old new : State) (tree : ℕ) (sound : IsDatabase old.now) (k : LineKey) where
  abbrev H : List Row
  H = rows_of_head old.now.trees

  abbrev C : List Row
  C = rows_of_cell old.now.trees

  -- the UPDATE of `head` does that
  pub head_updates : (v : List ℕ) → length v ≡ 16 → HasTable old.now.schema (head_table tree) → AllByRecursion IsHead H → IsNumbered head_of H
      → (count : ℕ) → Executes head_update_text (Text k.0 ∷ Blob k.1 ∷ Blob v ∷ []) old new (Ok count) → HeadUpdates k v tree old new count
  head_updates v sixteen has heads numbered count ran =
      let params : Row = Text k.0 ∷ Blob k.1 ∷ Blob v ∷ [] in
      let d = updates old new (head_table tree) head_update_text key_terms head_update_terms params head_update_parsed has sound (λ at it. head_update_is old.now.schema at tree it) count ran in
      let tests : AllByRecursion (λ r. passing key_terms params r ≡ has_key k r) H = all_weaker _ _ (λ r (is : IsHead r). passes_key k r is.keyed) H heads in
      let numbers = all_weaker _ _ (λ r (is : IsHead r). keyed_number r is.keyed) H heads in
      let together = together_by head_of (λ h. eq_by_cmp line_cmp k h.key) (passing key_terms params) H numbers tests numbered in
      let same = updated_rows (head_table tree) key_terms head_update_terms params old new count d numbers together in
      let written : map (renewed (passing key_terms params) (made (head_table tree) head_update_terms params)) H ≡ heads_with k v H =
      map_same _ _ H (all_weaker _ _ (λ r (is : IsHead r). ap₂ (λ b x. cond b x r) (passes_key k r is.keyed) (head_made tree k v r is.keyed)) H heads) in
      let rows = IsPermutation-trans _ _ _ (IsPermutation-same _ _ (sym written)) same in
      record {
        only = d.only;
        rows = rows;
        heads = all-permutation IsHead _ _ rows (heads_stay k v H sixteen heads);
        numbered = numbered_shuffled head_of _ _ rows (heads_stay_numbered k v H numbered);
        counted = d.counted ∙ ap length (filter_same _ _ H tests);
      }

  -- the UPDATE of `cell` does that
  pub cell_updates : (name b : List ℕ) → HasTable old.now.schema (cell_table tree) → AllByRecursion IsCell C → IsNumbered cell_of C
      → (count : ℕ) → Executes cell_update_text (Text k.0 ∷ Blob k.1 ∷ Text name ∷ Blob b ∷ []) old new (Ok count) → CellUpdates k name b tree old new count
  cell_updates name b has cells numbered count ran =
      let params : Row = Text k.0 ∷ Blob k.1 ∷ Text name ∷ Blob b ∷ [] in
      let d = updates old new (cell_table tree) cell_update_text cell_key_terms cell_update_terms params cell_update_parsed has sound (λ at it. cell_update_is old.now.schema at tree it) count ran in
      let tests : AllByRecursion (λ r. passing cell_key_terms params r ≡ is_cell_at k name r) C = all_weaker _ _ (λ r (is : IsCell r). passes_cell_at k name (Blob b ∷ []) r is) C cells in
      let numbers = all_weaker _ _ (λ r (is : IsCell r). keyed_number r is.keyed) C cells in
      let together = together_by cell_of (λ c. eq_by_cmp line_cmp k c.key && eq_by_cmp name_cmp name c.column) (passing cell_key_terms params) C numbers tests numbered in
      let same = updated_rows (cell_table tree) cell_key_terms cell_update_terms params old new count d numbers together in
      let written : map (renewed (passing cell_key_terms params) (made (cell_table tree) cell_update_terms params)) C ≡ cells_with k name b C =
      map_same _ _ C (all_weaker _ _ (λ r (is : IsCell r). ap₂ (λ a x. cond a x r) (passes_cell_at k name (Blob b ∷ []) r is) (cell_made tree k name b r is)) C cells) in
      let rows = IsPermutation-trans _ _ _ (IsPermutation-same _ _ (sym written)) same in
      record {
        only = d.only;
        rows = rows;
        cells = all-permutation IsCell _ _ rows (cells_stay k name b C cells);
        numbered = numbered_shuffled cell_of _ _ rows (cells_stay_numbered k name b C numbered);
        counted = d.counted ∙ ap length (filter_same _ _ C tests);
      }
