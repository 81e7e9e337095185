-- Maps of cells, and of rows in cells, by what stands at a key.
use Rattle.std.proofs.Common.{◌≡◌, ℕ, List, [], ◌∷◌, map, ◌&&◌, Bool, true, false, cond, Option, Some, None, option_map, Ordering, refl, sym, ap, ◌∙◌}
use Rattle.std.specs.Cmp.Lexicographic.{pointwise}
use Rattle.std.specs.FinMap.{empty, find, get, entries, insert, remove, from_entries, get-entries, get-from_entries, get-empty, get-insert, get-remove, same_map, same_entries_map}
use Rattle.std.specs.Ordering.{eq_by_cmp}
use Rattle.std.specs.Str.{bytes_eq}
use Rattle.std.proofs.lemmas.Bool.{and_parts, and_from}
use Rattle.std.proofs.lemmas.Slice.Eq.{bytes_eq-Decides}
use Rattle.ov_specs.specs.rows.Cells.{Cells, cell_body, cell_line_of, cell_lines_of, cells_of}
use Rattle.ov_specs.specs.rows.Database.{Columns, Database, Row}
use Rattle.ov_specs.specs.rows.Held.{OfCells, is_stored_as, same_cell}
use Rattle.ov_specs.specs.rows.Lines.{LineKey, line_cmp}
use Rattle.ov_specs.specs.schema.SchemaTypes.{name_cmp}
use Rattle.ov_specs.proofs.laws.LineKeys.{key_exact, key_total}
use Rattle.ov_specs.proofs.laws.Names.{name_cmp_total, name_exact, same_name, same_name-is}
use Rattle.ov_stored.specs.CellLists.{agree, same_body}
use Rattle.ov_stored.proofs.Added.{same}

-- ---- where each value is mapped

module _ {K V W : Type 0} (R : K → K → Ordering) (f : V → W) where
  pub found-map : (b : Bool) (v : V) (o : Option V) → cond b (Some (f v)) (option_map f o) ≡ option_map f (cond b (Some v) o)
  found-map true v o = refl
  found-map false v o = refl

  pub none-map : (b : Bool) (o : Option V) → cond b None (option_map f o) ≡ option_map f (cond b None o)
  none-map true o = refl
  none-map false o = refl

  pub find-map : (q : K) (es : List (K × V)) → find R q (map (λ e. (e.0, f e.1)) es) ≡ option_map f (find R q es)
  find-map q [] = refl
  find-map q (e ∷ es) = ap (cond (eq_by_cmp R q e.0) (Some (f e.1))) (find-map q es) ∙ found-map (eq_by_cmp R q e.0) e.1 (find R q es)

-- ---- the cells of a row

pub get-cells_of : (columns : Columns) (name : List ℕ) → get (cells_of columns) name ≡ option_map cell_body (get columns name)
get-cells_of columns name =
    get-from_entries name_cmp_total (map (λ c. (c.0, cell_body c.1)) (entries columns)) name ∙ find-map name_cmp cell_body name (entries columns) ∙ ap (option_map cell_body) (sym (get-entries columns name))

-- ---- what is stored of a database

pub get-cell_lines_of : (database : Database) (key : LineKey) → get (cell_lines_of database) key ≡ option_map cell_line_of (get database key)
get-cell_lines_of database key =
    get-from_entries key_total (map (λ r. (r.0, cell_line_of r.1)) (entries database)) key ∙ find-map line_cmp cell_line_of key (entries database) ∙ ap (option_map cell_line_of) (sym (get-entries database key))

pub cell_lines-insert : (database : Database) (key : LineKey) (row : Row) → insert (cell_lines_of database) key (cell_line_of row) ≡ cell_lines_of (insert database key row)
cell_lines-insert database key row = same_map key_total key_exact _ _ (λ q.
    get-insert key_total (cell_lines_of database) key (cell_line_of row) q ∙ ap (cond (same q key) (Some (cell_line_of row))) (get-cell_lines_of database q)
    ∙ found-map line_cmp cell_line_of (same q key) row (get database q) ∙ ap (option_map cell_line_of) (sym (get-insert key_total database key row q)) ∙ sym (get-cell_lines_of (insert database key row) q))

pub cell_lines-remove : (database : Database) (key : LineKey) → remove (cell_lines_of database) key ≡ cell_lines_of (remove database key)
cell_lines-remove database key = same_map key_total key_exact _ _ (λ q.
    get-remove key_total (cell_lines_of database) key q ∙ ap (cond (same q key) None) (get-cell_lines_of database q) ∙ none-map line_cmp cell_line_of (same q key) (get database q)
    ∙ ap (option_map cell_line_of) (sym (get-remove key_total database key q)) ∙ sym (get-cell_lines_of (remove database key) q))

pub cell_lines-empty : cell_lines_of empty ≡ empty
cell_lines-empty = same_map key_total key_exact _ _ (λ q. get-cell_lines_of empty q ∙ ap (option_map cell_line_of) (get-empty line_cmp q) ∙ sym (get-empty line_cmp q))

-- ---- whether two maps of cells are one

body_exact : (a b : Option (List ℕ)) → same_body a b ≡ true → a ≡ b
body_exact (Some a) (Some b) h = ap Some ((bytes_eq-Decides a b).0 h)
body_exact (Some a) None h = cc
body_exact None (Some b) h = cc
body_exact None None h = refl

body_itself : (a : Option (List ℕ)) → same_body a a ≡ true
body_itself (Some a) = (bytes_eq-Decides a a).1 refl
body_itself None = refl

agree_at : (a b : Cells) (cs : List (List ℕ × List ℕ)) (q x : List ℕ) → agree a b cs ≡ true → find name_cmp q cs ≡ Some x → get a q ≡ get b q
agree_at a b [] q x h found = cc
agree_at a b (c ∷ cs) q x h found = by (same_name q c.0) refl (λ k. agree_at a b cs q x parts.1 k) found
  where
    parts : (same_body (get a c.0) (get b c.0) ≡ true) × (agree a b cs ≡ true)
    parts = and_parts (same_body (get a c.0) (get b c.0)) (agree a b cs) h

    by : (t : Bool) → same_name q c.0 ≡ t → (find name_cmp q cs ≡ Some x → get a q ≡ get b q) → cond t (Some c.1) (find name_cmp q cs) ≡ Some x → get a q ≡ get b q
    by true is rest k = let at = same_name-is q c.0 is in ap (get a) at ∙ body_exact (get a c.0) (get b c.0) parts.0 ∙ ap (get b) (sym at)
    by false is rest k = rest k

agree_itself : (a : Cells) (cs : List (List ℕ × List ℕ)) → agree a a cs ≡ true
agree_itself a [] = refl
agree_itself a (c ∷ cs) = and_from (same_body (get a c.0) (get a c.0)) (agree a a cs) (body_itself (get a c.0)) (agree_itself a cs)

abbrev cells_in : List (List ℕ × List ℕ) → Cells
cells_in cs = from_entries {R = name_cmp} cs

are_one : (xs ys : List (List ℕ × List ℕ)) → agree (cells_in xs) (cells_in ys) xs ≡ true → agree (cells_in ys) (cells_in xs) ys ≡ true → cells_in xs ≡ cells_in ys
are_one xs ys one other = same_map name_cmp_total name_exact _ _ (λ q. by q (find name_cmp q xs) (find name_cmp q ys) refl refl)
  where
    by : (q : List ℕ) (o p : Option (List ℕ)) → find name_cmp q xs ≡ o → find name_cmp q ys ≡ p → get (cells_in xs) q ≡ get (cells_in ys) q
    by q (Some x) p is_x is_y = agree_at (cells_in xs) (cells_in ys) xs q x one is_x
    by q None (Some y) is_x is_y = sym (agree_at (cells_in ys) (cells_in xs) ys q y other is_y)
    by q None None is_x is_y = get-from_entries name_cmp_total xs q ∙ is_x ∙ sym (get-from_entries name_cmp_total ys q ∙ is_y)

cells_exact : (xs ys : List (List ℕ × List ℕ)) → pointwise same_cell xs ys ≡ true → xs ≡ ys
cells_exact [] [] h = refl
cells_exact [] (y ∷ ys) h = cc
cells_exact (x ∷ xs) [] h = cc
cells_exact (x ∷ xs) (y ∷ ys) h =
    let parts = and_parts (same_cell x y) (pointwise same_cell xs ys) h in
    let here = and_parts (bytes_eq x.0 y.0) (bytes_eq x.1 y.1) parts.0 in
    λ i. ((bytes_eq-Decides x.0 y.0).0 here.0 i, (bytes_eq-Decides x.1 y.1).0 here.1 i) ∷ cells_exact xs ys parts.1 i

cells_itself : (xs : List (List ℕ × List ℕ)) → pointwise same_cell xs xs ≡ true
cells_itself [] = refl
cells_itself (x ∷ xs) =
    and_from (same_cell x x) (pointwise same_cell xs xs) (and_from (bytes_eq x.0 x.0) (bytes_eq x.1 x.1) ((bytes_eq-Decides x.0 x.0).1 refl) ((bytes_eq-Decides x.1 x.1).1 refl)) (cells_itself xs)

both_ways : (a b : Bool) → (a ≡ true → b ≡ true) → (b ≡ true → a ≡ true) → a ≡ b
both_ways true true f g = refl
both_ways true false f g = sym (f refl)
both_ways false true f g = g refl
both_ways false false f g = refl

-- two lists agree on the columns of both where their maps are one
pub agree_both : (xs ys : List (List ℕ × List ℕ)) → (agree (cells_in xs) (cells_in ys) xs && agree (cells_in ys) (cells_in xs) ys) ≡ pointwise same_cell (entries (cells_in xs)) (entries (cells_in ys))
agree_both xs ys = both_ways _ _ there back
  where
    there : (agree (cells_in xs) (cells_in ys) xs && agree (cells_in ys) (cells_in xs) ys) ≡ true → pointwise same_cell (entries (cells_in xs)) (entries (cells_in ys)) ≡ true
    there h =
        let parts = and_parts (agree (cells_in xs) (cells_in ys) xs) (agree (cells_in ys) (cells_in xs) ys) h in
        ap (λ (m : Cells). pointwise same_cell (entries (cells_in xs)) (entries m)) (sym (are_one xs ys parts.0 parts.1)) ∙ cells_itself (entries (cells_in xs))

    back : pointwise same_cell (entries (cells_in xs)) (entries (cells_in ys)) ≡ true → (agree (cells_in xs) (cells_in ys) xs && agree (cells_in ys) (cells_in xs) ys) ≡ true
    back h =
        let one = same_entries_map (cells_in xs) (cells_in ys) (cells_exact (entries (cells_in xs)) (entries (cells_in ys)) h) in
        and_from (agree (cells_in xs) (cells_in ys) xs) (agree (cells_in ys) (cells_in xs) ys) (ap (λ (m : Cells). agree (cells_in xs) m xs) (sym one) ∙ agree_itself (cells_in xs) xs)
        (ap (λ (m : Cells). agree (cells_in ys) m ys) one ∙ agree_itself (cells_in ys) ys)

-- ---- what columns are stored as

pub stored_cells : (columns : Columns) (cells : Cells) → is_stored_as columns (OfCells cells) ≡ true → cells_of columns ≡ cells
stored_cells columns cells h = same_entries_map (cells_of columns) cells (cells_exact (entries (cells_of columns)) (entries cells) h)

pub are_stored : (columns : Columns) → is_stored_as columns (OfCells (cells_of columns)) ≡ true
are_stored columns = cells_itself (entries (cells_of columns))
