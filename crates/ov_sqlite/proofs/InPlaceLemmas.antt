-- What is read of the cells of a row, and what an UPDATE makes of the rows, as maps.
use Rattle.std.proofs.Common.{◌≡◌, ◌<◌, ℕ, List, [], ◌∷◌, map, filter, find, length, cond, Bool, true, false, ◌&&◌, ◌||◌, Option, Some, None, option_map, refl, sym, ap, ap₂, subst, ◌∙◌, codes}
use Rattle.std.specs.List.{AllByRecursion, list_any}
use Rattle.std.specs.List.Sorted.{IsPermutation}
use Rattle.std.proofs.lemmas.List.{length-map}
use Rattle.std.proofs.lemmas.List.Sorted.{IsPermutation-sym, length_permutation}
use Rattle.std.proofs.lemmas.Bool.{and_parts, and_from}
use Rattle.std.specs.Ordering.{eq_by_cmp}
use Rattle.std.specs.Cmp.{eq_by_cmp_equiv}
use Rattle.std.specs.FinMap.{get, insert, from_entries, find as entry_at, get-from_entries, get-insert, same_map}
use Rattle.sqlite.specs.Order.{Row, column}
use Rattle.sqlite_value.specs.Order.{bytes}
use Rattle.sqlite_trees.proofs.ListLemmas.{all_weaker, all_both, all-filter}
use Rattle.sqlite.specs.Effect.{Database}
use Rattle.ov_specs.specs.rows.Lines.{LineKey, line_cmp}
use Rattle.ov_specs.specs.rows.Cells.{CellLine, CellLines, Cells, cells_at, cell_lines}
use Rattle.ov_specs.specs.schema.SchemaTypes.{name_cmp}
use Rattle.ov_specs.proofs.laws.LineKeys.{key_total, key_exact, tied_same, same_tied}
use Rattle.ov_tables.specs.Format.{head_of, cell_of, stored_cells, rows_of_head, rows_of_cell}
use Rattle.ov_tables.specs.Holding.{HoldsCells}
use Rattle.ov_tables.specs.Querying.{cell_selected, rows_with_key}
use Rattle.ov_tables.proofs.RowLemmas.{has_key, is_cell_at}
use Rattle.ov_tables.proofs.UpdateLemmas.{renewed, some_counted}
use Rattle.ov_tables.proofs.RenewLemmas.{with_version, with_body, heads_with, cells_with, heads_found, cells_found}
use Rattle.ov_sqlite.specs.Renewing.{shown_entry, HasRead}
use Rattle.ov_sqlite.proofs.PutLemmas.{find_kept}
use Rattle.ov_sqlite.proofs.CellLemmas.{names_total, names_exact, same_name_is, keyed, two_keys, turned, has_cell, get_cells, get_lines, line_at, all_rows, HasHead, heads_each}
use Rattle.ov_sqlite.proofs.HeldLemmas.{map_all}
use Rattle.ov_sqlite.proofs.KeyLemmas.{Agree, same_found, apart_by_key, agree_cells}

abbrev version_in : Row → List ℕ
version_in r = bytes (column r 3)

abbrev body_in : Row → List ℕ
body_in r = bytes (column r 4)

-- ---- a head with another version

module _ (H after C : List Row) (k : LineKey) (v : List ℕ) (same : IsPermutation (heads_with k v H) after) (agree : (q : LineKey) → Agree (has_key q) version_in after) where
  abbrev lines : CellLines
  lines = cell_lines (map head_of H) (map cell_of C)

  -- the line of a version and the cells of a key
  abbrev with_cells : LineKey → List ℕ → CellLine
  with_cells q w = (w, cells_at (map cell_of C) q)

  -- which version is found
  versions : (q : LineKey) (rows : List Row) → option_map version_in (option_map (renewed (has_key k) (with_version v)) (find (has_key q) rows)) ≡ option_map (λ r. cond (eq_by_cmp line_cmp k q) v (version_in r)) (find (has_key q) rows)
  versions q [] = refl
  versions q (r ∷ rows) = go (has_key q r) refl (versions q rows)
    where
      of_one : (a : Bool) → version_in (cond a (with_version v r) r) ≡ cond a v (version_in r)
      of_one true = refl
      of_one false = refl

      go : (b : Bool) → has_key q r ≡ b → option_map version_in (option_map (renewed (has_key k) (with_version v)) (find (has_key q) rows)) ≡ option_map (λ r. cond (eq_by_cmp line_cmp k q) v (version_in r)) (find (has_key q) rows)
          → option_map version_in (option_map (renewed (has_key k) (with_version v)) (cond b (Some r) (find (has_key q) rows))) ≡ option_map (λ r. cond (eq_by_cmp line_cmp k q) v (version_in r)) (cond b (Some r) (find (has_key q) rows))
      go true is next = ap Some (of_one (has_key k r) ∙ ap (λ a. cond a v (version_in r)) (two_keys k q r is))
      go false is next = next

  by_version : (q : LineKey) (o : Option Row) → line_at C q o ≡ option_map (with_cells q) (option_map version_in o)
  by_version q None = refl
  by_version q (Some r) = refl

  found_after : (q : LineKey) → option_map version_in (find (has_key q) after) ≡ option_map (λ r. cond (eq_by_cmp line_cmp k q) v (version_in r)) (find (has_key q) H)
  found_after q =
      same_found (has_key q) version_in after (heads_with k v H) (IsPermutation-sym (heads_with k v H) after same) (agree q)
      ∙ ap (option_map version_in) (heads_found k v q H) ∙ versions q H

  pub version_put : (l : CellLine) → get lines k ≡ Some l → cell_lines (map head_of after) (map cell_of C) ≡ insert lines k (v, l.1)
  version_put l is = same_map key_total key_exact _ _ (λ q.
      get_lines C after q ∙ by_version q (find (has_key q) after) ∙ ap (option_map (with_cells q)) (found_after q)
      ∙ at q (eq_by_cmp line_cmp q k) refl ∙ sym (get-insert key_total lines k (v, l.1) q))
    where
      there : (q : LineKey) → q ≡ k → line_at C q (find (has_key q) H) ≡ Some l
      there q e = sym (get_lines C H q) ∙ ap (get lines) e ∙ is

      with_v : (q : LineKey) (o : Option Row) → line_at C q o ≡ Some l → option_map (with_cells q) (option_map (λ r. v) o) ≡ Some (v, l.1)
      with_v q None e = absurd cc
      with_v q (Some r) e = let one : (version_in r, cells_at (map cell_of C) q) ≡ l = cc in ap (λ (p : CellLine). Some (v, p.1)) one

      as_before : (q : LineKey) (o : Option Row) → option_map (with_cells q) (option_map (λ r. version_in r) o) ≡ line_at C q o
      as_before q None = refl
      as_before q (Some r) = refl

      at : (q : LineKey) (b : Bool) → eq_by_cmp line_cmp q k ≡ b
          → option_map (with_cells q) (option_map (λ r. cond (eq_by_cmp line_cmp k q) v (version_in r)) (find (has_key q) H)) ≡ cond b (Some (v, l.1)) (get lines q)
      at q true e = ap (λ a. option_map (with_cells q) (option_map (λ r. cond a v (version_in r)) (find (has_key q) H))) (turned k q ∙ e) ∙ with_v q (find (has_key q) H) (there q (tied_same q k e))
      at q false e =
          ap (λ a. option_map (with_cells q) (option_map (λ r. cond a v (version_in r)) (find (has_key q) H))) (turned k q ∙ e)
          ∙ as_before q (find (has_key q) H) ∙ sym (get_lines C H q)

-- ---- a cell with another body

-- two columns of one cell are one
two_names : (name c : List ℕ) (r : Row) → eq_by_cmp name_cmp c (bytes (column r 3)) ≡ true → eq_by_cmp name_cmp name (bytes (column r 3)) ≡ eq_by_cmp name_cmp name c
two_names name c r h = ap (eq_by_cmp name_cmp name) (sym (same_name_is c (bytes (column r 3)) h))

turned_names : (a b : List ℕ) → eq_by_cmp name_cmp a b ≡ eq_by_cmp name_cmp b a
turned_names a b = (eq_by_cmp_equiv names_total).symm a b

module _ (H C after : List Row) (k : LineKey) (name b : List ℕ) (same : IsPermutation (cells_with k name b C) after) (agree : (q : LineKey) (c : List ℕ) → Agree (has_cell q c) body_in after) where
  abbrev was_lines : CellLines
  was_lines = cell_lines (map head_of H) (map cell_of C)

  -- which body is found
  bodies : (q : LineKey) (c : List ℕ) (rows : List Row) → option_map body_in (option_map (renewed (is_cell_at k name) (with_body b)) (find (has_cell q c) rows)) ≡ option_map (λ r. cond (eq_by_cmp line_cmp k q && eq_by_cmp name_cmp name c) b (body_in r)) (find (has_cell q c) rows)
  bodies q c [] = refl
  bodies q c (r ∷ rows) = go (has_cell q c r) refl (bodies q c rows)
    where
      of_one : (a : Bool) → body_in (cond a (with_body b r) r) ≡ cond a b (body_in r)
      of_one true = refl
      of_one false = refl

      go : (a : Bool) → has_cell q c r ≡ a → option_map body_in (option_map (renewed (is_cell_at k name) (with_body b)) (find (has_cell q c) rows)) ≡ option_map (λ r. cond (eq_by_cmp line_cmp k q && eq_by_cmp name_cmp name c) b (body_in r)) (find (has_cell q c) rows)
          → option_map body_in (option_map (renewed (is_cell_at k name) (with_body b)) (cond a (Some r) (find (has_cell q c) rows))) ≡ option_map (λ r. cond (eq_by_cmp line_cmp k q && eq_by_cmp name_cmp name c) b (body_in r)) (cond a (Some r) (find (has_cell q c) rows))
      go true is next =
          let parts = and_parts _ _ is in
          ap Some (of_one (is_cell_at k name r) ∙ ap (λ a. cond a b (body_in r)) (ap₂ ◌&&◌ (two_keys k q r parts.0) (two_names name c r parts.1)))
      go false is next = next

  body_after : (q : LineKey) (c : List ℕ) → get (cells_at (map cell_of after) q) c ≡ option_map (λ r. cond (eq_by_cmp line_cmp k q && eq_by_cmp name_cmp name c) b (body_in r)) (find (has_cell q c) C)
  body_after q c =
      get_cells after q c ∙ same_found (has_cell q c) body_in after (cells_with k name b C) (IsPermutation-sym (cells_with k name b C) after same) (agree q c)
      ∙ ap (option_map body_in) (cells_found k name b q c C) ∙ bodies q c C

  -- at another key the cells are as before
  cells_beside : (q : LineKey) → eq_by_cmp line_cmp k q ≡ false → cells_at (map cell_of after) q ≡ cells_at (map cell_of C) q
  cells_beside q apart = same_map names_total names_exact _ _ (λ c.
      body_after q c ∙ ap (λ a. option_map (λ r. cond (a && eq_by_cmp name_cmp name c) b (body_in r)) (find (has_cell q c) C)) apart ∙ sym (get_cells C q c))

  -- at its key one has the body
  cells_here : (was : List ℕ) → get (cells_at (map cell_of C) k) name ≡ Some was → cells_at (map cell_of after) k ≡ insert (cells_at (map cell_of C) k) name b
  cells_here was has = same_map names_total names_exact _ _ (λ c.
      body_after k c ∙ ap (λ a. option_map (λ r. cond (a && eq_by_cmp name_cmp name c) b (body_in r)) (find (has_cell k c) C)) (same_tied k k refl)
      ∙ at c (eq_by_cmp name_cmp c name) refl ∙ sym (get-insert names_total (cells_at (map cell_of C) k) name b c))
    where
      there : (c : List ℕ) → c ≡ name → option_map body_in (find (has_cell k c) C) ≡ Some was
      there c e = sym (get_cells C k c) ∙ ap (get (cells_at (map cell_of C) k)) e ∙ has

      with_b : (o : Option Row) → option_map body_in o ≡ Some was → option_map (λ r. b) o ≡ Some b
      with_b None e = absurd cc
      with_b (Some r) e = refl

      at : (c : List ℕ) (a : Bool) → eq_by_cmp name_cmp c name ≡ a → option_map (λ r. cond (eq_by_cmp name_cmp name c) b (body_in r)) (find (has_cell k c) C) ≡ cond a (Some b) (get (cells_at (map cell_of C) k) c)
      at c true e = ap (λ a. option_map (λ r. cond a b (body_in r)) (find (has_cell k c) C)) (turned_names name c ∙ e) ∙ with_b (find (has_cell k c) C) (there c (same_name_is c name e))
      at c false e = ap (λ a. option_map (λ r. cond a b (body_in r)) (find (has_cell k c) C)) (turned_names name c ∙ e) ∙ sym (get_cells C k c)

  pub body_put : (l : CellLine) (was : List ℕ) → get was_lines k ≡ Some l → get l.1 name ≡ Some was → cell_lines (map head_of H) (map cell_of after) ≡ insert was_lines k (l.0, insert l.1 name b)
  body_put l was is has = same_map key_total key_exact _ _ (λ q. get_lines after H q ∙ at q (eq_by_cmp line_cmp q k) refl ∙ sym (get-insert key_total was_lines k (l.0, insert l.1 name b) q))
    where
      here : line_at C k (find (has_key k) H) ≡ Some l
      here = sym (get_lines C H k) ∙ is

      cells_of_line : (o : Option Row) → line_at C k o ≡ Some l → cells_at (map cell_of C) k ≡ l.1
      cells_of_line None e = absurd cc
      cells_of_line (Some r) e = let one : (version_in r, cells_at (map cell_of C) k) ≡ l = cc in ap (λ (p : CellLine). p.1) one

      cells_are : cells_at (map cell_of C) k ≡ l.1
      cells_are = cells_of_line (find (has_key k) H) here

      put_in : (o : Option Row) → line_at C k o ≡ Some l → line_at after k o ≡ Some (l.0, insert l.1 name b)
      put_in None e = absurd cc
      put_in (Some r) e =
          let one : (version_in r, cells_at (map cell_of C) k) ≡ l = cc in
          ap₂ (λ v cells. Some (v, cells)) (ap (λ (p : CellLine). p.0) one)
          (cells_here was (ap (λ cells. get {R = name_cmp} cells name) cells_are ∙ has) ∙ ap (λ cells. insert {R = name_cmp} cells name b) cells_are)

      at : (q : LineKey) (a : Bool) → eq_by_cmp line_cmp q k ≡ a → line_at after q (find (has_key q) H) ≡ cond a (Some (l.0, insert l.1 name b)) (get was_lines q)
      at q true e = ap (λ q. line_at after q (find (has_key q) H)) (tied_same q k e) ∙ put_in (find (has_key k) H) here
      at q false e = ap (λ cells. option_map (λ r. (version_in r, cells)) (find (has_key q) H)) (cells_beside q (turned k q ∙ e)) ∙ sym (get_lines C H q)

-- ---- what is read of a row

abbrev is_named : List ℕ → Row → Bool
is_named c x = eq_by_cmp name_cmp c (bytes (column x 0))

abbrev shown_body : Row → List ℕ
shown_body x = bytes (column x 1)

entry_found : (c : List ℕ) (rows : List Row) → entry_at name_cmp c (map shown_entry rows) ≡ option_map shown_body (find (is_named c) rows)
entry_found c [] = refl
entry_found c (x ∷ rows) = elim (is_named c x) as (λ b. cond b (Some (shown_body x)) (entry_at name_cmp c (map shown_entry rows)) ≡ option_map shown_body (cond b (Some x) (find (is_named c) rows))) [
  | true ↦ refl
  | false ↦ entry_found c rows
]

all_kept : {X : Type 0} (p : X → Bool) (xs : List X) → AllByRecursion (λ x. p x ≡ true) (filter p xs)
all_kept p [] = tt
all_kept {X} p (x ∷ xs) = go (p x) refl (all_kept p xs)
  where
    go : (b : Bool) → p x ≡ b → AllByRecursion (λ x. p x ≡ true) (filter p xs) → AllByRecursion (λ x. p x ≡ true) (cond {A = List X} b (x ∷ filter p xs) (filter p xs))
    go true is rest = (is, rest)
    go false is rest = rest

-- among rows of the key, the column decides
picked : (k : LineKey) (c : List ℕ) (rows : List Row) → AllByRecursion (λ r. has_key k r ≡ true) rows → option_map shown_body (find (is_named c) (map cell_selected rows)) ≡ option_map body_in (find (has_cell k c) rows)
picked k c [] all = refl
picked k c (r ∷ rows) all =
    let next = picked k c rows all.1 in
    rw all.0 (elim (eq_by_cmp name_cmp c (bytes (column r 3))) as (λ b. option_map shown_body (cond b (Some (cell_selected r)) (find (is_named c) (map cell_selected rows))) ≡ option_map body_in (cond b (Some r) (find (has_cell k c) rows))) [
      | true ↦ refl
      | false ↦ next
    ])

module _ (C rows : List Row) (k : LineKey) (same : IsPermutation (map cell_selected (rows_with_key k C)) rows) (agree : (c : List ℕ) → Agree (has_cell k c) body_in C) where
  abbrev P : List Row
  P = rows_with_key k C

  of_key : AllByRecursion (λ r. has_key k r ≡ true) P
  of_key = all_kept (has_key k) C

  agree_read : (c : List ℕ) → Agree (is_named c) shown_body (map cell_selected P)
  agree_read c = map_all _ cell_selected P (all_both _ _ _ (λ r kr ones. map_all _ cell_selected P (all_both _ _ _ (λ s ks one here there. one (and_from _ _ kr here) (and_from _ _ ks there)) P of_key ones)) P of_key inner)
    where
      inner : Agree (has_cell k c) body_in P
      inner = all-filter _ (has_key k) C (all_weaker _ _ (λ r ones. all-filter _ (has_key k) C ones) C (agree c))

  key_cells : cells_at (map cell_of C) k ≡ from_entries (map shown_entry rows)
  key_cells = same_map names_total names_exact _ _ (λ c.
      get_cells C k c
      ∙ ap (option_map body_in) (sym (find_kept (has_cell k c) (has_key k) C (all_rows C (λ r h. (and_parts _ _ h).0))))
      ∙ sym (picked k c P of_key)
      ∙ same_found (is_named c) shown_body (map cell_selected P) rows same (agree_read c)
      ∙ sym (entry_found c rows) ∙ sym (get-from_entries names_total (map shown_entry rows) c))

any_found : (p : Row → Bool) (rows : List Row) → list_any p rows ≡ true → (r : Row) × (find p rows ≡ Some r)
any_found p [] h = absurd cc
any_found p (r ∷ rows) h = go (p r) (any_found p rows) h
  where
    go : (b : Bool) → (list_any p rows ≡ true → (s : Row) × (find p rows ≡ Some s)) → (b || list_any p rows) ≡ true → (s : Row) × (cond b (Some r) (find p rows) ≡ Some s)
    go true later e = (r, refl)
    go false later e = later e

-- a key that a cell has, has a head
head_of_any : (H C : List Row) (k : LineKey) → AllByRecursion (HasHead H) C → list_any (has_key k) C ≡ true → list_any (has_key k) H ≡ true
head_of_any H [] k all h = absurd cc
head_of_any H (c ∷ C) k all h = go (has_key k c) refl (head_of_any H C k all.1) h
  where
    go : (b : Bool) → has_key k c ≡ b → (list_any (has_key k) C ≡ true → list_any (has_key k) H ≡ true) → (b || list_any (has_key k) C) ≡ true → list_any (has_key k) H ≡ true
    go true is later e = subst (λ q. list_any (has_key q) H ≡ true) (sym (keyed k c is)) all.0
    go false is later e = later e

-- the cells of a row that were read are those that the map has
pub row_read : (text : List ℕ) (db : Database) → HoldsCells text db → (k : LineKey) (rows : List Row) → IsPermutation (map cell_selected (rows_with_key k (rows_of_cell db.trees))) rows → HasRead k rows (stored_cells db.trees)
row_read text db stored k rows same some =
    let H = rows_of_head db.trees in
    let C = rows_of_cell db.trees in
    let apart = apart_by_key db (codes "cell") _ _ (1 ∷ 2 ∷ 3 ∷ []) stored.format.schema.cell stored.sound in
    let cells = key_cells C rows k same (agree_cells C stored.format.cells apart stored.cells_numbered k) in
    let as_many : length rows ≡ length (rows_with_key k C) = length_permutation (map cell_selected (rows_with_key k C)) rows same ∙ length-map (rows_with_key k C) cell_selected in
    let any = some_counted (has_key k) C (subst (λ n. 0 < n) as_many some) in
    let head = any_found (has_key k) H (head_of_any H C k (heads_each H C stored.format.owned) any) in
    (version_in head.0, get_lines C H k ∙ ap (line_at C k) head.1 ∙ ap (λ (m : Cells). Some (version_in head.0, m)) cells)
