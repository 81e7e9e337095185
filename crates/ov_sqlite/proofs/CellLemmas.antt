-- The rows that `head` and `cell` are, as a map, and what a change of either table makes of it.
use Rattle.std.proofs.Common.{◌≡◌, ℕ, List, [], ◌∷◌, map, filter, find, cond, Bool, true, false, not, ◌&&◌, ◌||◌, Option, Some, None, IfSome, option_map, refl, sym, ap, ap₂, subst, ◌∙◌}
use Rattle.std.specs.List.{AllByRecursion, list_any}
use Rattle.std.specs.Ordering.{eq_by_cmp}
use Rattle.std.specs.Cmp.{IsTotalOrder, eq_by_cmp_equiv}
use Rattle.std.specs.Cmp.Lexicographic.{nat_list_cmp_total}
use Rattle.std.specs.FinMap.{empty, get, insert, remove, find as entry_at, get-empty, get-from_entries, get-insert, get-remove, same_map, nat_cmp-IsAntisymmetric, slice_cmp-IsAntisymmetric}
use Rattle.std.proofs.lemmas.Bool.{and_parts, and_from}
use Rattle.std.proofs.lemmas.Map.Lookups.{CmpEqualImpliesEq}
use Rattle.sqlite.specs.Order.{Row, column}
use Rattle.sqlite_value.specs.Order.{bytes}
use Rattle.sqlite_trees.specs.Tree.{put_row}
use Rattle.sqlite_trees.proofs.ListLemmas.{all_weaker}
use Rattle.sqlite_rules.specs.Edit.{is_taken}
use Rattle.sqlite_rules.specs.Lists.{Has}
use Rattle.sqlite_rules.proofs.ListLemmas.{all_has, all_from}
use Rattle.ov_specs.specs.rows.Database.{same_key}
use Rattle.ov_specs.specs.rows.Lines.{LineKey, line_cmp}
use Rattle.ov_specs.specs.rows.Cells.{CellLine, cells_at, cell_lines, have_heads}
use Rattle.ov_specs.specs.schema.SchemaTypes.{name_cmp}
use Rattle.ov_specs.proofs.laws.LineKeys.{key_total, key_exact, tied_same, same_tied, same_key-tied}
use Rattle.ov_specs.proofs.laws.Truths.{equal_is}
use Rattle.ov_tables.specs.Format.{row_key, head_of, cell_of}
use Rattle.ov_tables.proofs.RowLemmas.{has_key}
use Rattle.ov_sqlite.proofs.PutLemmas.{find_put, find_kept, find_gone, none_passes, passes_none}

-- ---- the order of names

pub names_total : IsTotalOrder name_cmp
names_total = nat_list_cmp_total

pub names_exact : CmpEqualImpliesEq name_cmp
names_exact = slice_cmp-IsAntisymmetric nat_cmp-IsAntisymmetric

pub same_name_is : (a b : List ℕ) → eq_by_cmp name_cmp a b ≡ true → a ≡ b
same_name_is a b h = names_exact a b (equal_is _ h)

pub name_itself : (a : List ℕ) → eq_by_cmp name_cmp a a ≡ true
name_itself a = (eq_by_cmp_equiv names_total).refl a

-- ---- keys

pub keyed : (k : LineKey) (r : Row) → has_key k r ≡ true → k ≡ row_key r
keyed k r h = tied_same k (row_key r) h

-- two keys of one row are one
pub two_keys : (k q : LineKey) (r : Row) → has_key q r ≡ true → has_key k r ≡ eq_by_cmp line_cmp k q
two_keys k q r h = ap (eq_by_cmp line_cmp k) (sym (keyed q r h))

pub turned : (k q : LineKey) → eq_by_cmp line_cmp k q ≡ eq_by_cmp line_cmp q k
turned k q = (eq_by_cmp_equiv key_total).symm k q

pub is_row_of : (r : Row) (q : LineKey) → same_key (row_key r) q ≡ has_key q r
is_row_of r q = same_key-tied (row_key r) q ∙ turned (row_key r) q

-- the row is the cell of this column in the row of this key
abbrev pub has_cell : LineKey → List ℕ → Row → Bool
has_cell q c r = has_key q r && eq_by_cmp name_cmp c (bytes (column r 3))

-- ---- what is found in the map

module _ (C : List Row) (q : LineKey) where
  in_cells : (c : List ℕ) (C : List Row) → entry_at name_cmp c (map (λ c. (c.column, c.body)) (filter (λ c. same_key c.key q) (map cell_of C))) ≡ option_map (λ r. bytes (column r 4)) (find (has_cell q c) C)
  in_cells c [] = refl
  in_cells c (r ∷ C) =
      let next = in_cells c C in
      rw (is_row_of r q) (elim (has_key q r) as (λ b. entry_at name_cmp c (map (λ c. (c.column, c.body)) (cond {A = List _} b (cell_of r ∷ filter (λ c. same_key c.key q) (map cell_of C)) (filter (λ c. same_key c.key q) (map cell_of C))))
      ≡ option_map (λ r. bytes (column r 4)) (cond (b && eq_by_cmp name_cmp c (bytes (column r 3))) (Some r) (find (has_cell q c) C))) [
        | true ↦ elim (eq_by_cmp name_cmp c (bytes (column r 3))) as (λ e. cond e (Some (bytes (column r 4))) (entry_at name_cmp c (map (λ c. (c.column, c.body)) (filter (λ c. same_key c.key q) (map cell_of C))))
            ≡ option_map (λ r. bytes (column r 4)) (cond e (Some r) (find (has_cell q c) C))) [ true ↦ refl | false ↦ next ]
        | false ↦ next
      ])

  pub get_cells : (c : List ℕ) → get (cells_at (map cell_of C) q) c ≡ option_map (λ r. bytes (column r 4)) (find (has_cell q c) C)
  get_cells c = get-from_entries names_total _ c ∙ in_cells c C

module _ (C : List Row) where
  -- what the map has at a key: the version of its head, and its cells
  abbrev pub line_at : LineKey → Option Row → Option CellLine
  line_at q = option_map (λ r. (bytes (column r 3), cells_at (map cell_of C) q))

  in_lines : (q : LineKey) (H : List Row) → entry_at line_cmp q (map (λ h. (h.key, (h.version, cells_at (map cell_of C) h.key))) (map head_of H)) ≡ line_at q (find (has_key q) H)
  in_lines q [] = refl
  in_lines q (h ∷ H) = go (has_key q h) refl (in_lines q H)
    where
      go : (b : Bool) → has_key q h ≡ b → entry_at line_cmp q (map (λ h. (h.key, (h.version, cells_at (map cell_of C) h.key))) (map head_of H)) ≡ line_at q (find (has_key q) H)
          → cond b (Some (bytes (column h 3), cells_at (map cell_of C) (row_key h))) (entry_at line_cmp q (map (λ h. (h.key, (h.version, cells_at (map cell_of C) h.key))) (map head_of H))) ≡ line_at q (cond b (Some h) (find (has_key q) H))
      go true is next = ap (λ k. Some (bytes (column h 3), cells_at (map cell_of C) k)) (sym (keyed q h is))
      go false is next = next

  pub get_lines : (H : List Row) (q : LineKey) → get (cell_lines (map head_of H) (map cell_of C)) q ≡ line_at q (find (has_key q) H)
  get_lines H q = get-from_entries key_total _ q ∙ in_lines q H

-- ---- rows of one key

-- the rows of other keys
abbrev pub others : LineKey → List Row → List Row
others k = filter (λ r. not (has_key k r))

-- no row has the key
abbrev pub IsAbsent : LineKey → List Row → Type 0
IsAbsent k rows = AllByRecursion (λ r. has_key k r ≡ false) rows

pub others_absent : (k : LineKey) (rows : List Row) → IsAbsent k (others k rows)
others_absent k [] = tt
others_absent k (r ∷ rows) = go (has_key k r) refl (others_absent k rows)
  where
    go : (b : Bool) → has_key k r ≡ b → IsAbsent k (others k rows) → IsAbsent k (cond {A = List Row} (not b) (r ∷ others k rows) (others k rows))
    go true is more = more
    go false is more = (is, more)

pub all_rows : {P : Row → Type 0} (rows : List Row) → ((r : Row) → P r) → AllByRecursion P rows
all_rows [] f = tt
all_rows (r ∷ rows) f = (f r, all_rows rows f)

-- another key is found as before
still_found : (k q : LineKey) (rows : List Row) → eq_by_cmp line_cmp k q ≡ false → find (has_key q) (others k rows) ≡ find (has_key q) rows
still_found k q rows apart = find_kept (has_key q) (λ r. not (has_key k r)) rows (all_rows rows (λ r h. ap not (two_keys k q r h ∙ apart)))

found_none : (k q : LineKey) (rows : List Row) → eq_by_cmp line_cmp k q ≡ true → find (has_key q) (others k rows) ≡ None
found_none k q rows same = find_gone (has_key q) (λ r. not (has_key k r)) rows (all_rows rows (λ r h. ap not (two_keys k q r h ∙ same)))

-- the cells of another key are as before
still_cells : (k q : LineKey) (C : List Row) → eq_by_cmp line_cmp k q ≡ false → cells_at (map cell_of (others k C)) q ≡ cells_at (map cell_of C) q
still_cells k q C apart = same_map names_total names_exact _ _ (λ c.
    get_cells (others k C) q c ∙ ap (option_map (λ r. bytes (column r 4))) (find_kept (has_cell q c) (λ r. not (has_key k r)) C (all_rows C (λ r h. kept r (and_parts _ _ h).0))) ∙ sym (get_cells C q c))
  where
    kept : (r : Row) → has_key q r ≡ true → not (has_key k r) ≡ true
    kept r h = ap not (two_keys k q r h ∙ apart)

-- a key of no row has no cells
pub no_cells : (q : LineKey) (C : List Row) → IsAbsent q C → cells_at (map cell_of C) q ≡ empty
no_cells q C none = same_map names_total names_exact _ _ (λ c.
    get_cells C q c ∙ ap (option_map (λ r. bytes (column r 4))) (passes_none (has_cell q c) C (all_weaker _ _ (λ r e. rw e refl) C none)) ∙ sym (get-empty name_cmp c))

-- ---- removal

-- a row without its cells
abbrev pub bared : CellLine → CellLine
bared l = (l.0, empty)

-- without the cells of a key, its row has none
pub emptied : (k : LineKey) (H C : List Row) (q : LineKey) → get (cell_lines (map head_of H) (map cell_of (others k C))) q
    ≡ cond (eq_by_cmp line_cmp k q) (option_map bared (get (cell_lines (map head_of H) (map cell_of C)) q)) (get (cell_lines (map head_of H) (map cell_of C)) q)
emptied k H C q = get_lines (others k C) H q ∙ at (eq_by_cmp line_cmp k q) refl
  where
    lost : (o : Option Row) → option_map (λ r. bared (bytes (column r 3), empty)) o ≡ option_map bared (line_at C q o)
    lost None = refl
    lost (Some r) = refl

    at : (b : Bool) → eq_by_cmp line_cmp k q ≡ b → line_at (others k C) q (find (has_key q) H)
        ≡ cond b (option_map bared (get (cell_lines (map head_of H) (map cell_of C)) q)) (get (cell_lines (map head_of H) (map cell_of C)) q)
    at true same =
        let none = no_cells q (others k C) (subst (λ q. IsAbsent q (others k C)) (tied_same k q same) (others_absent k C)) in
        ap (λ cells. option_map (λ r. (bytes (column r 3), cells)) (find (has_key q) H)) none ∙ lost (find (has_key q) H) ∙ ap (option_map bared) (sym (get_lines C H q))
    at false apart = ap (λ cells. option_map (λ r. (bytes (column r 3), cells)) (find (has_key q) H)) (still_cells k q C apart) ∙ sym (get_lines C H q)

-- rows of other keys are all of them
pub others_all : (k : LineKey) (rows : List Row) → IsAbsent k rows → others k rows ≡ rows
others_all k [] none = refl
others_all k (r ∷ rows) none = rw none.0 (ap (λ rs. r ∷ rs) (others_all k rows none.1))

-- without the head of a key and its cells, the key is gone
pub removed : (k : LineKey) (H C : List Row) → cell_lines (map head_of (others k H)) (map cell_of (others k C)) ≡ remove (cell_lines (map head_of H) (map cell_of C)) k
removed k H C = same_map key_total key_exact _ _ (λ q.
    get_lines (others k C) (others k H) q ∙ at q (eq_by_cmp line_cmp k q) refl ∙ sym (get-remove key_total (cell_lines (map head_of H) (map cell_of C)) k q))
  where
    at : (q : LineKey) (b : Bool) → eq_by_cmp line_cmp k q ≡ b → line_at (others k C) q (find (has_key q) (others k H)) ≡ cond (eq_by_cmp line_cmp q k) None (get (cell_lines (map head_of H) (map cell_of C)) q)
    at q true same = ap (line_at (others k C) q) (found_none k q H same) ∙ sym (ap (λ b. cond b None (get (cell_lines (map head_of H) (map cell_of C)) q)) (sym (turned k q) ∙ same))
    at q false apart =
        ap (line_at (others k C) q) (still_found k q H apart) ∙ ap (λ cells. option_map (λ r. (bytes (column r 3), cells)) (find (has_key q) H)) (still_cells k q C apart)
        ∙ sym (get_lines C H q) ∙ sym (ap (λ b. cond b None (get (cell_lines (map head_of H) (map cell_of C)) q)) (sym (turned k q) ∙ apart))

-- ---- a new head

pub headed : (h : Row) (H C : List Row) → is_taken H h ≡ false → IsAbsent (row_key h) H → IsAbsent (row_key h) C
    → cell_lines (map head_of (put_row h H)) (map cell_of C) ≡ insert (cell_lines (map head_of H) (map cell_of C)) (row_key h) (bytes (column h 3), empty)
headed h H C fresh none bare = same_map key_total key_exact _ _ (λ q.
    get_lines C (put_row h H) q
    ∙ ap (line_at C q) (find_put (has_key q) h H fresh (all_weaker _ _ (λ r free is new. apart q r free is new) H none))
    ∙ at q (has_key q h) refl ∙ sym (get-insert key_total (cell_lines (map head_of H) (map cell_of C)) (row_key h) (bytes (column h 3), empty) q))
  where
    apart : (q : LineKey) (r : Row) → has_key (row_key h) r ≡ false → has_key q r ≡ true → has_key q h ≡ true → ⊥
    apart q r free is new = let clash : true ≡ false = sym is ∙ ap (λ k. has_key k r) (keyed q h new) ∙ free in absurd cc

    at : (q : LineKey) (b : Bool) → has_key q h ≡ b → line_at C q (cond b (Some h) (find (has_key q) H)) ≡ cond b (Some (bytes (column h 3), empty)) (get (cell_lines (map head_of H) (map cell_of C)) q)
    at q true is = ap (λ cells. Some (bytes (column h 3), cells)) (ap (cells_at (map cell_of C)) (keyed q h is) ∙ no_cells (row_key h) C bare)
    at q false is = sym (get_lines C H q)

-- ---- a new cell

-- the cell of no row
abbrev pub IsNewCell : Row → List Row → Type 0
IsNewCell x C = AllByRecursion (λ r. has_cell (row_key x) (bytes (column x 3)) r ≡ false) C

module _ (x : Row) (C : List Row) (fresh : is_taken C x ≡ false) (new : IsNewCell x C) where
  abbrev k : LineKey
  k = row_key x

  abbrev name : List ℕ
  name = bytes (column x 3)

  abbrev body : List ℕ
  body = bytes (column x 4)

  pub was_none : get (cells_at (map cell_of C) k) name ≡ None
  was_none = get_cells C k name ∙ ap (option_map (λ r. bytes (column r 4))) (passes_none (has_cell k name) C new)

  found : (q : LineKey) (c : List ℕ) → find (has_cell q c) (put_row x C) ≡ cond (has_cell q c x) (Some x) (find (has_cell q c) C)
  found q c = find_put (has_cell q c) x C fresh (all_weaker _ _ (λ r free is here. apart q c r free is here) C new)
    where
      apart : (q : LineKey) (c : List ℕ) (r : Row) → has_cell k name r ≡ false → has_cell q c r ≡ true → has_cell q c x ≡ true → ⊥
      apart q c r free is here =
          let parts = and_parts _ _ here in
          let clash : true ≡ false = sym is ∙ ap₂ (λ q c. has_cell q c r) (keyed q x parts.0) (same_name_is c name parts.1) ∙ free in
          absurd cc

  -- at its key, the cells have one more
  more_cells : cells_at (map cell_of (put_row x C)) k ≡ insert (cells_at (map cell_of C) k) name body
  more_cells = same_map names_total names_exact _ _ (λ c.
      get_cells (put_row x C) k c ∙ ap (option_map (λ r. bytes (column r 4))) (found k c) ∙ at c
      ∙ sym (get-insert names_total (cells_at (map cell_of C) k) name body c))
    where
      at : (c : List ℕ) → option_map (λ r. bytes (column r 4)) (cond (has_cell k c x) (Some x) (find (has_cell k c) C)) ≡ cond (eq_by_cmp name_cmp c name) (Some body) (get (cells_at (map cell_of C) k) c)
      at c = rw (same_tied k k refl) (elim (eq_by_cmp name_cmp c name) as (λ b. option_map (λ r. bytes (column r 4)) (cond b (Some x) (find (has_cell k c) C)) ≡ cond b (Some body) (get (cells_at (map cell_of C) k) c)) [
        | true ↦ refl
        | false ↦ sym (get_cells C k c)
      ])

  -- at another key they are as before
  same_cells : (q : LineKey) → eq_by_cmp line_cmp q k ≡ false → cells_at (map cell_of (put_row x C)) q ≡ cells_at (map cell_of C) q
  same_cells q apart = same_map names_total names_exact _ _ (λ c.
      get_cells (put_row x C) q c ∙ ap (option_map (λ r. bytes (column r 4))) (found q c ∙ ap (λ b. cond (b && eq_by_cmp name_cmp c name) (Some x) (find (has_cell q c) C)) apart) ∙ sym (get_cells C q c))

  pub celled : (H : List Row) (l : CellLine) → get (cell_lines (map head_of H) (map cell_of C)) k ≡ Some l
      → (get l.1 name ≡ None) × (cell_lines (map head_of H) (map cell_of (put_row x C)) ≡ insert (cell_lines (map head_of H) (map cell_of C)) k (l.0, insert l.1 name body))
  celled H l is = (
    ap (λ cells. get {R = name_cmp} cells name) (sym cells_are) ∙ was_none,
    same_map key_total key_exact _ _ (λ q.
        get_lines (put_row x C) H q ∙ at q (eq_by_cmp line_cmp q k) refl ∙ sym (get-insert key_total (cell_lines (map head_of H) (map cell_of C)) k (l.0, insert l.1 name body) q)),
  )
    where
      here : line_at C k (find (has_key k) H) ≡ Some l
      here = sym (get_lines C H k) ∙ is

      cells_of_line : (o : Option Row) → line_at C k o ≡ Some l → cells_at (map cell_of C) k ≡ l.1
      cells_of_line None e = absurd cc
      cells_of_line (Some r) e = let same : (bytes (column r 3), cells_at (map cell_of C) k) ≡ l = cc in ap (λ (p : CellLine). p.1) same

      cells_are : cells_at (map cell_of C) k ≡ l.1
      cells_are = cells_of_line (find (has_key k) H) here

      put_in : (o : Option Row) → line_at C k o ≡ Some l → line_at (put_row x C) k o ≡ Some (l.0, insert l.1 name body)
      put_in None e = absurd cc
      put_in (Some r) e =
          let same : (bytes (column r 3), cells_at (map cell_of C) k) ≡ l = cc in
          ap₂ (λ v cells. Some (v, cells)) (ap (λ (p : CellLine). p.0) same) (more_cells ∙ ap (λ cells. insert {R = name_cmp} cells name body) cells_are)

      at : (q : LineKey) (b : Bool) → eq_by_cmp line_cmp q k ≡ b → line_at (put_row x C) q (find (has_key q) H) ≡ cond b (Some (l.0, insert l.1 name body)) (get (cell_lines (map head_of H) (map cell_of C)) q)
      at q true same = ap (λ q. line_at (put_row x C) q (find (has_key q) H)) (tied_same q k same) ∙ put_in (find (has_key k) H) here
      at q false apart = ap (λ cells. option_map (λ r. (bytes (column r 3), cells)) (find (has_key q) H)) (same_cells q apart) ∙ sym (get_lines C H q)

-- ---- each cell has its head

-- a row of `head` has the key of the cell
abbrev pub HasHead : List Row → Row → Type 0
HasHead H c = list_any (has_key (row_key c)) H ≡ true

any_head : (H : List Row) (c : Row) → list_any (λ h. same_key h.key (cell_of c).key) (map head_of H) ≡ list_any (has_key (row_key c)) H
any_head [] c = refl
any_head (h ∷ H) c = ap₂ (λ a b. a || b) (is_row_of h (row_key c)) (any_head H c)

pub heads_each : (H C : List Row) → have_heads (map head_of H) (map cell_of C) ≡ true → AllByRecursion (HasHead H) C
heads_each H [] h = tt
heads_each H (c ∷ C) h = let parts = and_parts _ _ h in (sym (any_head H c) ∙ parts.0, heads_each H C parts.1)

pub each_heads : (H C : List Row) → AllByRecursion (HasHead H) C → have_heads (map head_of H) (map cell_of C) ≡ true
each_heads H [] all = refl
each_heads H (c ∷ C) all = and_from _ _ (any_head H c ∙ all.0) (each_heads H C all.1)

-- a head of another key is still there
pub head_stays : (k : LineKey) (H : List Row) (c : Row) → has_key k c ≡ false → HasHead H c → HasHead (others k H) c
head_stays k [] c apart has = has
head_stays k (h ∷ H) c apart has = go (has_key k h) refl (has_key (row_key c) h) refl has (head_stays k H c apart)
  where
    go : (a : Bool) → has_key k h ≡ a → (b : Bool) → has_key (row_key c) h ≡ b → (b || list_any (has_key (row_key c)) H) ≡ true → (HasHead H c → HasHead (others k H) c)
        → list_any (has_key (row_key c)) (cond {A = List Row} (not a) (h ∷ others k H) (others k H)) ≡ true
    go true gone true is has next = absurd (let clash : true ≡ false = sym gone ∙ ap (eq_by_cmp line_cmp k) (sym (keyed (row_key c) h is)) ∙ apart in cc)
    go true gone false is has next = next has
    go false kept true is has next = rw is refl
    go false kept false is has next = rw is (next has)

-- a row with a key that has a line has its head
pub head_there : (H C : List Row) (c : Row) (l : CellLine) → get (cell_lines (map head_of H) (map cell_of C)) (row_key c) ≡ Some l → HasHead H c
head_there H C c l is = go H (sym (get_lines C H (row_key c)) ∙ is)
  where
    go : (H : List Row) → line_at C (row_key c) (find (has_key (row_key c)) H) ≡ Some l → HasHead H c
    go [] e = absurd cc
    go (h ∷ H) e = elim (has_key (row_key c) h) as (λ b. line_at C (row_key c) (cond b (Some h) (find (has_key (row_key c)) H)) ≡ Some l → (b || list_any (has_key (row_key c)) H) ≡ true) [
      | true ↦ λ _. refl
      | false ↦ go H
    ] e

-- where a row has no cells in the map, or is none, no cell has its key
pub bare : (k : LineKey) (H C : List Row) → AllByRecursion (HasHead H) C → IfSome (get (cell_lines (map head_of H) (map cell_of C)) k) (λ l. l.1 ≡ empty) → IsAbsent k C
bare k H C heads none = all_from _ C (λ c h. at c h (has_key k c) refl)
  where
    none_any : (H : List Row) → AllByRecursion (λ h. has_key k h ≡ false) H → list_any (has_key k) H ≡ false
    none_any [] all = refl
    none_any (h ∷ H) all = rw all.0 (none_any H all.1)

    cells_none : (o : Option Row) → find (has_key k) H ≡ o → IfSome (line_at C k o) (λ l. l.1 ≡ empty) → list_any (has_key k) H ≡ true → cells_at (map cell_of C) k ≡ empty
    cells_none (Some h) found e any = e
    cells_none None found e any = absurd (let clash : true ≡ false = sym any ∙ none_any H (none_passes (has_key k) H found) in cc)

    unmapped : (o : Option Row) → option_map (λ r. bytes (column r 4)) o ≡ None → o ≡ None
    unmapped None e = refl
    unmapped (Some r) e = absurd cc

    at : (c : Row) → Has C c → (b : Bool) → has_key k c ≡ b → has_key k c ≡ false
    at c h false is = is
    at c h true is =
        let name = bytes (column c 3) in
        let head : list_any (has_key k) H ≡ true = subst (λ q. list_any (has_key q) H ≡ true) (sym (keyed k c is)) (all_has _ C c heads h) in
        let cells : cells_at (map cell_of C) k ≡ empty = cells_none (find (has_key k) H) refl (subst (λ o. IfSome o (λ l. l.1 ≡ empty)) (get_lines C H k) none) head in
        let missing = unmapped (find (has_cell k name) C) (sym (get_cells C k name) ∙ ap (λ m. get {R = name_cmp} m name) cells ∙ get-empty name_cmp name) in
        let apart = all_has _ C c (none_passes (has_cell k name) C missing) h in
        absurd (let clash : true ≡ false = sym (and_from _ _ is (name_itself name)) ∙ apart in cc)
