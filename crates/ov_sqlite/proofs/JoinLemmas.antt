-- The heads with the cells that were read so far.
use Rattle.std.proofs.Common.{◌≡◌, ◌≢◌, ◌+◌, ◌<◌, ℕ, zero, suc, List, [], ◌∷◌, ◌++◌, map, filter, length, get_or, slice_get, IfSome, cond, Bool, true, false, ◌||◌, refl, sym, ap, ap₂, subst, ◌∙◌, arith, set, Vec, Global, Option, Some, None, MatchOption, HoldsAt, ℤ, ◌<ℤ◌}
use Rattle.std.specs.List.{AllByRecursion, AllWithin, list_any}
use Rattle.std.specs.FinMap.{from_entries}
use Rattle.sqlite.specs.Order.{Row, column}
use Rattle.sqlite_value.specs.Order.{bytes}
use Rattle.sqlite_trees.proofs.ListLemmas.{all_weaker}
use Rattle.ov_specs.specs.rows.Lines.{LineKey, line_cmp}
use Rattle.ov_specs.specs.rows.Database.{same_key}
use Rattle.ov_specs.specs.rows.Cells.{cell_lines, have_heads}
use Rattle.ov_specs.proofs.laws.LineKeys.{same_key-is, same_key-itself}
use Rattle.ov_keeper.specs.declared.cell_line.CellLine.{CellLine}
use Rattle.ov_keeper.specs.declared.cell_line.Cell.{Cell as KeptCell}
use Rattle.ov_keeper.specs.Views.{cell_line_entry, cell_entry}
use Rattle.ov_tables.specs.Format.{IsCell, row_key, head_of, cell_of}
use Rattle.ov_tables.proofs.RowLemmas.{has_key}
use Rattle.ov_sqlite.proofs.CellLemmas.{HasHead, heads_each, each_heads, is_row_of}
use Rattle.ov_sqlite.proofs.NumberLemmas.{all_push, all_first, all_last, push_numbered, push_below}
use Rattle.sqlite.specs.declared.types.Value.TheVariants.{Int}
use Rattle.ov_sqlite.specs.declared.join.Joining.{Joining}
use Rattle.ov_sqlite.specs.Joined.{AreJoined, HasJoined, HasRefused}
use Rattle.ov_sqlite.specs.Joining.{CellEntry, Parts, line_parts, entries_of, head_parts, with_cell, entry_in, AreDistinct}

-- the cells of a key, with one row more
more_entries : (D : List Row) (x : Row) (k : LineKey) → entries_of (D ++ x ∷ []) k ≡ entries_of D k ++ cond (same_key (row_key x) k) (entry_in x ∷ []) []
more_entries [] x k = elim (same_key (row_key x) k) as (λ b. map (λ c. (c.column, c.body)) (cond {A = List _} b (cell_of x ∷ []) []) ≡ cond {A = List CellEntry} b (entry_in x ∷ []) []) [ true ↦ refl | false ↦ refl ]
more_entries (d ∷ D) x k =
    let next = more_entries D x k in
    elim (same_key (row_key d) k) as (λ b. map (λ c. (c.column, c.body)) (cond {A = List _} b (cell_of d ∷ filter (λ c. same_key c.key k) (map cell_of (D ++ x ∷ []))) (filter (λ c. same_key c.key k) (map cell_of (D ++ x ∷ []))))
    ≡ map (λ c. (c.column, c.body)) (cond {A = List _} b (cell_of d ∷ filter (λ c. same_key c.key k) (map cell_of D)) (filter (λ c. same_key c.key k) (map cell_of D))) ++ cond (same_key (row_key x) k) (entry_in x ∷ []) []) [
      | true ↦ ap (λ es. entry_in d ∷ es) next
      | false ↦ next
    ]

append_none : {X : Type 0} (xs : List X) → xs ++ [] ≡ xs
append_none [] = refl
append_none (x ∷ xs) = ap (λ ys. x ∷ ys) (append_none xs)

module _ (D : List Row) (x : Row) where
  -- the head of the cell
  here_parts : (h : Row) → same_key (row_key h) (row_key x) ≡ true → head_parts (D ++ x ∷ []) h ≡ (row_key h, (bytes (column h 3), entries_of D (row_key h) ++ entry_in x ∷ []))
  here_parts h same =
      let tied : same_key (row_key x) (row_key h) ≡ true = subst (λ k. same_key k (row_key h) ≡ true) (same_key-is (row_key h) (row_key x) same) (same_key-itself (row_key h)) in
      ap (λ es. (row_key h, (bytes (column h 3), es))) (more_entries D x (row_key h) ∙ ap (λ b. entries_of D (row_key h) ++ cond b (entry_in x ∷ []) []) tied)

  -- another head
  other_parts : (h : Row) → (row_key h ≡ row_key x → ⊥) → head_parts (D ++ x ∷ []) h ≡ head_parts D h
  other_parts h apart = ap (λ es. (row_key h, (bytes (column h 3), es))) (more_entries D x (row_key h) ∙ at (same_key (row_key x) (row_key h)) refl)
    where
      at : (b : Bool) → same_key (row_key x) (row_key h) ≡ b → entries_of D (row_key h) ++ cond b (entry_in x ∷ []) [] ≡ entries_of D (row_key h)
      at true same = absurd (apart (sym (same_key-is (row_key x) (row_key h) same)))
      at false other = append_none (entries_of D (row_key h))

  others_parts : (heads : List Row) → AllByRecursion (λ h. row_key h ≡ row_key x → ⊥) heads → map (head_parts D) heads ≡ map (head_parts (D ++ x ∷ [])) heads
  others_parts [] apart = refl
  others_parts (h ∷ heads) apart = ap₂ (λ p ps. p ∷ ps) (sym (other_parts h apart.0)) (others_parts heads apart.1)

  all_at : (P : Row → Type 0) (rows : List Row) (n : ℕ) (d : Row) → n < length rows → AllByRecursion P rows → P (get_or rows n d)
  all_at P [] n d low all = absurd (omega (arith, low))
  all_at P (r ∷ rows) zero d low all = all.0
  all_at P (r ∷ rows) (suc n) d low all = all_at P rows n d (omega (arith, low)) all.1

  pub joined_step : (heads : List Row) (at : ℕ) (d : Row) → AreDistinct heads → at < length heads → same_key (row_key (get_or heads at d)) (row_key x) ≡ true
      → with_cell at (entry_in x) (map (head_parts D) heads) ≡ map (head_parts (D ++ x ∷ [])) heads
  joined_step [] at d distinct low same = absurd (omega (arith, low))
  joined_step (h ∷ heads) zero d distinct low same =
      let is = same_key-is (row_key h) (row_key x) same in
      ap₂ (λ p ps. p ∷ ps) (sym (here_parts h same)) (others_parts heads (all_weaker _ _ (λ r other e. other (is ∙ sym e)) heads distinct.0))
  joined_step (h ∷ heads) (suc n) d distinct low same =
      let there = same_key-is (row_key (get_or heads n d)) (row_key x) same in
      let apart = all_at (λ r. row_key h ≢ row_key r) heads n d (omega (arith, low)) distinct.0 in
      ap₂ (λ p ps. p ∷ ps) (sym (other_parts h (λ e. apart (e ∙ sym there)))) (joined_step heads n d distinct.1 (omega (arith, low)) same)

-- ---- the whole

-- rows with these parts are these lines
pub joined_entries : (cells heads : List Row) (lines : List CellLine) → map line_parts lines ≡ map (head_parts cells) heads → from_entries {R = line_cmp} (map cell_line_entry lines) ≡ cell_lines (map head_of heads) (map cell_of cells)
joined_entries cells heads lines is = ap from_entries (of_lines lines ∙ ap (map viewed) is ∙ of_heads heads)
  where
    viewed : Parts → LineKey × Rattle.ov_specs.specs.rows.Cells.CellLine
    viewed p = (p.0, (p.1.0, from_entries p.1.1))

    of_lines : (lines : List CellLine) → map cell_line_entry lines ≡ map viewed (map line_parts lines)
    of_lines [] = refl
    of_lines (l ∷ lines) = ap (λ es. cell_line_entry l ∷ es) (of_lines lines)

    of_heads : (heads : List Row) → map viewed (map (head_parts cells) heads) ≡ map (λ h. (h.key, (h.version, Rattle.ov_specs.specs.rows.Cells.cells_at (map cell_of cells) h.key))) (map head_of heads)
    of_heads [] = refl
    of_heads (h ∷ heads) = ap (λ es. viewed (head_parts cells h) ∷ es) (of_heads heads)

-- whether a line has a key
pub any_line : (cells heads : List Row) (lines : List CellLine) (k : LineKey) → map line_parts lines ≡ map (head_parts cells) heads → list_any (λ l. same_key (line_parts l).0 k) lines ≡ list_any (λ h. same_key h.key k) (map head_of heads)
any_line cells heads lines k is = of_lines lines ∙ ap (list_any (λ (p : Parts). same_key p.0 k)) is ∙ of_heads heads
  where
    of_lines : (lines : List CellLine) → list_any (λ l. same_key (line_parts l).0 k) lines ≡ list_any (λ (p : Parts). same_key p.0 k) (map line_parts lines)
    of_lines [] = refl
    of_lines (l ∷ lines) = ap (λ b. same_key (line_parts l).0 k || b) (of_lines lines)

    of_heads : (heads : List Row) → list_any (λ (p : Parts). same_key p.0 k) (map (head_parts cells) heads) ≡ list_any (λ h. same_key h.key k) (map head_of heads)
    of_heads [] = refl
    of_heads (h ∷ heads) = ap (λ b. same_key (row_key h) k || b) (of_heads heads)

-- the line at a place is the head's
pub line_at_place : (cells heads : List Row) (lines : List CellLine) (at : ℕ) (d : Row) (k : LineKey) → map line_parts lines ≡ map (head_parts cells) heads → at < length lines
    → IfSome (slice_get lines at) (λ l. same_key (line_parts l).0 k ≡ true) → (at < length heads) × (same_key (row_key (get_or heads at d)) k ≡ true)
line_at_place cells [] [] at d k is low same = absurd (omega (arith, low))
line_at_place cells (h ∷ heads) [] at d k is low same = absurd (omega (arith, low))
line_at_place cells [] (x ∷ lines) at d k is low same = absurd (omega (arith, ap length is))
line_at_place cells (h ∷ heads) (x ∷ lines) zero d k is low same =
    let first : line_parts x ≡ head_parts cells h = ap (λ ps. get_or ps 0 (line_parts x)) is in
    (omega arith, ap (λ (p : Parts). same_key p.0 k) (sym first) ∙ same)
line_at_place cells (h ∷ heads) (x ∷ lines) (suc n) d k is low same =
    let rest : map line_parts lines ≡ map (head_parts cells) heads = ap (Rattle.std.proofs.Common.drop 1) is in
    let it = line_at_place cells heads lines n d k rest (omega (arith, low)) same in
    (omega (arith, it.0), it.1)

-- so that head is there
pub head_at_place : (heads : List Row) (at : ℕ) (d x : Row) → at < length heads → same_key (row_key (get_or heads at d)) (row_key x) ≡ true → HasHead heads x
head_at_place [] at d x low same = absurd (omega (arith, low))
head_at_place (h ∷ heads) zero d x low same = rw (sym (is_row_of h (row_key x)) ∙ same) refl
head_at_place (h ∷ heads) (suc n) d x low same =
    elim (has_key (row_key x) h) as (λ b. (b || list_any (has_key (row_key x)) heads) ≡ true) [ true ↦ refl | false ↦ head_at_place heads n d x (omega (arith, low)) same ]

-- a cell without a head
pub not_owned : (heads cells : List Row) (x : Row) → list_any (λ h. same_key h.key (row_key x)) (map head_of heads) ≡ false → have_heads (map head_of heads) (map cell_of (cells ++ x ∷ [])) ≡ false
not_owned heads cells x none = decide (have_heads (map head_of heads) (map cell_of (cells ++ x ∷ []))) refl
  where
    decide : (b : Bool) → have_heads (map head_of heads) (map cell_of (cells ++ x ∷ [])) ≡ b → have_heads (map head_of heads) (map cell_of (cells ++ x ∷ [])) ≡ false
    decide false e = e
    decide true e =
        let there : HasHead heads x = all_last (HasHead heads) cells x (heads_each heads (cells ++ x ∷ []) e) in
        absurd (let clash : true ≡ false = sym there ∙ sym (heads_any heads) ∙ none in cc)
      where
        heads_any : (heads : List Row) → list_any (λ h. same_key h.key (row_key x)) (map head_of heads) ≡ list_any (has_key (row_key x)) heads
        heads_any [] = refl
        heads_any (h ∷ heads) = ap₂ (λ a b. a || b) (is_row_of h (row_key x)) (heads_any heads)

-- the first of the cells have their heads if all have
pub owned_first : (heads cells rest : List Row) → have_heads (map head_of heads) (map cell_of (cells ++ rest)) ≡ true → have_heads (map head_of heads) (map cell_of cells) ≡ true
owned_first heads cells rest owned = each_heads heads cells (all_first (HasHead heads) cells rest (heads_each heads (cells ++ rest) owned))

map_push : {X Y : Type 0} (f : X → Y) (xs : List X) (x : X) → map f (xs ++ x ∷ []) ≡ map f xs ++ f x ∷ []
map_push f [] x = refl
map_push f (y ∷ xs) x = ap (λ ys. f y ∷ ys) (map_push f xs x)

-- the line at a place has one more cell
pub cell_added : (lines : List CellLine) (at : ℕ) (line : CellLine) (more : Vec KeptCell Global) (cell : KeptCell) → at < length lines → line ≡ get_or lines at line → more.items ≡ line.cells.items ++ cell ∷ []
    → map line_parts (set lines at (record { table = line.table; id = line.id; version = line.version; cells = more })) ≡ with_cell at (cell_entry cell) (map line_parts lines)
cell_added [] at line more cell low is added = absurd (omega (arith, low))
cell_added (x ∷ lines) zero line more cell low is added =
    let cells = ap (map cell_entry) added ∙ map_push cell_entry line.cells.items cell in
    ap (λ es. ((line.table, line.id), (line.version, es)) ∷ map line_parts lines) cells ∙ ap (λ (l : CellLine). ((l.table, l.id), (l.version, map cell_entry l.cells.items ++ cell_entry cell ∷ [])) ∷ map line_parts lines) is
cell_added (x ∷ lines) (suc n) line more cell low is added = ap (λ ps. line_parts x ∷ ps) (cell_added lines n line more cell (omega (arith, low)) is added)

-- the first line that passes, or none does
pub first_place : (p : CellLine → Bool) (lines : List CellLine) (o : Option ℕ)
    → MatchOption o (AllWithin (λ l. p l ≡ false) lines 0 (length lines)) (λ i. (i < length lines) × HoldsAt (λ l. p l ≡ true) lines i × AllWithin (λ l. p l ≡ false) lines 0 i)
    → MatchOption o (list_any p lines ≡ false) (λ at. (at < length lines) × IfSome (slice_get lines at) (λ l. p l ≡ true))
first_place p lines None none = none_any lines none
  where
    none_any : (lines : List CellLine) → AllWithin (λ l. p l ≡ false) lines 0 (length lines) → list_any p lines ≡ false
    none_any [] h = refl
    none_any (x ∷ lines) h = let first : p x ≡ false = h 0 x (omega arith) (omega arith) in rw first (none_any lines (λ k d low high. h (suc k) d (omega arith) (omega (arith, high))))
first_place p lines (Some i) it = (it.0, there lines i it.1)
  where
    there : (lines : List CellLine) (i : ℕ) → HoldsAt (λ l. p l ≡ true) lines i → IfSome (slice_get lines i) (λ l. p l ≡ true)
    there [] i h = tt
    there (x ∷ lines) zero h = h x
    there (x ∷ lines) (suc i) h = there lines i h

-- ---- one row at a time

-- one cell more was put into its line
pub joined_more : (heads cells : List Row) (x : Row) (lines new : List CellLine) (at : ℕ) → AreDistinct heads → AreJoined heads cells lines → at < length lines
    → IfSome (slice_get lines at) (λ l. same_key (line_parts l).0 (row_key x) ≡ true) → map line_parts new ≡ with_cell at (entry_in x) (map line_parts lines) → AreJoined heads (cells ++ x ∷ []) new
joined_more heads cells x lines new at distinct was low same put =
    let place = line_at_place cells heads lines at x (row_key x) was.joined low same in
    record {
      joined = put ∙ ap (with_cell at (entry_in x)) was.joined ∙ joined_step cells x heads at x distinct place.0 place.1;
      owned = each_heads heads (cells ++ x ∷ []) (all_push (HasHead heads) cells x (heads_each heads cells was.owned) (head_at_place heads at x x place.0 place.1));
    }

pub joining_more : (first old new : Joining) (cells : List Row) (x : Row) (n : ℤ) (at : ℕ) → HasJoined first old cells → column x 0 ≡ Int n → IfSome old.number (λ k. k <ℤ n) → new.number ≡ Some n → new.is_malformed ≡ old.is_malformed
    → IsCell x → at < length old.lines.items → IfSome (slice_get old.lines.items at) (λ l. same_key (line_parts l).0 (row_key x) ≡ true) → map line_parts new.lines.items ≡ with_cell at (entry_in x) (map line_parts old.lines.items)
    → HasJoined first new (cells ++ x ∷ [])
joining_more first old new cells x n at was is above number flag cell low same put = record {
  sound = flag ∙ was.sound;
  are = all_push IsCell cells x was.are cell;
  numbered = push_numbered cells x n is (was.below n above) was.numbered;
  below = λ m lower. push_below cells x old.number n m is above (subst (λ o. IfSome o (λ k. k <ℤ m)) number lower) was.below;
  joins = λ heads bare. joined_more heads cells x old.lines.items new.lines.items at bare.0 (was.joins heads bare) low same put;
}

-- a row was refused, since it is no cell or has no head
pub joining_refused : (first old new : Joining) (cells : List Row) (x : Row) → HasJoined first old cells → (IsCell x → list_any (λ l. same_key (line_parts l).0 (row_key x)) old.lines.items ≡ false) → HasRefused first new (cells ++ x ∷ [])
joining_refused first old new cells x was missing bad are heads bare =
    not_owned heads cells x (sym (any_line cells heads old.lines.items (row_key x) (was.joins heads bare).joined) ∙ missing (all_last IsCell cells x are))
