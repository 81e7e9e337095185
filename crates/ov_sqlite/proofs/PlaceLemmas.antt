-- The cells of a row, of which one after the other gets its body.
use Rattle.std.proofs.Common.{◌≡◌, ◌≢◌, ◌<◌, ◌≤◌, ◌+◌, ℕ, zero, suc, List, [], ◌∷◌, ◌++◌, map, length, take, drop, get_or, cond, Bool, true, false, Option, Some, IfSome, None, refl, sym, ap, ap₂, subst, ◌∙◌, arith, add-one}
use Rattle.std.specs.declared.cmp.Ordering.TheVariants.{Less, Equal}
use Rattle.std.specs.List.{AllByRecursion}
use Rattle.std.specs.Ordering.{eq_by_cmp}
use Rattle.std.specs.FinMap.{get, insert, from_entries, find as entry_at, get-from_entries, get-insert, same_map}
use Rattle.std.proofs.lemmas.Cmp.{tied_itself}
use Rattle.std.proofs.lemmas.List.{map-append, append_assoc, append-nil, take_all}
use Rattle.sqlite.specs.Order.{Row, column}
use Rattle.sqlite_value.specs.Order.{bytes}
use Rattle.sqlite_trees.specs.Tree.{IsAscending}
use Rattle.sqlite_trees.proofs.ListLemmas.{all_weaker}
use Rattle.ov_specs.specs.rows.Lines.{LineKey}
use Rattle.ov_specs.specs.rows.Cells.{CellLine, CellLines, Cells}
use Rattle.ov_specs.specs.schema.SchemaTypes.{name_cmp}
use Rattle.ov_keeper.specs.declared.cell_line.Cell.{Cell}
use Rattle.ov_keeper.specs.Views.{cell_entry}
use Rattle.ov_sqlite.specs.Joining.{CellEntry}
use Rattle.ov_sqlite.specs.Renewing.{shown_entry, DoCellsAscend, AreOfColumns, HasVersion, IsBodyChanged, IsChangedInPlace}
use Rattle.ov_sqlite.proofs.CellLemmas.{names_total, names_exact, same_name_is, name_itself}
use Rattle.ov_sqlite.proofs.NumberLemmas.{all_push, all_front, taken_more, ascending_push}
use Rattle.ov_sqlite.proofs.HeldLemmas.{map_all}
use Rattle.ov_sqlite.proofs.RefillLemmas.{put_found, put_over, put_back}

-- ---- a body that is put again

body_back : (m : Cells) (name body : List ℕ) → get m name ≡ Some body → m ≡ insert m name body
body_back m name body is = same_map names_total names_exact _ _ (λ c. at c (eq_by_cmp name_cmp c name) refl ∙ sym (get-insert names_total m name body c))
  where
    at : (c : List ℕ) (b : Bool) → eq_by_cmp name_cmp c name ≡ b → get m c ≡ cond b (Some body) (get m c)
    at c true same = ap (get m) (same_name_is c name same) ∙ is
    at c false apart = refl

-- where a cell has the body already, nothing has to be done
pub body_kept : (k : LineKey) (name body : List ℕ) (m : CellLines) → IsBodyChanged k name body body m m
body_kept k name body m l there has = put_back m k l there ∙ ap (λ (cells : Cells). insert m k (l.0, cells)) (body_back l.1 name body has)

-- ---- a body in a list of cells

-- the first cell of a column is found after those of others
found_after : (name was : List ℕ) (front back : List CellEntry) → AllByRecursion (λ (e : CellEntry). e.0 ≢ name) front → entry_at name_cmp name (front ++ (name, was) ∷ back) ≡ Some was
found_after name was [] back apart = rw (name_itself name) refl
found_after name was (e ∷ front) back apart = go (eq_by_cmp name_cmp name e.0) refl (found_after name was front back apart.1)
  where
    go : (b : Bool) → eq_by_cmp name_cmp name e.0 ≡ b → entry_at name_cmp name (front ++ (name, was) ∷ back) ≡ Some was → cond b (Some e.1) (entry_at name_cmp name (front ++ (name, was) ∷ back)) ≡ Some was
    go true same next = absurd (apart.0 (sym (same_name_is name e.0 same)))
    go false other next = next

twice : {X : Type 0} (b : Bool) (x y z : X) → cond b x z ≡ cond b x (cond b y z)
twice true x y z = refl
twice false x y z = refl

changed_after : (name was body : List ℕ) (front back : List CellEntry) → AllByRecursion (λ (e : CellEntry). e.0 ≢ name) front
    → (c : List ℕ) → entry_at name_cmp c (front ++ (name, body) ∷ back) ≡ cond (eq_by_cmp name_cmp c name) (Some body) (entry_at name_cmp c (front ++ (name, was) ∷ back))
changed_after name was body [] back apart c = twice (eq_by_cmp name_cmp c name) (Some body) (Some was) (entry_at name_cmp c back)
changed_after name was body (e ∷ front) back apart c = go (eq_by_cmp name_cmp c e.0) refl (eq_by_cmp name_cmp c name) refl (changed_after name was body front back apart.1 c)
  where
    go : (a : Bool) → eq_by_cmp name_cmp c e.0 ≡ a → (b : Bool) → eq_by_cmp name_cmp c name ≡ b
        → entry_at name_cmp c (front ++ (name, body) ∷ back) ≡ cond (eq_by_cmp name_cmp c name) (Some body) (entry_at name_cmp c (front ++ (name, was) ∷ back))
        → cond a (Some e.1) (entry_at name_cmp c (front ++ (name, body) ∷ back)) ≡ cond b (Some body) (cond a (Some e.1) (entry_at name_cmp c (front ++ (name, was) ∷ back)))
    go true here true same next = absurd (apart.0 (sym (same_name_is c e.0 here) ∙ same_name_is c name same))
    go true here false other next = refl
    go false there true same next = next ∙ ap (λ b. cond b (Some body) (entry_at name_cmp c (front ++ (name, was) ∷ back))) same
    go false there false other next = next ∙ ap (λ b. cond b (Some body) (entry_at name_cmp c (front ++ (name, was) ∷ back))) other

module _ (name was body : List ℕ) (front back : List CellEntry) (apart : AllByRecursion (λ (e : CellEntry). e.0 ≢ name) front) where
  abbrev before : Cells
  before = from_entries (front ++ (name, was) ∷ back)

  abbrev after : Cells
  after = from_entries (front ++ (name, body) ∷ back)

  body_put : insert before name body ≡ after
  body_put = same_map names_total names_exact _ _ (λ c.
      get-insert names_total before name body c ∙ ap (cond (eq_by_cmp name_cmp c name) (Some body)) (get-from_entries names_total (front ++ (name, was) ∷ back) c)
      ∙ sym (changed_after name was body front back apart c) ∙ sym (get-from_entries names_total (front ++ (name, body) ∷ back) c))

  -- one more cell of a row has its body
  pub renewed_more : (k : LineKey) (v : List ℕ) (w : CellLine) (a b d : CellLines) → IsChangedInPlace k w (v, before) a b → IsBodyChanged k name was body b d → IsChangedInPlace k w (v, after) a d
  renewed_more k v w a b d first then start =
      let mid = first start in
      let there = ap (λ (m : CellLines). get m k) mid ∙ put_found a k (v, before) in
      let has = get-from_entries names_total (front ++ (name, was) ∷ back) name ∙ found_after name was front back apart in
      then (v, before) there has ∙ ap (λ (m : CellLines). insert m k (v, insert before name body)) mid ∙ put_over a k _ _ ∙ ap (λ (cells : Cells). insert a k (v, cells)) body_put

-- ---- the cells at a place

drop_one : {X : Type 0} (xs : List X) (i : ℕ) (x : X) → i < length xs → x ≡ get_or xs i x → drop i xs ≡ x ∷ drop (suc i) xs
drop_one [] i x low is = absurd (omega (arith, low))
drop_one (y ∷ xs) zero x low is = ap (λ z. z ∷ xs) (sym is)
drop_one (y ∷ xs) (suc i) x low is = drop_one xs i x (omega (arith, low)) is

same_at : {X Y Z : Type 0} (f : X → Z) (g : Y → Z) (xs : List X) (ys : List Y) (i : ℕ) (x : X) (y : Y) → map f xs ≡ map g ys → i < length xs → x ≡ get_or xs i x → y ≡ get_or ys i y → f x ≡ g y
same_at f g [] ys i x y same low a b = absurd (omega (arith, low))
same_at f g (u ∷ xs) [] i x y same low a b = absurd (omega (arith, ap length same))
same_at f g (u ∷ xs) (w ∷ ys) zero x y same low a b = ap f a ∙ ap (λ zs. get_or zs 0 (f u)) same ∙ sym (ap g b)
same_at f g (u ∷ xs) (w ∷ ys) (suc i) x y same low a b = same_at f g xs ys i x y (ap (drop 1) same) (omega (arith, low)) a b

-- those before a place are below it
before_below : {X : Type 0} (R : X → X → Type 0) (xs : List X) (i : ℕ) (x : X) → i < length xs → x ≡ get_or xs i x → IsAscending R xs → AllByRecursion (λ y. R y x) (take i xs)
before_below R [] i x low is ascends = absurd (omega (arith, low))
before_below R (y ∷ xs) zero x low is ascends = tt
before_below R (y ∷ xs) (suc i) x low is ascends = (all_front (R y) xs i x (omega (arith, low)) is ascends.0, before_below R xs i x (omega (arith, low)) is ascends.1)

below_other : (a b : List ℕ) → name_cmp a b ≡ Less → a ≢ b
below_other a b below same = let clash : Less ≡ Equal = sym below ∙ ap (name_cmp a) (sym same) ∙ tied_itself names_total a in cc

-- the first cells have their bodies, and the others those that were read
abbrev pub mixed : ℕ → List Cell → List Row → List CellEntry
mixed i cells rows = map cell_entry (take i cells) ++ map shown_entry (drop i rows)

module _ (cells : List Cell) (rows : List Row) (i : ℕ) (x : Cell) (y : Row) (low : i < length cells) (as_many : length rows ≡ length cells) (x_is : x ≡ get_or cells i x) (y_is : y ≡ get_or rows i y) (of : AreOfColumns rows cells) (ascends : DoCellsAscend cells) where
  abbrev front : List CellEntry
  front = map cell_entry (take i cells)

  abbrev back : List CellEntry
  back = map shown_entry (drop (suc i) rows)

  few : i < length rows
  few = omega (arith, low, as_many)

  pub at_place : mixed i cells rows ≡ front ++ (x.column, bytes (column y 1)) ∷ back
  at_place = ap (λ ys. front ++ map shown_entry ys) (drop_one rows i y few y_is) ∙ ap (λ name. front ++ (name, bytes (column y 1)) ∷ back) (same_at (λ r. bytes (column r 0)) (λ (c : Cell). c.column) rows cells i y x of few y_is x_is)

  pub past_place : mixed (i + 1) cells rows ≡ front ++ (x.column, x.body) ∷ back
  past_place =
      ap (λ xs. map cell_entry xs ++ map shown_entry (drop (i + 1) rows)) (taken_more cells i x low x_is)
      ∙ ap (λ es. es ++ map shown_entry (drop (i + 1) rows)) (map-append cell_entry (take i cells) (x ∷ []))
      ∙ append_assoc front (cell_entry x ∷ []) (map shown_entry (drop (i + 1) rows))
      ∙ ap (λ n. front ++ cell_entry x ∷ map shown_entry (drop n rows)) (add-one i)

  pub others_before : AllByRecursion (λ (e : CellEntry). e.0 ≢ x.column) front
  others_before = map_all (λ (e : CellEntry). e.0 ≢ x.column) cell_entry (take i cells) (all_weaker _ _ (λ (c : Cell) below. below_other c.column x.column below) (take i cells) (before_below _ cells i x low x_is ascends))

  -- with the cell at the place, one more has its body
  pub renewed_at : (k : LineKey) (v : List ℕ) (w : CellLine) (a b d : CellLines) → IsChangedInPlace k w (v, from_entries (mixed i cells rows)) a b → IsBodyChanged k x.column (bytes (column y 1)) x.body b d → IsChangedInPlace k w (v, from_entries (mixed (i + 1) cells rows)) a d
  renewed_at k v w a b d first then =
      subst (λ es. IsChangedInPlace k w (v, from_entries es) a d) (sym past_place)
      (renewed_more x.column (bytes (column y 1)) x.body front back others_before k v w a b d (subst (λ es. IsChangedInPlace k w (v, from_entries es) a b) at_place first) then)

drop_all : {X : Type 0} (n : ℕ) (xs : List X) → length xs ≤ n → drop n xs ≡ []
drop_all zero [] h = refl
drop_all (suc n) [] h = refl
drop_all zero (x ∷ xs) h = absurd (omega (arith, h))
drop_all (suc n) (x ∷ xs) h = drop_all n xs (omega (arith, h))

-- after the last cell, each has its body
pub mixed_all : (n : ℕ) (cells : List Cell) (rows : List Row) → length cells ≤ n → length rows ≡ length cells → mixed n cells rows ≡ map cell_entry cells
mixed_all n cells rows h as_many =
    ap (λ xs. map cell_entry xs ++ map shown_entry (drop n rows)) (take_all n cells h)
    ∙ ap (λ ys. map cell_entry cells ++ map shown_entry ys) (drop_all n rows (omega (arith, h, as_many))) ∙ append-nil (map cell_entry cells)

-- ---- a row that gets its version, and then its cells

pub renewed_row : (k : LineKey) (v u : List ℕ) (read all : Cells) (a b d : CellLines) → get a k ≡ Some (u, read) → HasVersion k v a b → IsChangedInPlace k (v, read) (v, all) b d → d ≡ insert a k (v, all)
renewed_row k v u read all a b d there first then =
    let mid = first (u, read) there in
    then (ap (λ (m : CellLines). get m k) mid ∙ put_found a k (v, read)) ∙ ap (λ (m : CellLines). insert m k (v, all)) mid ∙ put_over a k _ _

-- ---- names that ascend

pub below_push : {S : Type 0} (of : S → List ℕ) (cells : List Cell) (x : Cell) (last : Option S) (n : List ℕ) → IfSome last (λ l. name_cmp (of l) x.column ≡ Less) → name_cmp x.column n ≡ Less
    → ((m : List ℕ) → IfSome last (λ l. name_cmp (of l) m ≡ Less) → AllByRecursion (λ (c : Cell). name_cmp c.column m ≡ Less) cells) → AllByRecursion (λ (c : Cell). name_cmp c.column n ≡ Less) (cells ++ x ∷ [])
below_push {S} of cells x last n above low below = all_push _ cells x (below n (further last above)) low
  where
    further : (last : Option S) → IfSome last (λ l. name_cmp (of l) x.column ≡ Less) → IfSome last (λ l. name_cmp (of l) n ≡ Less)
    further None h = h
    further (Some l) h = names_total.trans (of l) x.column n h low

pub ascend_push : (cells : List Cell) (x : Cell) → DoCellsAscend cells → AllByRecursion (λ (c : Cell). name_cmp c.column x.column ≡ Less) cells → DoCellsAscend (cells ++ x ∷ [])
ascend_push cells x ascends below = ascending_push _ cells x ascends below

-- ---- columns that agree

pub columns_push : (rows : List Row) (cells : List Cell) (i : ℕ) (y : Row) (x : Cell) → i < length rows → i < length cells → y ≡ get_or rows i y → x ≡ get_or cells i x → bytes (column y 0) ≡ x.column
    → AreOfColumns (take i rows) (take i cells) → AreOfColumns (take (i + 1) rows) (take (i + 1) cells)
columns_push rows cells i y x few low y_is x_is name same =
    ap (map (λ r. bytes (column r 0))) (taken_more rows i y few y_is) ∙ map-append (λ r. bytes (column r 0)) (take i rows) (y ∷ [])
    ∙ ap₂ (λ ns n. ns ++ n ∷ []) same name
    ∙ sym (map-append (λ (c : Cell). c.column) (take i cells) (x ∷ [])) ∙ sym (ap (map (λ (c : Cell). c.column)) (taken_more cells i x low x_is))
