-- Rows with one key are one, so that the order in which they are read does not matter.
use Rattle.std.proofs.Common.{◌≡◌, ◌⊎◌, inl, inr, ℕ, ℤ, List, [], ◌∷◌, map, find, cond, Bool, true, false, not, ◌&&◌, ◌||◌, ◌==◌, arith, Option, Some, None, option_map, refl, sym, ap, ap₂, subst, ◌∙◌}
use Rattle.std.specs.List.{AllByRecursion, list_any, list_all}
use Rattle.std.specs.List.Sorted.{IsPermutation}
use Rattle.std.proofs.lemmas.List.Sorted.{IsPermutation-sym}
use Rattle.std.proofs.lemmas.Bool.{and_parts}
use Rattle.std.proofs.lemmas.Bool.Decides.{nat_tests}
use Rattle.std.specs.declared.cmp.Ordering.{Ordering}
use Rattle.std.specs.declared.cmp.Ordering.TheVariants.{Less, Equal, Greater}
use Rattle.std.specs.Ordering.{is_eq, is_ne}
use Rattle.std.specs.Cmp.{eq_by_cmp_equiv}
use Rattle.std.specs.Cmp.Lexicographic.{nat_list_cmp_total}
use Rattle.sqlite.specs.declared.types.Value.{Value}
use Rattle.sqlite.specs.declared.types.Value.TheVariants.{Int, Text, Blob}
use Rattle.sqlite.specs.Order.{Row, column, value_cmp}
use Rattle.sqlite_value.specs.Order.{bytes}
use Rattle.sqlite_value.specs.Keys.{first_key}
use Rattle.sqlite_value.proofs.OrderLemmas.{value_cmp_total}
use Rattle.sqlite_sql.specs.Ops.{binary, is_true}
use Rattle.sqlite_sql.specs.declared.ops.BinaryOp.TheVariants.{Compare}
use Rattle.sqlite_sql.specs.declared.ops.CompareOp.TheVariants.{Eq, Ne}
use Rattle.sqlite.specs.Collation.TheVariants.{Binary}
use Rattle.sqlite_schema.specs.declared.schema.Column.{Column}
use Rattle.sqlite_schema.specs.declared.schema.Constraint.TheVariants.{Unique}
use Rattle.sqlite_schema.specs.Rules.{agree, differ, clashes}
use Rattle.sqlite_trees.proofs.ListLemmas.{all_weaker, all_both}
use Rattle.sqlite_trees.specs.Tree.{rowid, put_row}
use Rattle.sqlite.specs.Effect.{Database, IsDatabase}
use Rattle.sqlite_rules.specs.Lists.{Has}
use Rattle.sqlite_rules.specs.Edit.{is_taken, are_fresh}
use Rattle.sqlite_rules.proofs.ListLemmas.{all_has, all_from, some_from}
use Rattle.sqlite_rules.proofs.TableLemmas.{put_all_keeps, put_all_adds}
use Rattle.ov_specs.specs.rows.Lines.{LineKey}
use Rattle.ov_tables.specs.Tables.{plain_table, HasTable}
use Rattle.ov_specs.specs.rows.Cells.{Head, Cell}
use Rattle.ov_tables.specs.Format.{HasNumber, IsKeyed, IsHead, IsCell, row_key, rows_listed, head_of, cell_of}
use Rattle.ov_tables.specs.Holding.{IsNumbered}
use Rattle.ov_tables.proofs.TableLemmas.{found_has}
use Rattle.ov_tables.proofs.ListingLemmas.{rows_are}
use Rattle.ov_tables.proofs.RowLemmas.{has_key, keyed_number, equal_texts, equal_blobs, truth_of, same_number}
use Rattle.ov_sqlite.proofs.PutLemmas.{not_taken, none_passes, passes_none}
use Rattle.ov_sqlite.proofs.CellLemmas.{has_cell, IsNewCell, IsAbsent, keyed, same_name_is}
use Rattle.ov_sqlite.proofs.OpenLemmas.{every_shuffled}

-- ---- what is found in another order

module _ {V : Type 0} (p : Row → Bool) (f : Row → V) where
  -- the rows that pass have one value
  abbrev pub Agree : List Row → Type 0
  Agree rows = AllByRecursion (λ r. AllByRecursion (λ s. p r ≡ true → p s ≡ true → f s ≡ f r) rows) rows

  picked : (v : V) (all rows : List Row) → AllByRecursion (λ r. AllByRecursion (λ s. p r ≡ true → p s ≡ true → f s ≡ f r) all) rows → option_map f (find p rows) ≡ Some v → AllByRecursion (λ s. p s ≡ true → f s ≡ v) all
  picked v all [] ones h = absurd cc
  picked v all (r ∷ rows) ones h = go (p r) refl (picked v all rows ones.1) h
    where
      go : (b : Bool) → p r ≡ b → (option_map f (find p rows) ≡ Some v → AllByRecursion (λ s. p s ≡ true → f s ≡ v) all) → option_map f (cond b (Some r) (find p rows)) ≡ Some v → AllByRecursion (λ s. p s ≡ true → f s ≡ v) all
      go true is rest e = let val : f r ≡ v = cc in all_weaker _ _ (λ s one t. one is t ∙ val) all ones.0
      go false is rest e = rest e

  settled : (v : V) (rows : List Row) → AllByRecursion (λ s. p s ≡ true → f s ≡ v) rows → (find p rows ≡ None) ⊎ (option_map f (find p rows) ≡ Some v)
  settled v [] all = inl refl
  settled v (r ∷ rows) all = go (p r) refl (settled v rows all.1)
    where
      go : (b : Bool) → p r ≡ b → (find p rows ≡ None) ⊎ (option_map f (find p rows) ≡ Some v) → (cond b (Some r) (find p rows) ≡ None) ⊎ (option_map f (cond b (Some r) (find p rows)) ≡ Some v)
      go true is rest = inr (ap Some (all.0 is))
      go false is rest = rest

  pub same_found : (xs ys : List Row) → IsPermutation xs ys → Agree xs → option_map f (find p xs) ≡ option_map f (find p ys)
  same_found xs ys same ones = go (option_map f (find p xs)) refl
    where
      unmapped : (o : Option Row) → option_map f o ≡ None → o ≡ None
      unmapped None e = refl
      unmapped (Some r) e = absurd cc

      go : (o : Option V) → option_map f (find p xs) ≡ o → option_map f (find p xs) ≡ option_map f (find p ys)
      go None e = e ∙ sym (ap (option_map f) (passes_none p ys (every_shuffled _ xs ys same (none_passes p xs (unmapped (find p xs) e)))))
      go (Some v) e = elim (settled v ys (every_shuffled _ xs ys same (picked v xs xs ones e))) [
        | inl none ↦ absurd (let missing = passes_none p xs (every_shuffled _ ys xs (IsPermutation-sym xs ys same) (none_passes p ys none)) in let clash : Some v ≡ None = sym e ∙ ap (option_map f) missing in cc)
        | inr some ↦ e ∙ sym some
      ]

  -- rows of which only some columns were read
  pub selected_found : (selected : Row → Row) → ((r : Row) → p (selected r) ≡ p r) → ((r : Row) → f (selected r) ≡ f r) → (rows : List Row) → option_map f (find p (map selected rows)) ≡ option_map f (find p rows)
  selected_found selected same_test same_value [] = refl
  selected_found selected same_test same_value (r ∷ rows) = go (p (selected r)) (p r) (same_test r) (selected_found selected same_test same_value rows)
    where
      go : (a b : Bool) → a ≡ b → option_map f (find p (map selected rows)) ≡ option_map f (find p rows) → option_map f (cond a (Some (selected r)) (find p (map selected rows))) ≡ option_map f (cond b (Some r) (find p rows))
      go true true e next = ap Some (same_value r)
      go true false e next = absurd cc
      go false true e next = absurd cc
      go false false e next = next

-- ---- rows with one key

any_none : {X : Type 0} (p : X → Bool) (xs : List X) → list_any p xs ≡ false → AllByRecursion (λ x. p x ≡ false) xs
any_none p [] h = tt
any_none p (x ∷ xs) h =
    let both = elim (p x) as (λ b. (b || list_any p xs) ≡ false → (b ≡ false) × (list_any p xs ≡ false)) [ true ↦ λ n. absurd cc | false ↦ λ n. (refl, n) ] h in
    (both.0, any_none p xs both.1)

was_false : (b : Bool) → not b ≡ true → b ≡ false
was_false true h = absurd cc
was_false false h = refl

all_at : {X : Type 0} (p : X → Bool) (xs : List X) (x : X) → list_all p xs ≡ true → Has xs x → p x ≡ true
all_at p [] x all h = absurd h
all_at p (y ∷ xs) x all h = let parts = and_parts (p y) (list_all p xs) all in elim h [ inl same ↦ ap p same ∙ parts.0 | inr more ↦ all_at p xs x parts.1 more ]

itself : (n : ℕ) → (n == n) ≡ true
itself n = grind (arith, nat_tests)

-- two rows that have one value at these places have one number
abbrev pub Apart : List ℕ → Row → Row → Type 0
Apart places r s = (agree (record { digits = 0 }) places s places r && differ (rowid s) (rowid r)) ≡ false

abbrev pub AreApart : List ℕ → List Row → Type 0
AreApart places rows = AllByRecursion (λ r. AllByRecursion (Apart places r) rows) rows

-- no two rows of a table have one primary key and two numbers
pub apart_by_key : (db : Database) (name : List ℕ) (tree : ℕ) (columns : List Column) (key : List ℕ) → HasTable db.schema (plain_table name tree columns key) → IsDatabase db → AreApart key (rows_listed name db.trees)
apart_by_key db name tree columns key has sound =
    let table = plain_table name tree columns key in
    let here = found_has _ db.schema.tables table has.named in
    let index = all_has _ db.schema.tables table sound.lists.guarded here 0 key refl in
    let keeps = all_has _ db.schema.tables table (sound.obeys.rules Unique) here in
    let once : AllByRecursion (λ r. clashes (record { digits = 0 }) key (db.trees tree) r ≡ false) (db.trees tree) =
    all_weaker _ _ (λ r pass. let one = all_at _ db.schema.indexes _ pass index.1 in was_false _ (rw (itself tree) at one)) (db.trees tree) keeps in
    subst (AreApart key) (sym (rows_are db table has sound)) (all_weaker _ _ (λ r none. any_none _ (db.trees tree) none) (db.trees tree) once)

text_self : (v w : Value) (t : List ℕ) → v ≡ Text t → w ≡ Text t → is_true (binary (Compare Eq Binary) v w) ≡ true
text_self v w t e f = rw (e, f) (equal_texts t t ∙ (eq_by_cmp_equiv nat_list_cmp_total).refl t)

blob_self : (v w : Value) (b : List ℕ) → v ≡ Blob b → w ≡ Blob b → is_true (binary (Compare Eq Binary) v w) ≡ true
blob_self v w b e f = rw (e, f) (equal_blobs b b ∙ (eq_by_cmp_equiv nat_list_cmp_total).refl b)

ne_is : (o : Ordering) → is_ne o ≡ not (is_eq o)
ne_is Less = refl
ne_is Equal = refl
ne_is Greater = refl

differ_ints : (m n : ℤ) → is_true (binary (Compare Ne Binary) (Int m) (Int n)) ≡ not (is_eq (value_cmp (Int m) (Int n)))
unfolding binary
differ_ints m n = truth_of _ ∙ ne_is (value_cmp (Int m) (Int n))

same_if_not : (b : Bool) → not b ≡ false → true ≡ b
same_if_not true h = refl
same_if_not false h = absurd cc

numbers_same : (v w : Value) (m n : ℤ) → v ≡ Int m → w ≡ Int n → is_true (binary (Compare Ne Binary) v w) ≡ false → true ≡ is_eq (value_cmp v w)
numbers_same v w m n e f h = same_if_not _ (ap₂ (λ a b. not (is_eq (value_cmp a b))) e f ∙ sym (differ_ints m n) ∙ sym (ap₂ (λ a b. is_true (binary (Compare Ne Binary) a b)) e f) ∙ h)

tied_numbers : (s r : Row) → HasNumber s → HasNumber r → differ (rowid s) (rowid r) ≡ false → column s 0 ≡ column r 0
tied_numbers s r m n h = same_number s r m n (numbers_same (column s 0) (column r 0) m.0 n.0 m.1 n.1 h)

last_two : (a b c : Bool) → a ≡ true → b ≡ true → ((a && (b && true)) && c) ≡ false → c ≡ false
last_two true true c e f h = h
last_two true false c e f h = absurd cc
last_two false b c e f h = absurd cc

last_three : (a b d c : Bool) → a ≡ true → b ≡ true → d ≡ true → ((a && (b && (d && true))) && c) ≡ false → c ≡ false
last_three true true true c e f g h = h
last_three true true false c e f g h = absurd cc
last_three true false d c e f g h = absurd cc
last_three false b d c e f g h = absurd cc

agree_two : (s r : Row) → agree (record { digits = 0 }) (1 ∷ 2 ∷ []) s (1 ∷ 2 ∷ []) r
    ≡ (is_true (binary (Compare Eq Binary) (column s 1) (column r 1)) && (is_true (binary (Compare Eq Binary) (column s 2) (column r 2)) && true))
unfolding first_key
agree_two s r = refl

agree_three : (s r : Row) → agree (record { digits = 0 }) (1 ∷ 2 ∷ 3 ∷ []) s (1 ∷ 2 ∷ 3 ∷ []) r
    ≡ (is_true (binary (Compare Eq Binary) (column s 1) (column r 1)) && (is_true (binary (Compare Eq Binary) (column s 2) (column r 2)) && (is_true (binary (Compare Eq Binary) (column s 3) (column r 3)) && true)))
unfolding first_key
agree_three s r = refl

module _ (s r : Row) (m : IsKeyed s) (l : IsKeyed r) (e : row_key s ≡ row_key r) where
  first : is_true (binary (Compare Eq Binary) (column s 1) (column r 1)) ≡ true
  first = let t : m.tbl ≡ l.tbl = sym (ap bytes m.tbl_is) ∙ ap (λ (k : LineKey). k.0) e ∙ ap bytes l.tbl_is in text_self (column s 1) (column r 1) l.tbl (m.tbl_is ∙ ap Text t) l.tbl_is

  second : is_true (binary (Compare Eq Binary) (column s 2) (column r 2)) ≡ true
  second = let i : m.id ≡ l.id = sym (ap bytes m.id_is) ∙ ap (λ (k : LineKey). k.1) e ∙ ap bytes l.id_is in blob_self (column s 2) (column r 2) l.id (m.id_is ∙ ap Blob i) l.id_is

  -- rows with one key
  pub key_number : Apart (1 ∷ 2 ∷ []) r s → column s 0 ≡ column r 0
  key_number apart = tied_numbers s r (keyed_number s m) (keyed_number r l) (last_two _ _ (differ (rowid s) (rowid r)) first second (ap (λ b. b && differ (rowid s) (rowid r)) (sym (agree_two s r)) ∙ apart))

-- cells of one row and column
pub cell_number : (s r : Row) → IsCell s → IsCell r → row_key s ≡ row_key r → bytes (column s 3) ≡ bytes (column r 3) → Apart (1 ∷ 2 ∷ 3 ∷ []) r s → column s 0 ≡ column r 0
cell_number s r m l e f apart =
    let c : m.col ≡ l.col = sym (ap bytes m.col_is) ∙ f ∙ ap bytes l.col_is in
    let third = text_self (column s 3) (column r 3) l.col (m.col_is ∙ ap Text c) l.col_is in
    tied_numbers s r (keyed_number s m.keyed) (keyed_number r l.keyed)
    (last_three _ _ _ (differ (rowid s) (rowid r)) (first s r m.keyed l.keyed e) (second s r m.keyed l.keyed e) third (ap (λ b. b && differ (rowid s) (rowid r)) (sym (agree_three s r)) ∙ apart))

-- ---- what was added

-- the table has each key once, so a head that was added is of a key that had none
pub new_head : (x : Row) (H : List Row) → are_fresh H (x ∷ []) ≡ true → AllByRecursion IsHead H → IsHead x → AreApart (1 ∷ 2 ∷ []) (put_row x H) → IsAbsent (row_key x) H
new_head x H fresh heads is apart = all_from _ H (λ r h. at r h (has_key (row_key x) r) refl)
  where
    at : (r : Row) → Has H r → (b : Bool) → has_key (row_key x) r ≡ b → has_key (row_key x) r ≡ false
    at r h false e = e
    at r h true e =
        let one = all_has _ (put_row x H) r (all_has _ (put_row x H) x apart (put_all_adds (x ∷ []) H x fresh (inl refl))) (put_all_keeps (x ∷ []) H r fresh h) in
        let head : IsHead r = all_has _ H r heads h in
        let number = key_number r x head.keyed is.keyed (sym (keyed (row_key x) r e)) one in
        let taken : is_taken H x ≡ true = some_from _ H r h (ap (λ v. is_eq (value_cmp v (rowid x))) number ∙ (eq_by_cmp_equiv value_cmp_total).refl (rowid x)) in
        absurd (let clash : true ≡ false = sym taken ∙ not_taken H x fresh in cc)

-- the table has each key once, so a cell that was added is that of no other row
pub new_cell : (x : Row) (C : List Row) → are_fresh C (x ∷ []) ≡ true → AllByRecursion IsCell C → IsCell x → AreApart (1 ∷ 2 ∷ 3 ∷ []) (put_row x C) → IsNewCell x C
new_cell x C fresh cells is apart = all_from _ C (λ r h. at r h (has_cell (row_key x) (bytes (column x 3)) r) refl)
  where
    at : (r : Row) → Has C r → (b : Bool) → has_cell (row_key x) (bytes (column x 3)) r ≡ b → has_cell (row_key x) (bytes (column x 3)) r ≡ false
    at r h false e = e
    at r h true e =
        let parts = and_parts _ _ e in
        let one = all_has _ (put_row x C) r (all_has _ (put_row x C) x apart (put_all_adds (x ∷ []) C x fresh (inl refl))) (put_all_keeps (x ∷ []) C r fresh h) in
        let number = cell_number r x (all_has _ C r cells h) is (sym (keyed (row_key x) r parts.0)) (sym (same_name_is (bytes (column x 3)) (bytes (column r 3)) parts.1)) one in
        let taken : is_taken C x ≡ true = some_from _ C r h (ap (λ v. is_eq (value_cmp v (rowid x))) number ∙ (eq_by_cmp_equiv value_cmp_total).refl (rowid x)) in
        absurd (let clash : true ≡ false = sym taken ∙ not_taken C x fresh in cc)

-- ---- what rows of one key have in common

-- where no two heads have one key and two numbers, and a number names one head, heads of one key have one version
pub agree_heads : (H : List Row) → AllByRecursion IsHead H → AreApart (1 ∷ 2 ∷ []) H → IsNumbered head_of H → (q : LineKey) → Agree (has_key q) (λ r. bytes (column r 3)) H
agree_heads H heads_are apart numbered q =
    all_both _ _ _ (λ r l rest. all_both _ _ _ (λ s m both here there. one r s l m both here there) H keyed_heads rest) H keyed_heads
    (all_both _ _ _ (λ r aparts ones. all_both _ _ _ (λ s a o. (a, o)) H aparts ones) H apart numbered)
  where
    keyed_heads : AllByRecursion IsKeyed H
    keyed_heads = all_weaker _ _ (λ r (is : IsHead r). is.keyed) H heads_are

    one : (r s : Row) → IsKeyed r → IsKeyed s → Apart (1 ∷ 2 ∷ []) r s × (column s 0 ≡ column r 0 → head_of s ≡ head_of r) → has_key q r ≡ true → has_key q s ≡ true → bytes (column s 3) ≡ bytes (column r 3)
    one r s l m both here there = ap (λ (h : Head). h.version) (both.1 (key_number s r m l (sym (keyed q s there) ∙ keyed q r here) both.0))

-- and likewise cells of one key and column have one body
pub agree_cells : (C : List Row) → AllByRecursion IsCell C → AreApart (1 ∷ 2 ∷ 3 ∷ []) C → IsNumbered cell_of C → (q : LineKey) (c : List ℕ) → Agree (has_cell q c) (λ r. bytes (column r 4)) C
agree_cells C cells_are apart numbered q c =
    all_both _ _ _ (λ r l rest. all_both _ _ _ (λ s m both here there. one r s l m both here there) C cells_are rest) C cells_are
    (all_both _ _ _ (λ r aparts ones. all_both _ _ _ (λ s a o. (a, o)) C aparts ones) C apart numbered)
  where
    one : (r s : Row) → IsCell r → IsCell s → Apart (1 ∷ 2 ∷ 3 ∷ []) r s × (column s 0 ≡ column r 0 → cell_of s ≡ cell_of r) → has_cell q c r ≡ true → has_cell q c s ≡ true → bytes (column s 4) ≡ bytes (column r 4)
    one r s l m both here there =
        let a = and_parts _ _ here in
        let b = and_parts _ _ there in
        ap (λ (x : Cell). x.body) (both.1 (cell_number s r m l (sym (keyed q s b.0) ∙ keyed q r a.0) (sym (same_name_is c (bytes (column s 3)) b.1) ∙ same_name_is c (bytes (column r 3)) a.1) both.0))
