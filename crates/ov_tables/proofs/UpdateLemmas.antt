-- What an UPDATE does to its table.
use Rattle.std.proofs.Common.{◌≡◌, inl, inr, ℕ, ◌<◌, List, [], ◌∷◌, ◌++◌, map, filter, drop, length, cond, Bool, true, false, not, ◌||◌, Ok, unwrap_or, refl, sym, ap, ap₂, subst, subst₂, ◌∙◌, append-nil, true≢false, arith}
use Rattle.std.specs.List.{AllByRecursion, list_any}
use Rattle.std.specs.List.Sorted.{IsPermutation}
use Rattle.std.proofs.lemmas.Bool.{and_parts, or_parts, not-true}
use Rattle.std.proofs.lemmas.List.Sorted.{IsPermutation-refl, IsPermutation-sym, IsPermutation-cons, IsPermutation-middle, IsPermutation-trans, IsPermutation-append, IsPermutation-append_left, IsPermutation-map, length_permutation, Contains-permutation}
use Rattle.std.proofs.lemmas.List.{length-map}
use Rattle.std.specs.declared.cmp.Ordering.{Ordering}
use Rattle.std.specs.declared.cmp.Ordering.TheVariants.{Less, Equal, Greater}
use Rattle.std.specs.Ordering.{is_eq, match_ordering, ordering_reverse}
use Rattle.std.proofs.lemmas.Cmp.{tied_itself}
use Rattle.sqlite.specs.declared.types.Value.TheVariants.{Null}
use Rattle.sqlite.specs.Order.{Row, value_cmp}
use Rattle.sqlite.specs.Term.{Term}
use Rattle.sqlite_sql.specs.Term.{eval_all}
use Rattle.sqlite.specs.Query.{IsAnswer, output, Output}
use Rattle.sqlite.specs.Program.{overlay}
use Rattle.sqlite.specs.Command.TheVariants.{Update}
use Rattle.sqlite.specs.Edit.{edit_of}
use Rattle.sqlite_rules.specs.Cast.{cast_row}
use Rattle.sqlite_rules.specs.Edit.{without_all, put_all, is_taken, are_fresh, numbered, Applies}
use Rattle.sqlite_rules.specs.Calls.{ids_of}
use Rattle.sqlite_rules.specs.declared.error.Rowids.TheVariants.{Given}
use Rattle.sqlite.specs.Does.{Tally}
use Rattle.sqlite.specs.Rows.{Written}
use Rattle.sqlite.specs.Table.{Table}
use Rattle.sqlite_value.proofs.OrderLemmas.{value_cmp_total}
use Rattle.sqlite_trees.specs.Tree.{rowid, put_row, IsTable}
use Rattle.sqlite_trees.proofs.ListLemmas.{map-map, all_of, all_both, all-map, ascending-filter, IsPermutation-same}
use Rattle.sqlite_trees.proofs.TreeLemmas.{IsTable-put_row}
use Rattle.sqlite_rules.specs.Lists.{Has}
use Rattle.sqlite_rules.proofs.ListLemmas.{all_has, all_from, has_contained, contains_had}
use Rattle.sqlite.specs.Effect.{Database, IsDatabase}
use Rattle.sqlite.specs.State.{State, Executes}
use Rattle.sqlite.specs.Listing.{understood}
use Rattle.sqlite.proofs.Callers.{IsPlain, command_of, runs_as}
use Rattle.sqlite_syntax.specs.declared.statement.Parsed.{Parsed}
use Rattle.sqlite_draft.specs.Query.{query_of}
use Rattle.ov_tables.specs.Tables.{HasTable}
use Rattle.ov_tables.specs.Format.{rows_listed, HasNumber}
use Rattle.ov_tables.specs.Holding.{IsNumbered}
use Rattle.ov_tables.proofs.TableLemmas.{our_step, Stands}
use Rattle.ov_tables.proofs.ListingLemmas.{Touches, stands_in, rows_are, rows_after, touches}
use Rattle.ov_tables.proofs.Statements.{changes, runs, does}
use Rattle.ov_tables.proofs.RowLemmas.{flat_filter, map_then, without_all_filter}
use Rattle.ov_tables.proofs.DeleteLemmas.{went, same_value, at_placed, passing}
use Rattle.ov_tables.proofs.RemoveLemmas.{Together, GivesWith, left_with, together_by}

-- the row that the terms make of a row, as the columns take it
abbrev pub made : Table → List Term → Row → Row → Row
made table terms params r = cast_row table (eval_all terms (params ∷ r ∷ []))

-- a row that passes is changed, and any other stays
abbrev pub renewed : (Row → Bool) → (Row → Row) → Row → Row
renewed p f r = cond (p r) (f r) r

-- what is put in, of what a query gave: the row after each number, as the columns take it
abbrev pub cast_given : Table → List Row → List Row
cast_given table = map (λ s. cast_row table (drop 1 s))

-- the rows that passed were taken out, and what the terms make of them was put in
pub record Updates (table : Table) (tests terms : List Term) (params : Row) (old new : State) (count : ℕ) : Type 0 where
  pub only : Touches table old.now new.now
  pub given : List Row
  pub shows : GivesWith (λ r. eval_all terms (params ∷ r ∷ [])) (filter (passing tests params) (rows_listed table.name old.now.trees)) given
  pub rows : rows_listed table.name new.now.trees ≡ put_all (without_all (rows_listed table.name old.now.trees) (ids_of given)) (cast_given table given)
  pub fresh : are_fresh (without_all (rows_listed table.name old.now.trees) (ids_of given)) (cast_given table given) ≡ true
  pub counted : count ≡ length (filter (passing tests params) (rows_listed table.name old.now.trees))

-- rows that have numbers keep them
numbered_given : (rows news : List Row) → numbered Given rows news ≡ news
numbered_given rows [] = refl
numbered_given rows (r ∷ news) = ap (λ rs. r ∷ rs) (numbered_given (put_row r rows) news)

-- as many are given as passed
given_length : (f : Row → Row) (rows given : List Row) → GivesWith f rows given → length given ≡ length rows
given_length f rows given same =
    let shown : Row → Output = λ r. ([], rowid r ∷ f r) in
    ap length same.2 ∙ length-map same.0 (λ (o : Output). o.1) ∙ length_permutation (map shown rows) same.0 same.1 ∙ length-map rows shown

module _ (old new : State) (table : Table) (sql : List ℕ) (tests terms : List Term) (params : Row) (parsed : Parsed) (has : HasTable old.now.schema table) (sound : IsDatabase old.now)
    (known : (at : ℕ) → Stands old.now.schema table at → understood old.now.schema sql ≡ Ok (does parsed (Update at (runs (changes tests terms table.tree))))) where
  -- a statement that writes these terms does that
  pub updates : (count : ℕ) → Executes sql params old new (Ok count) → Updates table tests terms params old new count
  updates count h =
      let schema = old.now.schema in
      let stood = stands_in old.now table has sound in
      let at = stood.0 in
      let it = stood.1 in
      let db = old.now.trees in
      let asks = query_of (changes tests terms table.tree) in
      let command = Update at (runs (changes tests terms table.tree)) in
      let is = known at it in
      let w = runs_as sql params old new schema refl command (ap command_of is) (subst IsPlain (sym is) (refl, refl)) count h in
      let done = went (at_placed old params command at table (Ok (w.tally, new.now)) it.placed w.changed) in
      let ended = same_value (went (went done.2).2).2 in
      let now = ap (λ (p : Tally × Database). p.1) ended in
      let given = went done.1 in
      let written = went given.2 in
      let wrote = same_value written.2 in
      let path : new.now.trees ≡ written.0 = ap (λ (d : Database). d.trees) now ∙ ap (λ (it : Written). it.trees) wrote in
      let edit = edit_of db table (ids_of given.0) Given 1 given.0 in
      let step = subst (Applies schema _ db edit) (sym path) (our_step schema edit has _ db written.0 written.1) in
      let only = touches old.now new.now table has sound _ edit refl step (ap (λ (d : Database). d.schema) now) w.sound in
      let a : IsAnswer asks (overlay db []) params given.0 = given.1.answer Null in
      let read : overlay db [] table.tree ≡ rows_listed table.name db = rw it.not_high (sym (rows_are old.now table has sound)) in
      let row : Row → Output = λ r. ([], rowid r ∷ eval_all terms (params ∷ r ∷ [])) in
      let kept : a.kept ≡ map row (filter (passing tests params) (rows_listed table.name db)) =
      a.distinct ∙ ap (map (output asks)) (a.grouped ∙ flat_filter (passing tests params) (λ r. params ∷ r ∷ []) (overlay db [] table.tree)) ∙ map_then (λ r. params ∷ r ∷ []) (output asks) (filter (passing tests params) (overlay db [] table.tree))
      ∙ ap (λ rows. map row (filter (passing tests params) rows)) read in
      let shows : GivesWith (λ r. eval_all terms (params ∷ r ∷ [])) (filter (passing tests params) (rows_listed table.name db)) given.0 = (a.ordered, subst (λ k. IsPermutation k a.ordered) kept a.same, a.shown) in
      let was : db table.tree ≡ rows_listed table.name db = sym (rows_are old.now table has sound) in
      let news : edit.news ≡ cast_given table given.0 = numbered_given (without_all (db table.tree) (ids_of given.0)) (cast_given table given.0) in
      let length_is : length edit.news ≡ length (filter (passing tests params) (rows_listed table.name db)) = ap length news ∙ length-map given.0 (λ s. cast_row table (drop 1 s)) ∙ given_length _ _ given.0 shows in
      record {
        only = only;
        given = given.0;
        shows = shows;
        rows = rows_after old.now new.now table only has sound ∙ step.rows ∙ ap (put_all (without_all (db table.tree) (ids_of given.0))) news ∙ ap (λ rows. put_all (without_all rows (ids_of given.0)) (cast_given table given.0)) was;
        fresh = ap (λ rows. are_fresh (without_all rows (ids_of given.0)) (cast_given table given.0)) (sym was) ∙ ap (are_fresh (without_all (db table.tree) (ids_of given.0))) (sym news) ∙ step.fresh;
        counted = w.counted ∙ ap (λ (p : Tally × Database). unwrap_or p.0.rows 0) ended ∙ ap (λ (it : Written). length it.rows) wrote ∙ length_is;
      }

-- ---- the rows afterwards

-- a row with a new number is one more
pub put_shuffled : (new : Row) (rows : List Row) → is_taken rows new ≡ false → IsPermutation (new ∷ rows) (put_row new rows)
put_shuffled new [] free = IsPermutation-refl _
put_shuffled new (r ∷ rows) free = let parts = or_parts _ _ free in go (value_cmp (rowid r) (rowid new)) parts.0 (put_shuffled new rows parts.1)
  where
    go : (o : Ordering) → is_eq o ≡ false → IsPermutation (new ∷ rows) (put_row new rows) → IsPermutation (new ∷ r ∷ rows) (match_ordering o (r ∷ put_row new rows) (new ∷ rows) (new ∷ r ∷ rows))
    go Less other later = IsPermutation-trans _ _ _ (IsPermutation-middle (new ∷ []) r rows) (IsPermutation-cons r _ _ later)
    go Equal other later = absurd (true≢false other)
    go Greater other later = IsPermutation-refl _

-- and so is each of several
pub put_all_shuffled : (news rows : List Row) → are_fresh rows news ≡ true → IsPermutation (rows ++ news) (put_all rows news)
put_all_shuffled [] rows fresh = IsPermutation-same _ _ (append-nil rows)
put_all_shuffled (n ∷ news) rows fresh =
    let parts = and_parts _ _ fresh in
    IsPermutation-trans _ _ _ (IsPermutation-middle rows n news)
    (IsPermutation-trans _ _ _ (IsPermutation-append_left news (n ∷ rows) (put_row n rows) (put_shuffled n rows (not-true _ parts.0))) (put_all_shuffled news (put_row n rows) parts.1))

-- the rows, changed where they pass, are those that do not pass and what becomes of the others, in another order
parted : (p : Row → Bool) (f : Row → Row) (rows : List Row) → IsPermutation (map (renewed p f) rows) (filter (λ r. not (p r)) rows ++ map f (filter p rows))
parted p f [] = IsPermutation-refl []
parted p f (r ∷ rows) = go (p r) (map (renewed p f) rows) (filter (λ s. not (p s)) rows) (filter p rows) (parted p f rows)
  where
    go : (b : Bool) (all rest passed : List Row) → IsPermutation all (rest ++ map f passed)
        → IsPermutation (cond b (f r) r ∷ all) (cond {A = List Row} (not b) (r ∷ rest) rest ++ map f (cond {A = List Row} b (r ∷ passed) passed))
    go true all rest passed later = IsPermutation-trans _ _ _ (IsPermutation-cons (f r) _ _ later) (IsPermutation-sym _ _ (IsPermutation-middle rest (f r) (map f passed)))
    go false all rest passed later = IsPermutation-cons r _ _ later

-- what is put in is what becomes of the rows that passed
given_made : (table : Table) (g : Row → Row) (rows given : List Row) → GivesWith g rows given → IsPermutation (map (λ r. cast_row table (g r)) rows) (cast_given table given)
given_made table g rows given same =
    let put = λ (o : Output). cast_row table (drop 1 o.1) in
    let shown : Row → Output = λ r. ([], rowid r ∷ g r) in
    let from : map put (map shown rows) ≡ map (λ r. cast_row table (g r)) rows = map-map put shown rows in
    let to : map put same.0 ≡ cast_given table given = sym (map-map (λ s. cast_row table (drop 1 s)) (λ (o : Output). o.1) same.0) ∙ ap (cast_given table) (sym same.2) in
    IsPermutation-trans _ _ _ (IsPermutation-same _ _ (sym from)) (IsPermutation-trans _ _ _ (IsPermutation-map put _ same.0 same.1) (IsPermutation-same _ _ to))

-- ---- rows whose numbers rise

-- what is among the rows is among them in any order
has_shuffled : (xs ys : List Row) → IsPermutation xs ys → (r : Row) → Has xs r → Has ys r
has_shuffled xs ys same r h = has_contained ys r (Contains-permutation xs ys r same (contains_had xs r h))

-- rows that are put in leave the numbers rising
put_rising : (news rows : List Row) → IsTable rows → IsTable (put_all rows news)
put_rising [] rows rises = rises
put_rising (n ∷ news) rows rises = put_rising news (put_row n rows) (IsTable-put_row n rows rises)

-- rows of one number are not below one another
tied_below : (r s : Row) → rowid r ≡ rowid s → value_cmp (rowid r) (rowid s) ≡ Less → ⊥
tied_below r s e below = let tied : value_cmp (rowid r) (rowid s) ≡ Equal = ap (value_cmp (rowid r)) (sym e) ∙ tied_itself value_cmp_total (rowid r) in let clash : Less ≡ Equal = sym below ∙ tied in cc

-- a row is not below itself
not_below : (r s : Row) → r ≡ s → value_cmp (rowid r) (rowid s) ≡ Less → ⊥
not_below r s e = tied_below r s (ap rowid e)

-- and no two are below one another
one_way : (r s : Row) → value_cmp (rowid r) (rowid s) ≡ Less → value_cmp (rowid s) (rowid r) ≡ Less → ⊥
one_way r s a b = let turned : value_cmp (rowid s) (rowid r) ≡ Greater = value_cmp_total.antisymm (rowid s) (rowid r) ∙ ap ordering_reverse a in let clash : Less ≡ Greater = sym b ∙ turned in cc

-- rows are in one order only
one_order : (xs ys : List Row) → IsTable xs → IsTable ys → ((r : Row) → Has xs r → Has ys r) → ((r : Row) → Has ys r → Has xs r) → xs ≡ ys
one_order [] [] up vp there back = refl
one_order [] (y ∷ ys) up vp there back = absurd (back y (inl refl))
one_order (x ∷ xs) [] up vp there back = absurd (there x (inl refl))
one_order (x ∷ xs) (y ∷ ys) up vp there back =
    let head = heads (there x (inl refl)) (back y (inl refl)) in
    ap₂ (λ r rows. r ∷ rows) head (one_order xs ys up.1 vp.1
    (λ r h. later r y ys (there r (inr h)) (λ e. not_below x r (head ∙ sym e) (all_has _ xs r up.0 h)))
    (λ r h. later r x xs (back r (inr h)) (λ e. not_below y r (sym head ∙ sym e) (all_has _ ys r vp.0 h))))
  where
    heads : Has (y ∷ ys) x → Has (x ∷ xs) y → x ≡ y
    heads (inl e) h = e
    heads (inr far) (inl e) = sym e
    heads (inr far) (inr near) = absurd (one_way y x (all_has _ ys x vp.0 far) (all_has _ xs y up.0 near))

    later : (r z : Row) (zs : List Row) → Has (z ∷ zs) r → (r ≡ z → ⊥) → Has zs r
    later r z zs (inl e) other = absurd (other e)
    later r z zs (inr h) other = h

-- where they rise, a number names one row
one_number : (rows : List Row) (r s : Row) → IsTable rows → Has rows r → Has rows s → rowid s ≡ rowid r → s ≡ r
one_number [] r s rises h g e = absurd h
one_number (x ∷ rows) r s rises (inl a) (inl b) e = b ∙ sym a
one_number (x ∷ rows) r s rises (inl a) (inr b) e = absurd (tied_below x s (sym (ap rowid a) ∙ sym e) (all_has _ rows s rises.0 b))
one_number (x ∷ rows) r s rises (inr a) (inl b) e = absurd (tied_below x r (sym (ap rowid b) ∙ e) (all_has _ rows r rises.0 a))
one_number (x ∷ rows) r s rises (inr a) (inr b) e = one_number rows r s rises.1 a b e

-- so rows of one number are one
rising_numbered : (rows : List Row) → IsTable rows → IsNumbered (λ r. r) rows
rising_numbered rows rises = all_from _ rows (λ r h. all_from _ rows (λ s g e. one_number rows r s rises h g e))

-- rows that keep their numbers rise as they did
renewed_rising : (p : Row → Bool) (f : Row → Row) (rows : List Row) → AllByRecursion (λ r. rowid (f r) ≡ rowid r) rows → IsTable rows → IsTable (map (renewed p f) rows)
renewed_rising p f [] stay rises = tt
renewed_rising p f (r ∷ rows) stay rises =
    (all-map _ (renewed p f) rows (all_both _ _ _ (λ s same below. subst₂ (λ a b. value_cmp a b ≡ Less) (sym (kept r stay.0)) (sym (kept s same)) below) rows stay.1 rises.0), renewed_rising p f rows stay.1 rises.1)
  where
    kept : (s : Row) → rowid (f s) ≡ rowid s → rowid (renewed p f s) ≡ rowid s
    kept s e = elim (p s) as (λ b. rowid (cond b (f s) s) ≡ rowid s) [ true ↦ e | false ↦ refl ]

-- ---- how many passed

-- where none is counted, none passed
pub none_counted : (p : Row → Bool) (rows : List Row) → length (filter p rows) ≡ 0 → AllByRecursion (λ r. p r ≡ false) rows
none_counted p [] h = tt
none_counted p (r ∷ rows) h = go (p r) refl (none_counted p rows) h
  where
    go : (b : Bool) → p r ≡ b → (length (filter p rows) ≡ 0 → AllByRecursion (λ s. p s ≡ false) rows) → length (cond {A = List Row} b (r ∷ filter p rows) (filter p rows)) ≡ 0 → (p r ≡ false) × AllByRecursion (λ s. p s ≡ false) rows
    go true is later e = absurd (omega (arith, e))
    go false is later e = (is, later e)

-- where some are counted, some passed
pub some_counted : (p : Row → Bool) (rows : List Row) → 0 < length (filter p rows) → list_any p rows ≡ true
some_counted p [] h = absurd (omega arith)
some_counted p (r ∷ rows) h = go (p r) (some_counted p rows) h
  where
    go : (b : Bool) → (0 < length (filter p rows) → list_any p rows ≡ true) → 0 < length (cond {A = List Row} b (r ∷ filter p rows) (filter p rows)) → (b || list_any p rows) ≡ true
    go true later e = refl
    go false later e = later e

module _ (table : Table) (tests terms : List Term) (params : Row) (old new : State) (count : ℕ) (done : Updates table tests terms params old new count) where
  abbrev was : List Row
  was = rows_listed table.name old.now.trees

  -- the rows are those that were there, each that passed as the terms make it. Nothing is said of their order
  pub updated_rows : AllByRecursion HasNumber was → Together (passing tests params) was → IsPermutation (map (renewed (passing tests params) (made table terms params)) was) (rows_listed table.name new.now.trees)
  updated_rows numbers together =
      let p = passing tests params in
      let f = λ (r : Row). eval_all terms (params ∷ r ∷ []) in
      let left = left_with p f was done.given numbers together done.shows in
      let first = parted p (made table terms params) was in
      let second = IsPermutation-append _ _ _ _ (IsPermutation-same _ _ (sym left)) (given_made table f (filter p was) done.given done.shows) in
      let third = put_all_shuffled (cast_given table done.given) (without_all was (ids_of done.given)) done.fresh in
      IsPermutation-trans _ _ _ first (IsPermutation-trans _ _ _ second (IsPermutation-trans _ _ _ third (IsPermutation-same _ _ (sym done.rows))))

  -- where the numbers rise and stay, the order is as it was
  pub updated_rising : AllByRecursion HasNumber was → IsTable was → AllByRecursion (λ r. rowid (made table terms params r) ≡ rowid r) was → rows_listed table.name new.now.trees ≡ map (renewed (passing tests params) (made table terms params)) was
  updated_rising numbers rises stay =
      let p = passing tests params in
      let together = together_by (λ r. r) p p was numbers (all_of _ (λ r. refl) was) (rising_numbered was rises) in
      let same = updated_rows numbers together in
      let left : IsTable (without_all was (ids_of done.given)) = rw (without_all_filter (ids_of done.given) was) (ascending-filter _ _ was rises) in
      let after = subst IsTable (sym done.rows) (put_rising (cast_given table done.given) _ left) in
      sym (one_order _ _ (renewed_rising p (made table terms params) was stay rises) after (has_shuffled _ _ same) (has_shuffled _ _ (IsPermutation-sym _ _ same)))
