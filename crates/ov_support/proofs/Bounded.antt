-- How many rows a table has at most after changes: none of them adds more than one.
use Rattle.std.proofs.Common.{arith, ◌≡◌, ℕ, ◌+◌, ◌≤◌, List, [], ◌∷◌, length, Bool, true, false, cond, filter, Option, Some, None, sym, subst, Ordering, Less, Equal, Greater}
use Rattle.std.specs.FinMap.{put, entries, entries-insert}
use Rattle.std.specs.FinMap.Entries.{by_order}
use Rattle.std.specs.Ordering.{eq_by_cmp}
use Rattle.std.specs.Prelude.{not}
use Rattle.std.specs.Str.{bytes_eq}
use Rattle.ov_stored.specs.Changing.{Delta, applied, with_row_change, with_row_changes}
use Rattle.ov_specs.specs.integrity.Limits.{rows_of}
use Rattle.ov_specs.specs.rows.Database.{Row, Database}
use Rattle.ov_specs.specs.rows.Lines.{LineKey, line_cmp}
use Rattle.ov_specs.proofs.laws.LineKeys.{key_total}
use Rattle.ov_support.proofs.Fewer.{entries-remove}

module _ (name : List ℕ) where
  abbrev is_of : LineKey × Row → Bool
  is_of r = bytes_eq r.0.0 name

  abbrev count : List (LineKey × Row) → ℕ
  count rows = length (filter is_of rows)

  one_more : (b : Bool) (r : LineKey × Row) (rows : List (LineKey × Row)) → length (cond b (r ∷ rows) rows) ≤ 1 + length rows
  one_more true r rows = omega arith
  one_more false r rows = omega arith

  more_after : (b : Bool) (r s : LineKey × Row) (rows others : List (LineKey × Row)) → length rows ≤ 1 + length others → length (cond b (r ∷ rows) rows) ≤ 1 + length (cond b (s ∷ others) others)
  more_after true r s rows others h = omega (arith, h)
  more_after false r s rows others h = omega (arith, h)

  fewer_after : (c : Bool) (r : LineKey × Row) (rows others : List (LineKey × Row)) → length rows ≤ length others → length (cond c (r ∷ rows) rows) ≤ length (cond c (r ∷ others) others)
  fewer_after true r rows others h = omega (arith, h)
  fewer_after false r rows others h = omega (arith, h)

  put-count : (key : LineKey) (row : Row) (rows : List (LineKey × Row)) → count (put line_cmp key row rows) ≤ 1 + count rows
  put-count key row [] = one_more (bytes_eq key.0 name) (key, row) []
  put-count key row (r ∷ rows) = at (line_cmp key r.0) (put-count key row rows)
    where
      at : (o : Ordering) → count (put line_cmp key row rows) ≤ 1 + count rows → count (by_order o ((key, row) ∷ r ∷ rows) ((r.0, row) ∷ rows) (r ∷ put line_cmp key row rows)) ≤ 1 + count (r ∷ rows)
      at Less later = one_more (bytes_eq key.0 name) (key, row) (filter is_of (r ∷ rows))
      at Equal later = more_after (is_of r) (r.0, row) r (filter is_of rows) (filter is_of rows) (omega arith)
      at Greater later = more_after (is_of r) r r (filter is_of (put line_cmp key row rows)) (filter is_of rows) later

  passed : (c : Bool) (r : LineKey × Row) (n : ℕ) (others : List (LineKey × Row)) → n ≤ length others → n ≤ length (cond c (r ∷ others) others)
  passed true r n others h = omega (arith, h)
  passed false r n others h = h

  kept-count : (test : LineKey × Row → Bool) (rows : List (LineKey × Row)) → count (filter test rows) ≤ count rows
  kept-count test [] = omega arith
  kept-count test (r ∷ rows) = at (test r) (kept-count test rows)
    where
      at : (b : Bool) → count (filter test rows) ≤ count rows → count (cond b (r ∷ filter test rows) (filter test rows)) ≤ count (r ∷ rows)
      at true fewer = fewer_after (is_of r) r (filter is_of (filter test rows)) (filter is_of rows) fewer
      at false fewer = passed (is_of r) r (count (filter test rows)) (filter is_of rows) fewer

  row-count : (key : LineKey) (change : Option Row) (rows : Database) → length (rows_of name (with_row_change key change rows)) ≤ 1 + length (rows_of name rows)
  row-count key (Some row) rows = subst (λ es. count es ≤ 1 + count (entries rows)) (sym (entries-insert key_total rows key row)) (put-count key row (entries rows))
  row-count key None rows =
      let kept = kept-count (λ r. not (eq_by_cmp line_cmp key r.0)) (entries rows) in
      subst (λ es. count es ≤ 1 + count (entries rows)) (sym (entries-remove rows key)) (omega (arith, kept))

  rows-count : (changes : List (LineKey × Option Row)) (rows : Database) → length (rows_of name (with_row_changes changes rows)) ≤ length (rows_of name rows) + length changes
  rows-count [] rows = omega arith
  rows-count (change ∷ changes) rows =
      let rest = rows-count changes (with_row_change change.0 change.1 rows) in
      let first = row-count change.0 change.1 rows in
      omega (arith, rest, first)

  pub at_most : (delta : Delta) (before now : Database) → applied delta before ≡ now → length (rows_of name now) ≤ length (rows_of name before) + length (entries delta)
  at_most delta before now made = subst (λ (db : Database). length (rows_of name db) ≤ length (rows_of name before) + length (entries delta)) made (rows-count (entries delta) before)
