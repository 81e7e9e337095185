-- A database has fewer references after a row is removed.
use Rattle.std.proofs.Common.{◌≡◌, ◌+◌, ◌≤◌, List, [], ◌∷◌, ◌++◌, filter, length, Bool, true, false, cond, not, flat_map, Some, None, refl, sym, ap, ◌∙◌, arith, Equal}
use Rattle.std.proofs.lemmas.List.{length-append, length-map}
use Rattle.std.proofs.lemmas.Option.{same_Some}
use Rattle.std.specs.Cmp.{eq_by_cmp_equiv}
use Rattle.std.specs.FinMap.{get, remove, entries, find, entries_sorted, get-entries, get-remove}
use Rattle.std.specs.FinMap.Entries.{find-where_key, is_sorted-where_key, same_entries}
use Rattle.std.specs.Ordering.{eq_by_cmp}
use Rattle.ov_specs.specs.integrity.References.{Target, row_targets, row_references, references}
use Rattle.ov_specs.specs.rows.Database.{Row, Database}
use Rattle.ov_specs.specs.rows.Lines.{LineKey, line_cmp}
use Rattle.ov_specs.specs.schema.SchemaTypes.{Schema}
use Rattle.ov_specs.proofs.laws.LineKeys.{key_total, key_exact, tied_same}
use Rattle.ov_specs.proofs.laws.PrunedValues.{filter-shorter}
use Rattle.ov_specs.proofs.laws.Truths.{cond-not}
use Rattle.ov_support.specs.Supporting.{strong_keys}

-- ---- the strong ones

pub strong_ones_fewer : (targets : List Target) → length (strong_keys targets) ≤ length targets
strong_ones_fewer targets =
    let mapped : length (strong_keys targets) ≡ length (filter (λ t. t.is_strong) targets) = length-map (filter (λ t. t.is_strong) targets) (λ t. t.key) in
    omega (arith, mapped, filter-shorter (λ t. t.is_strong) targets)

-- ---- lists of rows

module _ {A : Type 0} (key : LineKey) (of_row : LineKey × Row → List A) where
  abbrev is_other : LineKey → Bool
  is_other x = not (eq_by_cmp line_cmp key x)

  abbrev others : List (LineKey × Row) → List (LineKey × Row)
  others rs = filter (λ r. is_other r.0) rs

  of_fewer : (test : LineKey × Row → Bool) (rs : List (LineKey × Row)) → length (flat_map of_row (filter test rs)) ≤ length (flat_map of_row rs)
  of_fewer test [] = omega arith
  of_fewer test (r ∷ rs) = by (test r) (of_fewer test rs)
    where
      long : length (of_row r ++ flat_map of_row rs) ≡ length (of_row r) + length (flat_map of_row rs)
      long = length-append (of_row r) (flat_map of_row rs)

      short : length (of_row r ++ flat_map of_row (filter test rs)) ≡ length (of_row r) + length (flat_map of_row (filter test rs))
      short = length-append (of_row r) (flat_map of_row (filter test rs))

      by : (b : Bool) → length (flat_map of_row (filter test rs)) ≤ length (flat_map of_row rs)
          → length (flat_map of_row (cond b (r ∷ filter test rs) (filter test rs))) ≤ length (of_row r ++ flat_map of_row rs)
      by true rest = omega (arith, long, short, rest)
      by false rest = omega (arith, long, rest)

  of_others : (row : Row) (rs : List (LineKey × Row)) → find line_cmp key rs ≡ Some row → length (flat_map of_row (others rs)) + length (of_row (key, row)) ≤ length (flat_map of_row rs)
  of_others row [] found = cc
  of_others row (r ∷ rs) found = by (eq_by_cmp line_cmp key r.0) refl found (of_others row rs)
    where
      long : length (of_row r ++ flat_map of_row rs) ≡ length (of_row r) + length (flat_map of_row rs)
      long = length-append (of_row r) (flat_map of_row rs)

      short : length (of_row r ++ flat_map of_row (others rs)) ≡ length (of_row r) + length (flat_map of_row (others rs))
      short = length-append (of_row r) (flat_map of_row (others rs))

      by : (b : Bool) → eq_by_cmp line_cmp key r.0 ≡ b → cond b (Some r.1) (find line_cmp key rs) ≡ Some row
          → (find line_cmp key rs ≡ Some row → length (flat_map of_row (others rs)) + length (of_row (key, row)) ≤ length (flat_map of_row rs))
          → length (flat_map of_row (cond (not b) (r ∷ others rs) (others rs))) + length (of_row (key, row)) ≤ length (of_row r ++ flat_map of_row rs)
      by true tied at later =
          let one : length (of_row (key, row)) ≡ length (of_row r) = ap (λ (p : LineKey × Row). length (of_row p)) (λ i. (tied_same key r.0 tied i, sym (same_Some r.1 row at) i)) in
          omega (arith, long, one, of_fewer (λ p. is_other p.0) rs)
      by false tied at later = omega (arith, long, short, later at)

-- ---- rows of a database

-- without a row there are the other rows
pub entries-remove : (rows : Database) (key : LineKey) → entries (remove rows key) ≡ filter (λ r. not (eq_by_cmp line_cmp key r.0)) (entries rows)
entries-remove rows key =
    same_entries line_cmp key_total key_exact (entries (remove rows key)) _ (entries_sorted (remove rows key)) (is_sorted-where_key line_cmp is_left (entries rows) (entries_sorted rows))
    (λ q. sym (get-entries (remove rows key) q) ∙ get-remove key_total rows key q ∙ turned q ∙ sym (find-where_key line_cmp is_left q (alike q) (entries rows)))
  where
    is_left : LineKey → Bool
    is_left x = not (eq_by_cmp line_cmp key x)

    alike : (q x : LineKey) → line_cmp q x ≡ Equal → is_left x ≡ is_left q
    alike q x tied = ap is_left (sym (key_exact q x tied))

    turned : (q : LineKey) → cond (eq_by_cmp line_cmp q key) None (get rows q) ≡ cond (is_left q) (find line_cmp q (entries rows)) None
    turned q =
        ap (λ b. cond b None (get rows q)) ((eq_by_cmp_equiv key_total).symm q key) ∙ sym (cond-not (eq_by_cmp line_cmp key q) (get rows q) None)
        ∙ ap (λ o. cond (is_left q) o None) (get-entries rows q)

pub references_fewer : (schema : Schema) (rows : Database) (key : LineKey) (row : Row) → get rows key ≡ Some row
    → length (references schema (remove rows key)) + length (row_targets schema (key, row)) ≤ length (references schema rows)
references_fewer schema rows key row has =
    let left : length (references schema (remove rows key)) ≡ length (flat_map (row_references schema) (filter (λ r. not (eq_by_cmp line_cmp key r.0)) (entries rows))) =
    ap (λ rs. length (flat_map (row_references schema) rs)) (entries-remove rows key) in
    let one : length (row_references schema (key, row)) ≡ length (row_targets schema (key, row)) = length-map (row_targets schema (key, row)) _ in
    omega (arith, left, one, of_others key (row_references schema) row (entries rows) (sym (get-entries rows key) ∙ has))
