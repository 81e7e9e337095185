-- The names of a row that suits its table are those that the table gives its rows.
use Rattle.std.proofs.Common.{◌≡◌, ℕ, List, [], ◌∷◌, map, Bool, true, false, cond, T, Option, Some, None, is_some, refl, sym, ap, ◌∙◌}
use Rattle.std.specs.Prelude.{not}
use Rattle.std.specs.FinMap.{find, is_sorted, get, keys, entries, entries_sorted, same_map, from_sorted, get-from_sorted, entries-from_sorted, get-entries}
use Rattle.std.specs.FinMap.Entries.{below_all}
use Rattle.ov_specs.specs.rows.Database.{Columns}
use Rattle.ov_specs.specs.rows.RowNames.{row_names, is_own_column, without_own, without_own_columns}
use Rattle.ov_specs.specs.rows.Suits.{column_of_row, suits_column, SuitsTable}
use Rattle.ov_specs.specs.schema.SchemaTypes.{Column, Table, name_cmp}
use Rattle.ov_specs.specs.values.Value.{Datum}
use Rattle.ov_specs.proofs.laws.Names.{name_cmp_total, name_exact, same_name, same_name-is}
use Rattle.ov_specs.proofs.laws.Truths.{both_hold, left_holds, right_holds}

-- ---- names without what stands at them

abbrev bare : {X : Type 0} → List (List ℕ × X) → List (List ℕ × Unit {0})
bare = map (λ e. (e.0, tt))

module _ {X : Type 0} where
  bare_below : (name : List ℕ) (es : List (List ℕ × X)) → T (below_all name_cmp name es) → T (below_all name_cmp name (bare es))
  bare_below name [] h = tt
  bare_below name (e ∷ es) h = both_hold _ _ (left_holds _ _ h) (bare_below name es (right_holds _ _ h))

  bare_sorted : (es : List (List ℕ × X)) → T (is_sorted name_cmp es) → T (is_sorted name_cmp (bare es))
  bare_sorted [] h = tt
  bare_sorted (e ∷ es) h = both_hold _ _ (bare_below e.0 es (left_holds _ _ h)) (bare_sorted es (right_holds _ _ h))

  find-bare : (name : List ℕ) (es : List (List ℕ × X)) → find name_cmp name (bare es) ≡ cond (is_some (find name_cmp name es)) (Some tt) None
  find-bare name [] = refl
  find-bare name (e ∷ es) = by (same_name name e.0) (find-bare name es)
    where
      by : (b : Bool) → find name_cmp name (bare es) ≡ cond (is_some (find name_cmp name es)) (Some tt) None
          → cond b (Some tt) (find name_cmp name (bare es)) ≡ cond (is_some (cond b (Some e.1) (find name_cmp name es))) (Some tt) None
      by true rest = refl
      by false rest = rest

  names-bare : (es : List (List ℕ × X)) → map (λ e. e.0) (bare es) ≡ map (λ e. e.0) es
  names-bare [] = refl
  names-bare (e ∷ es) = ap (λ names. e.0 ∷ names) (names-bare es)

-- two ascending lists with a value at the same names have the same names
same_names : {X Y : Type 0} (xs : List (List ℕ × X)) (ys : List (List ℕ × Y)) → T (is_sorted name_cmp xs) → T (is_sorted name_cmp ys)
    → ((name : List ℕ) → is_some (find name_cmp name xs) ≡ is_some (find name_cmp name ys)) → map (λ e. e.0) xs ≡ map (λ e. e.0) ys
same_names xs ys h k same =
    let in_xs = bare_sorted xs h in
    let in_ys = bare_sorted ys k in
    let one = same_map name_cmp_total name_exact (from_sorted (bare xs)) (from_sorted (bare ys)) (λ name.
    get-from_sorted name_cmp (bare xs) name in_xs ∙ find-bare name xs ∙ ap (λ b. cond b (Some tt) None) (same name) ∙ sym (get-from_sorted name_cmp (bare ys) name in_ys ∙ find-bare name ys)) in
    sym (names-bare xs) ∙ ap (map (λ e. e.0)) (sym (entries-from_sorted name_cmp (bare xs) in_xs) ∙ ap entries one ∙ entries-from_sorted name_cmp (bare ys) in_ys) ∙ names-bare ys

-- ---- the columns that are not own ones

kept_below : (name : List ℕ) (es : List (List ℕ × Column)) → T (below_all name_cmp name es) → T (below_all name_cmp name (without_own_columns es))
kept_below name [] h = tt
kept_below name (e ∷ es) h = by (not (is_own_column e.0)) (kept_below name es (right_holds _ _ h))
  where
    by : (b : Bool) → T (below_all name_cmp name (without_own_columns es)) → T (below_all name_cmp name (cond b (e ∷ without_own_columns es) (without_own_columns es)))
    by true rest = both_hold _ _ (left_holds _ _ h) rest
    by false rest = rest

kept_sorted : (es : List (List ℕ × Column)) → T (is_sorted name_cmp es) → T (is_sorted name_cmp (without_own_columns es))
kept_sorted [] h = tt
kept_sorted (e ∷ es) h = by (not (is_own_column e.0)) (kept_sorted es (right_holds _ _ h))
  where
    by : (b : Bool) → T (is_sorted name_cmp (without_own_columns es)) → T (is_sorted name_cmp (cond b (e ∷ without_own_columns es) (without_own_columns es)))
    by true rest = both_hold _ _ (kept_below e.0 es (left_holds _ _ h)) rest
    by false rest = rest

find-kept : (name : List ℕ) (es : List (List ℕ × Column)) → find name_cmp name (without_own_columns es) ≡ cond (is_own_column name) None (find name_cmp name es)
find-kept name [] = either (is_own_column name)
  where
    either : (b : Bool) → ◌≡◌ {A = Option Column} None (cond b None None)
    either true = refl
    either false = refl
find-kept name (e ∷ es) = by (is_own_column e.0) (same_name name e.0) refl refl (find-kept name es)
  where
    by : (own same : Bool) → is_own_column e.0 ≡ own → same_name name e.0 ≡ same → find name_cmp name (without_own_columns es) ≡ cond (is_own_column name) None (find name_cmp name es)
        → find name_cmp name (cond (not own) (e ∷ without_own_columns es) (without_own_columns es)) ≡ cond (is_own_column name) None (cond same (Some e.1) (find name_cmp name es))
    by own false isown is rest = other own
      where
        other : (b : Bool) → find name_cmp name (cond (not b) (e ∷ without_own_columns es) (without_own_columns es)) ≡ cond (is_own_column name) None (find name_cmp name es)
        other true = rest
        other false = ap (λ b. cond b (Some e.1) (find name_cmp name (without_own_columns es))) is ∙ rest
    by true true isown is rest =
        let own : is_own_column name ≡ true = ap is_own_column (same_name-is name e.0 is) ∙ isown in
        rest ∙ ap (λ b. cond b None (find name_cmp name es)) own ∙ sym (ap (λ b. cond b None (Some e.1)) own)
    by false true isown is rest =
        let own : is_own_column name ≡ false = ap is_own_column (same_name-is name e.0 is) ∙ isown in
        ap (λ b. cond b (Some e.1) (find name_cmp name (without_own_columns es))) is ∙ sym (ap (λ b. cond b None (Some e.1)) own)

names-kept : (es : List (List ℕ × Column)) → map (λ e. e.0) (without_own_columns es) ≡ without_own (map (λ e. e.0) es)
names-kept [] = refl
names-kept (e ∷ es) = by (not (is_own_column e.0)) (names-kept es)
  where
    by : (b : Bool) → map (λ x. x.0) (without_own_columns es) ≡ without_own (map (λ x. x.0) es)
        → map (λ x. x.0) (cond b (e ∷ without_own_columns es) (without_own_columns es)) ≡ cond b (e.0 ∷ without_own (map (λ x. x.0) es)) (without_own (map (λ x. x.0) es))
    by true rest = ap (λ names. e.0 ∷ names) rest
    by false rest = rest

-- ---- rows that suit

both_or_none : (column : Option Column) (datum : Option Datum) → suits_column column datum ≡ true → is_some datum ≡ is_some column
both_or_none None None h = refl
both_or_none None (Some datum) h = cc
both_or_none (Some column) None h = cc
both_or_none (Some column) (Some datum) h = refl

-- a row's values stand at the names that its table gives its rows, and at no other
pub names_of_suiting : (table : Table) (columns : Columns) → SuitsTable table columns → keys columns ≡ row_names table
names_of_suiting table columns suits =
    same_names (entries columns) (without_own_columns (entries table.columns)) (entries_sorted columns) (kept_sorted (entries table.columns) (entries_sorted table.columns)) (λ name.
    ap is_some (sym (get-entries columns name)) ∙ both_or_none (column_of_row table name) (get columns name) (suits name)
    ∙ ap (λ found. is_some (cond (is_own_column name) None found)) (get-entries table.columns name) ∙ ap is_some (sym (find-kept name (entries table.columns))))
    ∙ names-kept (entries table.columns)
