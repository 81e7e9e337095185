-- What a commit leaves: rows of the schema that are whole; and whole rows it leaves as they are.
use Rattle.std.proofs.Common.{◌≡◌, ℕ, List, [], ◌∷◌, Bool, true, false, cond, ◌&&◌, ◌||◌, not, flat_map, Option, Some, None, is_some, option_map, Result, Ok, Err, int_lt, pos, refl, sym, ap, subst, ◌∙◌}
use Rattle.std.proofs.lemmas.Bool.{and_parts, and_from, or_left, or_right, or_parts, or_from, not_from_false}
use Rattle.std.proofs.lemmas.List.Folds.{list_all-append, list_all-map}
use Rattle.std.proofs.lemmas.Option.{same_Some}
use Rattle.std.specs.FinMap.{get, insert, entries, contains_key, get-insert}
use Rattle.std.specs.List.{list_any, list_all}
use Rattle.std.specs.Ordering.{eq_by_cmp}
use Rattle.ov_specs.specs.integrity.Committed.{is_missing, is_dangling, dangles, pruned_row, pruned, within_limits, committed, is_whole}
use Rattle.ov_specs.specs.integrity.Kept.{supports, is_in_root_table, is_supported, AreSupported, AreSome, IsGreatestSupported, kept}
use Rattle.ov_specs.specs.integrity.Limits.{has_too_few, is_short, is_over_limits}
use Rattle.ov_specs.specs.integrity.References.{Target, RowReference, row_targets, row_references, references}
use Rattle.ov_specs.specs.operations.Errors.{OpError, ConstraintViolation, ReferentialIntegrity}
use Rattle.ov_specs.specs.rows.Database.{Columns, Row, Database, same_key}
use Rattle.ov_specs.specs.rows.Lines.{LineKey, line_cmp}
use Rattle.ov_specs.specs.rows.RowNames.{is_own_column}
use Rattle.ov_specs.specs.rows.Suits.{column_of_row, suits_column, SuitsTable, SuitsRow, Suits}
use Rattle.ov_specs.specs.schema.Fitting.{is_between, fits}
use Rattle.ov_specs.specs.schema.Schema.{is_some_and}
use Rattle.ov_specs.specs.schema.SchemaTypes.{ColumnType, Column, Table, Schema, kinds_of}
use Rattle.ov_specs.specs.values.Uuid.{Uuid, is_uuid}
use Rattle.ov_specs.specs.values.Value.{Datum, Atoms, Pairs, is_of, count}
use Rattle.ov_specs.proofs.laws.KeptRows.{support_grows, supported_all, all_supported, kept_are, kept_whole}
use Rattle.ov_specs.proofs.laws.LineKeys.{key_total, tied_same, same_tied, same_key-is, same_key-itself}
use Rattle.ov_specs.proofs.laws.Lists.{any-map}
use Rattle.ov_specs.proofs.laws.Names.{EachEntry, each_entry}
use Rattle.ov_specs.proofs.laws.Pruning.{HasNoMixedPairs, get-pruned, pruned_without, pruned_strong, contains_key-pruned, pruned_dangles_not, limited_suits}
use Rattle.ov_specs.proofs.laws.References.{any_row_is, all_rows_are, are_all_rows, any_reference_is, reference_is_any}
use Rattle.ov_specs.proofs.laws.Truths.{was_not}

-- ---- truth, and lists

contradicts : (b : Bool) → b ≡ true → b ≡ false → ⊥
contradicts true is is_not = cc
contradicts false is is_not = cc

module _ {A : Type 0} where
  -- if an element passes the test, there is one that does; whatever test that one passes, an element passes
  any_is : (test : A → Bool) (xs : List A) → list_any test xs ≡ true → (x : A) × (test x ≡ true) × ((other : A → Bool) → other x ≡ true → list_any other xs ≡ true)
  any_is test [] any = cc
  any_is test (x ∷ xs) any = by (test x) refl any (any_is test xs)
    where
      Is : List A → Type 0
      Is ys = (y : A) × (test y ≡ true) × ((other : A → Bool) → other y ≡ true → list_any other ys ≡ true)

      by : (b : Bool) → test x ≡ b → (b || list_any test xs) ≡ true → (list_any test xs ≡ true → Is xs) → Is (x ∷ xs)
      by true is any later = (x, is, λ other passes. or_left (other x) (list_any other xs) passes)
      by false is any later =
          let found = later any in
          (found.0, found.1, λ other passes. or_right (other x) (list_any other xs) (found.2 other passes))

  -- if each passes one test, none passes a test that what passes the first fails
  all-none : (test other : A → Bool) → ((x : A) → test x ≡ true → other x ≡ false) → (xs : List A) → list_all test xs ≡ true → list_any other xs ≡ false
  all-none test other next [] all = refl
  all-none test other next (x ∷ xs) all =
      let parts = and_parts (test x) (list_all test xs) all in
      or_from (other x) (list_any other xs) (next x parts.0) (all-none test other next xs parts.1)

  -- if none passes either of two tests, each passes a test that what fails both passes
  none-all : (a b test : A → Bool) → ((x : A) → a x ≡ false → b x ≡ false → test x ≡ true) → (xs : List A) → list_any a xs ≡ false → list_any b xs ≡ false → list_all test xs ≡ true
  none-all a b test next [] none_a none_b = refl
  none-all a b test next (x ∷ xs) none_a none_b =
      let in_a = or_parts (a x) (list_any a xs) none_a in
      let in_b = or_parts (b x) (list_any b xs) none_b in
      and_from (test x) (list_all test xs) (next x in_a.0 in_b.0) (none-all a b test next xs in_a.1 in_b.1)

all-flat_map : {A B : Type 0} (test : B → Bool) (f : A → List B) (xs : List A) → list_all test (flat_map f xs) ≡ list_all (λ x. list_all test (f x)) xs
all-flat_map test f [] = refl
all-flat_map test f (x ∷ xs) = list_all-append test (f x) (flat_map f xs) ∙ ap (λ b. list_all test (f x) && b) (all-flat_map test f xs)

-- ---- rows that are whole

-- each reference is to a row that is there, each row is supported, and no limit is broken
pub record IsWhole (schema : Schema) (rows : Database) : Type 0 where
  pub targets : (key : LineKey) (row : Row) → get rows key ≡ Some row → list_all (λ target. contains_key rows target.key) (row_targets schema (key, row)) ≡ true
  pub supported : AreSupported schema rows
  pub limited : is_over_limits schema rows ≡ false

module _ (schema : Schema) (rows : Database) where
  abbrev is_there : RowReference → Bool
  is_there r = contains_key rows r.to.key

  abbrev all_there : LineKey × Row → Bool
  all_there r = list_all (λ target. contains_key rows target.key) (row_targets schema r)

  references_there : list_all is_there (references schema rows) ≡ list_all all_there (entries rows)
  references_there =
      all-flat_map is_there (row_references schema) (entries rows)
      ∙ (λ i. list_all (λ r. list_all-map is_there (λ target. record { from = r.0; to = target }) (row_targets schema r) i) (entries rows))

  pub whole_is : is_whole schema rows ≡ true → IsWhole schema rows
  whole_is is =
      let parts = and_parts (list_all is_there (references schema rows) && list_all (λ r. is_supported schema rows r.0) (entries rows)) (not (is_over_limits schema rows)) is in
      let first = and_parts (list_all is_there (references schema rows)) (list_all (λ r. is_supported schema rows r.0) (entries rows)) parts.0 in
      record {
        targets = λ key row has. all_rows_are all_there rows key row (sym references_there ∙ first.0) has;
        supported = supported_all schema rows first.1;
        limited = was_not (is_over_limits schema rows) parts.1;
      }

  pub is_whole_of : IsWhole schema rows → is_whole schema rows ≡ true
  is_whole_of is =
      and_from (list_all is_there (references schema rows) && list_all (λ r. is_supported schema rows r.0) (entries rows)) (not (is_over_limits schema rows))
      (and_from (list_all is_there (references schema rows)) (list_all (λ r. is_supported schema rows r.0) (entries rows))
      (references_there ∙ are_all_rows all_there rows is.targets) (all_supported schema rows is.supported))
      (not_from_false (is_over_limits schema rows) is.limited)

-- ---- what is committed suits the schema

pub kept_suits : (schema : Schema) (rows : Database) → Suits schema rows → Suits schema (kept schema rows)
kept_suits schema rows suits key row has = suits key row ((kept_are schema rows).some key row has)

-- what was committed had no missing rows
committed_parts : (schema : Schema) (before : Database) (version : Uuid) (rows database : Database) → committed schema before version rows ≡ Ok database
    → (list_any (is_missing rows) (references schema rows) ≡ false) × (within_limits schema (pruned schema before version (kept schema rows)) ≡ Ok database)
committed_parts schema before version rows database = by (list_any (is_missing rows) (references schema rows)) refl
  where
    rest : Result Database OpError
    rest = within_limits schema (pruned schema before version (kept schema rows))

    by : (b : Bool) → list_any (is_missing rows) (references schema rows) ≡ b → ◌≡◌ {A = Result Database OpError} (cond b (Err ReferentialIntegrity) rest) (Ok database)
        → (list_any (is_missing rows) (references schema rows) ≡ false) × (rest ≡ Ok database)
    by true is h = cc
    by false is h = (is, h)

-- what is within the limits is what was tested
within_parts : (schema : Schema) (rows database : Database) → within_limits schema rows ≡ Ok database → (is_over_limits schema rows ≡ false) × (rows ≡ database)
within_parts schema rows database = by (list_any (is_short schema) (entries rows)) (is_over_limits schema rows) refl
  where
    by : (short over : Bool) → is_over_limits schema rows ≡ over → ◌≡◌ {A = Result Database OpError} (cond (short || over) (Err ConstraintViolation) (Ok rows)) (Ok database)
        → (is_over_limits schema rows ≡ false) × (rows ≡ database)
    by true over is h = cc
    by false true is h = cc
    by false false is h =
        let same : rows ≡ database = cc in
        (is, same)

pub committed_suits : (schema : Schema) (before : Database) (version : Uuid) (rows database : Database) → Suits schema before → is_uuid version ≡ true → Suits schema rows
    → committed schema before version rows ≡ Ok database → Suits schema database
committed_suits schema before version rows database all is_version suits is =
    limited_suits schema before version (kept schema rows) database all is_version (kept_suits schema rows suits) (committed_parts schema before version rows database is).1

-- ---- what is committed is whole

has_row : (o : Option Row) → is_some o ≡ true → (row : Row) × (o ≡ Some row)
has_row None is = cc
has_row (Some row) is = (row, refl)

-- a strong reference to a row that is not there
abbrev is_lost : Database → Target → Bool
is_lost rows target = target.is_strong && not (contains_key rows target.key)

-- rows that are kept with one more of all, which one of them refers to strongly, are kept
module _ (schema : Schema) (rows : Database) (key : LineKey) (row : Row) (at : get (kept schema rows) key ≡ Some row) (target : LineKey) (other : Row) (stands : get rows target ≡ Some other)
    (supported : list_any (supports target) (row_references schema (key, row)) ≡ true) where
  abbrev more : Database
  more = insert (kept schema rows) target other

  abbrev are : IsGreatestSupported schema rows (kept schema rows)
  are = kept_are schema rows

  more_of_rows : AreSome rows more
  more_of_rows q found has = by (eq_by_cmp line_cmp q target) refl (sym (get-insert key_total (kept schema rows) target other q) ∙ has)
    where
      by : (b : Bool) → eq_by_cmp line_cmp q target ≡ b → cond b (Some other) (get (kept schema rows) q) ≡ Some found → get rows q ≡ Some found
      by true same is = ap (get rows) (tied_same q target same) ∙ stands ∙ is
      by false same is = are.some q found is

  kept_of_more : AreSome more (kept schema rows)
  kept_of_more q found has = get-insert key_total (kept schema rows) target other q ∙ by (eq_by_cmp line_cmp q target) refl
    where
      by : (b : Bool) → eq_by_cmp line_cmp q target ≡ b → cond b (Some other) (get (kept schema rows) q) ≡ Some found
      by true same = sym stands ∙ ap (get rows) (sym (tied_same q target same)) ∙ are.some q found has
      by false same = has

  target_supported : is_supported schema more target ≡ true
  target_supported =
      or_right (is_in_root_table schema target) (list_any (supports target) (references schema more))
      (reference_is_any schema (supports target) more key row (kept_of_more key row at) supported)

  more_supported : AreSupported schema more
  more_supported q found has = by (eq_by_cmp line_cmp q target) refl (sym (get-insert key_total (kept schema rows) target other q) ∙ has)
    where
      by : (b : Bool) → eq_by_cmp line_cmp q target ≡ b → cond b (Some other) (get (kept schema rows) q) ≡ Some found → is_supported schema more q ≡ true
      by true same is = subst (λ k. is_supported schema more k ≡ true) (sym (tied_same q target same)) target_supported
      by false same is = support_grows schema more (kept schema rows) kept_of_more q (are.supported q found is)

  target_kept : get (kept schema rows) target ≡ Some other
  target_kept =
      are.greatest more more_of_rows more_supported target other
      (get-insert key_total (kept schema rows) target other target ∙ ap (λ b. cond b (Some other) (get (kept schema rows) target)) (same_tied target target refl))

module _ (schema : Schema) (rows : Database) (none_missing : list_any (is_missing rows) (references schema rows) ≡ false) where
  -- each row that a kept row refers to strongly is kept
  strong_kept : (key : LineKey) (row : Row) → get (kept schema rows) key ≡ Some row → list_any (is_lost (kept schema rows)) (row_targets schema (key, row)) ≡ false
  strong_kept key row at = by (list_any (is_lost (kept schema rows)) (row_targets schema (key, row))) refl
    where
      there : (target : Target) → target.is_strong ≡ true → ((test : Target → Bool) → test target ≡ true → list_any test (row_targets schema (key, row)) ≡ true) → (b : Bool) → contains_key rows target.key ≡ b
          → contains_key rows target.key ≡ true
      there target strong passes true is = is
      there target strong passes false is =
          absurd (contradicts _ (reference_is_any schema (is_missing rows) rows key row ((kept_are schema rows).some key row at)
          (any-map (is_missing rows) (λ t. record { from = key; to = t }) (row_targets schema (key, row))
          ∙ passes (λ t. t.is_strong && not (contains_key rows t.key)) (and_from target.is_strong (not (contains_key rows target.key)) strong (not_from_false _ is)))) none_missing)

      stays : (target : Target) → target.is_strong ≡ true → ((test : Target → Bool) → test target ≡ true → list_any test (row_targets schema (key, row)) ≡ true) → (b : Bool) → same_key key target.key ≡ b
          → contains_key (kept schema rows) target.key ≡ true
      stays target strong passes true same = ap (contains_key (kept schema rows)) (sym (same_key-is key target.key same)) ∙ ap is_some at
      stays target strong passes false same =
          let other = has_row (get rows target.key) (there target strong passes (contains_key rows target.key) refl) in
          let supported : list_any (supports target.key) (row_references schema (key, row)) ≡ true =
          any-map (supports target.key) (λ t. record { from = key; to = t }) (row_targets schema (key, row))
          ∙ passes (λ t. t.is_strong && same_key t.key target.key && not (same_key key target.key))
          (and_from (target.is_strong && same_key target.key target.key) (not (same_key key target.key)) (and_from target.is_strong (same_key target.key target.key) strong (same_key-itself target.key)) (not_from_false _ same)) in
          ap is_some (target_kept schema rows key row at target.key other.0 other.1 supported)

      by : (b : Bool) → list_any (is_lost (kept schema rows)) (row_targets schema (key, row)) ≡ b → list_any (is_lost (kept schema rows)) (row_targets schema (key, row)) ≡ false
      by false is = is
      by true is =
          let found = any_is (is_lost (kept schema rows)) (row_targets schema (key, row)) is in
          let parts = and_parts found.0.is_strong (not (contains_key (kept schema rows) found.0.key)) found.1 in
          absurd (contradicts _ (stays found.0 parts.0 found.2 (same_key key found.0.key) refl) (was_not _ parts.1))

-- what pruning leaves of a row that stood there
was_row : (schema : Schema) (before : Database) (version : Uuid) (rows : Database) (key : LineKey) (row : Row) → get (pruned schema before version rows) key ≡ Some row
    → (old : Row) × (get rows key ≡ Some old) × (pruned_row schema before version rows (key, old) ≡ row)
was_row schema before version rows key row has = by (get rows key) refl (sym (get-pruned schema before version rows key) ∙ has)
  where
    by : (o : Option Row) → get rows key ≡ o → option_map (λ r. pruned_row schema before version rows (key, r)) o ≡ Some row → (old : Row) × (get rows key ≡ Some old) × (pruned_row schema before version rows (key, old) ≡ row)
    by None at made = cc
    by (Some old) at made = (old, at, same_Some _ row made)

module _ (schema : Schema) (before : Database) (version : Uuid) (rows : Database) (unmixed : HasNoMixedPairs schema) where
  abbrev left : Database
  left = pruned schema before version rows

  -- pruning leaves no reference to a row that is not there, if none of them was strong
  targets_left : ((key : LineKey) (row : Row) → get rows key ≡ Some row → list_any (is_lost rows) (row_targets schema (key, row)) ≡ false) → (key : LineKey) (row : Row) → get left key ≡ Some row
      → list_all (λ target. contains_key left target.key) (row_targets schema (key, row)) ≡ true
  targets_left none key row has =
      none-all (is_dangling left) (is_lost left) (λ target. contains_key left target.key) either (row_targets schema (key, row))
      (pruned_dangles_not schema before version rows key row has) none_lost
    where
      either : (target : Target) → is_dangling left target ≡ false → is_lost left target ≡ false → contains_key left target.key ≡ true
      either target = by target.is_strong (contains_key left target.key)
        where
          by : (strong there : Bool) → (not strong && not there) ≡ false → (strong && not there) ≡ false → there ≡ true
          by strong true h k = refl
          by true false h k = cc
          by false false h k = cc

      weak : (target : Target) → target.is_strong ≡ false → is_lost rows target ≡ false
      weak target is = ap (λ b. b && not (contains_key rows target.key)) is

      none_lost : list_any (is_lost left) (row_targets schema (key, row)) ≡ false
      none_lost =
          let old = was_row schema before version rows key row has in
          (λ i. list_any (λ target. target.is_strong && not (contains_key-pruned schema before version rows target.key i)) (row_targets schema (key, row)))
          ∙ ap (λ r. list_any (is_lost rows) (row_targets schema (key, r))) (sym old.2)
          ∙ pruned_strong schema before version rows unmixed (is_lost rows) weak key old.0
          ∙ none key old.0 old.1

  -- what was supported is
  supported_left : AreSupported schema rows → AreSupported schema left
  supported_left supported key row has =
      let old = was_row schema before version rows key row has in
      by (is_in_root_table schema key) (supported key old.0 old.1)
    where
      refers : LineKey → Target → Bool
      refers from target = supports key (record { from = from; to = target })

      weak : (from : LineKey) (target : Target) → target.is_strong ≡ false → refers from target ≡ false
      weak from target is = ap (λ b. b && same_key target.key key && not (same_key from key)) is

      by : (root : Bool) → (root || list_any (supports key) (references schema rows)) ≡ true → (root || list_any (supports key) (references schema left)) ≡ true
      by true is = refl
      by false is =
          let from = any_reference_is schema (supports key) rows is in
          let now : Row = pruned_row schema before version rows (from.0, from.1) in
          reference_is_any schema (supports key) left from.0 now (get-pruned schema before version rows from.0 ∙ ap (option_map (λ r. pruned_row schema before version rows (from.0, r))) from.2)
          (any-map (supports key) (λ target. record { from = from.0; to = target }) (row_targets schema (from.0, now))
          ∙ pruned_strong schema before version rows unmixed (refers from.0) (weak from.0) from.0 from.1
          ∙ sym (any-map (supports key) (λ target. record { from = from.0; to = target }) (row_targets schema (from.0, from.1)))
          ∙ from.3)

pub committed_whole : (schema : Schema) (before : Database) (version : Uuid) (rows database : Database) → HasNoMixedPairs schema → committed schema before version rows ≡ Ok database
    → is_whole schema database ≡ true
committed_whole schema before version rows database unmixed is =
    subst (λ d. is_whole schema d ≡ true) limits.1 (is_whole_of schema (left schema before version (kept schema rows) unmixed) (record {
      targets = targets_left schema before version (kept schema rows) unmixed (strong_kept schema rows parts.0);
      supported = supported_left schema before version (kept schema rows) unmixed (kept_are schema rows).supported;
      limited = limits.0;
    }))
  where
    parts : (list_any (is_missing rows) (references schema rows) ≡ false) × (within_limits schema (pruned schema before version (kept schema rows)) ≡ Ok database)
    parts = committed_parts schema before version rows database is

    limits : (is_over_limits schema (pruned schema before version (kept schema rows)) ≡ false) × (pruned schema before version (kept schema rows) ≡ database)
    limits = within_parts schema (pruned schema before version (kept schema rows)) database parts.1

-- ---- whole rows stay

-- what fits a column is not less than its least
fits-enough : (t : ColumnType) (datum : Datum) → fits t datum ≡ true → int_lt (pos (count datum)) t.min ≡ false
fits-enough t (Atoms s) h = was_not _ (and_parts (not (int_lt (pos (count (Atoms s))) t.min)) _ (and_parts (is_between (Some t.min) t.max (pos (count (Atoms s)))) _ h).0).0
fits-enough t (Pairs m) h = was_not _ (and_parts (not (int_lt (pos (count (Pairs m))) t.min)) _ (and_parts (is_between (Some t.min) t.max (pos (count (Pairs m)))) _ h).0).0

-- so no value of a row that suits its table is too short
module _ (table : Table) (columns : Columns) (suits : SuitsTable table columns) where
  not_too_few : (name : List ℕ) (datum : Datum) → get columns name ≡ Some datum → has_too_few table (name, datum) ≡ false
  not_too_few name datum has = by (is_own_column name) (get table.columns name) (ap (suits_column (column_of_row table name)) (sym has) ∙ suits name)
    where
      by : (own : Bool) (o : Option Column) → suits_column (cond own None o) (Some datum) ≡ true → is_some_and (λ column. int_lt (pos (count datum)) column.type_of.min) o ≡ false
      by own None h = refl
      by true (Some column) h = cc
      by false (Some column) h = fits-enough column.type_of datum (and_parts (is_of (kinds_of column.type_of) datum) (fits column.type_of datum) h).1

  none_too_few : (es : List (List ℕ × Datum)) → EachEntry (λ name datum. get columns name ≡ Some datum) es → list_any (has_too_few table) es ≡ false
  none_too_few [] each = refl
  none_too_few (e ∷ es) each = or_from (has_too_few table e) (list_any (has_too_few table) es) (not_too_few e.0 e.1 each.0) (none_too_few es each.1)

suiting_not_short : (schema : Schema) (key : LineKey) (row : Row) → SuitsRow schema key row → is_short schema (key, row) ≡ false
suiting_not_short schema key row suits =
    ap (is_some_and (λ table. list_any (has_too_few table) (entries row.columns))) suits.named
    ∙ none_too_few suits.table row.columns suits.columns (entries row.columns) (each_entry row.columns)

-- no row of the schema is short
none_short : (schema : Schema) (rows : Database) → Suits schema rows → list_any (is_short schema) (entries rows) ≡ false
none_short schema rows suits = by (list_any (is_short schema) (entries rows)) refl
  where
    by : (b : Bool) → list_any (is_short schema) (entries rows) ≡ b → list_any (is_short schema) (entries rows) ≡ false
    by false is = is
    by true is =
        let found = any_row_is (is_short schema) rows is in
        absurd (contradicts _ found.3 (suiting_not_short schema found.0 found.1 (suits found.0 found.1 found.2)))

-- whole rows without values that are too short are committed as they are
pub enough_committed : (schema : Schema) (before : Database) (version : Uuid) (rows : Database) → list_any (is_short schema) (entries rows) ≡ false → is_whole schema rows ≡ true → committed schema before version rows ≡ Ok rows
enough_committed schema before version rows enough is =
    (λ i. cond (none_missing i) (Err ReferentialIntegrity) (within_limits schema (all_left i)))
    ∙ (λ i. cond (enough i || whole.limited i) (Err ConstraintViolation) (Ok rows))
  where
    whole : IsWhole schema rows
    whole = whole_is schema rows is

    parts : (list_all (is_there schema rows) (references schema rows) && list_all (λ r. is_supported schema rows r.0) (entries rows)) ≡ true
    parts = (and_parts (list_all (is_there schema rows) (references schema rows) && list_all (λ r. is_supported schema rows r.0) (entries rows)) (not (is_over_limits schema rows)) is).0

    gone : (strong there : Bool) → there ≡ true → (strong && not there) ≡ false
    gone strong false h = cc
    gone true true h = refl
    gone false true h = refl

    none_missing : list_any (is_missing rows) (references schema rows) ≡ false
    none_missing =
        all-none (is_there schema rows) (is_missing rows) (λ r there. gone r.to.is_strong (contains_key rows r.to.key) there) (references schema rows)
        (and_parts (list_all (is_there schema rows) (references schema rows)) (list_all (λ r. is_supported schema rows r.0) (entries rows)) parts).0

    none_dangle : (key : LineKey) (row : Row) → get rows key ≡ Some row → dangles schema rows (key, row) ≡ false
    none_dangle key row has =
        all-none (λ target. contains_key rows target.key) (is_dangling rows) (λ target there. gone (not target.is_strong) (contains_key rows target.key) there) (row_targets schema (key, row))
        (whole.targets key row has)

    all_left : pruned schema before version (kept schema rows) ≡ rows
    all_left = ap (pruned schema before version) (kept_whole schema rows whole.supported) ∙ pruned_without schema before version rows none_dangle

-- whole rows of the schema are committed as they are
pub whole_committed : (schema : Schema) (before : Database) (version : Uuid) (rows : Database) → Suits schema rows → is_whole schema rows ≡ true → committed schema before version rows ≡ Ok rows
whole_committed schema before version rows suits is = enough_committed schema before version rows (none_short schema rows suits) is
