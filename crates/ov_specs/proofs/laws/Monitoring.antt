-- What a monitor reports of rows is found by the changes alone: a row that is as before is not reported.
use Rattle.std.proofs.Common.{◌≡◌, ℕ, List, [], ◌∷◌, ◌++◌, filter, Bool, true, false, cond, not, T, Option, Some, None, option_and_then, refl, sym, ap, ◌∙◌}
use Rattle.std.specs.Cmp.{eq_by_cmp_equiv}
use Rattle.std.specs.FinMap.{get, get-entries, get-from_entries, find, is_sorted, entries, entries_sorted, from_entries}
use Rattle.std.specs.Ordering.{eq_by_cmp}
use Rattle.std.specs.List.{filter_map}
use Rattle.std.specs.Option.{option_or}
use Rattle.std.specs.Str.{bytes_eq}
use Rattle.serde_json.specs.Data.{Data}
use Rattle.ov_specs.specs.integrity.Limits.{is_same_value}
use Rattle.ov_specs.specs.monitors.Monitors.{Monitor}
use Rattle.ov_specs.specs.monitors.Requests.{MonitoredTable}
use Rattle.ov_specs.specs.monitors.Updates.{is_modified, with_both, modification, row_update, under_id, updated_rows, under_table, updates}
use Rattle.ov_specs.specs.operations.Conditions.{entry_value}
use Rattle.ov_specs.specs.rows.Database.{Row, Database, same_datum}
use Rattle.ov_specs.specs.rows.Lines.{LineKey, line_cmp}
use Rattle.ov_specs.specs.values.Value.{Datum}
use Rattle.ov_specs.proofs.laws.DatumOrder.{datum_cmp_total}
use Rattle.ov_specs.proofs.laws.KeyedLists.{filter_map-filter-map, same_by_keys}
use Rattle.ov_specs.proofs.laws.LineKeys.{key_total, key_exact}
use Rattle.ov_specs.proofs.laws.Sameness.{datum-tied}

-- ---- a row that is as before

same_datum-itself : (d : Datum) → same_datum d d ≡ true
same_datum-itself d = datum-tied d d ∙ (eq_by_cmp_equiv datum_cmp_total).refl d

pub is_same_value-itself : (o : Option Datum) → is_same_value o o ≡ true
is_same_value-itself None = refl
is_same_value-itself (Some d) = same_datum-itself d

none_modified : (r : LineKey × Row) (names : List (List ℕ)) → filter (is_modified r r) names ≡ []
none_modified r [] = refl
none_modified r (name ∷ names) = ap (λ b. cond (not b) (name ∷ filter (is_modified r r) names) (filter (is_modified r r) names)) (is_same_value-itself (entry_value r name)) ∙ none_modified r names

modification-same : (names : List (List ℕ)) (r : LineKey × Row) → modification names r r ≡ None
modification-same names r = ap (λ modified. with_both names modified r r) (none_modified r names)

pub row_update-same : (t : MonitoredTable) (key : LineKey) (o : Option Row) → row_update t key o o ≡ None
row_update-same t key None = refl
row_update-same t key (Some row) = by t.modify
  where
    by : (o : Option (List (List ℕ))) → option_and_then (λ names. modification names (key, row) (key, row)) o ≡ None
    by None = refl
    by (Some names) = modification-same names (key, row)

-- ---- the rows of a table, by the keys of any list that has those of all changes

abbrev pub told_at : Database → Database → MonitoredTable → LineKey → Option (List ℕ × Data)
told_at before after t key = cond (bytes_eq key.0 t.table) (under_id key (row_update t key (get before key) (get after key))) None

told_at-same : (before after : Database) (t : MonitoredTable) (key : LineKey) → get before key ≡ get after key → told_at before after t key ≡ None
told_at-same before after t key same =
    ap (λ u. cond (bytes_eq key.0 t.table) (under_id key u) None) (ap (λ o. row_update t key o (get after key)) same ∙ row_update-same t key (get after key)) ∙ by (bytes_eq key.0 t.table)
  where
    by : (b : Bool) → ◌≡◌ {A = Option (List ℕ × Data)} (cond b None None) None
    by true = refl
    by false = refl

neither : (a b : Option Row) → option_or a b ≡ None → a ≡ b
neither None b h = sym h
neither (Some r) b h = cc

find-joined : {X : Type 0} (q : LineKey) (es fs : List (LineKey × X)) → find line_cmp q (es ++ fs) ≡ option_or (find line_cmp q es) (find line_cmp q fs)
find-joined q [] fs = refl
find-joined q (e ∷ es) fs = by (eq_by_cmp line_cmp q e.0) (find-joined q es fs)
  where
    by : (b : Bool) → find line_cmp q (es ++ fs) ≡ option_or (find line_cmp q es) (find line_cmp q fs)
        → cond b (Some e.1) (find line_cmp q (es ++ fs)) ≡ option_or (cond b (Some e.1) (find line_cmp q es)) (find line_cmp q fs)
    by true rest = refl
    by false rest = rest

absent_is_same : (before after : Database) (q : LineKey) → find line_cmp q (entries (from_entries {R = line_cmp} (entries before ++ entries after))) ≡ None → get before q ≡ get after q
absent_is_same before after q h =
    get-entries before q
    ∙ neither (find line_cmp q (entries before)) (find line_cmp q (entries after))
    (sym (find-joined q (entries before) (entries after)) ∙ (sym (get-from_entries key_total (entries before ++ entries after) q) ∙ (get-entries _ q ∙ h)))
    ∙ sym (get-entries after q)

module _ {X : Type 0} where
  pub updated_rows-by : (before after : Database) (t : MonitoredTable) (es : List (LineKey × X)) → T (is_sorted line_cmp es)
      → ((q : LineKey) → find line_cmp q es ≡ None → get before q ≡ get after q) → updated_rows before after t ≡ filter_map (λ e. told_at before after t e.0) es
  updated_rows-by before after t es sorted beside =
      filter_map-filter-map (λ e. e.0) (λ key. bytes_eq key.0 t.table) (λ key. under_id key (row_update t key (get before key) (get after key))) (entries (from_entries (entries before ++ entries after)))
      ∙ same_by_keys line_cmp key_total key_exact (told_at before after t) (entries (from_entries (entries before ++ entries after))) es
      (entries_sorted (from_entries (entries before ++ entries after))) sorted
      (λ q none. told_at-same before after t q (absent_is_same before after q none)) (λ q none. told_at-same before after t q (beside q none))

-- ---- a database that is as before

updated_rows-same : (database : Database) (t : MonitoredTable) → updated_rows database database t ≡ []
updated_rows-same database t = updated_rows-by {X = Row} database database t [] tt (λ q h. refl)

table_updates-same : (database : Database) (ts : List MonitoredTable) → filter_map (λ t. under_table t.table (updated_rows database database t)) ts ≡ []
table_updates-same database [] = refl
table_updates-same database (t ∷ ts) = rw (updated_rows-same database t) (table_updates-same database ts)

pub updates-same : (database : Database) (m : Monitor) → updates database database m ≡ None
updates-same database m = rw (table_updates-same database m.tables) refl
