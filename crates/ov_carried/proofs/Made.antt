-- Rows that are made of the keys of others.
use Rattle.std.proofs.Common.{◌≡◌, List, [], ◌∷◌, map, Bool, true, false, cond, ◌||◌, Option, Some, None, is_some, option_map, option_and_then, refl, sym, ap, ◌∙◌}
use Rattle.std.specs.FinMap.{empty, get, insert, entries, keys, find, from_entries, entries_sorted, get-empty, get-entries, get-insert, same_map}
use Rattle.std.specs.List.{filter_map, cons_option, list_any}
use Rattle.std.specs.Option.{option_or}
use Rattle.std.specs.Ordering.{eq_by_cmp}
use Rattle.ov_specs.specs.conversion.Carried.{carried_row, carried_if_kept, carried}
use Rattle.ov_specs.specs.operations.GivenRow.{with_values}
use Rattle.ov_specs.specs.rows.Database.{Row, Database}
use Rattle.ov_specs.specs.rows.Lines.{LineKey, line_cmp}
use Rattle.ov_specs.specs.schema.SchemaTypes.{Table, Schema}
use Rattle.ov_specs.specs.values.Uuid.{Uuid}
use Rattle.ov_specs.proofs.laws.FoundRows.{EachRow, each_found}
use Rattle.ov_specs.proofs.laws.LineKeys.{key_total, key_exact, tied_same}
use Rattle.ov_carried.specs.Making.{with_row, keyed}
use Rattle.ov_carried.specs.Carrying.{carried_at, carried_of}

-- each row stands at its key
pub each_row : (rows : Database) → EachRow (λ key row. get rows key ≡ Some row) (entries rows)
each_row rows = each_found (λ key row. get rows key ≡ Some row) (entries rows) (entries_sorted rows) (λ key row found. get-entries rows key ∙ found)

-- with what is made of each of these keys
abbrev pub with_made : (LineKey → Option Row) → List LineKey → Database → Database
with_made made [] rows = rows
with_made made (key ∷ ks) rows = with_made made ks (with_row key (made key) rows)

module _ (made : LineKey → Option Row) where
  abbrev is_among : List LineKey → LineKey → Bool
  is_among ks q = list_any (eq_by_cmp line_cmp q) ks

  get-with_row : (key : LineKey) (o : Option Row) (rows : Database) (q : LineKey) → get (with_row key o rows) q ≡ cond (eq_by_cmp line_cmp q key) (option_or o (get rows q)) (get rows q)
  get-with_row key None rows q = by (eq_by_cmp line_cmp q key)
    where
      by : (b : Bool) → get rows q ≡ cond b (get rows q) (get rows q)
      by true = refl
      by false = refl
  get-with_row key (Some row) rows q = get-insert key_total rows key row q

  -- what is made at the key, if it is among them
  pub get-with_made : (ks : List LineKey) (rows : Database) (q : LineKey) → get (with_made made ks rows) q ≡ cond (is_among ks q) (option_or (made q) (get rows q)) (get rows q)
  get-with_made [] rows q = refl
  get-with_made (key ∷ ks) rows q =
      get-with_made ks (with_row key (made key) rows) q ∙ by (eq_by_cmp line_cmp q key) refl (is_among ks q) (get-with_row key (made key) rows q)
    where
      twice : (o s : Option Row) (c : Bool) → cond c (option_or o (option_or o s)) (option_or o s) ≡ option_or o s
      twice None s true = refl
      twice None s false = refl
      twice (Some row) s true = refl
      twice (Some row) s false = refl

      by : (b : Bool) → eq_by_cmp line_cmp q key ≡ b → (c : Bool) → get (with_row key (made key) rows) q ≡ cond (eq_by_cmp line_cmp q key) (option_or (made key) (get rows q)) (get rows q)
          → cond c (option_or (made q) (get (with_row key (made key) rows) q)) (get (with_row key (made key) rows) q) ≡ cond (b || c) (option_or (made q) (get rows q)) (get rows q)
      by true same c at =
          let here : get (with_row key (made key) rows) q ≡ option_or (made q) (get rows q) =
          at ∙ ap (λ b. cond b (option_or (made key) (get rows q)) (get rows q)) same ∙ ap (λ k. option_or (made k) (get rows q)) (sym (tied_same q key same)) in
          ap (λ o. cond c (option_or (made q) o) o) here ∙ twice (made q) (get rows q) c
      by false other c at =
          ap (λ o. cond c (option_or (made q) o) o) (at ∙ ap (λ b. cond b (option_or (made key) (get rows q)) (get rows q)) other)

  -- the rows that are made of the keys, put one after another
  pub with_values-made : (ks : List LineKey) (rows : Database) → with_values (filter_map (keyed made) ks) rows ≡ with_made made ks rows
  with_values-made [] rows = refl
  with_values-made (key ∷ ks) rows = by (made key) (with_values-made ks)
    where
      by : (o : Option Row) → ((others : Database) → with_values (filter_map (keyed made) ks) others ≡ with_made made ks others)
          → with_values (cons_option (option_map (λ row. (key, row)) o) (filter_map (keyed made) ks)) rows ≡ with_made made ks (with_row key o rows)
      by None later = later rows
      by (Some row) later = later (insert rows key row)

  -- the map of what is made of the keys
  get-made : (ks : List LineKey) (q : LineKey) → get (from_entries {R = line_cmp} (filter_map (keyed made) ks)) q ≡ cond (is_among ks q) (made q) None
  get-made [] q = get-empty line_cmp q
  get-made (key ∷ ks) q = by (made key) refl (eq_by_cmp line_cmp q key) refl (is_among ks q) (get-made ks q)
    where
      rest : Database
      rest = from_entries (filter_map (keyed made) ks)

      none : (o : Option Row) (c : Bool) → o ≡ None → cond c o None ≡ o
      none o true is = refl
      none o false is = sym is

      by : (o : Option Row) → made key ≡ o → (b : Bool) → eq_by_cmp line_cmp q key ≡ b → (c : Bool) → get rest q ≡ cond c (made q) None
          → get (from_entries {R = line_cmp} (cons_option (option_map (λ row. (key, row)) o) (filter_map (keyed made) ks))) q ≡ cond (b || c) (made q) None
      by None is true same c at = at ∙ none (made q) c (ap made (tied_same q key same) ∙ is)
      by None is false other c at = at
      by (Some row) is true same c at =
          get-insert key_total rest key row q ∙ ap (λ b. cond b (Some row) (get rest q)) same ∙ sym (ap made (tied_same q key same) ∙ is)
      by (Some row) is false other c at = get-insert key_total rest key row q ∙ ap (λ b. cond b (Some row) (get rest q)) other ∙ at

  pub with_made-is : (ks : List LineKey) → with_made made ks empty ≡ from_entries (filter_map (keyed made) ks)
  with_made-is ks = same_map key_total key_exact _ _ (λ q. get-with_made ks empty q ∙ by q (made q) (is_among ks q) ∙ sym (get-made ks q))
    where
      by : (q : LineKey) (o : Option Row) (c : Bool) → cond c (option_or o (get (empty {X = Row} {R = line_cmp}) q)) (get (empty {X = Row} {R = line_cmp}) q) ≡ cond c o None
      by q (Some row) true = refl
      by q None true = get-empty line_cmp q
      by q (Some row) false = get-empty line_cmp q
      by q None false = get-empty line_cmp q

-- a key is among those of the rows if a row stands there
pub is_among-keys : (rows : Database) (q : LineKey) → list_any (eq_by_cmp line_cmp q) (keys rows) ≡ is_some (get rows q)
is_among-keys rows q = in_entries (entries rows) ∙ ap is_some (sym (get-entries rows q))
  where
    in_entries : (rs : List (LineKey × Row)) → list_any (eq_by_cmp line_cmp q) (map (λ r. r.0) rs) ≡ is_some (find line_cmp q rs)
    in_entries [] = refl
    in_entries (r ∷ rs) = by (eq_by_cmp line_cmp q r.0) (in_entries rs)
      where
        by : (b : Bool) → list_any (eq_by_cmp line_cmp q) (map (λ x. x.0) rs) ≡ is_some (find line_cmp q rs)
            → (b || list_any (eq_by_cmp line_cmp q) (map (λ x. x.0) rs)) ≡ is_some (cond b (Some r.1) (find line_cmp q rs))
        by true rest = refl
        by false rest = rest

-- ---- rows that are carried over

module _ (old new : Schema) (version : Uuid) (before : Database) where
  abbrev carried_here : LineKey → Option Row
  carried_here = carried_of old new version before

  kept-keyed : (r : LineKey × Row) → carried_if_kept old new version before r ≡ option_map (λ row. (r.0, row)) (carried_at old new version before r.0 r.1)
  kept-keyed r = by (get old.tables r.0.0) (get new.tables r.0.0)
    where
      by : (a b : Option Table) → option_and_then (λ from. option_map (λ to. carried_row from to version before r) b) a
          ≡ option_map (λ row. (r.0, row)) (option_map (λ (kept : LineKey × Row). kept.1) (option_and_then (λ from. option_map (λ to. carried_row from to version before r) b) a))
      by None b = refl
      by (Some from) None = refl
      by (Some from) (Some to) = refl

  kept_each : (rs : List (LineKey × Row)) → EachRow (λ key row. get before key ≡ Some row) rs → filter_map (keyed carried_here) (map (λ r. r.0) rs) ≡ filter_map (carried_if_kept old new version before) rs
  kept_each [] each = refl
  kept_each (r ∷ rs) each =
      (λ i. cons_option ((ap (λ o. option_map (λ row. (r.0, row)) (option_and_then (carried_at old new version before r.0) o)) each.0 ∙ sym (kept-keyed r)) i) (kept_each rs each.1 i))

  pub carried-made : with_made carried_here (keys before) empty ≡ carried old new version before
  carried-made = with_made-is carried_here (keys before) ∙ ap from_entries (kept_each (entries before) (each_row before))
