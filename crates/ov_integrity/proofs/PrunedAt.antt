-- Rows that lose their dangling references one after another: if every row that has some is among them, all are pruned.
use Rattle.std.proofs.Common.{◌≡◌, List, [], ◌∷◌, map, filter, Bool, true, false, cond, ◌&&◌, ◌||◌, not, is_some, Option, Some, None, option_map, refl, sym, ap, ◌∙◌}
use Rattle.std.specs.FinMap.{get, keys, entries, contains_key, from_entries, get-insert, same_map}
use Rattle.std.specs.List.{list_any}
use Rattle.std.specs.Ordering.{eq_by_cmp}
use Rattle.ov_specs.specs.integrity.Committed.{is_dangling, stays, pair_stays, pruned_datum, pruned_value, pruned_columns, dangles, pruned_row, pruned}
use Rattle.ov_specs.specs.integrity.References.{Target, target_of, row_targets}
use Rattle.ov_specs.specs.rows.Database.{Columns, Row, Database, same_key}
use Rattle.ov_specs.specs.rows.Lines.{LineKey, line_cmp}
use Rattle.ov_specs.specs.rows.Version.{row_now}
use Rattle.ov_specs.specs.schema.Fitting.{is_none_or}
use Rattle.ov_specs.specs.schema.Schema.{is_some_and}
use Rattle.ov_specs.specs.schema.SchemaTypes.{BaseType, ColumnType, Column, Table, Schema}
use Rattle.ov_specs.specs.values.Uuid.{Uuid}
use Rattle.ov_specs.specs.values.Value.{Atom, Datum, Atoms, Pairs, set_of, map_of}
use Rattle.ov_specs.proofs.laws.LineKeys.{key_total, key_exact, tied_same, same_key-tied}
use Rattle.ov_specs.proofs.laws.Pruning.{get-pruned, pruned_row-without, pruned_row_dangles_not}
use Rattle.ov_integrity.specs.Pruning.{with_pruned, pruned_at, pruned_at_all, MayDangle}
use Rattle.ov_support.proofs.Keys.{contradicts}

-- ---- what dangles depends on the keys alone

module _ (a b : Database) (same : (key : LineKey) → contains_key a key ≡ contains_key b key) where
  is_dangling-same : (target : Target) → is_dangling a target ≡ is_dangling b target
  is_dangling-same target = λ i. not target.is_strong && not (same target.key i)

  pub dangles-same : (schema : Schema) (r : LineKey × Row) → dangles schema a r ≡ dangles schema b r
  dangles-same schema r = λ i. list_any (λ target. is_dangling-same target i) (row_targets schema r)

  stays-same : (base : BaseType) (atom : Atom) → stays a base atom ≡ stays b base atom
  stays-same base atom = λ i. not (is_some_and (λ target. is_dangling-same target i) (target_of base.refers atom))

  pair_stays-same : (t : ColumnType) (p : Atom × Atom) → pair_stays a t p ≡ pair_stays b t p
  pair_stays-same t p = λ i. stays-same t.key p.0 i && is_none_or (λ base. stays-same base p.1 i) t.value

  pruned_datum-same : (t : ColumnType) (datum : Datum) → pruned_datum a t datum ≡ pruned_datum b t datum
  pruned_datum-same t (Atoms atoms) = λ i. Atoms (set_of (filter (λ atom. stays-same t.key atom i) (keys atoms)))
  pruned_datum-same t (Pairs pairs) = λ i. Pairs (map_of (filter (λ p. pair_stays-same t p i) (entries pairs)))

  pruned_value-same : (o : Option Column) (datum : Datum) → pruned_value a o datum ≡ pruned_value b o datum
  pruned_value-same None datum = refl
  pruned_value-same (Some column) datum = pruned_datum-same column.type_of datum

  pruned_columns-same : (o : Option Table) (columns : Columns) → pruned_columns a o columns ≡ pruned_columns b o columns
  pruned_columns-same None columns = refl
  pruned_columns-same (Some table) columns = λ i. from_entries (map (λ c. (c.0, pruned_value-same (get table.columns c.0) c.1 i)) (entries columns))

  pub pruned_row-same : (schema : Schema) (before : Database) (version : Uuid) (r : LineKey × Row) → pruned_row schema before version a r ≡ pruned_row schema before version b r
  pruned_row-same schema before version r =
      λ i. cond (dangles-same schema r i) (row_now before version r.0 (pruned_columns-same (get schema.tables r.0.0) r.1.columns i)) r.1

-- ---- one row

as_it_is : (o : Option Row) → o ≡ option_map (λ row. row) o
as_it_is None = refl
as_it_is (Some row) = refl

module _ (schema : Schema) (before : Database) (version : Uuid) where
  -- the row of the key is pruned, and each other one is as it was
  pub get-pruned_at : (key : LineKey) (rows : Database) (q : LineKey)
      → get (pruned_at schema before version key rows) q ≡ option_map (λ row. cond (same_key q key) (pruned_row schema before version rows (q, row)) row) (get rows q)
  get-pruned_at key rows q = by (get rows key) refl
    where
      made : LineKey → Row → Row
      made k row = pruned_row schema before version rows (k, row)

      same : (b : Bool) → same_key q key ≡ b → (b ≡ true → get rows q ≡ None) → get rows q ≡ option_map (λ row. cond b (made q row) row) (get rows q)
      same true is none = none refl ∙ sym (ap (option_map (λ row. made q row)) (none refl))
      same false is none = as_it_is (get rows q)

      put : (row : Row) → get rows key ≡ Some row → (b : Bool) → eq_by_cmp line_cmp q key ≡ b → cond b (Some (made key row)) (get rows q) ≡ option_map (λ old. cond b (made q old) old) (get rows q)
      put row at true tied =
          let here : q ≡ key = tied_same q key tied in
          ap (λ k. Some (made k row)) (sym here) ∙ sym (ap (option_map (λ old. made q old)) (ap (get rows) here ∙ at))
      put row at false tied = as_it_is (get rows q)

      by : (o : Option Row) → get rows key ≡ o → get (with_pruned schema before version key o rows) q ≡ option_map (λ row. cond (same_key q key) (made q row) row) (get rows q)
      by None none =
          same (same_key q key) refl (λ is. ap (get rows) (tied_same q key (sym (same_key-tied q key) ∙ is)) ∙ none)
      by (Some row) at =
          get-insert key_total rows key (made key row) q ∙ put row at (eq_by_cmp line_cmp q key) refl
          ∙ ap (λ b. option_map (λ old. cond b (made q old) old) (get rows q)) (sym (same_key-tied q key))

  -- the same rows are there
  pub contains_key-pruned_at : (key : LineKey) (rows : Database) (q : LineKey) → contains_key (pruned_at schema before version key rows) q ≡ contains_key rows q
  contains_key-pruned_at key rows q = ap is_some (get-pruned_at key rows q) ∙ by (get rows q)
    where
      by : (o : Option Row) → is_some (option_map (λ row. cond (same_key q key) (pruned_row schema before version rows (q, row)) row) o) ≡ is_some o
      by None = refl
      by (Some row) = refl

  pub contains_key-pruned_at_all : (keys : List LineKey) (rows : Database) (q : LineKey) → contains_key (pruned_at_all schema before version keys rows) q ≡ contains_key rows q
  contains_key-pruned_at_all [] rows q = refl
  contains_key-pruned_at_all (key ∷ keys) rows q =
      contains_key-pruned_at_all keys (pruned_at schema before version key rows) q ∙ contains_key-pruned_at key rows q

  -- ---- one row after another

  -- a row that is pruned twice is pruned once
  pruned_row-again : (rows : Database) (q : LineKey) (row : Row)
      → pruned_row schema before version rows (q, pruned_row schema before version rows (q, row)) ≡ pruned_row schema before version rows (q, row)
  pruned_row-again rows q row =
      pruned_row-without schema before version rows (q, pruned_row schema before version rows (q, row)) (pruned_row_dangles_not schema before version rows q row)

  -- the rows of the keys are pruned, and each other one is as it was
  pub get-pruned_at_all : (keys : List LineKey) (rows : Database) (q : LineKey)
      → get (pruned_at_all schema before version keys rows) q ≡ option_map (λ row. cond (list_any (same_key q) keys) (pruned_row schema before version rows (q, row)) row) (get rows q)
  get-pruned_at_all [] rows q = as_it_is (get rows q)
  get-pruned_at_all (key ∷ keys) rows q =
      get-pruned_at_all keys after q
      ∙ (λ i. option_map (λ row. cond (list_any (same_key q) keys) (pruned_row-same after rows (contains_key-pruned_at key rows) schema before version (q, row) i) row) (get-pruned_at key rows q i))
      ∙ by (get rows q)
    where
      after : Database
      after = pruned_at schema before version key rows

      made : Row → Row
      made row = pruned_row schema before version rows (q, row)

      in_turn : (here later : Bool) (row : Row) → cond later (made (cond here (made row) row)) (cond here (made row) row) ≡ cond (here || later) (made row) row
      in_turn true true row = pruned_row-again rows q row
      in_turn true false row = refl
      in_turn false later row = refl

      by : (o : Option Row) → option_map (λ row. cond (list_any (same_key q) keys) (made row) row) (option_map (λ row. cond (same_key q key) (made row) row) o)
          ≡ option_map (λ row. cond (same_key q key || list_any (same_key q) keys) (made row) row) o
      by None = refl
      by (Some row) = ap Some (in_turn (same_key q key) (list_any (same_key q) keys) row)

  -- if every row that has dangling references is one of these, all are pruned
  pub pruned_all_is : (keys : List LineKey) (rows : Database) → MayDangle schema rows keys → pruned_at_all schema before version keys rows ≡ pruned schema before version rows
  pruned_all_is keys rows may =
      same_map key_total key_exact (pruned_at_all schema before version keys rows) (pruned schema before version rows)
      (λ q. get-pruned_at_all keys rows q ∙ by q (get rows q) refl ∙ sym (get-pruned schema before version rows q))
    where
      made : LineKey → Row → Row
      made q row = pruned_row schema before version rows (q, row)

      others : (q : LineKey) (row : Row) → get rows q ≡ Some row → list_any (same_key q) keys ≡ false → (b : Bool) → dangles schema rows (q, row) ≡ b → row ≡ made q row
      others q row at none true is = absurd (contradicts (list_any (same_key q) keys) (may q row at is) none)
      others q row at none false is = sym (pruned_row-without schema before version rows (q, row) is)

      at_key : (q : LineKey) (row : Row) → get rows q ≡ Some row → (b : Bool) → list_any (same_key q) keys ≡ b → cond b (made q row) row ≡ made q row
      at_key q row at true any = refl
      at_key q row at false none = others q row at none (dangles schema rows (q, row)) refl

      by : (q : LineKey) (o : Option Row) → get rows q ≡ o → option_map (λ row. cond (list_any (same_key q) keys) (made q row) row) o ≡ option_map (λ row. made q row) o
      by q None at = refl
      by q (Some row) at = ap Some (at_key q row at (list_any (same_key q) keys) refl)
