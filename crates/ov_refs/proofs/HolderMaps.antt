-- The holders of rows in the code as those of the definitions: those of the rows of one table, and those of all tables.
use Rattle.std.proofs.Common.{◌≡◌, ◌==◌, ℕ, List, [], Bool, true, false, cond, T, Option, Some, None, refl, sym, ap, ◌∙◌}
use Rattle.std.specs.Prelude.{option_and_then, unwrap_or}
use Rattle.std.specs.BTreeMap.{is_at, insert_entry}
use Rattle.std.specs.Cmp.{eq_by_cmp_equiv}
use Rattle.std.specs.FinMap.{is_sorted, empty, get, insert, remove, len, get-empty, get-insert, get-remove, same_map}
use Rattle.std.specs.Map.{lookup}
use Rattle.std.specs.Ordering.{eq_by_cmp}
use Rattle.ov_specs.specs.rows.Lines.{LineKey}
use Rattle.ov_specs.specs.schema.Schema.{is_some_and}
use Rattle.ov_specs.specs.schema.SchemaTypes.{name_cmp}
use Rattle.ov_specs.specs.values.Uuid.{Uuid}
use Rattle.ov_specs.proofs.laws.Names.{name_cmp_total, name_exact, same_name-is}
use Rattle.ov_rows.specs.Named.{named}
use Rattle.ov_rows.specs.Nested.{id_cmp}
use Rattle.ov_rows.specs.Resident.{nested_of, table_rows_of}
use Rattle.ov_rows.proofs.Maps.{get-lookup, from_sorted-insert, from_sorted-nil}
use Rattle.ov_rows.proofs.Nested.{Tables, PutsTable, table_at, get-nested_of, row-put, row-first, row-out, nested_of-insert, nested_of-remove, nested_of-same}
use Rattle.ov_refs.specs.Holding.{KeySet, TableHolders, with_holder, fewer, with_fewer, without_in_set, without_holder}

-- ---- the rows of one table

abbrev pub Entries : Type 0
Entries = List (Uuid × KeySet)

-- those of this row
abbrev pub set_at : Uuid → Entries → Option KeySet
set_at to es = lookup (is_at (id_cmp to)) es

-- those of this row are others, and those of no other row are
abbrev pub PutsSet : Entries → Entries → Uuid → KeySet → Type 0
PutsSet es es' to set = (q : Uuid) → set_at q es' ≡ cond (is_at (id_cmp to) q) (Some set) (set_at q es)

pub table_rows_of-nil : table_rows_of {V = KeySet} [] ≡ empty
table_rows_of-nil = from_sorted-nil id_cmp

pub get-table_rows_of : (es : Entries) (to : Uuid) → T (is_sorted id_cmp es) → get (table_rows_of es) to ≡ set_at to es
get-table_rows_of es to h = get-lookup id_cmp es to h

module _ (es es' : Entries) (to : Uuid) (from : LineKey) (h : T (is_sorted id_cmp es)) (h' : T (is_sorted id_cmp es')) where
  table_rows_of-put : (set : KeySet) → PutsSet es es' to set → table_rows_of es' ≡ insert (table_rows_of es) to set
  table_rows_of-put set puts = same_map name_cmp_total name_exact _ _ (λ q.
      get-table_rows_of es' q h' ∙ puts q ∙ ap (λ b. cond b (Some set) (set_at q es)) ((eq_by_cmp_equiv name_cmp_total).symm to q)
      ∙ sym (get-insert name_cmp_total (table_rows_of es) to set q ∙ ap (cond (eq_by_cmp id_cmp q to) (Some set)) (get-table_rows_of es q h)))

  -- one more among those of a row
  pub with-more : (old new : KeySet) → PutsSet es es' to new → Some old ≡ set_at to es → new ≡ insert old from tt → table_rows_of es' ≡ with_holder to from (table_rows_of es)
  with-more old new puts is put =
      table_rows_of-put new puts ∙ ap (insert (table_rows_of es) to) (put ∙ ap (λ o. insert (unwrap_or o empty) from tt) (is ∙ sym (get-table_rows_of es to h)))

  -- the first of a row
  pub with-first : (new : KeySet) → es' ≡ insert_entry id_cmp es to new → None ≡ set_at to es → new ≡ insert empty from tt → table_rows_of es' ≡ with_holder to from (table_rows_of es)
  with-first new puts is put =
      from_sorted-insert id_cmp name_cmp_total es es' to new h h' puts
      ∙ ap (insert (table_rows_of es) to) (put ∙ ap (λ (o : Option KeySet). insert (unwrap_or o empty) from tt) (is ∙ sym (get-table_rows_of es to h)))

  -- one fewer
  pub with-fewer : (old new : KeySet) → PutsSet es es' to new → Some old ≡ set_at to es → new ≡ remove old from → table_rows_of es' ≡ with_fewer to from (table_rows_of es)
  with-fewer old new puts is out =
      table_rows_of-put new puts ∙ ap (insert (table_rows_of es) to) out ∙ ap (λ o. fewer o to from (table_rows_of es)) (is ∙ sym (get-table_rows_of es to h))

  -- those of a row that are put back as they were
  pub put-back : (old new : KeySet) → PutsSet es es' to new → Some old ≡ set_at to es → new ≡ old → table_rows_of es' ≡ table_rows_of es
  put-back old new puts is same = same_map name_cmp_total name_exact _ _ (λ q. get-table_rows_of es' q h' ∙ puts q ∙ by q (is_at (id_cmp to) q) refl ∙ sym (get-table_rows_of es q h))
    where
      by : (q : Uuid) (b : Bool) → is_at (id_cmp to) q ≡ b → cond (is_at (id_cmp to) q) (Some new) (set_at q es) ≡ set_at q es
      by q false e = rw e refl
      by q true e = rw e (ap (λ set. Some set) same ∙ is ∙ ap (λ k. set_at k es) (same_name-is to q e))

-- there is nothing to take out if no row refers to the row
pub fewer-none : (es : Entries) (to : Uuid) (from : LineKey) → T (is_sorted id_cmp es) → None ≡ set_at to es → table_rows_of es ≡ with_fewer to from (table_rows_of es)
fewer-none es to from h none = ap (λ o. fewer o to from (table_rows_of es)) (none ∙ sym (get-table_rows_of es to h))

-- ---- the last one of a row

-- no row is left that refers to the row
abbrev pub is_left_alone : LineKey → Option KeySet → Bool
is_left_alone from o = is_some_and (λ set. len (remove set from) == 0) o

-- what is put at a key goes when the key goes
remove-insert : (holders : TableHolders) (to : Uuid) (set : KeySet) → remove (insert holders to set) to ≡ remove holders to
remove-insert holders to set = same_map name_cmp_total name_exact _ _ (λ q.
    get-remove name_cmp_total (insert holders to set) to q ∙ ap (cond (eq_by_cmp id_cmp q to) None) (get-insert name_cmp_total holders to set q)
    ∙ by (eq_by_cmp id_cmp q to) (get holders q) ∙ sym (get-remove name_cmp_total holders to q))
  where
    by : (b : Bool) (o : Option KeySet) → cond b None (cond b (Some set) o) ≡ cond b None o
    by true o = refl
    by false o = refl

module _ (to : Uuid) (from : LineKey) (holders : TableHolders) where
  -- the row is not listed
  pub without-last : is_left_alone from (get holders to) ≡ true → remove (with_fewer to from holders) to ≡ without_holder to from holders
  without-last = by (get holders to)
    where
      by : (o : Option KeySet) → is_left_alone from o ≡ true → remove (fewer o to from holders) to ≡ without_in_set o to from holders
      by None last = cc
      by (Some set) last = remove-insert holders to (remove set from) ∙ ap (λ b. cond b (remove holders to) (insert holders to (remove set from))) (sym last)

  -- others are left, or none was there
  pub without-others : is_left_alone from (get holders to) ≡ false → with_fewer to from holders ≡ without_holder to from holders
  without-others = by (get holders to)
    where
      by : (o : Option KeySet) → is_left_alone from o ≡ false → fewer o to from holders ≡ without_in_set o to from holders
      by None last = refl
      by (Some set) last = ap (λ b. cond b (remove holders to) (insert holders to (remove set from))) (sym last)

-- ---- the rows of all tables

module _ (ts : Tables KeySet) (name : List ℕ) (id : Uuid) (from : LineKey) (h : T (is_sorted name_cmp (named ts))) where
  -- those of a row are those in its table
  in_its_table : (o : Option TableHolders) → o ≡ table_at name ts → option_and_then (λ t. get t id) o ≡ get (nested_of ts) (name, id)
  in_its_table o is = ap (option_and_then (λ (t : TableHolders). get t id)) is ∙ sym (get-nested_of ts (name, id) h)

  module _ (ts' : Tables KeySet) (h' : T (is_sorted name_cmp (named ts'))) (new : TableHolders) (puts : PutsTable ts ts' name new) where
    -- one more among those of a row, in a table that is there or in a new one
    pub nested-more : (old : TableHolders) → Some old ≡ table_at name ts → new ≡ with_holder id from old → nested_of ts' ≡ with_holder (name, id) from (nested_of ts)
    nested-more old is put =
        nested_of-insert ts ts' name id new h h' puts (insert (unwrap_or (get old id) empty) from tt) (row-put _ old new id _ is put)
        ∙ ap (λ (o : Option KeySet). insert (nested_of ts) (name, id) (insert (unwrap_or o empty) from tt)) (in_its_table (Some old) is)

    pub nested-first : None ≡ table_at name ts → new ≡ with_holder id from empty → nested_of ts' ≡ with_holder (name, id) from (nested_of ts)
    nested-first is put =
        nested_of-insert ts ts' name id new h h' puts (insert (unwrap_or (get empty id) empty) from tt) (row-first _ new id _ is put)
        ∙ ap (λ (o : Option KeySet). insert (nested_of ts) (name, id) (insert (unwrap_or o empty) from tt)) (get-empty id_cmp id ∙ in_its_table None is)

    -- one fewer
    pub nested-fewer : (old : TableHolders) → Some old ≡ table_at name ts → new ≡ without_holder id from old → nested_of ts' ≡ without_holder (name, id) from (nested_of ts)
    nested-fewer old is out = by (get old id) out ∙ ap (λ o. without_in_set o (name, id) from (nested_of ts)) (in_its_table (Some old) is)
      where
        by : (o : Option KeySet) → new ≡ without_in_set o id from old → nested_of ts' ≡ without_in_set o (name, id) from (nested_of ts)
        by None gone = nested_of-same ts ts' name old new h h' puts is gone
        by (Some set) gone = few (len (remove set from) == 0) gone
          where
            few : (b : Bool) → new ≡ cond b (remove old id) (insert old id (remove set from)) → nested_of ts' ≡ cond b (remove (nested_of ts) (name, id)) (insert (nested_of ts) (name, id) (remove set from))
            few true gone = nested_of-remove ts ts' name id new h h' puts (row-out _ old new id is gone)
            few false gone = nested_of-insert ts ts' name id new h h' puts (remove set from) (row-put _ old new id _ is gone)

  -- there is nothing to take out if there is no such table
  pub nested-none : None ≡ table_at name ts → nested_of ts ≡ without_holder (name, id) from (nested_of ts)
  nested-none is = ap (λ o. without_in_set o (name, id) from (nested_of ts)) (in_its_table None is)
