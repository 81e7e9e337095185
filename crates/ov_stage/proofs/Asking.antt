-- What conditions ask for in the columns of an index, and the rows found there.
use Rattle.std.proofs.Common.{◌≡◌, ℕ, ◌+◌, ◌<◌, List, [], ◌∷◌, ◌++◌, T, Option, Some, None, true, is_some, length, get_or, take, map, refl, sym, ap, subst, ◌∙◌}
use Rattle.std.specs.Prelude.{slice_get, option_map, unwrap_or}
use Rattle.std.proofs.lemmas.List.{nil_from_length, take_more}
use Rattle.std.proofs.lemmas.List.Elements.{filter_map-append}
use Rattle.std.proofs.lemmas.Option.{same_Some, slice_get-get_or, slice_get-map}
use Rattle.std.specs.Cmp.{eq_by_cmp_equiv}
use Rattle.std.specs.FinMap.{get, contains_key, contains_key-keys, empty, entries, entries_sorted, get-empty, is_sorted, keys, len-empty, len-entries}
use Rattle.std.specs.List.{cons_option}
use Rattle.ov_index.specs.IndexKeys.{IndexKey, index_key, key_at, same_index_key, values_in}
use Rattle.ov_index.specs.Indexing.{AreIndexesOf, Ascend, IdSet, Indexes, ids_at, is_indexed, is_at}
use Rattle.ov_index.specs.KeyOrder.{index_total}
use Rattle.ov_rows.specs.Nested.{id_cmp}
use Rattle.ov_specs.specs.operations.Conditions.{Condition}
use Rattle.ov_specs.specs.rows.Database.{Columns, Database}
use Rattle.ov_specs.specs.schema.Schema.{is_some_and}
use Rattle.ov_specs.specs.schema.SchemaTypes.{Table, Schema}
use Rattle.ov_specs.specs.values.Uuid.{Uuid}
use Rattle.ov_specs.specs.values.Value.{Datum, marked}
use Rattle.ov_stage.specs.Asked.{AreIdsOf, AreValuesAt, AreValuesOf, IsValueOf, has_id}

-- ---- the values of an index

-- one more column
pub values-asked : (conditions : List Condition) (index : List (List ℕ)) (i : ℕ) (column : List ℕ) (values more : List Datum) (value copy : Datum) → i < length index → column ≡ get_or index i column
    → more ≡ values ++ copy ∷ [] → copy ≡ value → IsValueOf conditions column value → AreValuesOf conditions (take i index) values → AreValuesOf conditions (take (i + 1) index) more
values-asked conditions index i column values more value copy within at pushed same one all row met =
    ap (λ names. values_in names row.1.columns) (take_more index i column within ∙ ap (λ name. take i index ++ name ∷ []) (sym at))
    ∙ filter_map-append (get row.1.columns) (take i index) (column ∷ [])
    ∙ (λ i. all row met i ++ cons_option (one row met i) []) ∙ ap (λ v. values ++ v ∷ []) (sym same) ∙ sym pushed

-- ---- the index

-- the values of an item are those at its number
pub index-asked : {A : Type 0} (conditions : List Condition) (table : Table) (seen : A → List (List ℕ)) (items : List A) (number : ℕ) (item : A) (values : List Datum)
    → map seen items ≡ table.indexes → number < length items → item ≡ get_or items number item → AreValuesOf conditions (seen item) values → AreValuesAt conditions table number values
index-asked conditions table seen items number item values are within at all row met =
    ap (option_map (λ index. values_in index row.1.columns))
    (ap (λ is. slice_get is number) (sym are) ∙ slice_get-map seen items number ∙ ap (option_map seen) (slice_get-get_or items number item within ∙ ap Some (sym at)))
    ∙ ap Some (all row met)

-- ---- the rows at the key

marked-keys : (es : List (Uuid × Unit {0})) → map marked (map (λ e. e.0) es) ≡ es
marked-keys [] = refl
marked-keys ((id, tt) ∷ es) = ap (λ rest. (id, tt) ∷ rest) (marked-keys es)

pub ids-ascend : (set : IdSet) → Ascend (keys set)
ids-ascend set = subst (λ es. T (is_sorted id_cmp es)) (sym (marked-keys (entries set))) (entries_sorted set)

pub no-ids : keys (empty {X = Unit {0}} {R = id_cmp}) ≡ []
no-ids =
    let none : IdSet = empty in
    ap (map (λ e. e.0)) (nil_from_length (entries none) (sym (len-entries none) ∙ len-empty id_cmp (Unit {0})))

kept : (indexes : Indexes) (key : IndexKey) (id : Uuid) → has_id (keys (ids_at indexes key)) id ≡ is_indexed indexes key id
kept indexes key id =
    sym (contains_key-keys (ids_at indexes key) id)
    ∙ (elim (get indexes key) as (λ o. contains_key (unwrap_or o empty) id ≡ is_some_and (λ ids. contains_key ids id) o) [
      | None ↦ ap is_some (get-empty id_cmp id)
      | Some ids ↦ refl
    ])

-- a row with these values in the index is at their key
at_values : (columns : Columns) (name : List ℕ) (number : ℕ) (values : List Datum) (o : Option (List (List ℕ))) → option_map (λ index. values_in index columns) o ≡ Some values
    → is_some_and (λ index. same_index_key (key_at name number index columns) (index_key name number values)) o ≡ true
at_values columns name number values None same = cc
at_values columns name number values (Some index) same =
    ap (λ vs. same_index_key (index_key name number vs) (index_key name number values)) (same_Some (values_in index columns) values same)
    ∙ (eq_by_cmp_equiv index_total).refl (index_key name number values)

-- every row that meets all conditions is kept at the values that they ask for
pub ids-asked : (conditions : List Condition) (schema : Schema) (rows : Database) (indexes : Indexes) (name : List ℕ) (table : Table) (number : ℕ) (values : List Datum) → AreIndexesOf schema rows indexes → Some table ≡ get schema.tables name
    → AreValuesAt conditions table number values → AreIdsOf conditions rows name (keys (ids_at indexes (index_key name number values)))
ids-asked conditions schema rows indexes name table number values are is asked id row found met =
    let key = index_key name number values in
    kept indexes key id ∙ are key id
    ∙ ap (is_some_and (λ r. is_at schema ((name, id), r) key)) found
    ∙ ap (is_some_and (λ t. is_some_and (λ index. same_index_key (key_at name number index row.columns) key) (slice_get t.indexes number))) (sym is)
    ∙ at_values row.columns name number values (slice_get table.indexes number) (asked ((name, id), row) met)
