-- The rows that an operation is about are rows of the schema, and rows stay so when some are put and others removed.
use Rattle.std.proofs.Common.{◌≡◌, ℕ, zero, suc, List, [], ◌∷◌, drop, filter, map, zip, Bool, true, false, cond, T, Option, Some, None, refl, sym, ap, subst, ◌∙◌}
use Rattle.std.specs.Prelude.{option_map, unwrap_or, codes}
use Rattle.std.specs.List.{list_all}
use Rattle.std.specs.Str.{bytes_eq}
use Rattle.std.specs.Ordering.{eq_by_cmp}
use Rattle.std.specs.FinMap.{get, remove, keys, entries, find, is_sorted, entries_sorted, get-entries, get-remove}
use Rattle.std.specs.FinMap.Entries.{below_all}
use Rattle.std.proofs.lemmas.Bool.{and_parts, and_from}
use Rattle.std.proofs.lemmas.Option.{same_Some}
use Rattle.std.proofs.lemmas.Slice.Eq.{bytes_eq-Decides}
use Rattle.serde_json.specs.Data.{Data, Items}
use Rattle.serde_json.specs.Find as find
use Rattle.serde_json.specs.Find.{as_str}
use Rattle.uuid.specs.Text.{parsed_hyphenated}
use Rattle.ov_specs.specs.operations.Conditions.{Condition}
use Rattle.ov_specs.specs.operations.Draws.{is_insert}
use Rattle.ov_specs.specs.operations.InsertedIds.{id_read, chosen_id, inserted_ids}
use Rattle.ov_specs.specs.operations.MatchingRows.{put_rows, without_rows, matching, is_matching}
use Rattle.ov_specs.specs.operations.NamedUuids.{place_declared, id_at, uuids_named, inserts_before}
use Rattle.ov_specs.specs.operations.OpOutcome.{OpContext}
use Rattle.ov_specs.specs.rows.Database.{Columns, Row, Database}
use Rattle.ov_specs.specs.rows.Lines.{LineKey, line_cmp}
use Rattle.ov_specs.specs.rows.Suits.{SuitsTable, SuitsRow, Suits}
use Rattle.ov_specs.specs.rows.Version.{row_now}
use Rattle.ov_specs.specs.schema.SchemaTypes.{Table, Schema}
use Rattle.ov_specs.specs.values.Uuid.{Uuid, is_uuid, uuid_at, no_names, AreUuids}
use Rattle.ov_specs.specs.wire.Tree.{item_list}
use Rattle.ov_specs.proofs.laws.LineKeys.{key_total, tied_same, same_tied}
use Rattle.ov_specs.proofs.laws.OfKinds.{Passes, passes-then, passes-or, passes-from, uuid_is_uuid}
use Rattle.ov_specs.proofs.laws.Suiting.{one_row_suits, version_suits}
use Rattle.ov_specs.proofs.laws.SuitingColumns.{no_uuids}
use Rattle.ov_specs.proofs.laws.Truths.{left_holds, right_holds, not_tied}
use Rattle.ov_specs.proofs.laws.Uuids.{hyphenated_is_uuid}

-- ---- the inserts of a transaction have identifiers

id_is_uuid : (d : Data) → Passes is_uuid (id_read d)
id_is_uuid d =
    passes-or is_uuid _ _
    (passes-then is_uuid parsed_hyphenated (λ text. passes-from is_uuid (parsed_hyphenated text) (hyphenated_is_uuid text)) (as_str d))
    (uuid_is_uuid no_names no_uuids d)

chosen_is_uuid : (d : Data) → Passes is_uuid (chosen_id d)
chosen_is_uuid d = passes-then is_uuid id_read id_is_uuid (find.get (codes "uuid") d)

chosen_or_drawn : (chosen : Option Uuid) (draw : Uuid) → Passes is_uuid chosen → is_uuid draw ≡ true → is_uuid (unwrap_or chosen draw) ≡ true
chosen_or_drawn None draw passes is = is
chosen_or_drawn (Some id) draw passes is = passes

chosen_are : (inserts : List Data) (draws : List Uuid) → list_all is_uuid draws ≡ true → list_all is_uuid (map (λ p. unwrap_or (chosen_id p.0) p.1) (zip inserts draws)) ≡ true
chosen_are [] draws are = refl
chosen_are (d ∷ inserts) [] are = refl
chosen_are (d ∷ inserts) (draw ∷ draws) are =
    let parts = and_parts (is_uuid draw) (list_all is_uuid draws) are in
    and_from (is_uuid (unwrap_or (chosen_id d) draw)) (list_all is_uuid (map (λ p. unwrap_or (chosen_id p.0) p.1) (zip inserts draws)))
    (chosen_or_drawn (chosen_id d) draw (chosen_is_uuid d) parts.0) (chosen_are inserts draws parts.1)

pub inserted_are : (draws : List Uuid) (operations : Items) → list_all is_uuid draws ≡ true → list_all is_uuid (inserted_ids draws operations) ≡ true
inserted_are draws operations = chosen_are (filter is_insert (item_list operations)) draws

-- those after the first draw
pub others_are : (draws : List Uuid) → list_all is_uuid draws ≡ true → list_all is_uuid (drop 1 draws) ≡ true
others_are [] are = refl
others_are (draw ∷ draws) are = (and_parts (is_uuid draw) (list_all is_uuid draws) are).1

-- ---- the names of a transaction stand for identifiers

pub at_is_uuid : (ids : List Uuid) (place : ℕ) → list_all is_uuid ids ≡ true → is_uuid (uuid_at ids place) ≡ true
at_is_uuid [] place are = refl
at_is_uuid (id ∷ ids) zero are = (and_parts (is_uuid id) (list_all is_uuid ids) are).0
at_is_uuid (id ∷ ids) (suc place) are = at_is_uuid ids place (and_parts (is_uuid id) (list_all is_uuid ids) are).1

pub names_are : (ids : List Uuid) (operations : Items) → list_all is_uuid ids ≡ true → AreUuids (uuids_named ids operations)
names_are ids operations are name id h = by (place_declared name operations) h
  where
    by : (o : Option ℕ) → option_map (id_at ids operations) o ≡ Some id → is_uuid id ≡ true
    by None e = cc
    by (Some place) e = subst (λ x. is_uuid x ≡ true) (same_Some (id_at ids operations place) id e) (at_is_uuid ids (inserts_before place operations) are)

-- ---- each row stands at its key

abbrev pub EachRow : (LineKey → Row → Type 0) → List (LineKey × Row) → Type 0
EachRow P [] = Unit {0}
EachRow P (r ∷ rs) = P r.0 r.1 × EachRow P rs

-- a key that is below all is none of them
pub find-below : (key : LineKey) (rs : List (LineKey × Row)) → T (below_all line_cmp key rs) → find line_cmp key rs ≡ None
find-below key [] h = refl
find-below key (r ∷ rs) h =
    ap (λ b. cond b (Some r.1) (find line_cmp key rs)) (not_tied (line_cmp key r.0) (left_holds _ _ h)) ∙ find-below key rs (right_holds _ _ h)

pub find-later : (r : LineKey × Row) (rs : List (LineKey × Row)) (key : LineKey) (row : Row) → T (is_sorted line_cmp (r ∷ rs)) → find line_cmp key rs ≡ Some row → find line_cmp key (r ∷ rs) ≡ Some row
find-later r rs key row h found = by (eq_by_cmp line_cmp key r.0) refl
  where
    no : find line_cmp r.0 rs ≡ None → find line_cmp r.0 rs ≡ Some row → ⊥
    no n s = cc

    by : (b : Bool) → eq_by_cmp line_cmp key r.0 ≡ b → cond b (Some r.1) (find line_cmp key rs) ≡ Some row
    by false is = found
    by true is = absurd (no (find-below r.0 rs (left_holds _ _ h)) (sym (ap (λ k. find line_cmp k rs) (tied_same key r.0 is)) ∙ found))

pub each_found : (P : LineKey → Row → Type 0) (rs : List (LineKey × Row)) → T (is_sorted line_cmp rs) → ((key : LineKey) (row : Row) → find line_cmp key rs ≡ Some row → P key row) → EachRow P rs
each_found P [] h all = tt
each_found P (r ∷ rs) h all = (
  all r.0 r.1 (ap (λ b. cond b (Some r.1) (find line_cmp r.0 rs)) (same_tied r.0 r.0 refl)),
  each_found P rs (right_holds _ _ h) (λ key row found. all key row (find-later r rs key row h found)),
)

-- ---- the rows that match

-- a row of the table, with an identifier, and of columns that suit it
pub record IsFound (schema : Schema) (table : Table) (key : LineKey) (columns : Columns) : Type 0 where
  pub named : get schema.tables key.0 ≡ Some table
  pub id : is_uuid key.1 ≡ true
  pub suits : SuitsTable table columns

abbrev pub AreFound : Schema → Table → List (LineKey × Row) → Type 0
AreFound schema table = EachRow (λ key row. IsFound schema table key row.columns)

pub filtered : {P Q : LineKey → Row → Type 0} (test : LineKey × Row → Bool) (rs : List (LineKey × Row)) → ((key : LineKey) (row : Row) → P key row → test (key, row) ≡ true → Q key row) → EachRow P rs → EachRow Q (filter test rs)
filtered test [] next all = tt
filtered {P = P} {Q = Q} test (r ∷ rs) next all = by (test r) refl (filtered {P = P} {Q = Q} test rs next all.1)
  where
    by : (b : Bool) → test r ≡ b → EachRow Q (filter test rs) → EachRow Q (cond b (r ∷ filter test rs) (filter test rs))
    by true is others = (next r.0 r.1 all.0 is, others)
    by false is others = others

pub found_is : (schema : Schema) (name : List ℕ) (table : Table) (key : LineKey) (row : Row) → get schema.tables name ≡ Some table → SuitsRow schema key row → bytes_eq key.0 name ≡ true → IsFound schema table key row.columns
found_is schema name table key row named suits at =
    let here : key.0 ≡ name = (bytes_eq-Decides key.0 name).0 at in
    let is : get schema.tables key.0 ≡ Some table = ap (λ n. get schema.tables n) here ∙ named in
    let same : suits.table ≡ table = same_Some suits.table table (sym suits.named ∙ is) in
    record { named = is; id = suits.id; suits = subst (λ t. SuitsTable t row.columns) same suits.columns }

pub matching_are : (schema : Schema) (rows : Database) (name : List ℕ) (table : Table) (conditions : List Condition) → get schema.tables name ≡ Some table → Suits schema rows → AreFound schema table (matching rows name conditions)
matching_are schema rows name table conditions named suits =
    filtered {P = λ key row. SuitsRow schema key row} (is_matching name conditions) (entries rows)
    (λ key row is met. found_is schema name table key row named is (and_parts (bytes_eq key.0 name) _ met).0)
    (each_found (λ key row. SuitsRow schema key row) (entries rows) (entries_sorted rows) (λ key row found. suits key row (get-entries rows key ∙ found)))

-- ---- rows that are put and removed

abbrev pub AreMade : Schema → Table → List (LineKey × Columns) → Type 0
AreMade schema table [] = Unit {0}
AreMade schema table (r ∷ rs) = IsFound schema table r.0 r.1 × AreMade schema table rs

pub row_suits : (schema : Schema) (before : Database) (version : Uuid) (table : Table) (key : LineKey) (columns : Columns) → Suits schema before → is_uuid version ≡ true → IsFound schema table key columns
    → SuitsRow schema key (row_now before version key columns)
row_suits schema before version table key columns all is_version made = record {
  table = table;
  named = made.named;
  id = made.id;
  version = version_suits (get before key) version columns is_version (λ row is. (all key row is).version);
  columns = made.suits;
}

pub put_suits : (c : OpContext) (table : Table) (changed : List (LineKey × Columns)) (rows : Database) → Suits c.schema c.before → is_uuid c.version ≡ true → AreMade c.schema table changed → Suits c.schema rows
    → Suits c.schema (put_rows c changed rows)
put_suits c table [] rows all is_version made suits = suits
put_suits c table (r ∷ changed) rows all is_version made suits =
    put_suits c table changed _ all is_version made.1
    (one_row_suits c.schema rows r.0 (row_now c.before c.version r.0 r.1) (row_suits c.schema c.before c.version table r.0 r.1 all is_version made.0) suits)

pub one_row_less : (schema : Schema) (rows : Database) (key : LineKey) → Suits schema rows → Suits schema (remove rows key)
one_row_less schema rows key suits q row h = by (eq_by_cmp line_cmp q key) (sym (get-remove key_total rows key q) ∙ h)
  where
    by : (b : Bool) → cond b None (get rows q) ≡ Some row → SuitsRow schema q row
    by true e = cc
    by false e = suits q row e

pub without_suits : (schema : Schema) (keys : List LineKey) (rows : Database) → Suits schema rows → Suits schema (without_rows keys rows)
without_suits schema [] rows suits = suits
without_suits schema (key ∷ keys) rows suits = without_suits schema keys (remove rows key) (one_row_less schema rows key suits)
