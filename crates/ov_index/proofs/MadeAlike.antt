-- Rows that are alike are found by keys with two rows: in all indexes, or in those of the changed rows together with those
-- before.
use Rattle.std.proofs.Common.{◌≡◌, ◌==◌, List, [], ◌∷◌, Bool, true, false, cond, T, ◌||◌, not, Option, Some, None, is_some, nat_lt, refl, sym, ap, ◌∙◌}
use Rattle.std.specs.Prelude.{unwrap_or}
use Rattle.std.proofs.lemmas.Bool.{or_left, or_right, not_from_false}
use Rattle.std.proofs.lemmas.Option.{same_Some}
use Rattle.std.proofs.lemmas.Slice.Eq.{bytes_eq-Decides}
use Rattle.std.specs.Cmp.{eq_by_cmp_equiv}
use Rattle.std.specs.FinMap.{is_sorted, empty, get, contains_key, entries, len, insert, from_sorted, get-from_sorted, get-insert, get-empty, empty_of_len}
use Rattle.std.specs.List.{list_any}
use Rattle.std.specs.Ordering.{eq_by_cmp}
use Rattle.std.specs.Str.{bytes_eq}
use Rattle.ov_specs.specs.rows.Changed.{IsAfter}
use Rattle.ov_rows.specs.Nested.{id_cmp}
use Rattle.ov_specs.specs.rows.Database.{Row, Database}
use Rattle.ov_specs.specs.rows.Lines.{LineKey, line_cmp}
use Rattle.ov_specs.specs.rows.Suits.{Suits}
use Rattle.ov_specs.specs.schema.Schema.{is_some_and}
use Rattle.ov_specs.specs.schema.SchemaTypes.{Schema}
use Rattle.ov_specs.specs.values.Uuid.{Uuid}
use Rattle.ov_specs.proofs.laws.Names.{name_cmp_total}
use Rattle.ov_specs.proofs.laws.Truths.{zero_is}
use Rattle.ov_index.specs.Changing.{are_any_alike, TellsAlike}
use Rattle.ov_index.specs.Collecting.{has_entry, entries_of_row, with_entry, with_entries, with_changes, has_two, has_unchanged, is_shared}
use Rattle.ov_index.specs.IndexKeys.{IndexKey, IndexEntry, index_cmp}
use Rattle.ov_index.specs.Indexing.{IdSet, Indexes, ids_at, is_indexed, is_at, is_in, has_no_rows, AreIndexesOf}
use Rattle.ov_index.specs.KeyOrder.{index_total, index_exact}
use Rattle.ov_index.proofs.Duplicates.{RowAt, IsShared, alike_shared, shared_alike}
use Rattle.ov_index.proofs.Kept.{or_false, or_three, indexed-with_entries, none_indexed}
use Rattle.ov_index.proofs.MapEntries.{contradicts, same_truth, some_and_is, any_entry_is, entry_is_any}
use Rattle.ov_index.proofs.Placed.{Changes, makes, made_is}
use Rattle.ov_index.proofs.RowEntries.{is_row}
use Rattle.ov_index.proofs.TwoIds.{two_ids, are_two, one_id, any_id_is, id_is_any}

-- ---- rows that are kept at a key

row_at : (schema : Schema) (rows : Database) (key : IndexKey) (id : Uuid) → is_in schema rows key id ≡ true → RowAt schema rows key id
row_at schema rows key id is = some_and_is (λ (row : Row). is_at schema ((key.table, id), row) key) (get rows (key.table, id)) is

at_row : (schema : Schema) (rows : Database) (key : IndexKey) (id : Uuid) → RowAt schema rows key id → is_in schema rows key id ≡ true
at_row schema rows key id (row, has, is) = ap (is_some_and (λ (r : Row). is_at schema ((key.table, id), r) key)) has ∙ is

module _ (indexes : Indexes) (key : IndexKey) (id : Uuid) where
  kept_in : (ids : IdSet) → get indexes key ≡ Some ids → contains_key ids id ≡ true → is_indexed indexes key id ≡ true
  kept_in ids at there = ap (is_some_and (λ (set : IdSet). contains_key set id)) at ∙ there

  in_kept : is_indexed indexes key id ≡ true → (ids : IdSet) × (get indexes key ≡ Some ids) × (contains_key ids id ≡ true)
  in_kept is = some_and_is (λ (set : IdSet). contains_key set id) (get indexes key) is

two_apart : (schema : Schema) (rows : Database) (key : IndexKey) (a b : Uuid) → bytes_eq a b ≡ false → RowAt schema rows key a → RowAt schema rows key b → IsShared schema rows
two_apart schema rows key a b differ at_a at_b = (key, a, b, record { differ = differ; at_a = at_a; at_b = at_b })

shared_is_alike : (schema : Schema) (rows : Database) → Suits schema rows → IsShared schema rows → are_any_alike schema rows ≡ true
shared_is_alike schema rows suits (key, a, b, shared) =
    shared_alike schema rows key a b shared (suits (key.table, a) shared.at_a.0 shared.at_a.1) (suits (key.table, b) shared.at_b.0 shared.at_b.1)

-- ---- all rows

-- two rows are alike if a key has two
pub two_alike_at : (schema : Schema) (rows : Database) (indexes : Indexes) → AreIndexesOf schema rows indexes → Suits schema rows → has_two (entries indexes) ≡ are_any_alike schema rows
two_alike_at schema rows indexes are suits = same_truth (has_two (entries indexes)) (are_any_alike schema rows) there back
  where
    there : has_two (entries indexes) ≡ true → are_any_alike schema rows ≡ true
    there any =
        let found = any_entry_is index_cmp index_total index_exact (λ (e : IndexKey × IdSet). nat_lt 1 (len e.1)) indexes any in
        let key = found.0 in
        let two = two_ids found.1 found.3 in
        shared_is_alike schema rows suits
        (two_apart schema rows key two.0 two.1 two.2.2 (row_at schema rows key two.0 (sym (are key two.0) ∙ kept_in indexes key two.0 found.1 found.2 two.2.0)) (row_at schema rows key two.1 (sym (are key two.1) ∙ kept_in indexes key two.1 found.1 found.2 two.2.1)))

    kept_twice : IsShared schema rows → has_two (entries indexes) ≡ true
    kept_twice (key, a, b, shared) =
        let in_a = in_kept indexes key a (are key a ∙ at_row schema rows key a shared.at_a) in
        let in_b = in_kept indexes key b (are key b ∙ at_row schema rows key b shared.at_b) in
        let same : in_b.0 ≡ in_a.0 = same_Some in_b.0 in_a.0 (sym in_b.1 ∙ in_a.1) in
        entry_is_any index_cmp index_total index_exact (λ (e : IndexKey × IdSet). nat_lt 1 (len e.1)) indexes key in_a.0 in_a.1
        (are_two in_a.0 a b (in_a.2, ap (λ (ids : IdSet). contains_key ids b) (sym same) ∙ in_b.2, shared.differ))

    back : are_any_alike schema rows ≡ true → has_two (entries indexes) ≡ true
    back any = kept_twice (alike_shared schema rows any)

-- ---- changed rows

pub indexed-with_changes : (schema : Schema) (cs : Changes) (indexes : Indexes) (key : IndexKey) (id : Uuid) → is_indexed (with_changes schema cs indexes) key id ≡ (is_indexed indexes key id || list_any (makes schema key id) cs)
indexed-with_changes schema [] indexes key id = or_false (is_indexed indexes key id)
indexed-with_changes schema (c ∷ cs) indexes key id =
    let es = entries_of_row schema c.0 c.1 in
    indexed-with_changes schema cs (with_entries es indexes) key id ∙ ap (λ b. b || list_any (makes schema key id) cs) (indexed-with_entries es indexes key id)
    ∙ or_three (is_indexed indexes key id) (has_entry key id es) (list_any (makes schema key id) cs)

-- no key is left without rows
abbrev HasRows : Indexes → Type 0
HasRows indexes = (key : IndexKey) → has_no_rows (get indexes key) ≡ false

not_zero : (set : IdSet) (id : Uuid) → contains_key set id ≡ true → (len set == 0) ≡ false
not_zero set id there = by (len set == 0) refl
  where
    by : (b : Bool) → (len set == 0) ≡ b → (len set == 0) ≡ false
    by false is = is
    by true is =
        absurd (contradicts (contains_key set id) there (ap (λ (s : IdSet). contains_key s id) (empty_of_len set (zero_is (len set) is)) ∙ ap is_some (get-empty id_cmp id)))

has_rows-with : (e : IndexEntry) (indexes : Indexes) → HasRows indexes → HasRows (with_entry e indexes)
has_rows-with e indexes has key = ap has_no_rows (get-insert index_total indexes e.key (insert (ids_at indexes e.key) e.id tt) key) ∙ by (eq_by_cmp index_cmp key e.key)
  where
    set : IdSet
    set = insert (ids_at indexes e.key) e.id tt

    there : contains_key set e.id ≡ true
    there = ap is_some (get-insert name_cmp_total (ids_at indexes e.key) e.id tt e.id) ∙ ap (λ b. is_some (cond b (Some tt) (get (ids_at indexes e.key) e.id))) (itself e.id)
      where
        itself : (id : Uuid) → eq_by_cmp id_cmp id id ≡ true
        itself id = (eq_by_cmp_equiv name_cmp_total).refl id

    by : (b : Bool) → has_no_rows (cond b (Some set) (get indexes key)) ≡ false
    by true = not_zero set e.id there
    by false = has key

has_rows-entries : (es : List IndexEntry) (indexes : Indexes) → HasRows indexes → HasRows (with_entries es indexes)
has_rows-entries [] indexes has = has
has_rows-entries (e ∷ es) indexes has = has_rows-entries es (with_entry e indexes) (has_rows-with e indexes has)

has_rows-changes : (schema : Schema) (cs : Changes) (indexes : Indexes) → HasRows indexes → HasRows (with_changes schema cs indexes)
has_rows-changes schema [] indexes has = has
has_rows-changes schema (c ∷ cs) indexes has = has_rows-changes schema cs (with_entries (entries_of_row schema c.0 c.1) indexes) (has_rows-entries (entries_of_row schema c.0 c.1) indexes has)

has_rows-empty : HasRows empty
has_rows-empty key = ap has_no_rows (get-empty index_cmp key)

module _ (schema : Schema) (indexes : Indexes) (changes : Changes) (sorted : T (is_sorted line_cmp changes)) (before after : Database) (are : AreIndexesOf schema before indexes) (is_after : IsAfter changes before after) where
  abbrev changed : Indexes
  changed = with_changes schema changes empty

  abbrev change_at : LineKey → Option (Option Row)
  change_at line = get (from_sorted {R = line_cmp} changes) line

  kept_is : (key : IndexKey) (id : Uuid) → is_indexed changed key id ≡ is_some_and (is_row schema key id) (change_at (key.table, id))
  kept_is key id =
      indexed-with_changes schema changes empty key id ∙ ap (λ b. b || list_any (makes schema key id) changes) (none_indexed key id)
      ∙ made_is schema before changes sorted key id ∙ ap (is_some_and (is_row schema key id)) (sym (get-from_sorted line_cmp changes (key.table, id) sorted))

  -- a row that a change puts at a key is there after the changes
  put_after : (key : IndexKey) (id : Uuid) → is_indexed changed key id ≡ true → (is_some (change_at (key.table, id)) ≡ true) × RowAt schema after key id
  put_after key id is =
      let one = some_and_is (is_row schema key id) (change_at (key.table, id)) (sym (kept_is key id) ∙ is) in
      let row = some_and_is (λ (r : Row). is_at schema ((key.table, id), r) key) one.0 one.2 in
      (ap is_some one.1, (row.0, is_after (key.table, id) ∙ ap (λ o. unwrap_or o (get before (key.table, id))) one.1 ∙ row.1, row.2))

  none_is : {X : Type 0} (o : Option X) → is_some o ≡ false → o ≡ None
  none_is None h = refl
  none_is (Some x) h = cc

  -- one that was at a key and is not changed is there after them
  stays_after : (key : IndexKey) (id : Uuid) → is_indexed indexes key id ≡ true → is_some (change_at (key.table, id)) ≡ false → RowAt schema after key id
  stays_after key id is still =
      let row = row_at schema before key id (sym (are key id) ∙ is) in
      (row.0, is_after (key.table, id) ∙ ap (λ o. unwrap_or o (get before (key.table, id))) (none_is (change_at (key.table, id)) still) ∙ row.1, row.2)

  -- a row after the changes was put by one of them, or it was there before
  from_after : (key : IndexKey) (id : Uuid) (at : RowAt schema after key id)
      → (b : Bool) → is_some (change_at (key.table, id)) ≡ b → cond b (is_indexed changed key id ≡ true) ((is_indexed indexes key id ≡ true) × (get before (key.table, id) ≡ Some at.0))
  from_after key id (row, has, is) true touched =
      kept_is key id ∙ by (change_at (key.table, id)) refl touched
    where
      by : (o : Option (Option Row)) → change_at (key.table, id) ≡ o → is_some o ≡ true → is_some_and (is_row schema key id) o ≡ true
      by None at t = cc
      by (Some n) at t = ap (is_row schema key id) (sym (ap (λ o. unwrap_or o (get before (key.table, id))) at) ∙ sym (is_after (key.table, id)) ∙ has) ∙ is
  from_after key id (row, has, is) false still =
      let was : get before (key.table, id) ≡ Some row =
      sym (ap (λ o. unwrap_or o (get before (key.table, id))) (none_is (change_at (key.table, id)) still)) ∙ sym (is_after (key.table, id)) ∙ has in
      (are key id ∙ at_row schema before key id (row, was, is), was)

  differ_by : (key : IndexKey) (a b : Uuid) → is_some (change_at (key.table, a)) ≡ true → is_some (change_at (key.table, b)) ≡ false → bytes_eq a b ≡ false
  differ_by key a b touched still = by (bytes_eq a b) refl
    where
      by : (x : Bool) → bytes_eq a b ≡ x → bytes_eq a b ≡ false
      by false is = is
      by true is =
          absurd (contradicts (is_some (change_at (key.table, a))) touched (ap (λ id. is_some (change_at (key.table, id))) ((bytes_eq-Decides a b).0 is) ∙ still))

  not_is : (b : Bool) → not b ≡ true → b ≡ false
  not_is true h = cc
  not_is false h = refl

  kept_at : (key : IndexKey) (id : Uuid) → contains_key (ids_at indexes key) id ≡ true → is_indexed indexes key id ≡ true
  kept_at key id = by (get indexes key)
    where
      by : (o : Option IdSet) → contains_key (unwrap_or o empty) id ≡ true → is_some_and (λ (set : IdSet). contains_key set id) o ≡ true
      by None h = absurd (contradicts (contains_key (empty {X = Unit {0}} {R = id_cmp}) id) h (ap is_some (get-empty id_cmp id)))
      by (Some set) h = h

  at_kept : (key : IndexKey) (id : Uuid) → is_indexed indexes key id ≡ true → contains_key (ids_at indexes key) id ≡ true
  at_kept key id = by (get indexes key)
    where
      by : (o : Option IdSet) → is_some_and (λ (set : IdSet). contains_key set id) o ≡ true → contains_key (unwrap_or o empty) id ≡ true
      by None h = cc
      by (Some set) h = h

  -- a key that is shared has two rows after the changes
  shared_after : (key : IndexKey) (ids : IdSet) → get changed key ≡ Some ids → is_shared indexes changes (key, ids) ≡ true → IsShared schema after
  shared_after key ids at = by (nat_lt 1 (len ids)) refl
    where
      by : (b : Bool) → nat_lt 1 (len ids) ≡ b → (b || has_unchanged indexes changes key) ≡ true → IsShared schema after
      by true many any =
          let two = two_ids ids many in
          two_apart schema after key two.0 two.1 two.2.2 (put_after key two.0 (kept_in changed key two.0 ids at two.2.0)).1 (put_after key two.1 (kept_in changed key two.1 ids at two.2.1)).1
      by false few any =
          let one = one_id ids (sym (ap has_no_rows at) ∙ has_rows-changes schema changes empty has_rows-empty key) in
          let other = any_id_is (λ id. not (contains_key (from_sorted {R = line_cmp} changes) (key.table, id))) (ids_at indexes key) any in
          let put = put_after key one.0 (kept_in changed key one.0 ids at one.1) in
          let still = not_is (is_some (change_at (key.table, other.0))) other.2 in
          two_apart schema after key one.0 other.0 (differ_by key one.0 other.0 put.0 still) put.1 (stays_after key other.0 (kept_at key other.0 other.1) still)

  -- a key with a changed row and one more
  both_put : (key : IndexKey) (a b : Uuid) → bytes_eq a b ≡ false → is_indexed changed key a ≡ true → is_indexed changed key b ≡ true → list_any (is_shared indexes changes) (entries changed) ≡ true
  both_put key a b differ put_a put_b =
      let in_a = in_kept changed key a put_a in
      let in_b = in_kept changed key b put_b in
      let same : in_b.0 ≡ in_a.0 = same_Some in_b.0 in_a.0 (sym in_b.1 ∙ in_a.1) in
      entry_is_any index_cmp index_total index_exact (is_shared indexes changes) changed key in_a.0 in_a.1
      (or_left (nat_lt 1 (len in_a.0)) (has_unchanged indexes changes key) (are_two in_a.0 a b (in_a.2, ap (λ (ids : IdSet). contains_key ids b) (sym same) ∙ in_b.2, differ)))

  one_put : (key : IndexKey) (a b : Uuid) → is_indexed changed key a ≡ true → is_indexed indexes key b ≡ true → is_some (change_at (key.table, b)) ≡ false → list_any (is_shared indexes changes) (entries changed) ≡ true
  one_put key a b put_a stood_b still =
      let in_a = in_kept changed key a put_a in
      entry_is_any index_cmp index_total index_exact (is_shared indexes changes) changed key in_a.0 in_a.1
      (or_right (nat_lt 1 (len in_a.0)) (has_unchanged indexes changes key)
      (id_is_any (λ id. not (contains_key (from_sorted {R = line_cmp} changes) (key.table, id))) (ids_at indexes key) b (at_kept key b stood_b) (not_from_false _ still)))

  turned : (a b : Uuid) → bytes_eq a b ≡ false → bytes_eq b a ≡ false
  turned a b differ = by (bytes_eq b a) refl
    where
      by : (x : Bool) → bytes_eq b a ≡ x → bytes_eq b a ≡ false
      by false is = is
      by true is = absurd (contradicts (bytes_eq a b) ((bytes_eq-Decides a b).1 (sym ((bytes_eq-Decides b a).0 is))) differ)

  after_shared : are_any_alike schema before ≡ false → Suits schema after → IsShared schema after → list_any (is_shared indexes changes) (entries changed) ≡ true
  after_shared none suits (key, a, b, shared) = by (is_some (change_at (key.table, a))) (is_some (change_at (key.table, b))) refl refl
    where
      by : (in_a in_b : Bool) → is_some (change_at (key.table, a)) ≡ in_a → is_some (change_at (key.table, b)) ≡ in_b → list_any (is_shared indexes changes) (entries changed) ≡ true
      by true true so_a so_b = both_put key a b shared.differ (from_after key a shared.at_a true so_a) (from_after key b shared.at_b true so_b)
      by true false so_a so_b = one_put key a b (from_after key a shared.at_a true so_a) (from_after key b shared.at_b false so_b).0 so_b
      by false true so_a so_b = one_put key b a (from_after key b shared.at_b true so_b) (from_after key a shared.at_a false so_a).0 so_a
      by false false so_a so_b =
          let was_a = (from_after key a shared.at_a false so_a).1 in
          let was_b = (from_after key b shared.at_b false so_b).1 in
          absurd (contradicts (are_any_alike schema before)
          (shared_alike schema before key a b (record { differ = shared.differ; at_a = (shared.at_a.0, was_a, shared.at_a.2); at_b = (shared.at_b.0, was_b, shared.at_b.2) })
          (suits (key.table, a) shared.at_a.0 shared.at_a.1) (suits (key.table, b) shared.at_b.0 shared.at_b.1))
          none)

-- if no two were alike, the keys of the changed rows say whether two are
pub tells_alike : (schema : Schema) (indexes : Indexes) (changes : Changes) → T (is_sorted line_cmp changes) → TellsAlike schema indexes changes (list_any (is_shared indexes changes) (entries (with_changes schema changes empty)))
tells_alike schema indexes changes sorted before after are none is_after suits = same_truth (list_any (is_shared indexes changes) (entries (with_changes schema changes empty))) (are_any_alike schema after) there back
  where
    there : list_any (is_shared indexes changes) (entries (with_changes schema changes empty)) ≡ true → are_any_alike schema after ≡ true
    there any =
        let found = any_entry_is index_cmp index_total index_exact (is_shared indexes changes) (with_changes schema changes empty) any in
        shared_is_alike schema after suits (shared_after schema indexes changes sorted before after are is_after found.0 found.1 found.2 found.3)

    back : are_any_alike schema after ≡ true → list_any (is_shared indexes changes) (entries (with_changes schema changes empty)) ≡ true
    back any = after_shared schema indexes changes sorted before after are is_after none suits (alike_shared schema after any)
