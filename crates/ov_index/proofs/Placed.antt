-- Entries that are added for changes of rows, and those that go with them.
use Rattle.std.proofs.Common.{◌≡◌, List, [], ◌∷◌, ◌++◌, Bool, true, false, T, ◌&&◌, ◌||◌, not, Option, Some, None, refl, sym, ap, ◌∙◌}
use Rattle.std.specs.Prelude.{unwrap_or}
use Rattle.std.specs.FinMap.{find, is_sorted, get, get-from_sorted}
use Rattle.std.specs.List.{list_any}
use Rattle.std.specs.Ordering.{eq_by_cmp}
use Rattle.std.specs.Str.{bytes_eq}
use Rattle.std.proofs.lemmas.Bool.{and_parts}
use Rattle.std.proofs.lemmas.List.Folds.{list_any-append}
use Rattle.std.proofs.lemmas.Slice.Eq.{bytes_eq-Decides}
use Rattle.ov_specs.specs.rows.Database.{Row, Database}
use Rattle.ov_specs.specs.rows.Lines.{LineKey, line_cmp}
use Rattle.ov_specs.specs.schema.Schema.{is_some_and}
use Rattle.ov_specs.specs.schema.SchemaTypes.{Schema}
use Rattle.ov_specs.specs.values.Uuid.{Uuid}
use Rattle.ov_specs.proofs.laws.LineKeys.{tied_same}
use Rattle.ov_index.specs.Changing.{IsPlaced}
use Rattle.ov_index.specs.Collecting.{is_entry, has_entry, with_entry, entries_of_row, IsSameWithout, AreAdded, AreMoreGone}
use Rattle.ov_index.specs.IndexKeys.{IndexKey, IndexEntry, same_index_key}
use Rattle.ov_index.specs.Indexing.{Indexes, is_indexed, AreIndexesOf, without_entries}
use Rattle.ov_index.proofs.Kept.{same_key-is, or_false, and_true, or_three, indexed-with, indexed-without_entries}
use Rattle.ov_index.proofs.RowEntries.{is_row, row_entry, any_at}

-- ---- one entry

-- what holds of the key and the row of an entry holds if the entry is there
at_entry : (test : IndexKey → Uuid → Bool) (e : IndexEntry) (key : IndexKey) (id : Uuid) → is_entry key id e ≡ true → test e.key e.id ≡ test key id
at_entry test e key id is =
    let both = and_parts (same_index_key e.key key) (bytes_eq e.id id) is in
    λ i. test (same_key-is e.key key both.0 i) ((bytes_eq-Decides e.id id).0 both.1 i)

module _ (e : IndexEntry) (indexes : Indexes) where
  -- an entry that is there
  pub added-again : true ≡ is_indexed indexes e.key e.id → AreAdded (e ∷ []) indexes indexes
  added-again has key id = by (is_entry key id e) refl
    where
      by : (s : Bool) → is_entry key id e ≡ s → is_indexed indexes key id ≡ (is_indexed indexes key id || (s || false))
      by false is = or_false (is_indexed indexes key id)
      by true is =
          let there : is_indexed indexes key id ≡ true = sym (at_entry (λ k i. is_indexed indexes k i) e key id is) ∙ sym has in
          there ∙ sym (ap (λ b. b || true) there)

  -- one that is put
  pub added-one : (after : Indexes) → after ≡ with_entry e indexes → AreAdded (e ∷ []) indexes after
  added-one after put key id = ap (λ (i : Indexes). is_indexed i key id) put ∙ indexed-with indexes e key id ∙ ap (λ b. is_indexed indexes key id || b) (or_false (is_entry key id e))

  -- and listed
  pub same-one : (added more : List IndexEntry) (after : Indexes) → false ≡ is_indexed indexes e.key e.id → after ≡ with_entry e indexes → more ≡ added ++ e ∷ [] → IsSameWithout added indexes more after
  same-one added more after not_there put listed key id =
      (λ i. added-one after put key id i && not ((ap (has_entry key id) listed ∙ list_any-append (is_entry key id) added (e ∷ [])) i)) ∙ by (is_entry key id e) refl
    where
      by : (s : Bool) → is_entry key id e ≡ s → ((is_indexed indexes key id || (s || false)) && not (has_entry key id added || (s || false))) ≡ (is_indexed indexes key id && not (has_entry key id added))
      by false is = λ i. sym (or_false (is_indexed indexes key id)) i && not (sym (or_false (has_entry key id added)) i)
      by true is =
          let absent : is_indexed indexes key id ≡ false = sym (at_entry (λ k i. is_indexed indexes k i) e key id is) ∙ sym not_there in
          gone (is_indexed indexes key id) (has_entry key id added) absent
        where
          gone : (a d : Bool) → a ≡ false → ((a || true) && not (d || true)) ≡ (a && not d)
          gone true d h = cc
          gone false true h = refl
          gone false false h = refl

-- one that was there is not listed
module _ (e : IndexEntry) (indexes : Indexes) where
  pub same-again : (added more : List IndexEntry) (after : Indexes) → true ≡ is_indexed indexes e.key e.id → after ≡ with_entry e indexes → more ≡ added → IsSameWithout added indexes more after
  same-again added more after there put listed key id =
      (λ i. (added-one e indexes after put key id ∙ sym (added-again e indexes there key id)) i && not (ap (has_entry key id) listed i))

pub same-then : (added middle more : List IndexEntry) (indexes between after : Indexes) → IsSameWithout added indexes middle between → IsSameWithout middle between more after → IsSameWithout added indexes more after
same-then added middle more indexes between after first then key id = then key id ∙ first key id

-- ---- several entries

-- those that are put so far, and those that are left
abbrev pub AreAddedTo : List IndexEntry → Indexes → List IndexEntry → Indexes → Type 0
AreAddedTo left now all before = (key : IndexKey) (id : Uuid) → (is_indexed now key id || has_entry key id left) ≡ (is_indexed before key id || has_entry key id all)

pub added-next : (e : IndexEntry) (left all : List IndexEntry) (before now after : Indexes) → AreAddedTo (e ∷ left) now all before → AreAdded (e ∷ []) now after → AreAddedTo left after all before
added-next e left all before now after so one key id =
    ap (λ b. b || has_entry key id left) (one key id) ∙ or_three (is_indexed now key id) (is_entry key id e || false) (has_entry key id left)
    ∙ ap (λ b. is_indexed now key id || (b || has_entry key id left)) (sym (or_false (is_entry key id e))) ∙ so key id

pub added-all : (all : List IndexEntry) (before now : Indexes) → AreAddedTo [] now all before → AreAdded all before now
added-all all before now so key id = or_false (is_indexed now key id) ∙ so key id

-- ---- entries that go

-- those of these that are not new
abbrev not_new : List IndexEntry → List IndexEntry → IndexKey → Uuid → Bool
not_new new es key id = has_entry key id es && not (has_entry key id new)

abbrev pub AreGoneTo : List IndexEntry → List IndexEntry → List IndexEntry → List IndexEntry → List IndexEntry → Type 0
AreGoneTo new left now all before = (key : IndexKey) (id : Uuid) → (has_entry key id now || not_new new left key id) ≡ (has_entry key id before || not_new new all key id)

module _ (new : List IndexEntry) (e : IndexEntry) (left all before now : List IndexEntry) (so : AreGoneTo new (e ∷ left) now all before) where
  -- an entry that is new too
  pub gone-not : true ≡ has_entry e.key e.id new → AreGoneTo new left now all before
  gone-not has key id = by (is_entry key id e) refl ∙ so key id
    where
      by : (s : Bool) → is_entry key id e ≡ s → (has_entry key id now || not_new new left key id) ≡ (has_entry key id now || ((s || has_entry key id left) && not (has_entry key id new)))
      by false is = refl
      by true is =
          let there : has_entry key id new ≡ true = sym (at_entry (λ k i. has_entry k i new) e key id is) ∙ sym has in
          ap (λ b. has_entry key id now || (has_entry key id left && not b)) there ∙ nothing (has_entry key id now) (has_entry key id left)
          ∙ sym (ap (λ b. has_entry key id now || (true && not b)) there)
        where
          nothing : (a b : Bool) → (a || (b && false)) ≡ (a || false)
          nothing a true = refl
          nothing a false = refl

  -- one that goes
  pub gone-next : (more : List IndexEntry) → false ≡ has_entry e.key e.id new → more ≡ now ++ e ∷ [] → AreGoneTo new left more all before
  gone-next more not_new_one listed key id =
      ap (λ b. b || not_new new left key id) (ap (has_entry key id) listed ∙ list_any-append (is_entry key id) now (e ∷ [])) ∙ by (is_entry key id e) refl ∙ so key id
    where
      by : (s : Bool) → is_entry key id e ≡ s
          → ((has_entry key id now || (s || false)) || not_new new left key id) ≡ (has_entry key id now || ((s || has_entry key id left) && not (has_entry key id new)))
      by false is = ap (λ b. b || not_new new left key id) (sym (or_false (has_entry key id now)))
      by true is =
          let absent : has_entry key id new ≡ false = sym (at_entry (λ k i. has_entry k i new) e key id is) ∙ sym not_new_one in
          goes (has_entry key id now) (not_new new left key id) ∙ sym (ap (λ b. has_entry key id now || (true && not b)) absent)
        where
          goes : (a b : Bool) → ((a || true) || b) ≡ (a || true)
          goes true b = refl
          goes false b = refl

pub gone-all : (new all before now : List IndexEntry) → AreGoneTo new [] now all before → AreMoreGone all new before now
gone-all new all before now so key id = or_false (has_entry key id now) ∙ so key id

-- ---- changes of rows

abbrev pub Changes : Type 0
Changes = List (LineKey × Option Row)

-- a change makes the entry
abbrev pub makes : Schema → IndexKey → Uuid → LineKey × Option Row → Bool
makes schema key id c = has_entry key id (entries_of_row schema c.0 c.1)

-- a change takes the entry away
abbrev unmakes : Schema → Database → IndexKey → Uuid → LineKey × Option Row → Bool
unmakes schema rows key id c = has_entry key id (entries_of_row schema c.0 (get rows c.0)) && not (makes schema key id c)

-- the changes that remain, with the indexes so far, and the entries that go
pub record Placing : Type 0 where
  pub left : Changes
  pub indexes : Indexes
  pub gone : List IndexEntry

-- what the remaining changes add to what is there, and what they take away in addition to what goes
pub record ArePlacedTo (schema : Schema) (rows : Database) (all : Changes) (before : Indexes) (now : Placing) : Type 0 where
  pub made : (key : IndexKey) (id : Uuid) → (is_indexed now.indexes key id || list_any (makes schema key id) now.left) ≡ (is_indexed before key id || list_any (makes schema key id) all)
  pub unmade : (key : IndexKey) (id : Uuid) → (has_entry key id now.gone || list_any (unmakes schema rows key id) now.left) ≡ list_any (unmakes schema rows key id) all

pub placed-start : (schema : Schema) (rows : Database) (all : Changes) (indexes : Indexes) (gone : List IndexEntry) → gone ≡ [] → ArePlacedTo schema rows all indexes (record { left = all; indexes = indexes; gone = gone })
placed-start schema rows all indexes gone none = record {
  made = λ key id. refl;
  unmade = λ key id. ap (λ es. has_entry key id es || list_any (unmakes schema rows key id) all) none;
}

pub placed-next : (schema : Schema) (rows : Database) (c : LineKey × Option Row) (left all : Changes) (before now after : Indexes) (gone more old new : List IndexEntry)
    → ArePlacedTo schema rows all before (record { left = c ∷ left; indexes = now; gone = gone }) → new ≡ entries_of_row schema c.0 c.1 → old ≡ entries_of_row schema c.0 (get rows c.0) → AreAdded new now after → AreMoreGone old new gone more
    → ArePlacedTo schema rows all before (record { left = left; indexes = after; gone = more })
placed-next schema rows c left all before now after gone more old new so is_new is_old added went = record {
  made = λ key id.
      ap (λ b. b || list_any (makes schema key id) left) (added key id ∙ ap (λ es. is_indexed now key id || has_entry key id es) is_new)
      ∙ or_three (is_indexed now key id) (makes schema key id c) (list_any (makes schema key id) left) ∙ so.made key id;
  unmade = λ key id.
      ap (λ b. b || list_any (unmakes schema rows key id) left) (went key id ∙ (λ i. has_entry key id gone || (has_entry key id (is_old i) && not (has_entry key id (is_new i)))))
      ∙ or_three (has_entry key id gone) (unmakes schema rows key id c) (list_any (unmakes schema rows key id) left) ∙ so.unmade key id;
}

-- without the listed entries, the indexes are what they were
pub back_is : (schema : Schema) (rows : Database) (before now : Indexes) (added : List IndexEntry) → AreIndexesOf schema rows before → IsSameWithout [] before added now → AreIndexesOf schema rows (without_entries added now)
back_is schema rows before now added are same key id = indexed-without_entries added now key id ∙ same key id ∙ sym (and_true (is_indexed before key id)) ∙ are key id

module _ (schema : Schema) (rows : Database) (all : Changes) (sorted : T (is_sorted line_cmp all)) (key : IndexKey) (id : Uuid) where
  abbrev line : LineKey
  line = (key.table, id)

  abbrev stands : Option Row → Bool
  stands o = is_row schema key id o

  pub made_is : list_any (makes schema key id) all ≡ is_some_and stands (find line_cmp line all)
  made_is = (λ i. list_any (λ c. row_entry schema key id c.0 c.1 i) all) ∙ any_at stands line all sorted

  unmakes_at : (c : LineKey × Option Row) → unmakes schema rows key id c ≡ (eq_by_cmp line_cmp line c.0 && (stands (get rows line) && not (stands c.1)))
  unmakes_at c = (λ i. row_entry schema key id c.0 (get rows c.0) i && not (row_entry schema key id c.0 c.1 i)) ∙ by (eq_by_cmp line_cmp line c.0) refl
    where
      by : (b : Bool) → eq_by_cmp line_cmp line c.0 ≡ b → ((b && stands (get rows c.0)) && not (b && stands c.1)) ≡ (b && (stands (get rows line) && not (stands c.1)))
      by true is = ap (λ k. stands (get rows k) && not (stands c.1)) (sym (tied_same line c.0 is))
      by false is = refl

  unmade_is : list_any (unmakes schema rows key id) all ≡ is_some_and (λ o. stands (get rows line) && not (stands o)) (find line_cmp line all)
  unmade_is = (λ i. list_any (λ c. unmakes_at c i) all) ∙ any_at (λ o. stands (get rows line) && not (stands o)) line all sorted

  kept_or_made : (was is : Bool) → ((was || is) && not (was && not is)) ≡ is
  kept_or_made true true = refl
  kept_or_made true false = refl
  kept_or_made false true = refl
  kept_or_made false false = refl

  unchanged : (was : Bool) → ((was || false) && true) ≡ was
  unchanged true = refl
  unchanged false = refl

  by_change : (o : Option (Option Row)) → ((stands (get rows line) || is_some_and stands o) && not (is_some_and (λ n. stands (get rows line) && not (stands n)) o)) ≡ stands (unwrap_or o (get rows line))
  by_change None = unchanged (stands (get rows line))
  by_change (Some n) = kept_or_made (stands (get rows line)) (stands n)

-- without the entries that go, the indexes are those of the rows after the changes
pub placed_is : (schema : Schema) (rows : Database) (all : Changes) (before now : Indexes) (gone : List IndexEntry) → T (is_sorted line_cmp all) → AreIndexesOf schema rows before
    → ArePlacedTo schema rows all before (record { left = []; indexes = now; gone = gone }) → IsPlaced schema all rows gone now
placed_is schema rows all before now gone sorted are so after is_after key id =
    let line : LineKey = (key.table, id) in
    indexed-without_entries gone now key id
    ∙ (λ i. (or_false (is_indexed now key id) ∙ so.made key id) i && not ((or_false (has_entry key id gone) ∙ so.unmade key id) i))
    ∙ (λ i. (are key id i || made_is schema rows all sorted key id i) && not (unmade_is schema rows all sorted key id i))
    ∙ by_change schema rows all sorted key id (find line_cmp line all)
    ∙ ap (λ o. is_row schema key id (unwrap_or o (get rows line))) (sym (get-from_sorted line_cmp all line sorted))
    ∙ ap (is_row schema key id) (sym (is_after line))
