-- What a commit looks for, found by what a transaction changed and not by all rows.
use Rattle.std.proofs.Common.{◌≡◌, ℕ, List, [], ◌∷◌, Bool, true, false, cond, T, ◌&&◌, ◌||◌, not, ◌⊎◌, inl, inr, Option, Some, None, is_some, int_lt, pos, length, refl, sym, ap, ◌∙◌, true≢false, Equal}
use Rattle.std.specs.List.{list_any, list_all}
use Rattle.std.specs.Ordering.{eq_by_cmp}
use Rattle.std.specs.Str.{bytes_eq}
use Rattle.std.specs.FinMap.{get, remove, entries, contains_key, find, is_sorted, get-remove, get-entries, entries_sorted}
use Rattle.std.specs.FinMap.Entries.{find-where_key, is_sorted-where_key, same_entries}
use Rattle.std.proofs.lemmas.Bool.{and_parts, and_from, or_parts, or_left, or_right, not_from_false}
use Rattle.std.proofs.lemmas.Option.{same_Some}
use Rattle.std.proofs.lemmas.Slice.Eq.{bytes_eq-Decides}
use Rattle.ov_specs.specs.integrity.Committed.{is_missing, is_dangling, dangles}
use Rattle.ov_specs.specs.integrity.Kept.{supports, is_in_root_table, is_supported, AreSupported}
use Rattle.ov_specs.specs.integrity.Limits.{rows_of, has_too_many, has_two_alike, has_duplicates, is_over_limits}
use Rattle.ov_specs.specs.integrity.References.{refers_strongly, refers_weakly, Target, RowReference, row_targets, row_references, references}
use Rattle.ov_specs.specs.rows.Database.{Row, Database, same_key}
use Rattle.ov_specs.specs.rows.Lines.{LineKey, line_cmp}
use Rattle.ov_specs.specs.schema.Schema.{is_some_and}
use Rattle.ov_specs.specs.schema.SchemaTypes.{Table, Schema}
use Rattle.ov_specs.specs.values.Uuid.{Uuid}
use Rattle.ov_specs.proofs.laws.LineKeys.{key_total, key_exact, tied_same, same_key-is, same_key-itself}
use Rattle.ov_specs.proofs.laws.Lists.{any-map}
use Rattle.ov_specs.proofs.laws.References.{any_reference_is, reference_is_any}
use Rattle.ov_specs.proofs.laws.Truths.{was_not}

-- ---- one of a list

-- what holds of it holds of some of the list, and what holds of all holds of it
record IsOneOf {A : Type 0} (x : A) (xs : List A) : Type 0 where
  some : (test : A → Bool) → test x ≡ true → list_any test xs ≡ true
  each : (test : A → Bool) → list_all test xs ≡ true → test x ≡ true

-- if some pass the test, one does
one_passes : {A : Type 0} (test : A → Bool) (xs : List A) → list_any test xs ≡ true → (x : A) × (test x ≡ true) × IsOneOf x xs
one_passes test [] any = cc
one_passes {A = A} test (x ∷ xs) any = by (test x) refl any (one_passes test xs)
  where
    later : (y : A) → IsOneOf y xs → IsOneOf y (x ∷ xs)
    later y is = record {
      some = λ other at. or_right (other x) (list_any other xs) (is.some other at);
      each = λ other all. is.each other (and_parts (other x) (list_all other xs) all).1;
    }

    by : (b : Bool) → test x ≡ b → (b || list_any test xs) ≡ true → (list_any test xs ≡ true → (y : A) × (test y ≡ true) × IsOneOf y xs)
        → (y : A) × (test y ≡ true) × IsOneOf y (x ∷ xs)
    by true is any others = (
      x,
      is,
      record {
        some = λ other at. or_left (other x) (list_any other xs) at;
        each = λ other all. (and_parts (other x) (list_all other xs) all).0;
      },
    )
    by false is any others = let found = others any in (found.0, found.1, later found.0 found.2)

-- if none passed a test, and only the touched ones can pass now, it is asked of them alone
any_touched : {A : Type 0} (touched was is : A → Bool) → ((x : A) → touched x ≡ false → is x ≡ was x) → (xs : List A) → list_any was xs ≡ false → list_any is xs ≡ list_any (λ x. touched x && is x) xs
any_touched touched was is same [] none = refl
any_touched touched was is same (x ∷ xs) none = by (touched x) refl (any_touched touched was is same xs parts.1)
  where
    parts : (was x ≡ false) × (list_any was xs ≡ false)
    parts = or_parts (was x) (list_any was xs) none

    by : (b : Bool) → touched x ≡ b → list_any is xs ≡ list_any (λ y. touched y && is y) xs → (is x || list_any is xs) ≡ ((b && is x) || list_any (λ y. touched y && is y) xs)
    by true at rest = ap (λ b. is x || b) rest
    by false at rest = ap (λ b. b || list_any is xs) (same x at ∙ parts.0) ∙ rest

-- a target of the row passes the test if a reference of it does
any_target : (schema : Schema) (test : RowReference → Bool) (r : LineKey × Row)
    → list_any test (row_references schema r) ≡ list_any (λ target. test (record { from = r.0; to = target })) (row_targets schema r)
any_target schema test r = any-map test (λ target. record { from = r.0; to = target }) (row_targets schema r)

-- ---- support

-- a different one of these rows that refers strongly to the row of this key
abbrev pub Supporter : Schema → Database → LineKey → Type 0
Supporter schema rows key =
    (from : LineKey) × (row : Row) × (get rows from ≡ Some row) × (same_key from key ≡ false) × (refers_strongly schema (from, row) key ≡ true)

module _ (schema : Schema) (rows : Database) (key : LineKey) where
  supporter_is : list_any (supports key) (references schema rows) ≡ true → Supporter schema rows key
  supporter_is any =
      let found = any_reference_is schema (supports key) rows any in
      let test : Target → Bool = λ target. supports key (record { from = found.0; to = target }) in
      let one = one_passes test (row_targets schema (found.0, found.1)) (sym (any_target schema (supports key) (found.0, found.1)) ∙ found.3) in
      let parts = and_parts (one.0.is_strong && same_key one.0.key key) (not (same_key found.0 key)) one.1 in
      (found.0, found.1, found.2, was_not (same_key found.0 key) parts.1, one.2.some (λ target. target.is_strong && same_key target.key key) parts.0)

  is_supporter : Supporter schema rows key → list_any (supports key) (references schema rows) ≡ true
  is_supporter one =
      let target = one_passes (λ t. t.is_strong && same_key t.key key) (row_targets schema (one.0, one.1)) one.4 in
      let other : not (same_key one.0 key) ≡ true = not_from_false (same_key one.0 key) one.3 in
      reference_is_any schema (supports key) rows one.0 one.1 one.2
      (any_target schema (supports key) (one.0, one.1)
      ∙ target.2.some (λ t. supports key (record { from = one.0; to = t }))
      (and_from (target.0.is_strong && same_key target.0.key key) (not (same_key one.0 key)) target.1 other))

  -- a row that is supported is of a root table, or a different one refers to it strongly
  pub support_is : is_supported schema rows key ≡ true → (is_in_root_table schema key ≡ true) ⊎ Supporter schema rows key
  support_is = by (is_in_root_table schema key) refl
    where
      by : (root : Bool) → is_in_root_table schema key ≡ root → (root || list_any (supports key) (references schema rows)) ≡ true
          → (is_in_root_table schema key ≡ true) ⊎ Supporter schema rows key
      by true root is = inl root
      by false root is = inr (supporter_is is)

  -- and the other way round
  pub is_support : (is_in_root_table schema key ≡ true) ⊎ Supporter schema rows key → is_supported schema rows key ≡ true
  is_support (inl root) = or_left (is_in_root_table schema key) (list_any (supports key) (references schema rows)) root
  is_support (inr one) = or_right (is_in_root_table schema key) (list_any (supports key) (references schema rows)) (is_supporter one)

-- a row that loses its support if one row goes was referred to strongly by it
pub unsupported_step : (schema : Schema) (rows : Database) (gone : LineKey) (gone_row : Row) → get rows gone ≡ Some gone_row → (key : LineKey)
    → is_supported schema rows key ≡ true → is_supported schema (remove rows gone) key ≡ false → refers_strongly schema (gone, gone_row) key ≡ true
unsupported_step schema rows gone gone_row has key was is = by (support_is schema rows key was)
  where
    lost : (is_in_root_table schema key ≡ true) ⊎ Supporter schema (remove rows gone) key → ⊥
    lost one = true≢false (sym (is_support schema (remove rows gone) key one) ∙ is)

    by : (is_in_root_table schema key ≡ true) ⊎ Supporter schema rows key → refers_strongly schema (gone, gone_row) key ≡ true
    by (inl root) = absurd (lost (inl root))
    by (inr one) = at (eq_by_cmp line_cmp one.0 gone) refl
      where
        at : (b : Bool) → eq_by_cmp line_cmp one.0 gone ≡ b → refers_strongly schema (gone, gone_row) key ≡ true
        at true same =
            let here : one.0 ≡ gone = tied_same one.0 gone same in
            let row : one.1 ≡ gone_row = same_Some one.1 gone_row (sym one.2 ∙ ap (get rows) here ∙ has) in
            sym (λ i. refers_strongly schema (here i, row i) key) ∙ one.4
        at false other =
            absurd (lost (inr (one.0, one.1, get-remove key_total rows gone one.0 ∙ ap (λ b. cond b None (get rows one.0)) other ∙ one.2, one.3, one.4)))

-- ---- what follows from a change

-- each row refers to rows that are there
abbrev pub ArePresent : Schema → Database → Type 0
ArePresent schema rows =
    (key : LineKey) (row : Row) → get rows key ≡ Some row → list_all (λ target. contains_key rows target.key) (row_targets schema (key, row)) ≡ true

-- a row that was changed refers strongly to one that is not there
abbrev pub ChangedMisses : Schema → Database → (LineKey → Bool) → Type 0
ChangedMisses schema now changed =
    (key : LineKey) × (row : Row) × (changed key ≡ true) × (get now key ≡ Some row) × (list_any (is_missing now) (row_references schema (key, row)) ≡ true)

-- a row that was not changed refers strongly to one that has gone
abbrev pub HeldMisses : Schema → Database → Database → (LineKey → Bool) → Type 0
HeldMisses schema before now changed =
    (from : LineKey) × (row : Row) × (to : LineKey) × (changed from ≡ false) × (get before from ≡ Some row)
    × (changed to ≡ true) × (contains_key before to ≡ true) × (get now to ≡ None) × (refers_strongly schema (from, row) to ≡ true)

-- a row that was changed had referred strongly to the row of this key
abbrev pub ChangedSupporter : Schema → Database → (LineKey → Bool) → LineKey → Type 0
ChangedSupporter schema before changed key =
    (from : LineKey) × (old : Row) × (changed from ≡ true) × (get before from ≡ Some old) × (refers_strongly schema (from, old) key ≡ true)

-- the row refers weakly to one that has gone
abbrev pub HasGoneTarget : Schema → Database → Database → (LineKey → Bool) → LineKey × Row → Type 0
HasGoneTarget schema before now changed r =
    (to : LineKey) × (changed to ≡ true) × (contains_key before to ≡ true) × (get now to ≡ None) × (refers_weakly schema r to ≡ true)

none_there : (o : Option Row) → is_some o ≡ false → o ≡ None
none_there None h = refl
none_there (Some row) h = cc

-- rows before a change and now, if no row is different but at a key that was changed
module _ (schema : Schema) (before now : Database) (changed : LineKey → Bool) (beside : (key : LineKey) → changed key ≡ false → get now key ≡ get before key) where
  -- a row that was there and is not has been changed
  gone_is_changed : (key : LineKey) → contains_key before key ≡ true → contains_key now key ≡ false → changed key ≡ true
  gone_is_changed key was is = by (changed key) refl
    where
      by : (b : Bool) → changed key ≡ b → changed key ≡ true
      by true at = at
      by false at = absurd (true≢false (sym was ∙ ap is_some (sym (beside key at)) ∙ is))

  -- ---- support that goes

  -- a row without support is new, or a row that was changed had referred strongly to it
  pub unsupported_follows : AreSupported schema before → (key : LineKey) (row : Row) → get now key ≡ Some row → is_supported schema now key ≡ false
      → (get before key ≡ None) ⊎ ChangedSupporter schema before changed key
  unsupported_follows supported key row has is = by (get before key) refl
    where
      lost : (is_in_root_table schema key ≡ true) ⊎ Supporter schema now key → ⊥
      lost one = true≢false (sym (is_support schema now key one) ∙ is)

      from : (is_in_root_table schema key ≡ true) ⊎ Supporter schema before key → ChangedSupporter schema before changed key
      from (inl root) = absurd (lost (inl root))
      from (inr one) = at (changed one.0) refl
        where
          at : (b : Bool) → changed one.0 ≡ b → ChangedSupporter schema before changed key
          at true so = (one.0, one.1, so, one.2, one.4)
          at false so = absurd (lost (inr (one.0, one.1, beside one.0 so ∙ one.2, one.3, one.4)))

      by : (o : Option Row) → get before key ≡ o → (get before key ≡ None) ⊎ ChangedSupporter schema before changed key
      by None was = inl was
      by (Some old) was = inr (from (support_is schema before key (supported key old was)))

  -- ---- strong references to rows that are not there

  -- one is of a row that was changed, or to a row that has gone
  pub missing_follows : ArePresent schema before → list_any (is_missing now) (references schema now) ≡ true → ChangedMisses schema now changed ⊎ HeldMisses schema before now changed
  missing_follows present any =
      let found = any_reference_is schema (is_missing now) now any in
      by found.0 found.1 found.2 found.3 (changed found.0) refl
    where
      held : (key : LineKey) (row : Row) → changed key ≡ false → get before key ≡ Some row → list_any (is_missing now) (row_references schema (key, row)) ≡ true → HeldMisses schema before now changed
      held key row so has misses =
          let test : Target → Bool = λ target. is_missing now (record { from = key; to = target }) in
          let one = one_passes test (row_targets schema (key, row)) (sym (any_target schema (is_missing now) (key, row)) ∙ misses) in
          let to : LineKey = one.0.key in
          let parts = and_parts one.0.is_strong (not (contains_key now to)) one.1 in
          let was : contains_key before to ≡ true = one.2.each (λ target. contains_key before target.key) (present key row has) in
          let gone : contains_key now to ≡ false = was_not (contains_key now to) parts.1 in
          let strong = one.2.some (λ target. target.is_strong && same_key target.key to) (and_from one.0.is_strong (same_key to to) parts.0 (same_key-itself to)) in
          (key, row, to, so, has, gone_is_changed to was gone, was, none_there (get now to) gone, strong)

      by : (key : LineKey) (row : Row) → get now key ≡ Some row → list_any (is_missing now) (row_references schema (key, row)) ≡ true
          → (b : Bool) → changed key ≡ b → ChangedMisses schema now changed ⊎ HeldMisses schema before now changed
      by key row has misses true so = inl (key, row, so, has, misses)
      by key row has misses false so = inr (held key row so (sym (beside key so) ∙ has) misses)

  -- and the other way round
  pub changed_is_missing : ChangedMisses schema now changed → list_any (is_missing now) (references schema now) ≡ true
  changed_is_missing one = reference_is_any schema (is_missing now) now one.0 one.1 one.3 one.4

  pub held_is_missing : HeldMisses schema before now changed → list_any (is_missing now) (references schema now) ≡ true
  held_is_missing one =
      let to : LineKey = one.2 in
      let target = one_passes (λ t. t.is_strong && same_key t.key to) (row_targets schema (one.0, one.1)) one.8 in
      let parts = and_parts target.0.is_strong (same_key target.0.key to) target.1 in
      let gone : contains_key now target.0.key ≡ false = ap (contains_key now) (same_key-is target.0.key to parts.1) ∙ ap is_some one.7 in
      reference_is_any schema (is_missing now) now one.0 one.1 (beside one.0 one.3 ∙ one.4)
      (any_target schema (is_missing now) (one.0, one.1)
      ∙ target.2.some (λ t. is_missing now (record { from = one.0; to = t }))
      (and_from target.0.is_strong (not (contains_key now target.0.key)) parts.0 (not_from_false (contains_key now target.0.key) gone)))

  -- ---- weak references to rows that are not there

  -- a row that has one was changed, or refers weakly to a row that has gone
  pub dangles_follows : ArePresent schema before → (key : LineKey) (row : Row) → get now key ≡ Some row → dangles schema now (key, row) ≡ true
      → (changed key ≡ true) ⊎ HasGoneTarget schema before now changed (key, row)
  dangles_follows present key row has dangling = by (changed key) refl
    where
      held : get before key ≡ Some row → HasGoneTarget schema before now changed (key, row)
      held was_there =
          let one = one_passes (is_dangling now) (row_targets schema (key, row)) dangling in
          let to : LineKey = one.0.key in
          let parts = and_parts (not one.0.is_strong) (not (contains_key now to)) one.1 in
          let was : contains_key before to ≡ true = one.2.each (λ target. contains_key before target.key) (present key row was_there) in
          let gone : contains_key now to ≡ false = was_not (contains_key now to) parts.1 in
          let weak = one.2.some (λ target. not target.is_strong && same_key target.key to) (and_from (not one.0.is_strong) (same_key to to) parts.0 (same_key-itself to)) in
          (to, gone_is_changed to was gone, was, none_there (get now to) gone, weak)

      by : (b : Bool) → changed key ≡ b → (changed key ≡ true) ⊎ HasGoneTarget schema before now changed (key, row)
      by true so = inl so
      by false so = inr (held (sym (beside key so) ∙ has))

  -- ---- limits

  module _ (name : List ℕ) (untouched : (id : Uuid) → changed (name, id) ≡ false) where
    abbrev is_of_table : LineKey → Bool
    is_of_table key = bytes_eq key.0 name

    is_of_table-tied : (q x : LineKey) → line_cmp q x ≡ Equal → is_of_table x ≡ is_of_table q
    is_of_table-tied q x tied = ap is_of_table (sym (key_exact q x tied))

    find-rows_of : (rows : Database) (q : LineKey) → find line_cmp q (rows_of name rows) ≡ cond (is_of_table q) (get rows q) None
    find-rows_of rows q =
        find-where_key line_cmp is_of_table q (is_of_table-tied q) (entries rows) ∙ ap (λ o. cond (is_of_table q) o None) (sym (get-entries rows q))

    rows_of_sorted : (rows : Database) → T (is_sorted line_cmp (rows_of name rows))
    rows_of_sorted rows = is_sorted-where_key line_cmp is_of_table (entries rows) (entries_sorted rows)

    same_row_of : (q : LineKey) → cond (is_of_table q) (get now q) None ≡ cond (is_of_table q) (get before q) None
    same_row_of q = by (is_of_table q) refl
      where
        by : (b : Bool) → is_of_table q ≡ b → cond b (get now q) None ≡ cond b (get before q) None
        by true at =
            let table : q.0 ≡ name = (bytes_eq-Decides q.0 name).0 at in
            beside q (ap (λ n. changed (n, q.1)) table ∙ untouched q.1)
        by false at = refl

    -- a table with no key that was changed has the rows that it had
    pub rows_of-same : rows_of name now ≡ rows_of name before
    rows_of-same =
        same_entries line_cmp key_total key_exact (rows_of name now) (rows_of name before) (rows_of_sorted now) (rows_of_sorted before)
        (λ q. find-rows_of now q ∙ same_row_of q ∙ sym (find-rows_of before q))

    -- so it has too many if it had too many
    pub has_too_many-same : (table : Table) → has_too_many now (name, table) ≡ has_too_many before (name, table)
    has_too_many-same table = ap (λ rs. is_some_and (λ most. int_lt most (pos (length rs))) table.max_rows) rows_of-same

    -- and two that are alike if it had two
    pub has_duplicates-same : (table : Table) → has_duplicates now (name, table) ≡ has_duplicates before (name, table)
    has_duplicates-same table = ap (λ rs. list_any (λ index. has_two_alike index rs) table.indexes) rows_of-same

  -- if no limit was broken, only a table with a key that was changed can break one
  pub over_limits_follows : (touched : List ℕ → Bool) → ((name : List ℕ) → touched name ≡ false → (id : Uuid) → changed (name, id) ≡ false) → is_over_limits schema before ≡ false
      → is_over_limits schema now ≡ (list_any (λ t. touched t.0 && has_too_many now t) (entries schema.tables) || list_any (λ t. touched t.0 && has_duplicates now t) (entries schema.tables))
  over_limits_follows touched untouched within =
      let parts = or_parts (list_any (has_too_many before) (entries schema.tables)) (list_any (has_duplicates before) (entries schema.tables)) within in
      let many = any_touched (λ t. touched t.0) (has_too_many before) (has_too_many now) (λ t at. has_too_many-same t.0 (untouched t.0 at) t.1) (entries schema.tables) parts.0 in
      let twice = any_touched (λ t. touched t.0) (has_duplicates before) (has_duplicates now) (λ t at. has_duplicates-same t.0 (untouched t.0 at) t.1) (entries schema.tables) parts.1 in
      λ i. many i || twice i
