-- The rows of a transaction: those before it, with its changes.
use Rattle.std.proofs.Common.{◌≡◌, ◌==◌, ℕ, Bool, true, false, cond, Option, Some, None, is_some, refl, sym, ap, ◌∙◌, arith}
use Rattle.std.proofs.lemmas.Bool.{false≢true}
use Rattle.std.proofs.lemmas.Bool.Decides.{nat_tests}
use Rattle.std.proofs.lemmas.Option.{same_Some}
use Rattle.std.specs.FinMap.{contains_key, empty, empty_of_len, entries, get, get-empty, get-insert, get-remove, insert, len, len-empty, remove, same_map}
use Rattle.ov_specs.specs.rows.Database.{Columns, Database, Row, same_database}
use Rattle.ov_specs.specs.rows.Lines.{LineKey, line_cmp}
use Rattle.ov_specs.specs.rows.Version.{row_now, version_over}
use Rattle.ov_specs.specs.values.Uuid.{Uuid}
use Rattle.ov_specs.proofs.laws.LineKeys.{key_exact, key_total, tied_same}
use Rattle.ov_specs.proofs.laws.Sameness.{columns-same, row_now-former}
use Rattle.ov_stored.specs.Changing.{Delta, applied, with_row_change}
use Rattle.ov_stored.proofs.Added.{same}
use Rattle.ov_stored.proofs.Places.{at_one, get-applied, or_before}
use Rattle.ov_stored.proofs.Same.{database-same}
use Rattle.ov_stage.specs.Staging.{Differs, has_columns}
use Rattle.ov_projection.proofs.SameRows.{columns-is, database-is}

-- ---- what is at a key

pub row_changed : (delta : Delta) (db : Database) (key : LineKey) (change : Option Row) → get delta key ≡ Some change → change ≡ get (applied delta db) key
row_changed delta db key change is = sym (get-applied delta db key ∙ ap (λ o. or_before o (get db key)) is)

pub row_unchanged : (delta : Delta) (db : Database) (key : LineKey) → get delta key ≡ None → get db key ≡ get (applied delta db) key
row_unchanged delta db key is = sym (get-applied delta db key ∙ ap (λ o. or_before o (get db key)) is)

pub changed_here : (delta : Delta) (db : Database) (key : LineKey) (change : Option Row) → get delta key ≡ Some change → is_some change ≡ contains_key (applied delta db) key
changed_here delta db key change is = ap is_some (row_changed delta db key change is)

pub unchanged_here : (delta : Delta) (db : Database) (key : LineKey) → get delta key ≡ None → contains_key db key ≡ contains_key (applied delta db) key
unchanged_here delta db key is = ap is_some (row_unchanged delta db key is)

-- ---- without changes

pub applied-empty : (db : Database) → applied empty db ≡ db
applied-empty db = same_map key_total key_exact _ _ (λ q. get-applied empty db q ∙ ap (λ o. or_before o (get db q)) (get-empty line_cmp q))

pub applied-none : (delta : Delta) (db : Database) → len delta ≡ 0 → applied delta db ≡ db
applied-none delta db none = ap (λ (d : Delta). applied d db) (empty_of_len delta none) ∙ applied-empty db

-- ---- one more change, and one taken back

put_over : (b : Bool) (new : Option Row) (change : Option (Option Row)) (old : Option Row) → or_before (cond b (Some new) change) old ≡ cond b new (or_before change old)
put_over true new change old = refl
put_over false new change old = refl

pub applied-insert : (delta : Delta) (db : Database) (key : LineKey) (new : Option Row) → applied (insert delta key new) db ≡ with_row_change key new (applied delta db)
applied-insert delta db key new = same_map key_total key_exact _ _ (λ q.
    get-applied (insert delta key new) db q ∙ ap (λ o. or_before o (get db q)) (get-insert key_total delta key new q)
    ∙ put_over (same q key) new (get delta q) (get db q)
    ∙ sym (at_one key new (applied delta db) q ∙ ap (cond (same q key) new) (get-applied delta db q)))

taken_back : (b : Bool) (change : Option (Option Row)) (old : Option Row) → or_before (cond b None change) old ≡ cond b old (or_before change old)
taken_back true change old = refl
taken_back false change old = refl

-- if a change is taken back, its key is as before again
pub applied-remove : (delta : Delta) (db : Database) (key : LineKey) (old : Option Row) → get db key ≡ old → applied (remove delta key) db ≡ with_row_change key old (applied delta db)
applied-remove delta db key old is = same_map key_total key_exact _ _ (λ q.
    get-applied (remove delta key) db q ∙ ap (λ o. or_before o (get db q)) (get-remove key_total delta key q)
    ∙ taken_back (same q key) (get delta q) (get db q)
    ∙ stood (same q key) q (or_before (get delta q) (get db q)) refl
    ∙ sym (at_one key old (applied delta db) q ∙ ap (cond (same q key) old) (get-applied delta db q)))
  where
    stood : (b : Bool) (q : LineKey) (other : Option Row) → same q key ≡ b → cond b (get db q) other ≡ cond b old other
    stood true q other tied = ap (get db) (tied_same q key tied) ∙ is
    stood false q other tied = refl

-- ---- no change leaves its key as it was before

nothing_is : {A : Type 0} (a : A) → None ≡ Some a → ⊥
nothing_is a e = cc

pub differs-empty : (db : Database) → Differs empty db
differs-empty db key change is stays = nothing_is change (sym (get-empty line_cmp key) ∙ is)

pub differs-insert : (delta : Delta) (db : Database) (key : LineKey) (new : Option Row) → Differs delta db → (new ≡ get db key → ⊥) → Differs (insert delta key new) db
differs-insert delta db key new differs changes q change is = by (same q key) refl (sym (get-insert key_total delta key new q) ∙ is)
  where
    by : (b : Bool) → same q key ≡ b → cond b (Some new) (get delta q) ≡ Some change → change ≡ get db q → ⊥
    by true tied here stays = changes (same_Some new change here ∙ stays ∙ ap (get db) (tied_same q key tied))
    by false tied here stays = differs q change here stays

pub differs-remove : (delta : Delta) (db : Database) (key : LineKey) → Differs delta db → Differs (remove delta key) db
differs-remove delta db key differs q change is = by (same q key) (sym (get-remove key_total delta key q) ∙ is)
  where
    by : (b : Bool) → cond b None (get delta q) ≡ Some change → change ≡ get db q → ⊥
    by true here stays = nothing_is change here
    by false here stays = differs q change here stays

-- so if nothing differs, there is no change
unchanged : (delta : Delta) (db : Database) → Differs delta db → db ≡ applied delta db → delta ≡ empty
unchanged delta db differs stays = same_map key_total key_exact _ _ (λ q. none q (get delta q) refl ∙ sym (get-empty line_cmp q))
  where
    none : (q : LineKey) (o : Option (Option Row)) → get delta q ≡ o → get delta q ≡ None
    none q None is = is
    none q (Some change) is = absurd (differs q change is (sym (get-applied delta db q ∙ ap (λ o. or_before o (get db q)) is) ∙ sym (ap (λ (d : Database). get d q) stays)))

-- there are no changes exactly if the rows are the same
pub least : (delta : Delta) (db : Database) → Differs delta db → (len delta == 0) ≡ same_database db (applied delta db)
least delta db differs = by_test (same_database db (applied delta db)) (len delta) refl refl
  where
    by_test : (b : Bool) (n : ℕ) → same_database db (applied delta db) ≡ b → len delta ≡ n → (n == 0) ≡ b
    by_test true n is many = zero n (sym many ∙ ap (λ (d : Delta). len d) (unchanged delta db differs (database-is db (applied delta db) is)) ∙ len-empty line_cmp (Option Row))
      where
        zero : (n : ℕ) → n ≡ 0 → (n == 0) ≡ true
        zero n none = grind (arith, nat_tests, none)
    by_test false n is many = apart n (λ none. false≢true (sym is ∙ ap (same_database db) (applied-none delta db (many ∙ none)) ∙ database-same db))
      where
        apart : (n : ℕ) → (n ≡ 0 → ⊥) → (n == 0) ≡ false
        apart n never = grind (arith, nat_tests, never)

pub least-empty : (db : Database) → (len (empty {X = Option Row} {R = line_cmp}) == 0) ≡ same_database db db
least-empty db = least empty db (differs-empty db) ∙ ap (same_database db) (applied-empty db)

-- ---- a row that is as before, and one that is not

-- a row of the columns that were at the key is the one that was there
pub former_is : (db : Database) (version : Uuid) (key : LineKey) (columns : Columns) → has_columns columns (get db key) ≡ true → get db key ≡ Some (row_now db version key columns)
former_is db version key columns h = by (get db key) refl h
  where
    by : (o : Option Row) → get db key ≡ o → has_columns columns o ≡ true → get db key ≡ Some (row_now db version key columns)
    by None is h = absurd (false≢true h)
    by (Some row) is h = is ∙ ap Some (sym (row_now-former db version key row is) ∙ ap (row_now db version key) (columns-is row.columns columns h))

-- a row of other columns has the version of the transaction
pub changed_is : (db : Database) (version : Uuid) (key : LineKey) (columns : Columns) → has_columns columns (get db key) ≡ false → row_now db version key columns ≡ record { version = version; columns = columns }
changed_is db version key columns h = by (get db key) refl h
  where
    with : Uuid → Row
    with v = record { version = v; columns = columns }

    by : (o : Option Row) → get db key ≡ o → has_columns columns o ≡ false → row_now db version key columns ≡ with version
    by None is h = ap (λ o. with (version_over o version columns)) is
    by (Some row) is h = ap (λ o. with (version_over o version columns)) is ∙ (rw h refl)

-- and is not one that was there
pub changed_differs : (db : Database) (version : Uuid) (key : LineKey) (columns : Columns) → has_columns columns (get db key) ≡ false → Some (record { version = version; columns = columns }) ≡ get db key → ⊥
changed_differs db version key columns h e = false≢true (sym h ∙ ap (has_columns columns) (sym e) ∙ columns-same (entries columns))

-- ---- a row that is removed

pub removed_differs : (db : Database) (key : LineKey) → contains_key db key ≡ true → None ≡ get db key → ⊥
removed_differs db key h e = false≢true (ap is_some e ∙ h)
