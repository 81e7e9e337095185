-- What is known of the changes of a transaction once they are collected.
use Rattle.std.proofs.Common.{◌≡◌, List, [], ◌∷◌, Bool, true, false, cond, T, ◌&&◌, ◌||◌, Option, Some, None, is_some, refl, sym, ap, ◌∙◌}
use Rattle.std.specs.FinMap.{find, is_sorted, empty, get, contains_key, insert, entries, entries_sorted, get-entries, get-empty, get-insert}
use Rattle.std.specs.List.{list_any}
use Rattle.std.specs.Ordering.{eq_by_cmp}
use Rattle.ov_specs.specs.integrity.References.{Target, row_targets, refers_strongly}
use Rattle.ov_specs.specs.rows.Database.{Row, Database, same_key}
use Rattle.ov_specs.specs.rows.Lines.{LineKey, line_cmp}
use Rattle.ov_specs.specs.schema.Schema.{is_some_and}
use Rattle.ov_specs.specs.schema.SchemaTypes.{Schema}
use Rattle.ov_specs.proofs.laws.LineKeys.{key_total, tied_same, same_key-tied}
use Rattle.ov_stored.specs.Changing.{Delta, applied}
use Rattle.ov_stored.proofs.Places.{find-rest, sorted-rest, or_before, get-applied}
use Rattle.ov_refs.specs.Holding.{KeySet, Holders, is_holder, with_holder}
use Rattle.ov_refs.specs.Linking.{Links, is_strong_in, with_target, with_targets}
use Rattle.ov_refs.proofs.Collecting.{strong-targets}
use Rattle.ov_support.specs.Changes.{Changes, AreChanges, with_strong, with_strong_ones, with_changed_key, with_changed_row}

-- with each of these changes
abbrev pub with_changes : Schema → List (LineKey × Option Row) → Changes → Changes
with_changes schema [] changes = changes
with_changes schema (e ∷ es) changes = with_changes schema es (with_changed_row schema e changes)

-- ---- truth

or_false : (b : Bool) → b ≡ (b || false)
or_false true = refl
or_false false = refl

or_three : (a b c : Bool) → ((a || b) || c) ≡ (a || (b || c))
or_three true b c = refl
or_three false b c = refl

nothing_more : (a s : Bool) → a ≡ (a || (s && false))
nothing_more true s = refl
nothing_more false true = refl
nothing_more false false = refl

and_true : (b : Bool) → b ≡ (b && true)
and_true true = refl
and_true false = refl

given_or : (b : Bool) (o : Option (Unit {0})) → is_some (cond b (Some tt) o) ≡ (is_some o || b)
given_or true None = refl
given_or true (Some tt) = refl
given_or false None = refl
given_or false (Some tt) = refl

given : {A : Type 0} (o : Option A) → is_some_and (λ x. true) o ≡ is_some o
given None = refl
given (Some x) = refl

is_none : {A : Type 0} (o : Option A) → is_some o ≡ false → o ≡ None
is_none None h = refl
is_none (Some x) h = cc

-- ---- the keys

keys-strong : (from : LineKey) (target : Target) (changes : Changes) → (with_strong from target changes).keys ≡ changes.keys
keys-strong from target changes = by target.is_strong
  where
    by : (b : Bool) → (cond b (record changes { strong = with_holder target.key from changes.strong }) changes).keys ≡ changes.keys
    by true = refl
    by false = refl

keys-strong_ones : (from : LineKey) (targets : List Target) (changes : Changes) → (with_strong_ones from targets changes).keys ≡ changes.keys
keys-strong_ones from [] changes = refl
keys-strong_ones from (target ∷ targets) changes = keys-strong_ones from targets (with_strong from target changes) ∙ keys-strong from target changes

keys-change : (schema : Schema) (e : LineKey × Option Row) (changes : Changes) → (with_changed_row schema e changes).keys ≡ insert changes.keys e.0 tt
keys-change schema (key, None) changes = refl
keys-change schema (key, Some row) changes = keys-strong_ones key (row_targets schema (key, row)) (with_changed_key key changes)

contains-insert : (set : KeySet) (key q : LineKey) → contains_key (insert set key tt) q ≡ (contains_key set q || same_key q key)
contains-insert set key q =
    ap is_some (get-insert key_total set key tt q) ∙ given_or (eq_by_cmp line_cmp q key) (get set q) ∙ ap (λ b. contains_key set q || b) (sym (same_key-tied q key))

contains-changes : (schema : Schema) (es : List (LineKey × Option Row)) (changes : Changes) (q : LineKey)
    → contains_key (with_changes schema es changes).keys q ≡ (contains_key changes.keys q || list_any (λ e. same_key q e.0 && true) es)
contains-changes schema [] changes q = or_false (contains_key changes.keys q)
contains-changes schema (e ∷ es) changes q =
    let later = list_any (λ (x : LineKey × Option Row). same_key q x.0 && true) es in
    contains-changes schema es (with_changed_row schema e changes) q
    ∙ ap (λ b. b || later) (ap (λ (set : KeySet). contains_key set q) (keys-change schema e changes) ∙ contains-insert changes.keys e.0 q ∙ ap (λ b. contains_key changes.keys q || b) (and_true (same_key q e.0)))
    ∙ or_three (contains_key changes.keys q) (same_key q e.0 && true) later

-- ---- who refers strongly

strong-one : (by : LineKey) (target : Target) (changes : Changes) (links : Links) → links.strong ≡ changes.strong → (with_target by target links).strong ≡ (with_strong by target changes).strong
strong-one by target changes links same = turn target.is_strong
  where
    turn : (b : Bool) → (cond b (record links { strong = with_holder target.key by links.strong }) (record links { weak = with_holder target.key by links.weak })).strong
        ≡ (cond b (record changes { strong = with_holder target.key by changes.strong }) changes).strong
    turn true = ap (with_holder target.key by) same
    turn false = same

strong-ones : (by : LineKey) (targets : List Target) (changes : Changes) (links : Links) → links.strong ≡ changes.strong → (with_strong_ones by targets changes).strong ≡ (with_targets by targets links).strong
strong-ones by [] changes links same = sym same
strong-ones by (target ∷ targets) changes links same =
    strong-ones by targets (with_strong by target changes) (with_target by target links) (strong-one by target changes links same)

module _ (schema : Schema) (to from : LineKey) where
  -- the change puts a row that refers strongly to the row
  abbrev puts_strong : LineKey × Option Row → Bool
  puts_strong e = is_some_and (λ row. refers_strongly schema (e.0, row) to) e.1

  strong-change : (e : LineKey × Option Row) (changes : Changes)
      → is_holder (with_changed_row schema e changes).strong to from ≡ (is_holder changes.strong to from || (same_key from e.0 && puts_strong e))
  strong-change (key, None) changes = nothing_more (is_holder changes.strong to from) (same_key from key)
  strong-change (key, Some row) changes =
      let links : Links = record { strong = changes.strong; weak = changes.strong } in
      ap (λ (holders : Holders). is_holder holders to from) (strong-ones key (row_targets schema (key, row)) (with_changed_key key changes) links refl)
      ∙ strong-targets to from key (row_targets schema (key, row)) links

  strong-changes : (es : List (LineKey × Option Row)) (changes : Changes)
      → is_holder (with_changes schema es changes).strong to from ≡ (is_holder changes.strong to from || list_any (λ e. same_key from e.0 && puts_strong e) es)
  strong-changes [] changes = or_false (is_holder changes.strong to from)
  strong-changes (e ∷ es) changes =
      let later = list_any (λ (x : LineKey × Option Row). same_key from x.0 && puts_strong x) es in
      strong-changes es (with_changed_row schema e changes) ∙ ap (λ b. b || later) (strong-change e changes)
      ∙ or_three (is_holder changes.strong to from) (same_key from e.0 && puts_strong e) later

-- ---- the change of a key

change_at : (q : LineKey) (test : LineKey × Option Row → Bool) (es : List (LineKey × Option Row)) → T (is_sorted line_cmp es)
    → list_any (λ e. same_key q e.0 && test e) es ≡ is_some_and (λ change. test (q, change)) (find line_cmp q es)
change_at q test [] h = refl
change_at q test (e ∷ es) h =
    ap (λ b. (b && test e) || list_any (λ (x : LineKey × Option Row). same_key q x.0 && test x) es) (same_key-tied q e.0) ∙ turn (change_at q test es (sorted-rest e es h)) (eq_by_cmp line_cmp q e.0) refl
  where
    turn : list_any (λ (x : LineKey × Option Row). same_key q x.0 && test x) es ≡ is_some_and (λ change. test (q, change)) (find line_cmp q es) → (b : Bool) → eq_by_cmp line_cmp q e.0 ≡ b
        → ((b && test e) || list_any (λ (x : LineKey × Option Row). same_key q x.0 && test x) es) ≡ is_some_and (λ change. test (q, change)) (cond b (Some e.1) (find line_cmp q es))
    turn others true is =
        let same : q ≡ e.0 = tied_same q e.0 is in
        let none : find line_cmp q es ≡ None = ap (λ k. find line_cmp k es) same ∙ find-rest e es h in
        let nobody = others ∙ ap (is_some_and (λ (change : Option Row). test (q, change))) none in
        (λ i. test (sym same i, e.1) || nobody i) ∙ sym (or_false (test (q, e.1)))
    turn others false is = others

change_in : (q : LineKey) (test : LineKey × Option Row → Bool) (delta : Delta) → list_any (λ e. same_key q e.0 && test e) (entries delta) ≡ is_some_and (λ change. test (q, change)) (get delta q)
change_in q test delta = change_at q test (entries delta) (entries_sorted delta) ∙ ap (is_some_and (λ (change : Option Row). test (q, change))) (sym (get-entries delta q))

-- ---- all of them

-- what was collected of all changes of a delta are the changes
pub changes_are : (schema : Schema) (before now : Database) (delta : Delta) (none changes : Changes) → none.keys ≡ empty → none.strong ≡ empty → applied delta before ≡ now
    → changes ≡ with_changes schema (entries delta) none → AreChanges schema before now changes
changes_are schema before now delta none changes no_keys no_strong made are = record {
  beside = λ key unchanged. stands key ∙ ap (λ o. or_before o (get before key)) (is_none (get delta key) (sym (has key) ∙ unchanged));
  strong = λ to from.
      holds to from ∙ by to from (get delta from) refl ∙ ap (λ b. b && is_strong_in schema now to from) (sym (has from));
}
  where
    stands : (key : LineKey) → get now key ≡ or_before (get delta key) (get before key)
    stands key = ap (λ (rows : Database). get rows key) (sym made) ∙ get-applied delta before key

    has : (key : LineKey) → contains_key changes.keys key ≡ is_some (get delta key)
    has key =
        ap (λ (c : Changes). contains_key c.keys key) are ∙ contains-changes schema (entries delta) none key
        ∙ (λ i. (ap (λ (set : KeySet). contains_key set key) no_keys ∙ ap is_some (get-empty line_cmp key)) i || (change_in key (λ e. true) delta ∙ given (get delta key)) i)

    holds : (to from : LineKey) → is_holder changes.strong to from ≡ is_some_and (λ change. puts_strong schema to from (from, change)) (get delta from)
    holds to from =
        ap (λ (c : Changes). is_holder c.strong to from) are ∙ strong-changes schema to from (entries delta) none
        ∙ (λ i. (ap (λ (h : Holders). is_holder h to from) no_strong ∙ ap (is_some_and (λ (set : KeySet). contains_key set from)) (get-empty line_cmp to)) i || change_in from (puts_strong schema to from) delta i)

    by : (to from : LineKey) (o : Option (Option Row)) → get delta from ≡ o → is_some_and (λ change. puts_strong schema to from (from, change)) o ≡ (is_some o && is_strong_in schema now to from)
    by to from None is = refl
    by to from (Some change) is =
        ap (is_some_and (λ (row : Row). refers_strongly schema (from, row) to)) (sym (stands from ∙ ap (λ o. or_before o (get before from)) is))
