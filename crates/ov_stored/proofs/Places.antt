-- Changes taken in the order of their keys: no key comes twice.
use Rattle.std.proofs.Common.{◌≡◌, ◌==◌, List, [], ◌∷◌, Bool, true, false, cond, T, Option, Some, None, is_some, refl, sym, ap, ◌∙◌}
use Rattle.std.specs.FinMap.{find, is_sorted, get, contains_key, entries, entries_sorted, get-entries, get-insert, get-remove, len, len-entries, same_map}
use Rattle.std.specs.FinMap.Entries.{below_all}
use Rattle.ov_specs.specs.rows.Database.{Database, Row}
use Rattle.ov_specs.specs.rows.Lines.{LineKey, line_cmp}
use Rattle.ov_specs.proofs.laws.LineKeys.{key_exact, key_total, tied_same}
use Rattle.ov_stored.specs.Changing.{Delta, applied, with_row_change, with_row_changes}
use Rattle.ov_stored.specs.Placing.{IsSameBeside}
use Rattle.ov_stored.proofs.Added.{same}
use Rattle.ov_specs.proofs.laws.Truths.{left_holds, right_holds, zero_is, not_tied}
use Rattle.std.proofs.lemmas.List.{nil_from_length}

abbrev pub Changes : Type 0
Changes = List (LineKey × Option Row)

-- what is below all keys is none of them
find-below : (k : LineKey) (es : Changes) → T (below_all line_cmp k es) → find line_cmp k es ≡ None
find-below k [] h = refl
find-below k (e ∷ es) h =
    ap (λ b. cond b (Some e.1) (find line_cmp k es)) (not_tied (line_cmp k e.0) (left_holds _ _ h)) ∙ find-below k es (right_holds _ _ h)

-- the first key doesn't come again
pub find-rest : (e : LineKey × Option Row) (es : Changes) → T (is_sorted line_cmp (e ∷ es)) → find line_cmp e.0 es ≡ None
find-rest e es h = find-below e.0 es (left_holds _ _ h)

pub sorted-rest : (e : LineKey × Option Row) (es : Changes) → T (is_sorted line_cmp (e ∷ es)) → T (is_sorted line_cmp es)
sorted-rest e es h = right_holds _ _ h

-- so a change found after it is at another key
pub apart : (e : LineKey × Option Row) (es : Changes) (q : LineKey) (c : Option Row) → T (is_sorted line_cmp (e ∷ es)) → find line_cmp q es ≡ Some c → same q e.0 ≡ false
apart e es q c h found = by_test (same q e.0) refl
  where
    by_test : (b : Bool) → same q e.0 ≡ b → b ≡ false
    by_test false is = refl
    by_test true is = absurd (no (find-rest e es h) (sym (ap (λ k. find line_cmp k es) (tied_same q e.0 is)) ∙ found))
      where
        no : find line_cmp e.0 es ≡ None → find line_cmp e.0 es ≡ Some c → ⊥
        no n s = cc

-- and is found in the whole as well
pub found-later : (e : LineKey × Option Row) (es : Changes) (q : LineKey) (c : Option Row) → T (is_sorted line_cmp (e ∷ es)) → find line_cmp q es ≡ Some c → find line_cmp q (e ∷ es) ≡ Some c
found-later e es q c h found = ap (λ b. cond b (Some e.1) (find line_cmp q es)) (apart e es q c h found) ∙ found

pub found-first : (e : LineKey × Option Row) (es : Changes) (q : LineKey) → same q e.0 ≡ true → find line_cmp q (e ∷ es) ≡ Some e.1
found-first e es q h = ap (λ b. cond b (Some e.1) (find line_cmp q es)) h

pub found-other : (e : LineKey × Option Row) (es : Changes) (q : LineKey) → same q e.0 ≡ false → find line_cmp q (e ∷ es) ≡ find line_cmp q es
found-other e es q h = ap (λ b. cond b (Some e.1) (find line_cmp q es)) h

-- ---- what stands at a key after changes

-- the change of a key, or else what stood there
abbrev pub or_before : Option (Option Row) → Option Row → Option Row
or_before (Some new) old = new
or_before None old = old

pub at_one : (k : LineKey) (o : Option Row) (db : Database) (q : LineKey) → get (with_row_change k o db) q ≡ cond (same q k) o (get db q)
at_one k (Some r) db q = get-insert key_total db k r q
at_one k None db q = get-remove key_total db k q

in_turn : (b : Bool) (new : Option Row) (rest : Option (Option Row)) (old : Option Row) → (b ≡ true → rest ≡ None) → or_before rest (cond b new old) ≡ or_before (cond b (Some new) rest) old
in_turn true new rest old h = rw (h refl) refl
in_turn false new rest old h = refl

pub get-with_changes : (cs : Changes) (db : Database) (q : LineKey) → T (is_sorted line_cmp cs) → get (with_row_changes cs db) q ≡ or_before (find line_cmp q cs) (get db q)
get-with_changes [] db q h = refl
get-with_changes (c ∷ cs) db q h =
    get-with_changes cs (with_row_change c.0 c.1 db) q (right_holds _ _ h) ∙ ap (or_before (find line_cmp q cs)) (at_one c.0 c.1 db q)
    ∙ in_turn (same q c.0) c.1 (find line_cmp q cs) (get db q) (λ is. ap (λ k. find line_cmp k cs) (tied_same q c.0 is) ∙ find-rest c cs h)

-- what the delta leaves at a key
pub get-applied : (delta : Delta) (db : Database) (q : LineKey) → get (applied delta db) q ≡ or_before (get delta q) (get db q)
get-applied delta db q = get-with_changes (entries delta) db q (entries_sorted delta) ∙ ap (λ o. or_before o (get db q)) (sym (get-entries delta q))

-- two databases that differ at changed keys alone are one after the changes
pub applied-same : (delta : Delta) (a b : Database) → IsSameBeside delta a b → applied delta b ≡ applied delta a
applied-same delta a b beside = same_map key_total key_exact _ _ (λ q. get-applied delta b q ∙ by_change q (get delta q) refl ∙ sym (get-applied delta a q))
  where
    by_change : (q : LineKey) (o : Option (Option Row)) → get delta q ≡ o → or_before o (get b q) ≡ or_before o (get a q)
    by_change q (Some new) is = refl
    by_change q None is = beside q is

-- ---- places are made, change by change

-- a key that isn't changed is not the next one
pub not-next : (all rest later : Changes) (e : LineKey × Option Row) (q : LineKey) → rest ≡ e ∷ later → ((c : Option Row) → find line_cmp q rest ≡ Some c → find line_cmp q all ≡ Some c) → find line_cmp q all ≡ None
    → same q e.0 ≡ false
not-next all rest later e q is inside none = by_test (same q e.0) refl
  where
    no : (c : Option Row) → find line_cmp q all ≡ None → find line_cmp q all ≡ Some c → ⊥
    no c n s = cc

    by_test : (b : Bool) → same q e.0 ≡ b → b ≡ false
    by_test false tied = refl
    by_test true tied = absurd (no e.1 none (inside e.1 (ap (find line_cmp q) is ∙ found-first e later q tied)))

pub not-there : (db db' : Database) (q : LineKey) → (contains_key db q ≡ true → contains_key db' q ≡ true) → contains_key db' q ≡ false → contains_key db q ≡ false
not-there db db' q stays absent = by_test (contains_key db q) refl
  where
    no : contains_key db' q ≡ false → contains_key db' q ≡ true → ⊥
    no a b = cc

    by_test : (b : Bool) → contains_key db q ≡ b → b ≡ false
    by_test false is = refl
    by_test true is = absurd (no absent (stays is))

-- what has no row yet comes later
pub left-later : (rest later : Changes) (e : LineKey × Option Row) (q : LineKey) (r : Row) (db : Database) → rest ≡ e ∷ later → (is_some e.1 ≡ true → contains_key db e.0 ≡ true) → contains_key db q ≡ false
    → find line_cmp q rest ≡ Some (Some r) → find line_cmp q later ≡ Some (Some r)
left-later rest later e q r db is placed absent found = by_test (same q e.0) refl
  where
    whole : find line_cmp q (e ∷ later) ≡ Some (Some r)
    whole = sym (ap (find line_cmp q) is) ∙ found

    gives : (o : Option Row) → Some o ≡ Some (Some r) → is_some o ≡ true
    gives (Some s) h = refl
    gives None h = cc

    no : contains_key db q ≡ false → contains_key db q ≡ true → ⊥
    no a b = cc

    by_test : (b : Bool) → same q e.0 ≡ b → find line_cmp q later ≡ Some (Some r)
    by_test false tied = sym (found-other e later q tied) ∙ whole
    by_test true tied = absurd (no absent (ap (contains_key db) (tied_same q e.0 tied) ∙ placed (gives e.1 (sym (found-first e later q tied) ∙ whole))))

-- ---- changes are made, one by one

pub row-stays : (k : LineKey) (o : Option Row) (db : Database) (q : LineKey) → same q k ≡ false → contains_key (with_row_change k o db) q ≡ contains_key db q
row-stays k o db q tied = ap is_some (at_one k o db q ∙ ap (λ b. cond b o (get db q)) tied)

-- a change of a key without a place is a removal
pub no-place : (o : Option Row) (db : Database) (k : LineKey) → ((r : Row) → o ≡ Some r → contains_key db k ≡ true) → contains_key db k ≡ false → o ≡ None
no-place None db k placed absent = refl
no-place (Some r) db k placed absent = absurd (no absent (placed r refl))
  where
    no : contains_key db k ≡ false → contains_key db k ≡ true → ⊥
    no a b = cc

-- no change is left for which there is no place
pub all-placed : (rest : Changes) (db : Database) (q : LineKey) (r : Row) → rest ≡ [] → (contains_key db q ≡ false → find line_cmp q rest ≡ Some (Some r)) → contains_key db q ≡ true
all-placed rest db q r none left = by_test (contains_key db q) refl
  where
    no : None ≡ Some (Some r) → ⊥
    no e = cc

    by_test : (b : Bool) → contains_key db q ≡ b → b ≡ true
    by_test true is = refl
    by_test false is = absurd (no (ap (find line_cmp q) (sym none) ∙ left is))

-- without a change nothing is changed
pub applied-none : (delta : Delta) (db : Database) → (len delta == 0) ≡ true → applied delta db ≡ db
applied-none delta db h = ap (λ cs. with_row_changes cs db) (nil_from_length (entries delta) (sym (len-entries delta) ∙ zero_is (len delta) h))
