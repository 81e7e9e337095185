-- Lists of rows, as the map that they make.
use Rattle.std.proofs.Common.{◌≡◌, ℕ, List, [], ◌∷◌, ◌++◌, map, reverse, filter, Bool, true, false, not, cond, Some, None, refl, sym, ap, ◌∙◌, ◌+◌, ◌<◌, length, take, get_or, add-one, arith}
use Rattle.std.specs.Ordering.{eq_by_cmp}
use Rattle.std.specs.Cmp.{eq_by_cmp_equiv}
use Rattle.std.specs.FinMap.{FinMap, empty, find, get, insert, remove, from_entries, entries, get-entries, get-from_entries, get-insert, get-remove, same_map, from_entries_push}
use Rattle.std.specs.Map.{lookup}
use Rattle.std.proofs.lemmas.List.{map-append, reverse-append}
use Rattle.std.proofs.lemmas.List.Sums.{sum_by-append}
use Rattle.std.proofs.lemmas.Map.Entries.{lookup-filter-keys}
use Rattle.std.proofs.Math.Seq.{take-suc}
use Rattle.ov_specs.specs.rows.Cells.{CellChange, CellLines, InCells, after_cell_change, after_cell_changes, rewritten}
use Rattle.ov_specs.specs.rows.Cells as cells
use Rattle.ov_specs.specs.rows.Lines.{LineKey, line_cmp}
use Rattle.ov_keeper.specs.declared.change.Change.{Change}
use Rattle.ov_keeper.specs.declared.cell_line.CellLine.{CellLine}
use Rattle.ov_keeper.specs.Keeping.{changed}
use Rattle.ov_keeper.specs.LineMap.{is_put, room_for}
use Rattle.ov_keeper.specs.ListKeeper.{lines_of}
use Rattle.ov_keeper.specs.Views.{change_view, changes_view, cell_line_entry}
use Rattle.ov_specs.proofs.laws.LineKeys.{key_exact, key_total, tied_same, same_tied}
use Rattle.ov_specs.proofs.laws.Truths.{cond-not}

pub find_lookup : {V : Type 0} (entries : List (LineKey × V)) (q : LineKey) → find line_cmp q entries ≡ lookup (eq_by_cmp line_cmp q) entries
find_lookup [] q = refl
find_lookup (e ∷ entries) q = ap (cond (eq_by_cmp line_cmp q e.0) (Some e.1)) (find_lookup entries q)

pub passes : (k q x : LineKey) → eq_by_cmp line_cmp q x ≡ true → not (eq_by_cmp line_cmp k x) ≡ not (eq_by_cmp line_cmp q k)
passes k q x h = ap not (ap (eq_by_cmp line_cmp k) (sym (tied_same q x h)) ∙ (eq_by_cmp_equiv key_total).symm k q)

pub find_filter : {V : Type 0} (entries : List (LineKey × V)) (k q : LineKey) → find line_cmp q (filter (λ e. not (eq_by_cmp line_cmp k e.0)) entries) ≡ cond (eq_by_cmp line_cmp q k) None (find line_cmp q entries)
find_filter entries k q =
    find_lookup _ q ∙ lookup-filter-keys (eq_by_cmp line_cmp q) (λ x. not (eq_by_cmp line_cmp k x)) _ (passes k q) entries
    ∙ cond-not (eq_by_cmp line_cmp q k) _ _ ∙ ap (cond (eq_by_cmp line_cmp q k) None) (sym (find_lookup entries q))

pub from_entries-filter : {V : Type 0} (entries : List (LineKey × V)) (k : LineKey) → from_entries {R = line_cmp} (filter (λ e. not (eq_by_cmp line_cmp k e.0)) entries) ≡ remove (from_entries entries) k
from_entries-filter entries k = same_map key_total key_exact _ _ (λ q.
    get-from_entries key_total _ q ∙ find_filter entries k q ∙ sym (get-remove key_total (from_entries entries) k q ∙ ap (cond (eq_by_cmp line_cmp q k) None) (get-from_entries key_total entries q)))

map-filter : (k : LineKey) (lines : List CellLine) → map cell_line_entry (filter (λ line. not (eq_by_cmp line_cmp k (cell_line_entry line).0)) lines) ≡ filter (λ e. not (eq_by_cmp line_cmp k e.0)) (map cell_line_entry lines)
map-filter k [] = refl
map-filter k (line ∷ lines) = kept (not (eq_by_cmp line_cmp k (cell_line_entry line).0)) _ _ (map-filter k lines)
  where
    kept : (b : Bool) (rest : List CellLine) (entries : List (LineKey × cells.CellLine)) → map cell_line_entry rest ≡ entries → map cell_line_entry (cond b (line ∷ rest) rest) ≡ cond b (cell_line_entry line ∷ entries) entries
    kept true rest entries e = ap (λ es. cell_line_entry line ∷ es) e
    kept false rest entries e = e

-- the rows without one key
pub lines_of-filter : (k : LineKey) (lines : List CellLine) → lines_of (filter (λ line. not (eq_by_cmp line_cmp k (cell_line_entry line).0)) lines) ≡ remove (lines_of lines) k
lines_of-filter k lines = ap from_entries (map-filter k lines) ∙ from_entries-filter (map cell_line_entry lines) k

pub not_found : {V : Type 0} (m : FinMap line_cmp V) (k : LineKey) → get (remove m k) k ≡ None
not_found m k = get-remove key_total m k k ∙ rw (same_tied k k refl) refl

pub insert-remove : {V : Type 0} (m : FinMap line_cmp V) (k : LineKey) (v : V) → insert (remove m k) k v ≡ insert m k v
insert-remove m k v = same_map key_total key_exact _ _ (λ q.
    get-insert key_total (remove m k) k v q ∙ covered (eq_by_cmp line_cmp q k) (Some v) _ _ _ (get-remove key_total m k q) ∙ sym (get-insert key_total m k v q))
  where
    covered : {A : Type 0} (b : Bool) (x y z w : A) → y ≡ cond b w z → cond b x y ≡ cond b x z
    covered true x y z w e = refl
    covered false x y z w e = e

-- a row put at the end of those without its key
pub lines_of-push : (lines : List CellLine) (line : CellLine) (m : CellLines) → lines_of lines ≡ remove m (cell_line_entry line).0 → lines_of (lines ++ line ∷ []) ≡ insert m (cell_line_entry line).0 (cell_line_entry line).1
lines_of-push lines line m without =
    let k = (cell_line_entry line).0 in
    let new : find line_cmp k (map cell_line_entry lines) ≡ None = sym (get-from_entries key_total (map cell_line_entry lines) k) ∙ ap (λ (n : CellLines). get n k) without ∙ not_found m k in
    ap from_entries (map-append cell_line_entry lines (line ∷ [])) ∙ from_entries_push key_total key_exact (map cell_line_entry lines) k (cell_line_entry line).1 new
    ∙ ap (λ (n : CellLines). insert n k (cell_line_entry line).1) without ∙ insert-remove m k (cell_line_entry line).1

-- the same of a copy of the row
pub lines_of-copy : (lines : List CellLine) (copy line : CellLine) (m : CellLines) → cell_line_entry copy ≡ cell_line_entry line → lines_of lines ≡ remove m (cell_line_entry line).0 → lines_of (lines ++ copy ∷ []) ≡ insert m (cell_line_entry line).0 (cell_line_entry line).1
lines_of-copy lines copy line m same without =
    lines_of-push lines copy m (without ∙ ap (λ (e : LineKey × cells.CellLine). remove m e.0) (sym same))
    ∙ ap (λ (e : LineKey × cells.CellLine). insert m e.0 e.1) same

-- the entries of a map make it again
pub from_entries-entries : {V : Type 0} (m : FinMap line_cmp V) → from_entries (entries m) ≡ m
from_entries-entries m = same_map key_total key_exact _ _ (λ q. get-from_entries key_total (entries m) q ∙ sym (get-entries m q))

-- two runs are one
pub after_cell_changes-append : (xs ys : List CellChange) (m : CellLines) → after_cell_changes (xs ++ ys) m ≡ after_cell_changes ys (after_cell_changes xs m)
after_cell_changes-append [] ys m = refl
after_cell_changes-append (x ∷ xs) ys m = after_cell_changes-append xs ys (after_cell_change x m)

pub rewritten-append : (schema : List ℕ) (xs ys : List CellChange) → rewritten schema (xs ++ ys) ≡ changed ys (rewritten schema xs)
rewritten-append schema xs ys = λ i. record { schema = schema; lines = InCells (after_cell_changes-append xs ys empty i) }

-- one change more
pub after_cell_changes-take : {X : Type 0} (f : X → CellChange) (xs : List X) (i : ℕ) (x : X) (m : CellLines) → i < length xs → x ≡ get_or xs i x → after_cell_changes (map f (take (i + 1) xs)) m ≡ after_cell_change (f x) (after_cell_changes (map f (take i xs)) m)
after_cell_changes-take f xs i x m h e =
    rw add-one (ap (λ ys. after_cell_changes (map f ys) m) (take-suc xs i x h)
    ∙ ap (λ ys. after_cell_changes ys m) (map-append f (take i xs) (get_or xs i x ∷ []))
    ∙ after_cell_changes-append (map f (take i xs)) (f (get_or xs i x) ∷ []) m
    ∙ ap (λ y. after_cell_change (f y) (after_cell_changes (map f (take i xs)) m)) (sym e))

-- the last of the reversed changes is made first
pub after_cell_changes-reverse : (xs : List Change) (x : Change) (all : List Change) (m : CellLines) → all ≡ xs ++ x ∷ [] → after_cell_changes (changes_view (reverse all)) m ≡ after_cell_changes (changes_view (reverse xs)) (after_cell_change (change_view x) m)
after_cell_changes-reverse xs x all m is = ap (λ ys. after_cell_changes (changes_view (reverse ys)) m) is ∙ ap (λ ys. after_cell_changes (changes_view ys) m) (reverse-append xs (x ∷ []))

pub room_for-push : (xs : List Change) (x : Change) (all : List Change) → all ≡ xs ++ x ∷ [] → room_for (changes_view all) ≡ room_for (changes_view xs) + room_for (change_view x ∷ [])
room_for-push xs x all is = ap (λ ys. room_for (changes_view ys)) is ∙ ap room_for (map-append change_view xs (x ∷ [])) ∙ sum_by-append (λ change. cond (is_put change) 1 0) (changes_view xs) (change_view x ∷ [])

pub room_for-reverse : (xs : List Change) → room_for (changes_view (reverse xs)) ≡ room_for (changes_view xs)
room_for-reverse [] = refl
room_for-reverse (x ∷ xs) =
    let pushed = room_for-push (reverse xs) x (reverse (x ∷ xs)) (reverse-append (x ∷ []) xs) in
    let rest = room_for-reverse xs in
    let first = sum_by-append (λ change. cond (is_put change) 1 0) (change_view x ∷ []) (changes_view xs) in
    omega arith

-- ---- entries in any order, by what is found in them

pub get-lookup : {V : Type 0} (entries : List (LineKey × V)) (q : LineKey) → get (from_entries {R = line_cmp} entries) q ≡ lookup (eq_by_cmp line_cmp q) entries
get-lookup entries q = get-from_entries key_total entries q ∙ find_lookup entries q

-- entries in which the same is found
pub from_entries-same : {V : Type 0} (old new : List (LineKey × V)) → ((q : LineKey) → lookup (eq_by_cmp line_cmp q) new ≡ lookup (eq_by_cmp line_cmp q) old) → from_entries {R = line_cmp} new ≡ from_entries old
from_entries-same old new same = same_map key_total key_exact _ _ (λ q. get-lookup new q ∙ same q ∙ sym (get-lookup old q))

-- entries in which a body is found at one key, and the same as before at each other
pub from_entries-put : {V : Type 0} (old new : List (LineKey × V)) (k : LineKey) (v : V) → ((q : LineKey) → lookup (eq_by_cmp line_cmp q) new ≡ cond (eq_by_cmp line_cmp k q) (Some v) (lookup (eq_by_cmp line_cmp q) old)) → from_entries {R = line_cmp} new ≡ insert (from_entries old) k v
from_entries-put old new k v found = same_map key_total key_exact _ _ (λ q.
    get-lookup new q ∙ found q ∙ ap (λ b. cond b (Some v) (lookup (eq_by_cmp line_cmp q) old)) ((eq_by_cmp_equiv key_total).symm k q)
    ∙ sym (get-insert key_total (from_entries old) k v q ∙ ap (cond (eq_by_cmp line_cmp q k) (Some v)) (get-lookup old q)))

-- entries in which nothing is found at one key, and the same as before at each other
pub from_entries-taken : {V : Type 0} (old new : List (LineKey × V)) (k : LineKey) → ((q : LineKey) → lookup (eq_by_cmp line_cmp q) new ≡ cond (eq_by_cmp line_cmp k q) None (lookup (eq_by_cmp line_cmp q) old)) → from_entries {R = line_cmp} new ≡ remove (from_entries old) k
from_entries-taken old new k found = same_map key_total key_exact _ _ (λ q.
    get-lookup new q ∙ found q ∙ ap (λ b. cond b None (lookup (eq_by_cmp line_cmp q) old)) ((eq_by_cmp_equiv key_total).symm k q)
    ∙ sym (get-remove key_total (from_entries old) k q ∙ ap (cond (eq_by_cmp line_cmp q k) None) (get-lookup old q)))
