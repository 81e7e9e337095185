-- Rows that are added one by one, and removed again, the last one first.
use Rattle.std.proofs.Common.{◌≡◌, List, [], ◌∷◌, ◌++◌, Bool, true, false, cond, Option, Some, None, is_some, refl, sym, ap, ◌∙◌}
use Rattle.std.specs.FinMap.{get, insert, remove, contains_key, get-insert, get-remove, same_map}
use Rattle.std.specs.Ordering.{eq_by_cmp}
use Rattle.ov_specs.specs.operations.MatchingRows.{without_rows}
use Rattle.ov_specs.specs.rows.Database.{Database, Row}
use Rattle.ov_specs.specs.rows.Lines.{LineKey, line_cmp}
use Rattle.ov_specs.proofs.laws.LineKeys.{key_exact, key_total, same_tied, tied_same}

abbrev pub same : LineKey → LineKey → Bool
same = eq_by_cmp line_cmp

-- ---- one row

covered : {A : Type 0} (b : Bool) (x y : A) → (b ≡ true → x ≡ y) → cond b x y ≡ y
covered true x y h = h refl
covered false x y h = refl

twice : {A : Type 0} (b : Bool) (x y z : A) → cond b x (cond b y z) ≡ cond b x z
twice true x y z = refl
twice false x y z = refl

get_at : (db : Database) (q k : LineKey) → same q k ≡ true → get db q ≡ get db k
get_at db q k e = ap (get db) (tied_same q k e)

pub remove-insert : (db : Database) (k : LineKey) (r : Row) → get db k ≡ None → remove (insert db k r) k ≡ db
remove-insert db k r none = same_map key_total key_exact _ _ (λ q.
    get-remove key_total (insert db k r) k q ∙ ap (cond (same q k) None) (get-insert key_total db k r q)
    ∙ twice (same q k) None (Some r) (get db q) ∙ covered (same q k) None (get db q) (λ e. sym (get_at db q k e ∙ none)))

pub remove-none : (db : Database) (k : LineKey) → get db k ≡ None → remove db k ≡ db
remove-none db k none = same_map key_total key_exact _ _ (λ q.
    get-remove key_total db k q ∙ covered (same q k) None (get db q) (λ e. sym (get_at db q k e ∙ none)))

not_some : {A : Type 0} (o : Option A) → is_some o ≡ false → o ≡ None
not_some None e = refl
not_some (Some a) e = cc

pub absent : (db : Database) (k : LineKey) → contains_key db k ≡ false → get db k ≡ None
absent db k h = not_some (get db k) h

-- ---- several rows

in_any_order : {A : Type 0} (b d : Bool) (x y : A) → cond b x (cond d x y) ≡ cond d x (cond b x y)
in_any_order true true x y = refl
in_any_order true false x y = refl
in_any_order false d x y = refl

remove-swap : (db : Database) (a b : LineKey) → remove (remove db a) b ≡ remove (remove db b) a
remove-swap db a b = same_map key_total key_exact _ _ (λ q.
    get-remove key_total (remove db a) b q ∙ ap (cond (same q b) None) (get-remove key_total db a q) ∙ in_any_order (same q b) (same q a) None (get db q)
    ∙ sym (get-remove key_total (remove db b) a q ∙ ap (cond (same q a) None) (get-remove key_total db b q)))

-- the last key may go first
pub without-push : (ks : List LineKey) (k : LineKey) (db : Database) → without_rows (ks ++ k ∷ []) db ≡ without_rows ks (remove db k)
without-push [] k db = refl
without-push (x ∷ ks) k db = without-push ks k (remove db x) ∙ ap (without_rows ks) (remove-swap db x k)

-- a row that is added and listed changes nothing of what was there before
pub without-added : (ks : List LineKey) (k : LineKey) (r : Row) (db : Database) → contains_key db k ≡ false → without_rows (ks ++ k ∷ []) (insert db k r) ≡ without_rows ks db
without-added ks k r db none = without-push ks k (insert db k r) ∙ ap (without_rows ks) (remove-insert db k r (absent db k none))

-- ---- the rows at the keys after one more is added

at_key : (db db' : Database) (k : LineKey) (r : Row) (q : LineKey) → db' ≡ insert db k r → get db' q ≡ cond (same q k) (Some r) (get db q)
at_key db db' k r q is = ap (λ (d : Database). get d q) is ∙ get-insert key_total db k r q

some_more : (b : Bool) (r : Row) (o : Option Row) → is_some o ≡ true → is_some (cond b (Some r) o) ≡ true
some_more true r o h = refl
some_more false r o h = h

pub other_stays : (db db' : Database) (k : LineKey) (r : Row) (q : LineKey) → db' ≡ insert db k r → same q k ≡ false → get db' q ≡ get db q
other_stays db db' k r q is apart = at_key db db' k r q is ∙ ap (λ b. cond b (Some r) (get db q)) apart

pub contains_more : (db db' : Database) (k : LineKey) (r : Row) (q : LineKey) → db' ≡ insert db k r → contains_key db q ≡ true → contains_key db' q ≡ true
contains_more db db' k r q is h = ap is_some (at_key db db' k r q is) ∙ some_more (same q k) r (get db q) h

pub contains_new : (db db' : Database) (k : LineKey) (r : Row) → db' ≡ insert db k r → contains_key db' k ≡ true
contains_new db db' k r is = ap is_some (at_key db db' k r k is) ∙ ap (λ b. is_some (cond b (Some r) (get db k))) (same_tied k k refl)
