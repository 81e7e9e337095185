-- Two switches, for worked operations on them. Maps do not compute, so lookups in them and their listings are rewritten by
-- the laws below.
use Rattle.std.proofs.Common.{◌≡◌, ℕ, pos, List, [], ◌∷◌, length, Bool, true, false, cond, Some, None, refl, sym, ap, ◌∙◌, codes}
use Rattle.std.specs.Str.{is_utf8, chars}
use Rattle.std.specs.FinMap.{empty, get, insert, len, entries, entries-insert, put, find, from_entries, get-from_entries, len-entries, len-empty, remove, same_map, get-empty, get-insert, get-remove}
use Rattle.std.specs.Ordering.{eq_by_cmp}
use Rattle.std.proofs.lemmas.List.{nil_from_length}
use Rattle.serde_json.proofs.OnLiterals.{serde_json_on_literals}
use Rattle.ov_specs.specs.rows.Database.{Columns, Row, Database}
use Rattle.ov_specs.specs.rows.Lines.{LineKey, line_cmp}
use Rattle.ov_specs.specs.schema.SchemaTypes.{name_cmp}
use Rattle.ov_specs.specs.values.Value.{Atom, Integer, Text, Datum, Atoms, set_of}
use Rattle.ov_specs.proofs.laws.LineKeys.{key_total, key_exact}
use Rattle.ov_specs.proofs.laws.Names.{name_cmp_total}
use Rattle.ov_specs.proofs.laws.ReadingBack.{entries-from_entries}
use Rattle.ov_examples.proofs.NetRows.{numbered, entries-named}

abbrev pub one : Atom → Datum
one a = Atoms (set_of (a ∷ []))

pub entries-one : (a : Atom) → entries (set_of (a ∷ [])) ≡ (a, tt) ∷ []
entries-one a = entries-from_entries ((a, tt) ∷ []) tt

pub entries-none : entries (set_of []) ≡ []
entries-none = entries-from_entries [] tt

pub len-none : len (set_of []) ≡ 0
len-none = len-entries (set_of []) ∙ ap length entries-none

abbrev pub switch_columns : ℕ → List ℕ → List (List ℕ × Datum)
switch_columns load name = (codes "load", one (Integer (pos load))) ∷ (codes "name", one (Text name)) ∷ (codes "ports", Atoms (set_of [])) ∷ []

pub columns_1 : Columns
columns_1 = from_entries (switch_columns 4 (codes "s1"))

pub columns_2 : Columns
columns_2 = from_entries (switch_columns 6 (codes "s2"))

pub in_1 : (name : List ℕ) → get columns_1 name ≡ find name_cmp name (switch_columns 4 (codes "s1"))
unfolding columns_1
in_1 name = get-from_entries name_cmp_total (switch_columns 4 (codes "s1")) name

pub in_2 : (name : List ℕ) → get columns_2 name ≡ find name_cmp name (switch_columns 6 (codes "s2"))
unfolding columns_2
in_2 name = get-from_entries name_cmp_total (switch_columns 6 (codes "s2")) name

abbrev pub key : ℕ → LineKey
key n = (codes "Switch", numbered n)

abbrev pub row : Columns → Row
row columns = record { version = numbered 9; columns = columns }

pub rows : Database
rows = insert (insert empty (key 7) (row columns_1)) (key 8) (row columns_2)

pub entries-rows : entries rows ≡ (key 7, row columns_1) ∷ (key 8, row columns_2) ∷ []
unfolding rows
entries-rows =
    entries-insert key_total (insert empty (key 7) (row columns_1)) (key 8) (row columns_2)
    ∙ ap (put line_cmp (key 8) (row columns_2)) (entries-insert key_total empty (key 7) (row columns_1)
    ∙ ap (put line_cmp (key 7) (row columns_1)) (nil_from_length _ (sym (len-entries empty) ∙ len-empty line_cmp Row)))

pub row_1 : get rows (key 7) ≡ Some (row columns_1)
unfolding rows
row_1 = get-insert key_total (insert empty (key 7) (row columns_1)) (key 8) (row columns_2) (key 7) ∙ get-insert key_total empty (key 7) (row columns_1) (key 7)

pub row_2 : get rows (key 8) ≡ Some (row columns_2)
unfolding rows
row_2 = get-insert key_total (insert empty (key 7) (row columns_1)) (key 8) (row columns_2) (key 8)

pub entries-columns_2 : entries columns_2 ≡ switch_columns 6 (codes "s2")
unfolding columns_2
entries-columns_2 = entries-named (switch_columns 6 (codes "s2")) tt

-- what is put in place of a column of a switch
pub entries-1 : (name : List ℕ) (datum : Datum) → entries (insert columns_1 name datum) ≡ put name_cmp name datum (switch_columns 4 (codes "s1"))
unfolding columns_1
entries-1 name datum = entries-insert name_cmp_total columns_1 name datum ∙ ap (put name_cmp name datum) (entries-named (switch_columns 4 (codes "s1")) tt)

pub entries-2 : (name : List ℕ) (datum : Datum) → entries (insert columns_2 name datum) ≡ put name_cmp name datum (switch_columns 6 (codes "s2"))
unfolding columns_2
entries-2 name datum = entries-insert name_cmp_total columns_2 name datum ∙ ap (put name_cmp name datum) (entries-named (switch_columns 6 (codes "s2")) tt)

pub entries-columns_1 : entries columns_1 ≡ switch_columns 4 (codes "s1")
unfolding columns_1
entries-columns_1 = entries-named (switch_columns 4 (codes "s1")) tt

-- a column that is given twice
pub entries-again : (name : List ℕ) (a b : Datum) → entries (insert (insert columns_1 name a) name b) ≡ put name_cmp name b (put name_cmp name a (switch_columns 4 (codes "s1")))
entries-again name a b = entries-insert name_cmp_total (insert columns_1 name a) name b ∙ ap (put name_cmp name b) (entries-1 name a)

-- one value that is given
pub entries-given : (name : List ℕ) (datum : Datum) → entries (insert (empty {X = Datum} {R = name_cmp}) name datum) ≡ (name, datum) ∷ []
entries-given name datum = entries-insert name_cmp_total empty name datum ∙ ap (put name_cmp name datum) (nil_from_length _ (sym (len-entries empty) ∙ len-empty name_cmp Datum))

pub no_row_2 : get rows (key 2) ≡ None
unfolding rows
no_row_2 =
    get-insert key_total (insert empty (key 7) (row columns_1)) (key 8) (row columns_2) (key 2)
    ∙ (get-insert key_total empty (key 7) (row columns_1) (key 2) ∙ get-empty line_cmp (key 2))

pub entries-empty : entries (empty {X = Row} {R = line_cmp}) ≡ []
entries-empty = nil_from_length _ (sym (len-entries empty) ∙ len-empty line_cmp Row)

-- one row
pub entries-put : (k : LineKey) (r : Row) → entries (insert (empty {X = Row} {R = line_cmp}) k r) ≡ (k, r) ∷ []
entries-put k r = entries-insert key_total empty k r ∙ ap (put line_cmp k r) entries-empty

pub text_s1 : is_utf8 (codes "s1") ≡ true
unfolding is_utf8 chars serde_json_on_literals
text_s1 = refl

-- without both switches there is no row
pub entries-deleted : entries (remove (remove rows (key 7)) (key 8)) ≡ []
unfolding rows
entries-deleted = ap entries (same_map key_total key_exact _ empty gone) ∙ entries-empty
  where
    by : (a b : Bool) → cond a None (cond b None (cond a (Some (row columns_2)) (cond b (Some (row columns_1)) None))) ≡ None
    by true b = refl
    by false true = refl
    by false false = refl

    gone : (q : LineKey) → get (remove (remove rows (key 7)) (key 8)) q ≡ get (empty {X = Row} {R = line_cmp}) q
    gone q =
        get-remove key_total (remove rows (key 7)) (key 8) q
        ∙ ap (cond (eq_by_cmp line_cmp q (key 8)) None) (get-remove key_total rows (key 7) q
        ∙ ap (cond (eq_by_cmp line_cmp q (key 7)) None) (get-insert key_total (insert empty (key 7) (row columns_1)) (key 8) (row columns_2) q
        ∙ ap (cond (eq_by_cmp line_cmp q (key 8)) (Some (row columns_2))) (get-insert key_total empty (key 7) (row columns_1) q
        ∙ ap (cond (eq_by_cmp line_cmp q (key 7)) (Some (row columns_1))) (get-empty line_cmp q))))
        ∙ (by (eq_by_cmp line_cmp q (key 8)) (eq_by_cmp line_cmp q (key 7)) ∙ sym (get-empty line_cmp q))

-- ---- what an insert gives a new switch, column by column

abbrev pub given : Datum → Columns
given ports = insert (insert (insert empty (codes "load") (one (Integer (pos 5)))) (codes "name") (one (Text (codes "s1")))) (codes "ports") ports

pub given_ports : (ports : Datum) → get (given ports) (codes "ports") ≡ Some ports
given_ports ports = get-insert name_cmp_total _ (codes "ports") ports (codes "ports")

pub given_name : (ports : Datum) → get (given ports) (codes "name") ≡ Some (one (Text (codes "s1")))
given_name ports = get-insert name_cmp_total _ (codes "ports") ports (codes "name") ∙ get-insert name_cmp_total _ (codes "name") (one (Text (codes "s1"))) (codes "name")

pub given_load : (ports : Datum) → get (given ports) (codes "load") ≡ Some (one (Integer (pos 5)))
given_load ports =
    get-insert name_cmp_total _ (codes "ports") ports (codes "load")
    ∙ (get-insert name_cmp_total _ (codes "name") (one (Text (codes "s1"))) (codes "load") ∙ get-insert name_cmp_total empty (codes "load") (one (Integer (pos 5))) (codes "load"))

pub entries-given_all : (ports : Datum) → entries (given ports) ≡ (codes "load", one (Integer (pos 5))) ∷ (codes "name", one (Text (codes "s1"))) ∷ (codes "ports", ports) ∷ []
entries-given_all ports =
    entries-insert name_cmp_total _ (codes "ports") ports
    ∙ ap (put name_cmp (codes "ports") ports) (entries-insert name_cmp_total _ (codes "name") (one (Text (codes "s1")))
    ∙ ap (put name_cmp (codes "name") (one (Text (codes "s1")))) (entries-given (codes "load") (one (Integer (pos 5)))))
