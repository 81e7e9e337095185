-- Worked operations of a transaction: an insert, a select after it, and one that is refused. Maps do not compute, so lookups
-- in them and their listings are rewritten by their laws.
use Rattle.std.proofs.Common.{◌≡◌, ℕ, pos, List, [], ◌∷◌, map, true, false, T, Some, None, Ok, refl, sym, ap, ◌∙◌, codes}
use Rattle.std.specs.Str.{is_utf8, chars}
use Rattle.std.specs.declared.cmp.Ordering.{Ordering}
use Rattle.std.specs.Cmp.{IsTotalOrder, on_total, then_total}
use Rattle.std.specs.Cmp.Lexicographic.{nat_list_cmp_total}
use Rattle.std.specs.FinMap.{FinMap, empty, get, insert, entries, is_sorted, put, IsAntisymmetric, nat_cmp-IsAntisymmetric, slice_cmp-IsAntisymmetric, same_map, from_entries, from_sorted, entries-from_sorted, entries-insert, len-entries, len-empty, get-empty, get-insert, get-from_entries, get-from_sorted}
use Rattle.serde_json.specs.Data.{Data, Items, number, unsigned, string, array, object, no_members, member, no_items, item, null}
use Rattle.serde_json.specs.Read.{read}
use Rattle.serde_json.proofs.OnLiterals.{serde_json_on_literals}
use Rattle.uuid.specs.Text.{by_index}
use Rattle.ov_specs.specs.integrity.Committed.{committed, is_whole}
use Rattle.ov_specs.specs.integrity.Limits.{is_short}
use Rattle.ov_specs.specs.rows.Database.{Columns, Row, Database}
use Rattle.ov_specs.specs.schema.Fitting.{fits}
use Rattle.ov_specs.specs.rows.Lines.{LineKey, line_cmp}
use Rattle.ov_specs.specs.operations.Errors.{UnknownTable, error_tree}
use Rattle.ov_specs.specs.operations.GivenRow.{may_be_new, given_values}
use Rattle.ov_specs.specs.operations.Insert.{new_row, with_defaults, insert_result}
use Rattle.ov_specs.specs.operations.OpOutcome.{OpContext, Done, names_in}
use Rattle.ov_specs.specs.operations.Operation.{outcome_of}
use Rattle.ov_specs.specs.operations.Select.{projection, written_row}
use Rattle.ov_specs.specs.operations.Transaction.{Completes, transaction}
use Rattle.ov_specs.specs.schema.SchemaTypes.{Column, Table, Schema, name_cmp}
use Rattle.ov_specs.specs.values.Uuid as uuid
use Rattle.ov_specs.specs.values.Value.{AtomKind, Integers, Texts, Uuids, Atom, Integer, Text, Uuid, Datum, Atoms, set_of}
use Rattle.ov_specs.specs.values.Writing.{atom_tree}
use Rattle.std.specs.List.{list_any}
use Rattle.ov_specs.proofs.laws.Committing.{enough_committed}
use Rattle.ov_specs.proofs.laws.Order.{atom_cmp_total, atom_cmp-IsAntisymmetric}
use Rattle.ov_examples.proofs.ConditionRows.{len-one}
use Rattle.ov_examples.proofs.NetRows.{owns_none}
use Rattle.std.proofs.lemmas.List.{nil_from_length}

-- ---- maps made of a list

name_cmp_total : IsTotalOrder name_cmp
name_cmp_total = nat_list_cmp_total

name_cmp-IsAntisymmetric : IsAntisymmetric name_cmp
name_cmp-IsAntisymmetric = slice_cmp-IsAntisymmetric nat_cmp-IsAntisymmetric

pub line_cmp_total : IsTotalOrder line_cmp
line_cmp_total = then_total (on_total (λ (k : LineKey). k.0) nat_list_cmp_total) (on_total (λ (k : LineKey). k.1) nat_list_cmp_total)

module _ {K X : Type 0} {R : K → K → Ordering} (o : IsTotalOrder R) (same : IsAntisymmetric R) where
  entries-from_entries : (es : List (K × X)) → T (is_sorted R es) → entries (from_entries {R = R} es) ≡ es
  entries-from_entries es h =
      ap entries (same_map o same (from_entries es) (from_sorted es) (λ q. get-from_entries o es q ∙ sym (get-from_sorted R es q h)))
      ∙ entries-from_sorted R es h

-- ---- the schema Net with one table, Switch, of the columns load and name

abbrev pub scalar : AtomKind → Column
scalar kind = record {
  type_of = record {
    key = record { kind = kind; choices = None; least = None; greatest = None; shortest = None; longest = None; refers = None };
    value = None;
    min = pos 1;
    max = Some (pos 1);
  };
  is_ephemeral = false;
  is_mutable = true;
}

abbrev pub listed : List (List ℕ × Column)
listed = (codes "_uuid", scalar Uuids) ∷ (codes "_version", scalar Uuids) ∷ (codes "load", scalar Integers) ∷ (codes "name", scalar Texts) ∷ []

pub columns : FinMap name_cmp Column
columns = from_entries listed

pub entries-columns : entries columns ≡ listed
unfolding columns
entries-columns = entries-from_entries name_cmp_total name_cmp-IsAntisymmetric listed tt

pub load_column : get columns (codes "load") ≡ Some (scalar Integers)
unfolding columns
load_column = get-from_entries name_cmp_total listed (codes "load")

pub name_column : get columns (codes "name") ≡ Some (scalar Texts)
unfolding columns
name_column = get-from_entries name_cmp_total listed (codes "name")

abbrev pub switch : Table
switch = record { columns = columns; max_rows = None; is_root = true; indexes = [] }

pub tables : FinMap name_cmp Table
tables = from_entries ((codes "Switch", switch) ∷ [])

pub switch_table : get tables (codes "Switch") ≡ Some switch
unfolding tables
switch_table = get-from_entries name_cmp_total ((codes "Switch", switch) ∷ []) (codes "Switch")

no_other_table : get tables (codes "Swich") ≡ None
unfolding tables
no_other_table = get-from_entries name_cmp_total ((codes "Switch", switch) ∷ []) (codes "Swich")

pub entries-tables : entries tables ≡ (codes "Switch", switch) ∷ []
unfolding tables
entries-tables = entries-from_entries name_cmp_total name_cmp-IsAntisymmetric ((codes "Switch", switch) ∷ []) tt

abbrev pub net0 : Schema
net0 = record { name = codes "Net"; version = None; tables = tables; tree = null }

-- ---- one row

abbrev pub numbered : ℕ → uuid.Uuid
numbered n = 0 ∷ 0 ∷ 0 ∷ 0 ∷ 0 ∷ 0 ∷ 0 ∷ 0 ∷ 0 ∷ 0 ∷ 0 ∷ 0 ∷ 0 ∷ 0 ∷ 0 ∷ n ∷ []

abbrev pub one : Atom → Datum
one a = Atoms (set_of (a ∷ []))

pub entries-one : (a : Atom) → entries (set_of (a ∷ [])) ≡ (a, tt) ∷ []
entries-one a = entries-from_entries atom_cmp_total atom_cmp-IsAntisymmetric ((a, tt) ∷ []) tt

fits-integer : fits (scalar Integers).type_of (one (Integer (pos 4))) ≡ true
fits-integer = rw (len-one (Integer (pos 4)), entries-one (Integer (pos 4))) refl

fits-text : fits (scalar Texts).type_of (one (Text (codes "s1"))) ≡ true
fits-text = rw (len-one (Text (codes "s1")), entries-one (Text (codes "s1"))) refl

-- ---- the insert

abbrev pub insert_members : Data → Data
insert_members row = object (member (codes "op") (string (codes "insert")) (member (codes "row") row (member (codes "table") (string (codes "Switch")) no_members)))

abbrev pub insert_s1 : Data
insert_s1 = insert_members (object (member (codes "load") (number (unsigned 4)) (member (codes "name") (string (codes "s1")) no_members)))

abbrev pub insert_s2 : Data
insert_s2 = insert_members (object (member (codes "load") (number (unsigned 4)) (member (codes "name") (string (codes "s2")) no_members)))

abbrev pub s1_columns : Columns
s1_columns = insert (insert empty (codes "load") (one (Integer (pos 4)))) (codes "name") (one (Text (codes "s1")))

abbrev pub s1 : Row
s1 = record { version = numbered 1; columns = s1_columns }

abbrev pub with_s1 : Database
with_s1 = insert empty (codes "Switch", numbered 2) s1

text-s1 : is_utf8 (codes "s1") ≡ true
unfolding is_utf8 chars serde_json_on_literals
text-s1 = refl

s1-given : (names : uuid.Names) → given_values may_be_new names switch (member (codes "load") (number (unsigned 4)) (member (codes "name") (string (codes "s1")) no_members)) ≡ Ok s1_columns
s1-given names =
    rw (load_column, len-one (Integer (pos 4)), entries-one (Integer (pos 4)))
    (rw (name_column, text-s1, len-one (Text (codes "s1")), entries-one (Text (codes "s1"))) refl)

load-given : get s1_columns (codes "load") ≡ Some (one (Integer (pos 4)))
load-given =
    get-insert name_cmp_total (insert empty (codes "load") (one (Integer (pos 4)))) (codes "name") (one (Text (codes "s1"))) (codes "load")
    ∙ get-insert name_cmp_total empty (codes "load") (one (Integer (pos 4))) (codes "load")

pub name-given : get s1_columns (codes "name") ≡ Some (one (Text (codes "s1")))
name-given = get-insert name_cmp_total (insert empty (codes "load") (one (Integer (pos 4)))) (codes "name") (one (Text (codes "s1"))) (codes "name")

s1-complete : with_defaults switch s1_columns ≡ Ok s1_columns
s1-complete = rw entries-columns (rw (load-given, name-given) refl)

pub s1-new : (names : uuid.Names) → new_row names switch (member (codes "load") (number (unsigned 4)) (member (codes "name") (string (codes "s1")) no_members)) ≡ Ok s1_columns
s1-new names = rw (s1-given names) s1-complete

-- a transaction of these operations on no rows, with draws from 1 on
abbrev in_these : Items → List uuid.Uuid → OpContext
in_these operations ids = record { schema = net0; before = empty; owns = owns_none; version = numbered 1; ids = ids; operations = operations; age = 0 }

-- the row is put, and its identifier is the first one drawn after the version
insert-does : (others : Items) (ids : List uuid.Uuid) → outcome_of (in_these (item insert_s1 others) (numbered 2 ∷ ids)) 0 empty insert_s1 ≡ Done (insert_result (numbered 2)) with_s1
insert-does others ids = rw switch_table (rw (s1-new (names_in (in_these (item insert_s1 others) (numbered 2 ∷ ids)))) (rw (get-empty line_cmp (codes "Switch", numbered 2)) refl))

pub entries-nothing : entries (empty {X = Row} {R = line_cmp}) ≡ []
entries-nothing = nil_from_length _ (sym (len-entries empty) ∙ len-empty line_cmp Row)

pub entries-with_s1 : entries with_s1 ≡ ((codes "Switch", numbered 2), s1) ∷ []
entries-with_s1 = entries-insert line_cmp_total empty (codes "Switch", numbered 2) s1 ∙ ap (put line_cmp (codes "Switch", numbered 2) s1) entries-nothing

pub entries-s1 : entries s1_columns ≡ (codes "load", one (Integer (pos 4))) ∷ (codes "name", one (Text (codes "s1"))) ∷ []
entries-s1 =
    entries-insert name_cmp_total (insert empty (codes "load") (one (Integer (pos 4)))) (codes "name") (one (Text (codes "s1")))
    ∙ ap (put name_cmp (codes "name") (one (Text (codes "s1")))) (entries-insert name_cmp_total empty (codes "load") (one (Integer (pos 4)))
    ∙ ap (put name_cmp (codes "load") (one (Integer (pos 4)))) (nil_from_length _ (sym (len-entries empty) ∙ len-empty name_cmp Datum)))

s1-enough : list_any (is_short net0) (entries with_s1) ≡ false
s1-enough = rw entries-with_s1 (rw switch_table (rw entries-s1 (rw (load_column, name_column) (rw (len-one (Integer (pos 4)), len-one (Text (codes "s1"))) refl))))

s1-whole : is_whole net0 with_s1 ≡ true
s1-whole = rw (entries-with_s1, entries-tables) (rw switch_table (rw entries-s1 (rw (load_column, name_column) (rw (entries-one (Integer (pos 4)), entries-one (Text (codes "s1"))) refl))))

-- the row needs no other, so it is committed as it is
s1-committed : committed net0 empty (numbered 1) with_s1 ≡ Ok with_s1
s1-committed = enough_committed net0 empty (numbered 1) with_s1 s1-enough s1-whole

pub insert_one : transaction net0 empty owns_none (numbered 1 ∷ numbered 2 ∷ []) 0 (item insert_s1 no_items) ≡ Completes (item (insert_result (numbered 2)) no_items) with_s1
insert_one = rw (insert-does no_items []) (rw s1-committed refl)

pub insert_is_answered : Some (array (item (insert_result (numbered 2)) no_items)) ≡ read (codes "[{\"uuid\":[\"uuid\",\"00000000-0000-0000-0000-000000000002\"]}]")
unfolding serde_json_on_literals by_index
insert_is_answered = refl

-- ---- the select

abbrev pub select_of : List ℕ → Data
select_of table = object (member (codes "op") (string (codes "select")) (member (codes "table") (string table) (member (codes "where") (array no_items) no_members)))

abbrev uuid_tree : uuid.Uuid → Data
uuid_tree id = atom_tree (Uuid id)

abbrev row_tree : Data
row_tree = object (member (codes "_uuid") (uuid_tree (numbered 2)) (member (codes "_version") (uuid_tree (numbered 1)) (member (codes "load") (number (unsigned 4)) (member (codes "name") (string (codes "s1")) no_members))))

abbrev rows_tree : Data
rows_tree = object (member (codes "rows") (array (item row_tree no_items)) no_members)

shown-s1 : written_row (projection (map (λ c. c.0) listed) ((codes "Switch", numbered 2), s1)) ≡ row_tree
shown-s1 = rw (load-given, name-given) (rw (entries-one (Uuid (numbered 2)), entries-one (Uuid (numbered 1))) (rw (entries-one (Integer (pos 4)), entries-one (Text (codes "s1"))) refl))

abbrev both : Items
both = item insert_s1 (item (select_of (codes "Switch")) no_items)

select-does : outcome_of (in_these both (numbered 2 ∷ [])) 1 with_s1 (select_of (codes "Switch")) ≡ Done rows_tree with_s1
select-does = rw switch_table (rw (entries-columns, entries-with_s1) (ap (λ d. Done (object (member (codes "rows") (array (item d no_items)) no_members)) with_s1) shown-s1))

pub insert_then_select : transaction net0 empty owns_none (numbered 1 ∷ numbered 2 ∷ []) 0 both ≡ Completes (item (insert_result (numbered 2)) (item rows_tree no_items)) with_s1
insert_then_select = rw (insert-does (item (select_of (codes "Switch")) no_items) []) (rw select-does (rw s1-committed refl))

pub select_is_answered : Some rows_tree ≡ read (codes "{\"rows\":[{\"_uuid\":[\"uuid\",\"00000000-0000-0000-0000-000000000002\"],\"_version\":[\"uuid\",\"00000000-0000-0000-0000-000000000001\"],\"load\":4,\"name\":\"s1\"}]}")
unfolding serde_json_on_literals by_index
select_is_answered = refl

-- ---- a transaction that is refused

-- the insert before it is undone, and the one after it is not tried
pub refused_changes_nothing : transaction net0 empty owns_none (numbered 1 ∷ numbered 2 ∷ numbered 3 ∷ []) 0 (item insert_s1 (item (select_of (codes "Swich")) (item insert_s2 no_items)))
    ≡ Completes (item (insert_result (numbered 2)) (item (error_tree UnknownTable) (item null no_items))) empty
refused_changes_nothing = rw (insert-does (item (select_of (codes "Swich")) (item insert_s2 no_items)) (numbered 3 ∷ [])) (rw no_other_table refl)

pub refusal_is_answered : Some (array (item (insert_result (numbered 2)) (item (error_tree UnknownTable) (item null no_items))))
    ≡ read (codes "[{\"uuid\":[\"uuid\",\"00000000-0000-0000-0000-000000000002\"]},{\"error\":\"unknown table\"},null]")
unfolding serde_json_on_literals by_index
refusal_is_answered = refl
