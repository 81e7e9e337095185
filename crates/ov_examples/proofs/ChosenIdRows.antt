-- Worked inserts that choose the identifier of their row.
use Rattle.std.proofs.Common.{◌≡◌, ℕ, pos, List, [], ◌∷◌, true, false, Option, Some, None, option_map, Ok, refl, ap, ◌∙◌, codes}
use Rattle.std.specs.FinMap.{empty, get, insert, remove, entries, put, entries-insert, get-empty, get-insert, get-remove}
use Rattle.std.specs.List.{list_any}
use Rattle.serde_json.specs.Data.{Data, Items, number, unsigned, string, array, object, no_members, member, no_items, item}
use Rattle.serde_json.specs.Read.{read}
use Rattle.serde_json.proofs.OnLiterals.{serde_json_on_literals}
use Rattle.uuid.specs.Text.{by_index}
use Rattle.ov_specs.specs.integrity.Committed.{committed, is_whole}
use Rattle.ov_specs.specs.integrity.Limits.{is_short}
use Rattle.ov_specs.specs.operations.Errors.{DuplicateUuid, error_tree}
use Rattle.ov_specs.specs.operations.Insert.{insert_result, is_taken}
use Rattle.ov_specs.specs.operations.InsertedIds.{id_read}
use Rattle.ov_specs.specs.operations.MatchingRows.{count_result}
use Rattle.ov_specs.specs.operations.OpOutcome.{OpContext, Done, names_in}
use Rattle.ov_specs.specs.operations.Operation.{outcome_of}
use Rattle.ov_specs.specs.operations.Transaction.{Completes, transaction}
use Rattle.ov_specs.specs.rows.Database.{Database}
use Rattle.ov_specs.specs.rows.Lines.{LineKey, line_cmp}
use Rattle.ov_specs.specs.values.Uuid.{Uuid}
use Rattle.ov_specs.specs.values.Value.{Integer, Text}
use Rattle.ov_specs.proofs.laws.Committing.{enough_committed}
use Rattle.ov_examples.proofs.ConditionRows.{len-one}
use Rattle.ov_examples.proofs.InsertRows.{line_cmp_total, net0, switch_table, load_column, name_column, entries-tables, numbered, entries-one, s1, s1-new, entries-s1, entries-nothing}
use Rattle.ov_examples.proofs.NetRows.{owns_none}

-- 00000000-0000-4000-9000-000000000001
abbrev v : Uuid
v = 0 ∷ 0 ∷ 0 ∷ 0 ∷ 0 ∷ 0 ∷ 64 ∷ 0 ∷ 144 ∷ 0 ∷ 0 ∷ 0 ∷ 0 ∷ 0 ∷ 0 ∷ 1 ∷ []

abbrev v_text : Data
v_text = string (codes "00000000-0000-4000-9000-000000000001")

-- ---- which trees stand for an identifier

abbrev id_in : List ℕ → Option (Option Uuid)
id_in text = option_map id_read (read text)

pub id_as_text : id_in (codes "\"00000000-0000-4000-9000-000000000001\"") ≡ Some (Some v)
unfolding serde_json_on_literals by_index
id_as_text = refl

pub id_as_pair : id_in (codes "[\"uuid\",\"00000000-0000-4000-9000-000000000001\"]") ≡ Some (Some v)
unfolding serde_json_on_literals by_index
id_as_pair = refl

pub id_in_capitals : id_in (codes "\"0000000A-0000-4000-9000-00000000000A\"") ≡ Some (Some (0 ∷ 0 ∷ 0 ∷ 10 ∷ 0 ∷ 0 ∷ 64 ∷ 0 ∷ 144 ∷ 0 ∷ 0 ∷ 0 ∷ 0 ∷ 0 ∷ 0 ∷ 10 ∷ []))
unfolding serde_json_on_literals by_index
id_in_capitals = refl

pub id_without_hyphens : id_in (codes "\"00000000000040009000000000000001\"") ≡ Some None
unfolding serde_json_on_literals by_index
id_without_hyphens = refl

pub id_of_a_name : id_in (codes "[\"named-uuid\",\"p\"]") ≡ Some None
unfolding serde_json_on_literals by_index
id_of_a_name = refl

-- ---- an insert of v

abbrev insert_v : Data
insert_v =
    object (member (codes "op") (string (codes "insert")) (member (codes "row") (object (member (codes "load") (number (unsigned 4)) (member (codes "name") (string (codes "s1")) no_members)))
    (member (codes "table") (string (codes "Switch")) (member (codes "uuid") v_text no_members))))

abbrev key : LineKey
key = (codes "Switch", v)

abbrev with_v : Database
with_v = insert empty key s1

-- a transaction of these operations on these rows, with draws from 1 on
abbrev in_these : Database → List Uuid → Items → OpContext
in_these before ids operations = record { schema = net0; before = before; owns = owns_none; version = numbered 1; ids = ids; operations = operations; age = 0 }

entries-with_v : entries with_v ≡ (key, s1) ∷ []
entries-with_v = entries-insert line_cmp_total empty key s1 ∙ ap (put line_cmp key s1) entries-nothing

v-there : get with_v key ≡ Some s1
v-there = get-insert line_cmp_total empty key s1 key

v-enough : list_any (is_short net0) (entries with_v) ≡ false
v-enough = rw entries-with_v (rw switch_table (rw entries-s1 (rw (load_column, name_column) (rw (len-one (Integer (pos 4)), len-one (Text (codes "s1"))) refl))))

v-whole : is_whole net0 with_v ≡ true
v-whole = rw (entries-with_v, entries-tables) (rw switch_table (rw entries-s1 (rw (load_column, name_column) (rw (entries-one (Integer (pos 4)), entries-one (Text (codes "s1"))) refl))))

v-committed : committed net0 empty (numbered 1) with_v ≡ Ok with_v
v-committed = enough_committed net0 empty (numbered 1) with_v v-enough v-whole

v-does : (operations : Items) (ids : List Uuid) → outcome_of (in_these empty (v ∷ ids) (item insert_v operations)) 0 empty insert_v ≡ Done (insert_result v) with_v
unfolding serde_json_on_literals by_index
v-does operations ids = rw switch_table (rw (s1-new (names_in (in_these empty (v ∷ ids) (item insert_v operations)))) (rw (get-empty line_cmp key) refl))

-- the row has the identifier, and the draw is not used
pub insert_of_v : transaction net0 empty owns_none (numbered 1 ∷ numbered 2 ∷ []) 0 (item insert_v no_items) ≡ Completes (item (insert_result v) no_items) with_v
unfolding serde_json_on_literals by_index
insert_of_v = rw (v-does no_items []) (rw v-committed refl)

pub insert_of_v_is_answered : Some (array (item (insert_result v) no_items)) ≡ read (codes "[{\"uuid\":[\"uuid\",\"00000000-0000-4000-9000-000000000001\"]}]")
unfolding serde_json_on_literals by_index
insert_of_v_is_answered = refl

-- ---- where a row of the table has it, or had it

-- a row that was there before
pub v_is_there : transaction net0 with_v owns_none (numbered 1 ∷ numbered 2 ∷ []) 0 (item insert_v no_items) ≡ Completes (item (error_tree DuplicateUuid) no_items) with_v
unfolding serde_json_on_literals by_index
v_is_there = rw switch_table (rw (s1-new (names_in (in_these with_v (v ∷ []) (item insert_v no_items)))) (rw v-there refl))

-- a row of the same transaction
pub v_twice : transaction net0 empty owns_none (numbered 1 ∷ numbered 2 ∷ numbered 3 ∷ []) 0 (item insert_v (item insert_v no_items)) ≡ Completes (item (insert_result v) (item (error_tree DuplicateUuid) no_items)) empty
unfolding serde_json_on_literals by_index
v_twice =
    rw (v-does (item insert_v no_items) (v ∷ []))
    (rw switch_table (rw (s1-new (names_in (in_these empty (v ∷ v ∷ []) (item insert_v (item insert_v no_items))))) (rw v-there refl)))

abbrev delete_all : Data
delete_all = object (member (codes "op") (string (codes "delete")) (member (codes "table") (string (codes "Switch")) (member (codes "where") (array no_items) no_members)))

v-gone : get (remove with_v key) key ≡ None
v-gone = get-remove line_cmp_total with_v key key

delete-does : (before : Database) (ids : List Uuid) (operations : Items) → outcome_of (in_these before ids operations) 0 with_v delete_all ≡ Done (count_result 1) (remove with_v key)
delete-does before ids operations = rw switch_table (rw entries-with_v refl)

-- a row that the transaction deletes
pub v_is_deleted : transaction net0 with_v owns_none (numbered 1 ∷ numbered 2 ∷ []) 0 (item delete_all (item insert_v no_items))
    ≡ Completes (item (count_result 1) (item (error_tree DuplicateUuid) no_items)) with_v
unfolding serde_json_on_literals by_index
v_is_deleted =
    rw (delete-does with_v (v ∷ []) (item delete_all (item insert_v no_items)))
    (rw switch_table (rw (s1-new (names_in (in_these with_v (v ∷ []) (item delete_all (item insert_v no_items))))) (rw (v-gone, v-there) refl)))

pub v_is_deleted_is_answered : Some (array (item (count_result 1) (item (error_tree DuplicateUuid) no_items))) ≡ read (codes "[{\"count\":1},{\"error\":\"duplicate uuid\"}]")
unfolding serde_json_on_literals
v_is_deleted_is_answered = refl

-- ---- where it is free

-- a row that the transaction has inserted and deleted
pub free_after_delete : is_taken empty (remove with_v key) key true ≡ false
free_after_delete = rw (v-gone, get-empty line_cmp key) refl

-- a row of another table
pub free_in_other_table : is_taken with_v with_v (codes "Port", v) true ≡ false
free_in_other_table = rw (get-insert line_cmp_total empty key s1 (codes "Port", v), get-empty line_cmp (codes "Port", v)) refl

-- a draw is compared with the rows as they are alone
pub draw_of_a_deleted_row : is_taken with_v (remove with_v key) key false ≡ false
draw_of_a_deleted_row = rw v-gone refl
