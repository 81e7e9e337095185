-- Worked waits, on two switches and on none.
use Rattle.std.proofs.Common.{◌≡◌, ℕ, pos, List, [], ◌∷◌, true, cond, Some, None, refl, ap, ◌∙◌, codes}
use Rattle.std.specs.Str.{is_utf8, chars}
use Rattle.std.specs.FinMap.{empty, get, insert, entries, get-empty, get-insert}
use Rattle.serde_json.proofs.OnLiterals.{serde_json_on_literals}
use Rattle.ov_specs.specs.operations.Errors.{TimedOut}
use Rattle.ov_specs.specs.operations.OpOutcome.{Done, Fault, Blocked, empty_result}
use Rattle.ov_specs.specs.rows.Database.{Columns}
use Rattle.ov_specs.specs.schema.SchemaTypes.{name_cmp}
use Rattle.ov_specs.specs.values.Uuid.{zero_uuid}
use Rattle.ov_specs.specs.values.Value.{Integer, Text, Uuid, Datum, Atoms, set_of}
use Rattle.ov_specs.proofs.laws.Names.{name_cmp_total, same_name-itself}
use Rattle.ov_specs.proofs.laws.ReadingBack.{entries-from_entries}
use Rattle.ov_examples.proofs.ConditionRows.{len-one}
use Rattle.ov_examples.proofs.NetRows.{table_is, on_switch, entries-switch, done_at, done_on}
use Rattle.ov_examples.proofs.TwoSwitches.{key, one, entries-one, entries-none, columns_1, in_1, in_2, row, rows, entries-rows, entries-empty, entries-put, text_s1}

text_s2 : is_utf8 (codes "s2") ≡ true
unfolding is_utf8 chars serde_json_on_literals
text_s2 = refl

-- what a given row says of a column
told : (name : List ℕ) (datum : Datum) → get (insert (empty {X = Datum} {R = name_cmp}) name datum) name ≡ Some datum
told name datum = get-insert name_cmp_total empty name datum name ∙ ap (λ b. cond b (Some datum) (get (empty {X = Datum} {R = name_cmp}) name)) (same_name-itself name)

not_told : (name : List ℕ) → get (empty {X = Datum} {R = name_cmp}) name ≡ None
not_told name = get-empty name_cmp name

-- ---- rows that are compared

pub wait_is_met : done_on rows (codes "{\"columns\":[\"name\"],\"op\":\"wait\",\"rows\":[{\"name\":\"s1\"},{\"name\":\"s2\"}],\"table\":\"Switch\",\"until\":\"==\",\"where\":[]}") ≡ Some (Done empty_result rows)
unfolding serde_json_on_literals
wait_is_met =
    rw (table_is (codes "Switch")) (rw (entries-switch, entries-rows) (rw (on_switch (codes "name"), text_s1, text_s2) (rw (on_switch (codes "name")) (rw (told (codes "name") (one (Text (codes "s1"))), told (codes "name") (one (Text (codes "s2")))) (rw (in_1 (codes "name"), in_2 (codes "name"))
    (rw (entries-one (Text (codes "s1")), entries-one (Text (codes "s2"))) refl))))))

pub order_and_repeats_do_not_count : done_on rows (codes "{\"columns\":[\"name\"],\"op\":\"wait\",\"rows\":[{\"name\":\"s2\"},{\"name\":\"s1\"},{\"name\":\"s2\"}],\"table\":\"Switch\",\"until\":\"==\",\"where\":[]}") ≡ Some (Done empty_result rows)
unfolding serde_json_on_literals
order_and_repeats_do_not_count =
    rw (table_is (codes "Switch")) (rw (entries-switch, entries-rows) (rw (on_switch (codes "name"), text_s1, text_s2) (rw (on_switch (codes "name")) (rw (told (codes "name") (one (Text (codes "s1"))), told (codes "name") (one (Text (codes "s2")))) (rw (in_1 (codes "name"), in_2 (codes "name"))
    (rw (entries-one (Text (codes "s1")), entries-one (Text (codes "s2"))) refl))))))

pub a_row_too_few : done_on rows (codes "{\"columns\":[\"name\"],\"op\":\"wait\",\"rows\":[{\"name\":\"s1\"}],\"table\":\"Switch\",\"until\":\"==\",\"where\":[]}") ≡ Some (Blocked None)
unfolding serde_json_on_literals
a_row_too_few =
    rw (table_is (codes "Switch")) (rw (entries-switch, entries-rows) (rw (on_switch (codes "name"), text_s1) (rw (on_switch (codes "name")) (rw (told (codes "name") (one (Text (codes "s1")))) (rw (in_1 (codes "name"), in_2 (codes "name"))
    (rw (entries-one (Text (codes "s1")), entries-one (Text (codes "s2"))) refl))))))

-- what is given has to be there too
pub a_row_too_many : done_on empty (codes "{\"columns\":[\"ports\"],\"op\":\"wait\",\"rows\":[{}],\"table\":\"Switch\",\"until\":\"==\",\"where\":[]}") ≡ Some (Blocked None)
unfolding serde_json_on_literals
a_row_too_many = rw (table_is (codes "Switch")) (rw (entries-switch, entries-empty) (rw (on_switch (codes "ports")) refl))

pub a_row_too_few_is_another : done_on rows (codes "{\"columns\":[\"name\"],\"op\":\"wait\",\"rows\":[{\"name\":\"s1\"}],\"table\":\"Switch\",\"until\":\"!=\",\"where\":[]}") ≡ Some (Done empty_result rows)
unfolding serde_json_on_literals
a_row_too_few_is_another =
    rw (table_is (codes "Switch")) (rw (entries-switch, entries-rows) (rw (on_switch (codes "name"), text_s1) (rw (on_switch (codes "name")) (rw (told (codes "name") (one (Text (codes "s1")))) (rw (in_1 (codes "name"), in_2 (codes "name"))
    (rw (entries-one (Text (codes "s1")), entries-one (Text (codes "s2"))) refl))))))

pub the_same_is_no_other : done_on rows (codes "{\"columns\":[\"name\"],\"op\":\"wait\",\"rows\":[{\"name\":\"s1\"},{\"name\":\"s2\"}],\"table\":\"Switch\",\"until\":\"!=\",\"where\":[]}") ≡ Some (Blocked None)
unfolding serde_json_on_literals
the_same_is_no_other =
    rw (table_is (codes "Switch")) (rw (entries-switch, entries-rows) (rw (on_switch (codes "name"), text_s1, text_s2) (rw (on_switch (codes "name")) (rw (told (codes "name") (one (Text (codes "s1"))), told (codes "name") (one (Text (codes "s2")))) (rw (in_1 (codes "name"), in_2 (codes "name"))
    (rw (entries-one (Text (codes "s1")), entries-one (Text (codes "s2"))) refl))))))

-- the rows that match alone are compared
pub wait_for_one : done_on rows (codes "{\"columns\":[\"name\"],\"op\":\"wait\",\"rows\":[{\"name\":\"s1\"}],\"table\":\"Switch\",\"until\":\"==\",\"where\":[[\"name\",\"==\",\"s1\"]]}") ≡ Some (Done empty_result rows)
unfolding serde_json_on_literals
wait_for_one =
    rw (table_is (codes "Switch")) (rw (on_switch (codes "name"), text_s1) (rw (len-one (Text (codes "s1"))) (rw (entries-switch, entries-rows) (rw (on_switch (codes "name")) (rw (told (codes "name") (one (Text (codes "s1")))) (rw (in_1 (codes "name"), in_2 (codes "name"))
    (rw (entries-one (Text (codes "s1")), entries-one (Text (codes "s2"))) (rw (in_1 (codes "name")) (rw (entries-one (Text (codes "s1"))) refl)))))))))

-- ---- what is given

-- no switch has a port, so they are one row
pub defaults_are_told : done_on rows (codes "{\"columns\":[\"ports\"],\"op\":\"wait\",\"rows\":[{}],\"table\":\"Switch\",\"until\":\"==\",\"where\":[]}") ≡ Some (Done empty_result rows)
unfolding serde_json_on_literals
defaults_are_told =
    rw (table_is (codes "Switch")) (rw (entries-switch, entries-rows) (rw (on_switch (codes "ports")) (rw (on_switch (codes "ports")) (rw (not_told (codes "ports")) (rw (in_1 (codes "ports"), in_2 (codes "ports")) (rw entries-none refl))))))

pub zero_uuid_is_told : done_on (insert empty (codes "Switch", zero_uuid) (row columns_1)) (codes "{\"columns\":[\"_uuid\"],\"op\":\"wait\",\"rows\":[{}],\"table\":\"Switch\",\"until\":\"==\",\"where\":[]}") ≡ Some (Done empty_result (insert empty (codes "Switch", zero_uuid) (row columns_1)))
unfolding serde_json_on_literals
zero_uuid_is_told =
    rw (table_is (codes "Switch")) (rw (entries-switch, entries-put (codes "Switch", zero_uuid) (row columns_1)) (rw (on_switch (codes "_uuid")) (rw (on_switch (codes "_uuid")) (rw (not_told (codes "_uuid")) (rw (entries-one (Uuid zero_uuid)) refl)))))

abbrev four_and_six : Datum
four_and_six = Atoms (set_of (Integer (pos 4) ∷ Integer (pos 6) ∷ []))

entries-four_and_six : entries (set_of (Integer (pos 4) ∷ Integer (pos 6) ∷ [])) ≡ (Integer (pos 4), tt) ∷ (Integer (pos 6), tt) ∷ []
entries-four_and_six = entries-from_entries ((Integer (pos 4), tt) ∷ (Integer (pos 6), tt) ∷ []) tt

-- a scalar that is given as a set of two is no row
pub constraints_are_not_tested : done_on rows (codes "{\"columns\":[\"load\"],\"op\":\"wait\",\"rows\":[{\"load\":[\"set\",[4,6]]}],\"table\":\"Switch\",\"until\":\"==\",\"where\":[]}") ≡ Some (Blocked None)
unfolding serde_json_on_literals
constraints_are_not_tested =
    rw (table_is (codes "Switch")) (rw (entries-switch, entries-rows) (rw (on_switch (codes "load")) (rw (on_switch (codes "load")) (rw (told (codes "load") four_and_six) (rw (in_1 (codes "load"), in_2 (codes "load")) (rw (entries-four_and_six, entries-one (Integer (pos 4))) refl))))))

-- without columns all are compared but `_uuid` and `_version`
abbrev told_switch : Columns
told_switch = insert (insert empty (codes "load") (one (Integer (pos 4)))) (codes "name") (one (Text (codes "s1")))

told_load : get told_switch (codes "load") ≡ Some (one (Integer (pos 4)))
told_load = get-insert name_cmp_total _ (codes "name") (one (Text (codes "s1"))) (codes "load") ∙ told (codes "load") (one (Integer (pos 4)))

told_name : get told_switch (codes "name") ≡ Some (one (Text (codes "s1")))
told_name = get-insert name_cmp_total _ (codes "name") (one (Text (codes "s1"))) (codes "name")

told_ports : get told_switch (codes "ports") ≡ None
told_ports =
    get-insert name_cmp_total _ (codes "name") (one (Text (codes "s1"))) (codes "ports")
    ∙ (get-insert name_cmp_total empty (codes "load") (one (Integer (pos 4))) (codes "ports") ∙ not_told (codes "ports"))

pub wait_without_columns : done_on (insert empty (key 7) (row columns_1)) (codes "{\"op\":\"wait\",\"rows\":[{\"load\":4,\"name\":\"s1\"}],\"table\":\"Switch\",\"until\":\"==\",\"where\":[]}")
    ≡ Some (Done empty_result (insert empty (key 7) (row columns_1)))
unfolding serde_json_on_literals
wait_without_columns =
    rw (table_is (codes "Switch")) (rw (entries-switch, entries-put (key 7) (row columns_1)) (rw (on_switch (codes "load")) (rw (on_switch (codes "name"), text_s1)
    (rw (on_switch (codes "load"), on_switch (codes "name"), on_switch (codes "ports")) (rw (told_load, told_name, told_ports) (rw (in_1 (codes "load"), in_1 (codes "name"), in_1 (codes "ports"))
    (rw (entries-one (Integer (pos 4)), entries-one (Text (codes "s1"))) (rw entries-none refl))))))))

-- without columns, and without rows
pub nothing_is_told_of_nothing : done_on empty (codes "{\"op\":\"wait\",\"rows\":[],\"table\":\"Switch\",\"until\":\"==\",\"where\":[]}") ≡ Some (Done empty_result empty)
unfolding serde_json_on_literals
nothing_is_told_of_nothing =
    rw (table_is (codes "Switch")) (rw entries-empty refl)

-- ---- how long

-- without a timeout
pub wait_has_no_end : done_at 1000000 empty (codes "{\"op\":\"wait\",\"rows\":[],\"table\":\"Switch\",\"until\":\"!=\",\"where\":[]}") ≡ Some (Blocked None)
unfolding serde_json_on_literals
wait_has_no_end =
    rw (table_is (codes "Switch")) (rw entries-empty refl)

pub wait_times_out_at_once : done_on empty (codes "{\"op\":\"wait\",\"rows\":[],\"table\":\"Switch\",\"timeout\":0,\"until\":\"!=\",\"where\":[]}") ≡ Some (Fault TimedOut)
unfolding serde_json_on_literals
wait_times_out_at_once =
    rw (table_is (codes "Switch")) (rw entries-empty refl)

pub wait_goes_on : done_at 49 empty (codes "{\"op\":\"wait\",\"rows\":[],\"table\":\"Switch\",\"timeout\":50,\"until\":\"!=\",\"where\":[]}") ≡ Some (Blocked (Some 50))
unfolding serde_json_on_literals
wait_goes_on =
    rw (table_is (codes "Switch")) (rw entries-empty refl)

pub wait_times_out : done_at 50 empty (codes "{\"op\":\"wait\",\"rows\":[],\"table\":\"Switch\",\"timeout\":50,\"until\":\"!=\",\"where\":[]}") ≡ Some (Fault TimedOut)
unfolding serde_json_on_literals
wait_times_out =
    rw (table_is (codes "Switch")) (rw entries-empty refl)

pub met_whatever_the_timeout : done_at 7 empty (codes "{\"op\":\"wait\",\"rows\":[],\"table\":\"Switch\",\"timeout\":0,\"until\":\"==\",\"where\":[]}") ≡ Some (Done empty_result empty)
unfolding serde_json_on_literals
met_whatever_the_timeout =
    rw (table_is (codes "Switch")) (rw entries-empty refl)
