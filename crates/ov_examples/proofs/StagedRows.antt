-- Worked operations on two switches: what they leave, and their results.
use Rattle.std.proofs.Common.{◌≡◌, pos, [], ◌∷◌, Some, refl, codes}
use Rattle.std.specs.FinMap.{empty, insert, remove, get-empty, get-insert}
use Rattle.serde_json.specs.Data.{number, unsigned, array, object, no_members, member, no_items, item}
use Rattle.serde_json.proofs.OnLiterals.{serde_json_on_literals}
use Rattle.ov_specs.specs.operations.Errors.{ConstraintViolation, DomainError, RangeError, DuplicateUuid}
use Rattle.ov_specs.specs.operations.MatchingRows.{count_result}
use Rattle.ov_specs.specs.operations.Insert.{insert_result}
use Rattle.ov_specs.specs.operations.Mutators.{Compute, Plus, Minus, Times, Over}
use Rattle.ov_specs.specs.operations.OpOutcome.{Done, Fault}
use Rattle.ov_specs.specs.rows.Database.{object_of}
use Rattle.ov_specs.specs.schema.SchemaTypes.{name_cmp}
use Rattle.ov_specs.specs.values.Value.{Integer, Text, Atoms, set_of}
use Rattle.ov_specs.proofs.laws.LineKeys.{key_total}
use Rattle.ov_specs.proofs.laws.Names.{name_cmp_total}
use Rattle.ov_examples.proofs.ConditionRows.{len-one}
use Rattle.ov_examples.proofs.NetRows.{numbered, table_is, on_switch, on_port, entries-switch, load_mutated, done_on}
use Rattle.ov_examples.proofs.TwoSwitches.{one, entries-one, entries-none, len-none, columns_1, columns_2, in_1, in_2, key, row, rows, entries-rows, row_1, row_2, no_row_2, entries-columns_1, entries-columns_2, entries-1, entries-2, entries-again, entries-given, given_load, given_name, given_ports, text_s1}

-- ---- delete

pub delete_all : done_on rows (codes "{\"op\":\"delete\",\"table\":\"Switch\",\"where\":[]}") ≡ Some (Done (count_result 2) (remove (remove rows (key 7)) (key 8)))
unfolding serde_json_on_literals
delete_all =
    rw (table_is (codes "Switch")) (rw entries-rows refl)

pub delete_one : done_on rows (codes "{\"op\":\"delete\",\"table\":\"Switch\",\"where\":[[\"name\",\"==\",\"s1\"]]}") ≡ Some (Done (count_result 1) (remove rows (key 7)))
unfolding serde_json_on_literals
delete_one =
    rw (table_is (codes "Switch")) (rw (on_switch (codes "name"), text_s1) (rw (len-one (Text (codes "s1")), entries-rows) (rw (in_1 (codes "name"), in_2 (codes "name"))
    (rw (entries-one (Text (codes "s1")), entries-one (Text (codes "s2"))) (refl)))))

pub delete_none : done_on rows (codes "{\"op\":\"delete\",\"table\":\"Port\",\"where\":[]}") ≡ Some (Done (count_result 0) rows)
unfolding serde_json_on_literals
delete_none =
    rw (table_is (codes "Port")) (rw entries-rows refl)

-- ---- select

pub select_by_name : done_on rows (codes "{\"columns\":[\"load\"],\"op\":\"select\",\"table\":\"Switch\",\"where\":[[\"name\",\"==\",\"s1\"]]}") ≡ Some (Done (object_of ((codes "rows", array (item (object (member (codes "load") (number (unsigned 4)) no_members)) no_items)) ∷ [])) rows)
unfolding serde_json_on_literals
select_by_name =
    rw (table_is (codes "Switch")) (rw (on_switch (codes "name"), text_s1) (rw (len-one (Text (codes "s1")), on_switch (codes "load")) (rw (entries-switch, entries-rows) (rw (in_1 (codes "name"), in_2 (codes "name"))
    (rw (entries-one (Text (codes "s1")), entries-one (Text (codes "s2"))) (rw (in_1 (codes "load")) (rw (entries-one (Integer (pos 4))) refl)))))))

-- rows that are equal in no column are one
pub select_no_columns : done_on rows (codes "{\"columns\":[],\"op\":\"select\",\"table\":\"Switch\",\"where\":[]}") ≡ Some (Done (object_of ((codes "rows", array (item (object no_members) no_items)) ∷ [])) rows)
unfolding serde_json_on_literals
select_no_columns =
    rw (table_is (codes "Switch")) (rw (entries-switch, entries-rows) refl)

-- ---- update

pub update_one : done_on rows (codes "{\"op\":\"update\",\"row\":{\"load\":5},\"table\":\"Switch\",\"where\":[[\"name\",\"==\",\"s1\"]]}") ≡ Some (Done (count_result 1) (insert rows (key 7) (record { version = numbered 1; columns = insert columns_1 (codes "load") (one (Integer (pos 5))) })))
unfolding serde_json_on_literals
update_one =
    rw (table_is (codes "Switch")) (rw (on_switch (codes "name"), text_s1) (rw (len-one (Text (codes "s1")), on_switch (codes "load")) (rw (len-one (Integer (pos 5)), entries-one (Integer (pos 5))) (rw entries-rows (rw (in_1 (codes "name"), in_2 (codes "name"))
    (rw (entries-one (Text (codes "s1")), entries-one (Text (codes "s2"))) (rw (entries-given (codes "load") (one (Integer (pos 5)))) (rw row_1 (rw (entries-columns_1, entries-1 (codes "load") (one (Integer (pos 5))))
    (rw (entries-one (Integer (pos 4)), entries-one (Integer (pos 5))) refl))))))))))

-- it counts, and keeps its version
pub update_to_the_same : done_on rows (codes "{\"op\":\"update\",\"row\":{\"load\":4},\"table\":\"Switch\",\"where\":[[\"name\",\"==\",\"s1\"]]}") ≡ Some (Done (count_result 1) (insert rows (key 7) (record { version = numbered 9; columns = insert columns_1 (codes "load") (one (Integer (pos 4))) })))
unfolding serde_json_on_literals
update_to_the_same =
    rw (table_is (codes "Switch")) (rw (on_switch (codes "name"), text_s1) (rw (len-one (Text (codes "s1")), on_switch (codes "load")) (rw (len-one (Integer (pos 4)), entries-one (Integer (pos 4))) (rw entries-rows (rw (in_1 (codes "name"), in_2 (codes "name"))
    (rw (entries-one (Text (codes "s1")), entries-one (Text (codes "s2"))) (rw (entries-given (codes "load") (one (Integer (pos 4)))) (rw row_1 (rw (entries-columns_1, entries-1 (codes "load") (one (Integer (pos 4))))
    (rw (entries-one (Integer (pos 4)), entries-one (Text (codes "s1"))) (rw entries-none refl)))))))))))

pub update_none : done_on rows (codes "{\"op\":\"update\",\"row\":{\"tag\":4095},\"table\":\"Port\",\"where\":[]}") ≡ Some (Done (count_result 0) rows)
unfolding serde_json_on_literals
update_none =
    rw (table_is (codes "Port")) (rw (on_port (codes "tag")) (rw (len-one (Integer (pos 4095)), entries-one (Integer (pos 4095))) (rw entries-rows refl)))

-- also if no row matches
pub update_to_a_value_that_does_not_fit : done_on rows (codes "{\"op\":\"update\",\"row\":{\"tag\":4096},\"table\":\"Port\",\"where\":[]}") ≡ Some (Fault ConstraintViolation)
unfolding serde_json_on_literals
update_to_a_value_that_does_not_fit =
    rw (table_is (codes "Port")) (rw (on_port (codes "tag")) (rw (len-one (Integer (pos 4096)), entries-one (Integer (pos 4096))) refl))

-- ---- mutate

-- each row that matches counts
pub mutate_nothing : done_on rows (codes "{\"mutations\":[],\"op\":\"mutate\",\"table\":\"Switch\",\"where\":[]}") ≡ Some (Done (count_result 2) (insert (insert rows (key 7) (row columns_1)) (key 8) (row columns_2)))
unfolding serde_json_on_literals
mutate_nothing =
    rw (table_is (codes "Switch")) (rw entries-rows (rw (row_1, row_2) (rw (entries-columns_1, entries-columns_2) (rw (entries-one (Integer (pos 4)), entries-one (Text (codes "s1"))) (rw (entries-one (Integer (pos 6)), entries-one (Text (codes "s2"))) (rw entries-none refl))))))

pub sum_out_of_range : done_on rows (codes "{\"mutations\":[[\"load\",\"+=\",9223372036854775807]],\"op\":\"mutate\",\"table\":\"Switch\",\"where\":[]}") ≡ Some (Fault RangeError)
unfolding serde_json_on_literals
sum_out_of_range =
    rw (table_is (codes "Switch")) (rw (on_switch (codes "load")) (rw (entries-one (Integer (pos 9223372036854775807)), entries-rows) (rw (load_mutated (Compute Plus (pos 9223372036854775807)) columns_1, in_1 (codes "load")) (rw (entries-one (Integer (pos 4))) refl))))

-- also one that a later mutation would bring back into the range
pub each_value_is_tested : done_on rows (codes "{\"mutations\":[[\"load\",\"*=\",4611686018427387904],[\"load\",\"*=\",0]],\"op\":\"mutate\",\"table\":\"Switch\",\"where\":[]}") ≡ Some (Fault RangeError)
unfolding serde_json_on_literals
each_value_is_tested =
    rw (table_is (codes "Switch")) (rw (on_switch (codes "load")) (rw (entries-one (Integer (pos 4611686018427387904)), entries-one (Integer (pos 0))) (rw entries-rows (rw (load_mutated (Compute Times (pos 4611686018427387904)) columns_1, in_1 (codes "load")) (rw (entries-one (Integer (pos 4))) refl)))))

-- the rows one after another: the first has all its mutations before the second, whose sum would be out of range
pub rows_one_after_another : done_on rows (codes "{\"mutations\":[[\"load\",\"+=\",9223372036854775802],[\"load\",\"/=\",0]],\"op\":\"mutate\",\"table\":\"Switch\",\"where\":[]}") ≡ Some (Fault DomainError)
unfolding serde_json_on_literals
rows_one_after_another =
    rw (table_is (codes "Switch")) (rw (on_switch (codes "load")) (rw (entries-one (Integer (pos 9223372036854775802)), entries-one (Integer (pos 0))) (rw entries-rows (rw (load_mutated (Compute Plus (pos 9223372036854775802)) columns_1, in_1 (codes "load")) (rw (entries-one (Integer (pos 4)))
    (rw (len-one (Integer (pos 9223372036854775806)), entries-one (Integer (pos 9223372036854775806))) (rw (load_mutated (Compute Over (pos 0)) (insert columns_1 (codes "load") (one (Integer (pos 9223372036854775806)))), get-insert name_cmp_total columns_1 (codes "load") (one (Integer (pos 9223372036854775806))) (codes "load"))
    (rw (entries-one (Integer (pos 9223372036854775806))) refl))))))))

-- a fault of a later row counts as well
pub second_sum_out_of_range : done_on rows (codes "{\"mutations\":[[\"load\",\"+=\",9223372036854775802]],\"op\":\"mutate\",\"table\":\"Switch\",\"where\":[]}") ≡ Some (Fault RangeError)
unfolding serde_json_on_literals
second_sum_out_of_range =
    rw (table_is (codes "Switch")) (rw (on_switch (codes "load")) (rw (entries-one (Integer (pos 9223372036854775802)), entries-rows) (rw (load_mutated (Compute Plus (pos 9223372036854775802)) columns_1, in_1 (codes "load"), load_mutated (Compute Plus (pos 9223372036854775802)) columns_2, in_2 (codes "load")) (rw (entries-one (Integer (pos 4)), entries-one (Integer (pos 6)))
    (rw (len-one (Integer (pos 9223372036854775806)), entries-one (Integer (pos 9223372036854775806))) refl)))))

pub divided_by_zero : done_on rows (codes "{\"mutations\":[[\"load\",\"/=\",0]],\"op\":\"mutate\",\"table\":\"Switch\",\"where\":[]}") ≡ Some (Fault DomainError)
unfolding serde_json_on_literals
divided_by_zero =
    rw (table_is (codes "Switch")) (rw (on_switch (codes "load")) (rw (entries-one (Integer (pos 0)), entries-rows) (rw (load_mutated (Compute Over (pos 0)) columns_1, in_1 (codes "load")) (rw (entries-one (Integer (pos 4))) refl))))

pub mutate_both : done_on rows (codes "{\"mutations\":[[\"load\",\"+=\",1]],\"op\":\"mutate\",\"table\":\"Switch\",\"where\":[]}") ≡ Some (Done (count_result 2) (insert (insert rows (key 7) (record { version = numbered 1; columns = insert columns_1 (codes "load") (one (Integer (pos 5))) })) (key 8) (record { version = numbered 1; columns = insert columns_2 (codes "load") (one (Integer (pos 7))) })))
unfolding serde_json_on_literals
mutate_both =
    rw (table_is (codes "Switch")) (rw (on_switch (codes "load")) (rw (entries-one (Integer (pos 1)), entries-rows) (rw (load_mutated (Compute Plus (pos 1)) columns_1, in_1 (codes "load"), load_mutated (Compute Plus (pos 1)) columns_2, in_2 (codes "load")) (rw (entries-one (Integer (pos 4)), entries-one (Integer (pos 6))) (rw (len-one (Integer (pos 5)), entries-one (Integer (pos 5))) (rw (len-one (Integer (pos 7)), entries-one (Integer (pos 7)))
    (rw (row_1, row_2) (rw (entries-columns_1, entries-columns_2) (rw (entries-1 (codes "load") (one (Integer (pos 5))), entries-2 (codes "load") (one (Integer (pos 7)))) (rw (entries-one (Integer (pos 4)), entries-one (Integer (pos 6))) (rw (entries-one (Integer (pos 5)), entries-one (Integer (pos 7))) refl)))))))))))

pub mutations_in_order : done_on rows (codes "{\"mutations\":[[\"load\",\"*=\",2],[\"load\",\"-=\",3]],\"op\":\"mutate\",\"table\":\"Switch\",\"where\":[[\"load\",\"<\",5]]}") ≡ Some (Done (count_result 1) (insert rows (key 7) (record { version = numbered 1; columns = insert (insert columns_1 (codes "load") (one (Integer (pos 8)))) (codes "load") (one (Integer (pos 5))) })))
unfolding serde_json_on_literals
mutations_in_order =
    rw (table_is (codes "Switch")) (rw (on_switch (codes "load")) (rw (len-one (Integer (pos 5))) (rw (entries-one (Integer (pos 2)), entries-one (Integer (pos 3))) (rw entries-rows (rw (in_1 (codes "load"), in_2 (codes "load")) (rw (entries-one (Integer (pos 4)), entries-one (Integer (pos 6)), entries-one (Integer (pos 5)))
    (rw (load_mutated (Compute Times (pos 2)) columns_1, in_1 (codes "load")) (rw (entries-one (Integer (pos 4))) (rw (len-one (Integer (pos 8)), entries-one (Integer (pos 8))) (rw (load_mutated (Compute Minus (pos 3)) (insert columns_1 (codes "load") (one (Integer (pos 8)))), get-insert name_cmp_total columns_1 (codes "load") (one (Integer (pos 8))) (codes "load")) (rw (entries-one (Integer (pos 8))) (rw (len-one (Integer (pos 5)), entries-one (Integer (pos 5)))
    (rw row_1 (rw entries-columns_1 (rw (entries-again (codes "load") (one (Integer (pos 8))) (one (Integer (pos 5)))) (rw (entries-one (Integer (pos 4)), entries-one (Integer (pos 5))) refl))))))))))))))))

-- ---- insert

-- the others have their defaults
pub insert_one : done_on rows (codes "{\"op\":\"insert\",\"row\":{\"load\":5},\"table\":\"Switch\"}") ≡ Some (Done (insert_result (numbered 2)) (insert rows (key 2) (record { version = numbered 1; columns = insert (insert (insert empty (codes "load") (one (Integer (pos 5)))) (codes "name") (one (Text []))) (codes "ports") (Atoms (set_of [])) })))
unfolding serde_json_on_literals
insert_one =
    rw (table_is (codes "Switch")) (rw (on_switch (codes "load")) (rw (len-one (Integer (pos 5)), entries-one (Integer (pos 5))) (rw entries-switch (rw (get-insert name_cmp_total empty (codes "load") (one (Integer (pos 5))) (codes "load"))
    (rw (get-insert name_cmp_total empty (codes "load") (one (Integer (pos 5))) (codes "name"), get-empty name_cmp (codes "name"))
    (rw (get-insert name_cmp_total empty (codes "load") (one (Integer (pos 5))) (codes "ports"), get-empty name_cmp (codes "ports"))
    (rw (len-one (Text []), entries-one (Text [])) (rw (len-none, entries-none) (rw no_row_2 refl)))))))))

pub insert_over_a_row : done_on (insert empty (key 2) (row columns_1)) (codes "{\"op\":\"insert\",\"row\":{\"load\":5,\"name\":\"s1\",\"ports\":[\"set\",[]]},\"table\":\"Switch\"}") ≡ Some (Fault DuplicateUuid)
unfolding serde_json_on_literals
insert_over_a_row =
    rw (table_is (codes "Switch")) (rw (on_switch (codes "load")) (rw (len-one (Integer (pos 5)), entries-one (Integer (pos 5))) (rw (on_switch (codes "name"), text_s1) (rw (len-one (Text (codes "s1")), entries-one (Text (codes "s1"))) (rw (on_switch (codes "ports")) (rw (len-none, entries-none)
    (rw entries-switch (rw (given_load (Atoms (set_of [])), given_name (Atoms (set_of [])), given_ports (Atoms (set_of []))) (rw (get-insert key_total empty (key 2) (row columns_1) (key 2)) refl)))))))))

pub insert_that_does_not_fit : done_on rows (codes "{\"op\":\"insert\",\"row\":{\"tag\":4096},\"table\":\"Port\"}") ≡ Some (Fault ConstraintViolation)
unfolding serde_json_on_literals
insert_that_does_not_fit =
    rw (table_is (codes "Port")) (rw (on_port (codes "tag")) (rw (len-one (Integer (pos 4096)), entries-one (Integer (pos 4096))) refl))
