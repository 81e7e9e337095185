-- Worked operations that are refused, whatever rows there are: a member that is missing or of a wrong kind, and of two
-- faults the one that is checked first.
use Rattle.std.proofs.Common.{◌≡◌, ℕ, List, Some, refl, codes}
use Rattle.serde_json.proofs.OnLiterals.{serde_json_on_literals}
use Rattle.ov_specs.specs.operations.Errors.{OpError, SyntaxError, UnknownTable, UnknownColumn, UnknownOperation, NotOwner, ConstraintViolation, Aborted}
use Rattle.ov_specs.specs.operations.OpOutcome.{Fault}
use Rattle.ov_specs.specs.rows.Database.{Database}
use Rattle.ov_examples.proofs.NetRows.{table_is, on_switch, entries-switch, on_port, done_on}

-- whatever rows there are, the operation of the text has the error
abbrev Refused : List ℕ → OpError → Type 0
Refused text error = (rows : Database) → done_on rows text ≡ Some (Fault error)

-- ---- any operation

-- an array, and no object
pub no_object : Refused (codes "[1]") SyntaxError
unfolding serde_json_on_literals
no_object rows = refl

pub no_op : Refused (codes "{\"table\":\"Switch\"}") SyntaxError
unfolding serde_json_on_literals
no_op rows = refl

pub op_no_text : Refused (codes "{\"op\":7}") SyntaxError
unfolding serde_json_on_literals
op_no_text rows = refl

pub unknown_op : Refused (codes "{\"op\":\"erase\"}") UnknownOperation
unfolding serde_json_on_literals
unknown_op rows = refl

-- ---- assert

pub assert_without_lock : Refused (codes "{\"op\":\"assert\"}") SyntaxError
unfolding serde_json_on_literals
assert_without_lock rows = refl

pub assert_lock_no_id : Refused (codes "{\"lock\":\"a b\",\"op\":\"assert\"}") SyntaxError
unfolding serde_json_on_literals
assert_lock_no_id rows = refl

-- the session owns no lock
pub assert_by_nobody : Refused (codes "{\"lock\":\"L\",\"op\":\"assert\"}") NotOwner
unfolding serde_json_on_literals
assert_by_nobody rows = refl

-- ---- insert

pub insert_without_table : Refused (codes "{\"op\":\"insert\",\"row\":{}}") SyntaxError
unfolding serde_json_on_literals
insert_without_table rows = refl

pub insert_table_no_text : Refused (codes "{\"op\":\"insert\",\"row\":{},\"table\":1}") SyntaxError
unfolding serde_json_on_literals
insert_table_no_text rows = refl

-- before what else is wrong
pub insert_in_unknown_table : Refused (codes "{\"op\":\"insert\",\"table\":\"Swich\",\"uuid\":7}") UnknownTable
unfolding serde_json_on_literals
insert_in_unknown_table rows = rw (table_is (codes "Swich")) refl

pub insert_uuid_no_text : Refused (codes "{\"op\":\"insert\",\"row\":{},\"table\":\"Switch\",\"uuid\":null}") SyntaxError
unfolding serde_json_on_literals
insert_uuid_no_text rows = rw (table_is (codes "Switch")) refl

-- of an identifier in characters one is missing
pub insert_uuid_too_short : Refused (codes "{\"op\":\"insert\",\"row\":{},\"table\":\"Switch\",\"uuid\":\"00000000-0000-0000-0000-00000000000\"}") SyntaxError
unfolding serde_json_on_literals
insert_uuid_too_short rows = rw (table_is (codes "Switch")) refl

pub insert_uuid_named : Refused (codes "{\"op\":\"insert\",\"row\":{},\"table\":\"Switch\",\"uuid\":[\"named-uuid\",\"p\"]}") SyntaxError
unfolding serde_json_on_literals
insert_uuid_named rows = rw (table_is (codes "Switch")) refl

-- null is there, and no text
pub insert_name_no_text : Refused (codes "{\"op\":\"insert\",\"row\":{},\"table\":\"Switch\",\"uuid-name\":null}") SyntaxError
unfolding serde_json_on_literals
insert_name_no_text rows = rw (table_is (codes "Switch")) refl

pub insert_name_no_id : Refused (codes "{\"op\":\"insert\",\"row\":{},\"table\":\"Switch\",\"uuid-name\":\"1p\"}") SyntaxError
unfolding serde_json_on_literals
insert_name_no_id rows = rw (table_is (codes "Switch")) refl

pub insert_name_before_row : Refused (codes "{\"op\":\"insert\",\"row\":{\"nam\":1},\"table\":\"Switch\",\"uuid-name\":\"1p\"}") SyntaxError
unfolding serde_json_on_literals
insert_name_before_row rows = rw (table_is (codes "Switch")) refl

pub insert_without_row : Refused (codes "{\"op\":\"insert\",\"table\":\"Switch\"}") SyntaxError
unfolding serde_json_on_literals
insert_without_row rows = rw (table_is (codes "Switch")) refl

pub insert_row_no_object : Refused (codes "{\"op\":\"insert\",\"row\":[],\"table\":\"Switch\"}") SyntaxError
unfolding serde_json_on_literals
insert_row_no_object rows = rw (table_is (codes "Switch")) refl

pub insert_unknown_column : Refused (codes "{\"op\":\"insert\",\"row\":{\"nam\":1},\"table\":\"Switch\"}") UnknownColumn
unfolding serde_json_on_literals
insert_unknown_column rows = rw (table_is (codes "Switch")) (rw (on_switch (codes "nam")) refl)

pub insert_own_column : Refused (codes "{\"op\":\"insert\",\"row\":{\"_uuid\":1},\"table\":\"Switch\"}") ConstraintViolation
unfolding serde_json_on_literals
insert_own_column rows = rw (table_is (codes "Switch")) (rw (on_switch (codes "_uuid")) refl)

-- by the order of the names
pub insert_own_then_unknown : Refused (codes "{\"op\":\"insert\",\"row\":{\"_uuid\":1,\"a\":1},\"table\":\"Switch\"}") ConstraintViolation
unfolding serde_json_on_literals
insert_own_then_unknown rows = rw (table_is (codes "Switch")) (rw (on_switch (codes "_uuid")) refl)

pub insert_unknown_then_own : Refused (codes "{\"op\":\"insert\",\"row\":{\"A\":1,\"_uuid\":1},\"table\":\"Switch\"}") UnknownColumn
unfolding serde_json_on_literals
insert_unknown_then_own rows = rw (table_is (codes "Switch")) (rw (on_switch (codes "A")) refl)

pub insert_unread_value : Refused (codes "{\"op\":\"insert\",\"row\":{\"load\":\"x\"},\"table\":\"Switch\"}") SyntaxError
unfolding serde_json_on_literals
insert_unread_value rows = rw (table_is (codes "Switch")) (rw (on_switch (codes "load")) refl)

-- no insert declares the name
pub insert_undeclared_name : Refused (codes "{\"op\":\"insert\",\"row\":{\"ports\":[\"named-uuid\",\"p\"]},\"table\":\"Switch\"}") SyntaxError
unfolding serde_json_on_literals
insert_undeclared_name rows = rw (table_is (codes "Switch")) (rw (on_switch (codes "ports")) refl)

-- ---- select

pub select_without_where : Refused (codes "{\"op\":\"select\",\"table\":\"Switch\"}") SyntaxError
unfolding serde_json_on_literals
select_without_where rows = rw (table_is (codes "Switch")) refl

pub select_where_no_array : Refused (codes "{\"op\":\"select\",\"table\":\"Switch\",\"where\":{}}") SyntaxError
unfolding serde_json_on_literals
select_where_no_array rows = rw (table_is (codes "Switch")) refl

pub select_unknown_table : Refused (codes "{\"op\":\"select\",\"table\":\"Swich\",\"where\":{}}") UnknownTable
unfolding serde_json_on_literals
select_unknown_table rows = rw (table_is (codes "Swich")) refl

pub select_columns_no_array : Refused (codes "{\"columns\":\"name\",\"op\":\"select\",\"table\":\"Switch\",\"where\":[]}") SyntaxError
unfolding serde_json_on_literals
select_columns_no_array rows = rw (table_is (codes "Switch")) refl

pub select_columns_null : Refused (codes "{\"columns\":null,\"op\":\"select\",\"table\":\"Switch\",\"where\":[]}") SyntaxError
unfolding serde_json_on_literals
select_columns_null rows = rw (table_is (codes "Switch")) refl

-- before a column that is unknown
pub select_column_no_text : Refused (codes "{\"columns\":[\"nam\",1],\"op\":\"select\",\"table\":\"Switch\",\"where\":[]}") SyntaxError
unfolding serde_json_on_literals
select_column_no_text rows = rw (table_is (codes "Switch")) refl

pub select_where_before_columns : Refused (codes "{\"columns\":7,\"op\":\"select\",\"table\":\"Switch\",\"where\":[[\"nam\",\"==\",1]]}") UnknownColumn
unfolding serde_json_on_literals
select_where_before_columns rows = rw (table_is (codes "Switch")) (rw (on_switch (codes "nam")) refl)

-- ---- update

pub update_without_where : Refused (codes "{\"op\":\"update\",\"row\":{},\"table\":\"Switch\"}") SyntaxError
unfolding serde_json_on_literals
update_without_where rows = rw (table_is (codes "Switch")) refl

pub update_without_row : Refused (codes "{\"op\":\"update\",\"table\":\"Switch\",\"where\":[]}") SyntaxError
unfolding serde_json_on_literals
update_without_row rows = rw (table_is (codes "Switch")) refl

pub update_row_no_object : Refused (codes "{\"op\":\"update\",\"row\":null,\"table\":\"Switch\",\"where\":[]}") SyntaxError
unfolding serde_json_on_literals
update_row_no_object rows = rw (table_is (codes "Switch")) refl

pub update_where_before_row : Refused (codes "{\"op\":\"update\",\"row\":{\"_uuid\":1},\"table\":\"Switch\",\"where\":[[\"nam\",\"==\",1]]}") UnknownColumn
unfolding serde_json_on_literals
update_where_before_row rows = rw (table_is (codes "Switch")) (rw (on_switch (codes "nam")) refl)

-- a row keeps its identifier
pub update_of_uuid : Refused (codes "{\"op\":\"update\",\"row\":{\"_uuid\":[\"uuid\",\"00000000-0000-0000-0000-000000000001\"]},\"table\":\"Switch\",\"where\":[]}") ConstraintViolation
unfolding serde_json_on_literals
update_of_uuid rows = rw (table_is (codes "Switch")) (rw (on_switch (codes "_uuid")) refl)

pub update_of_version : Refused (codes "{\"op\":\"update\",\"row\":{\"_version\":1},\"table\":\"Switch\",\"where\":[]}") ConstraintViolation
unfolding serde_json_on_literals
update_of_version rows = rw (table_is (codes "Switch")) (rw (on_switch (codes "_version")) refl)

-- a column that is not mutable, before its value
pub update_of_fixed : Refused (codes "{\"op\":\"update\",\"row\":{\"name\":7},\"table\":\"Port\",\"where\":[]}") ConstraintViolation
unfolding serde_json_on_literals
update_of_fixed rows = rw (table_is (codes "Port")) (rw (on_port (codes "name")) refl)

pub update_unknown_column : Refused (codes "{\"op\":\"update\",\"row\":{\"nam\":1},\"table\":\"Port\",\"where\":[]}") UnknownColumn
unfolding serde_json_on_literals
update_unknown_column rows = rw (table_is (codes "Port")) (rw (on_port (codes "nam")) refl)

pub update_unread_value : Refused (codes "{\"op\":\"update\",\"row\":{\"tag\":\"x\"},\"table\":\"Port\",\"where\":[]}") SyntaxError
unfolding serde_json_on_literals
update_unread_value rows = rw (table_is (codes "Port")) (rw (on_port (codes "tag")) refl)

-- ---- mutate

pub mutate_without_where : Refused (codes "{\"mutations\":[],\"op\":\"mutate\",\"table\":\"Switch\"}") SyntaxError
unfolding serde_json_on_literals
mutate_without_where rows = rw (table_is (codes "Switch")) refl

pub mutate_without_mutations : Refused (codes "{\"op\":\"mutate\",\"table\":\"Switch\",\"where\":[]}") SyntaxError
unfolding serde_json_on_literals
mutate_without_mutations rows = rw (table_is (codes "Switch")) refl

pub mutate_mutations_no_array : Refused (codes "{\"mutations\":{},\"op\":\"mutate\",\"table\":\"Switch\",\"where\":[]}") SyntaxError
unfolding serde_json_on_literals
mutate_mutations_no_array rows = rw (table_is (codes "Switch")) refl

pub mutation_of_two : Refused (codes "{\"mutations\":[[\"load\",\"+=\"]],\"op\":\"mutate\",\"table\":\"Switch\",\"where\":[]}") SyntaxError
unfolding serde_json_on_literals
mutation_of_two rows = rw (table_is (codes "Switch")) refl

pub mutation_of_unknown_column : Refused (codes "{\"mutations\":[[\"lod\",\"+=\",1]],\"op\":\"mutate\",\"table\":\"Switch\",\"where\":[]}") UnknownColumn
unfolding serde_json_on_literals
mutation_of_unknown_column rows = rw (table_is (codes "Switch")) (rw (on_switch (codes "lod")) refl)

pub mutation_of_uuid : Refused (codes "{\"mutations\":[[\"_uuid\",\"++\",1]],\"op\":\"mutate\",\"table\":\"Switch\",\"where\":[]}") ConstraintViolation
unfolding serde_json_on_literals
mutation_of_uuid rows = rw (table_is (codes "Switch")) (rw (on_switch (codes "_uuid")) refl)

pub mutation_unknown_mutator : Refused (codes "{\"mutations\":[[\"load\",\"++\",1]],\"op\":\"mutate\",\"table\":\"Switch\",\"where\":[]}") SyntaxError
unfolding serde_json_on_literals
mutation_unknown_mutator rows = rw (table_is (codes "Switch")) (rw (on_switch (codes "load")) refl)

pub mutation_insert_in_scalar : Refused (codes "{\"mutations\":[[\"load\",\"insert\",1]],\"op\":\"mutate\",\"table\":\"Switch\",\"where\":[]}") SyntaxError
unfolding serde_json_on_literals
mutation_insert_in_scalar rows = rw (table_is (codes "Switch")) (rw (on_switch (codes "load")) refl)

pub mutate_where_before_mutations : Refused (codes "{\"mutations\":7,\"op\":\"mutate\",\"table\":\"Switch\",\"where\":[[]]}") SyntaxError
unfolding serde_json_on_literals
mutate_where_before_mutations rows = rw (table_is (codes "Switch")) refl

-- ---- delete

pub delete_without_table : Refused (codes "{\"op\":\"delete\",\"where\":[]}") SyntaxError
unfolding serde_json_on_literals
delete_without_table rows = refl

pub delete_without_where : Refused (codes "{\"op\":\"delete\",\"table\":\"Switch\"}") SyntaxError
unfolding serde_json_on_literals
delete_without_where rows = rw (table_is (codes "Switch")) refl

pub delete_unknown_column : Refused (codes "{\"op\":\"delete\",\"table\":\"Switch\",\"where\":[[\"nam\",\"==\",1]]}") UnknownColumn
unfolding serde_json_on_literals
delete_unknown_column rows = rw (table_is (codes "Switch")) (rw (on_switch (codes "nam")) refl)

-- ---- wait

pub wait_without_table : Refused (codes "{\"op\":\"wait\",\"rows\":[],\"until\":\"==\",\"where\":[]}") SyntaxError
unfolding serde_json_on_literals
wait_without_table rows = refl

pub wait_timeout_negative : Refused (codes "{\"op\":\"wait\",\"rows\":[],\"table\":\"Switch\",\"timeout\":-1,\"until\":\"==\",\"where\":[]}") SyntaxError
unfolding serde_json_on_literals
wait_timeout_negative rows = rw (table_is (codes "Switch")) refl

pub wait_timeout_null : Refused (codes "{\"op\":\"wait\",\"rows\":[],\"table\":\"Switch\",\"timeout\":null,\"until\":\"==\",\"where\":[]}") SyntaxError
unfolding serde_json_on_literals
wait_timeout_null rows = rw (table_is (codes "Switch")) refl

pub wait_timeout_before_where : Refused (codes "{\"op\":\"wait\",\"rows\":[],\"table\":\"Switch\",\"timeout\":\"x\",\"until\":\"==\",\"where\":[[\"nam\",\"==\",1]]}") SyntaxError
unfolding serde_json_on_literals
wait_timeout_before_where rows = rw (table_is (codes "Switch")) refl

pub wait_without_where : Refused (codes "{\"op\":\"wait\",\"rows\":[],\"table\":\"Switch\",\"until\":\"==\"}") SyntaxError
unfolding serde_json_on_literals
wait_without_where rows = rw (table_is (codes "Switch")) refl

pub wait_where_before_columns : Refused (codes "{\"columns\":7,\"op\":\"wait\",\"rows\":[],\"table\":\"Switch\",\"until\":\"==\",\"where\":[[\"nam\",\"==\",1]]}") UnknownColumn
unfolding serde_json_on_literals
wait_where_before_columns rows = rw (table_is (codes "Switch")) (rw (on_switch (codes "nam")) refl)

pub wait_columns_no_array : Refused (codes "{\"columns\":\"name\",\"op\":\"wait\",\"rows\":[],\"table\":\"Switch\",\"until\":\"==\",\"where\":[]}") SyntaxError
unfolding serde_json_on_literals
wait_columns_no_array rows = rw (table_is (codes "Switch")) refl

pub wait_columns_before_until : Refused (codes "{\"columns\":[\"nam\"],\"op\":\"wait\",\"rows\":[],\"table\":\"Switch\",\"where\":[]}") UnknownColumn
unfolding serde_json_on_literals
wait_columns_before_until rows = rw (table_is (codes "Switch")) (rw (on_switch (codes "nam")) refl)

pub wait_without_until : Refused (codes "{\"columns\":[],\"op\":\"wait\",\"rows\":[],\"table\":\"Switch\",\"where\":[]}") SyntaxError
unfolding serde_json_on_literals
wait_without_until rows = rw (table_is (codes "Switch")) refl

pub wait_until_less : Refused (codes "{\"columns\":[],\"op\":\"wait\",\"rows\":[],\"table\":\"Switch\",\"until\":\"<\",\"where\":[]}") SyntaxError
unfolding serde_json_on_literals
wait_until_less rows = rw (table_is (codes "Switch")) refl

pub wait_without_rows : Refused (codes "{\"columns\":[],\"op\":\"wait\",\"table\":\"Switch\",\"until\":\"==\",\"where\":[]}") SyntaxError
unfolding serde_json_on_literals
wait_without_rows rows = rw (table_is (codes "Switch")) refl

pub wait_rows_no_array : Refused (codes "{\"columns\":[],\"op\":\"wait\",\"rows\":{},\"table\":\"Switch\",\"until\":\"==\",\"where\":[]}") SyntaxError
unfolding serde_json_on_literals
wait_rows_no_array rows = rw (table_is (codes "Switch")) refl

pub wait_row_no_object : Refused (codes "{\"columns\":[],\"op\":\"wait\",\"rows\":[[]],\"table\":\"Switch\",\"until\":\"==\",\"where\":[]}") SyntaxError
unfolding serde_json_on_literals
wait_row_no_object rows = rw (table_is (codes "Switch")) refl

-- a column that is not compared
pub wait_row_of_other_column : Refused (codes "{\"columns\":[],\"op\":\"wait\",\"rows\":[{\"load\":1}],\"table\":\"Switch\",\"until\":\"==\",\"where\":[]}") SyntaxError
unfolding serde_json_on_literals
wait_row_of_other_column rows = rw (table_is (codes "Switch")) (rw (entries-switch) (rw (on_switch (codes "load")) refl))

pub wait_row_of_unknown_column : Refused (codes "{\"columns\":[],\"op\":\"wait\",\"rows\":[{\"lod\":1}],\"table\":\"Switch\",\"until\":\"==\",\"where\":[]}") SyntaxError
unfolding serde_json_on_literals
wait_row_of_unknown_column rows = rw (table_is (codes "Switch")) (rw (entries-switch) (rw (on_switch (codes "lod")) refl))

-- ---- commit, abort, comment

pub commit_without_durable : Refused (codes "{\"op\":\"commit\"}") SyntaxError
unfolding serde_json_on_literals
commit_without_durable rows = refl

pub commit_durable_no_truth : Refused (codes "{\"durable\":1,\"op\":\"commit\"}") SyntaxError
unfolding serde_json_on_literals
commit_durable_no_truth rows = refl

pub abort : Refused (codes "{\"op\":\"abort\",\"table\":7}") Aborted
unfolding serde_json_on_literals
abort rows = refl

pub comment_without_text : Refused (codes "{\"op\":\"comment\"}") SyntaxError
unfolding serde_json_on_literals
comment_without_text rows = refl

pub comment_no_text : Refused (codes "{\"comment\":[\"x\"],\"op\":\"comment\"}") SyntaxError
unfolding serde_json_on_literals
comment_no_text rows = refl
