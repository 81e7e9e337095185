-- Worked transactions: their results, and what they leave.
use Rattle.std.proofs.Common.{◌≡◌, ℕ, pos, negsuc, List, [], ◌∷◌, true, false, Option, Some, None, Ok, option_map, option_and_then, refl, ap, ◌∙◌, codes}
use Rattle.std.specs.List.{list_any}
use Rattle.std.specs.FinMap.{empty, get, insert, entries, put, entries-insert, get-empty, get-insert}
use Rattle.serde_json.specs.Data.{Data, null, number, unsigned, negative, string, array, object, Members, no_members, member, Items, no_items, item}
use Rattle.serde_json.specs.Find.{as_array}
use Rattle.serde_json.specs.Read.{read}
use Rattle.serde_json.proofs.OnLiterals.{serde_json_on_literals}
use Rattle.uuid.specs.Text.{by_index}
use Rattle.ov_specs.specs.integrity.Committed.{committed, is_whole}
use Rattle.ov_specs.specs.integrity.Limits.{is_short}
use Rattle.ov_specs.specs.operations.Operation.{outcome_of}
use Rattle.ov_specs.specs.operations.Transaction.{TransactionOutcome, Completes, Waits, transaction}
use Rattle.ov_specs.specs.operations.Errors.{DuplicateName, error_tree}
use Rattle.ov_specs.specs.operations.GivenRow.{may_be_new, given_values}
use Rattle.ov_specs.specs.operations.Insert.{new_row, with_defaults, insert_result}
use Rattle.ov_specs.specs.operations.MatchingRows.{count_result}
use Rattle.ov_specs.specs.operations.Mutators.{Compute, Modulo}
use Rattle.ov_specs.specs.operations.OpOutcome.{OpContext, Done, names_in}
use Rattle.ov_specs.specs.rows.Database.{Columns, Row, Database}
use Rattle.ov_specs.specs.rows.Lines.{line_cmp}
use Rattle.ov_specs.specs.rows.Suits.{Suits}
use Rattle.ov_specs.specs.schema.SchemaTypes.{name_cmp}
use Rattle.ov_specs.specs.values.Uuid.{Names}
use Rattle.ov_specs.specs.values.Value.{Atom, Integer, Text, Uuid, Datum}
use Rattle.ov_specs.specs.values.Writing.{two, atom_tree}
use Rattle.ov_specs.proofs.laws.Committing.{enough_committed, whole_committed}
use Rattle.ov_specs.proofs.laws.LineKeys.{key_total}
use Rattle.ov_specs.proofs.laws.Names.{name_cmp_total}
use Rattle.ov_examples.proofs.ConditionRows.{len-one}
use Rattle.ov_examples.proofs.NetRows as net_rows
use Rattle.ov_examples.proofs.NetRows.{numbered, owns_none, net, table_of, table_is, entries-tables, switch_columns, on_switch, on_port, entries-switch, entries-port, load_mutated}
use Rattle.ov_examples.proofs.TwoSwitches.{one, entries-one, entries-none, len-none, key, row, columns_1, entries-columns_1, entries-1, entries-again, entries-given, entries-given_all, rows, entries-rows, entries-put, entries-deleted, given, given_load, given_name, given_ports, text_s1}

-- what the transaction of a text comes to, with draws from 1 on
abbrev transacted : Database → ℕ → List ℕ → Option TransactionOutcome
transacted before age text = option_map (transaction net before owns_none (numbered 1 ∷ numbered 2 ∷ numbered 3 ∷ []) age) (option_and_then as_array (read text))

-- the results, as they are sent, and the database
abbrev completes : List ℕ → Database → Option TransactionOutcome
completes text database = option_map (λ results. Completes results database) (option_and_then as_array (read text))

-- ---- whatever rows there are

-- whole rows of the schema are committed as they are
pub transaction_of_nothing : (before : Database) → Suits net before → is_whole net before ≡ true → transacted before 0 (codes "[]") ≡ completes (codes "[]") before
unfolding serde_json_on_literals
transaction_of_nothing before suits whole = rw (whole_committed net before (numbered 1) before suits whole) refl

-- every commit is durable
pub commit_without_durability : (before : Database) → Suits net before → is_whole net before ≡ true
    → transacted before 0 (codes "[{\"durable\":false,\"op\":\"commit\"},{\"comment\":\"x\",\"op\":\"comment\"},{\"durable\":true,\"op\":\"commit\"}]") ≡ completes (codes "[{},{},{}]") before
unfolding serde_json_on_literals
commit_without_durability before suits whole = rw (whole_committed net before (numbered 1) before suits whole) refl

pub unknown_operation_ends_it : (before : Database) → transacted before 0 (codes "[{\"op\":\"erase\"},{\"op\":\"insert\",\"row\":{\"name\":\"s1\"},\"table\":\"Switch\"}]") ≡ completes (codes "[{\"error\":\"unknown operation\"},null]") before
unfolding serde_json_on_literals
unknown_operation_ends_it before = refl

pub unknown_table_ends_it : (before : Database) → transacted before 0 (codes "[{\"columns\":[\"name\"],\"op\":\"select\",\"table\":\"Swich\",\"where\":[]}]") ≡ completes (codes "[{\"error\":\"unknown table\"}]") before
unfolding serde_json_on_literals
unknown_table_ends_it before = rw (table_is (codes "Swich")) refl

pub unknown_column_ends_it : (before : Database) → transacted before 0 (codes "[{\"columns\":[\"nam\"],\"op\":\"select\",\"table\":\"Switch\",\"where\":[]}]") ≡ completes (codes "[{\"error\":\"unknown column\"}]") before
unfolding serde_json_on_literals
unknown_column_ends_it before = rw (table_is (codes "Switch")) (rw (on_switch (codes "nam")) refl)

pub abort_ends_it : (before : Database) → transacted before 0 (codes "[{\"comment\":\"x\",\"op\":\"comment\"},{\"op\":\"abort\"},{\"op\":\"erase\"}]") ≡ completes (codes "[{},{\"error\":\"aborted\"},null]") before
unfolding serde_json_on_literals
abort_ends_it before = refl

-- ---- what is undone

pub abort_after_delete : transacted rows 0 (codes "[{\"op\":\"delete\",\"table\":\"Switch\",\"where\":[]},{\"op\":\"abort\"},{\"op\":\"abort\"}]") ≡ completes (codes "[{\"count\":2},{\"error\":\"aborted\"},null]") rows
unfolding serde_json_on_literals
abort_after_delete = rw (table_is (codes "Switch")) (rw entries-rows refl)

-- the deletion is not kept, and the operation after the wait is not tried
pub blocked_after_delete : transacted rows 49 (codes "[{\"op\":\"delete\",\"table\":\"Switch\",\"where\":[]},{\"op\":\"wait\",\"rows\":[],\"table\":\"Port\",\"timeout\":50,\"until\":\"!=\",\"where\":[]},{\"op\":\"abort\"}]") ≡ Some (Waits (Some 50))
unfolding serde_json_on_literals
blocked_after_delete = rw (table_is (codes "Switch")) (rw entries-rows (rw (table_is (codes "Port")) (rw entries-deleted refl)))

pub timed_out_after_delete : transacted rows 50 (codes "[{\"op\":\"delete\",\"table\":\"Switch\",\"where\":[]},{\"op\":\"wait\",\"rows\":[],\"table\":\"Port\",\"timeout\":50,\"until\":\"!=\",\"where\":[]},{\"op\":\"abort\"}]") ≡ completes (codes "[{\"count\":2},{\"error\":\"timed out\"},null]") rows
unfolding serde_json_on_literals
timed_out_after_delete = rw (table_is (codes "Switch")) (rw entries-rows (rw (table_is (codes "Port")) (rw entries-deleted refl)))

-- ---- a switch with ports, and a port

abbrev table_members : List ℕ → Members → Members
table_members table members = member (codes "table") (string table) members

abbrev named : List ℕ → Members
named name = member (codes "uuid-name") (string name) no_members

abbrev insert_of : Data → Members → Data
insert_of row members = object (member (codes "op") (string (codes "insert")) (member (codes "row") row members))

abbrev switch_with : Data → Members
switch_with ports = member (codes "load") (number (unsigned 5)) (member (codes "name") (string (codes "s1")) (member (codes "ports") ports no_members))

-- its columns, where the ports are one that a name stands for
module _ (names : Names) (port : List ℕ) (is : names (codes "p") ≡ Some port) where
  abbrev ports : Datum
  ports = one (Uuid port)

  ports-given : given_values may_be_new names (table_of switch_columns) (switch_with (two (string (codes "named-uuid")) (string (codes "p")))) ≡ Ok (given ports)
  ports-given =
      rw (on_switch (codes "load"), on_switch (codes "name"), on_switch (codes "ports")) (rw (len-one (Integer (pos 5)), entries-one (Integer (pos 5)))
      (rw (text_s1, len-one (Text (codes "s1")), entries-one (Text (codes "s1"))) (rw (is, len-one (Uuid port), entries-one (Uuid port)) refl)))

  ports-complete : with_defaults (table_of switch_columns) (given ports) ≡ Ok (given ports)
  ports-complete = rw entries-switch (rw (given_load ports, given_name ports, given_ports ports) refl)

  new_ports : new_row names (table_of switch_columns) (switch_with (two (string (codes "named-uuid")) (string (codes "p")))) ≡ Ok (given ports)
  new_ports = rw ports-given ports-complete

-- ---- two inserts with one name

abbrev insert_named : Data
insert_named = insert_of (object (switch_with (two (string (codes "named-uuid")) (string (codes "p"))))) (table_members (codes "Switch") (named (codes "p")))

abbrev twice : Items
twice = item insert_named (item (insert_of null (table_members (codes "Switch") (named (codes "p")))) no_items)

abbrev in_twice : OpContext
in_twice = record { schema = net; before = empty; owns = owns_none; version = numbered 1; ids = numbered 2 ∷ numbered 3 ∷ []; operations = twice; age = 0 }

-- a switch that is a port of its own, by its name
named_does : outcome_of in_twice 0 empty insert_named ≡ Done (insert_result (numbered 2)) (insert empty (codes "Switch", numbered 2) (record { version = numbered 1; columns = given (one (Uuid (numbered 2))) }))
named_does = rw (table_is (codes "Switch")) (rw (new_ports (names_in in_twice) (numbered 2) refl) (rw (get-empty line_cmp (codes "Switch", numbered 2)) refl))

-- the second is refused, before its row is checked, and the first is undone
pub two_inserts_with_one_name : transaction net empty owns_none (numbered 1 ∷ numbered 2 ∷ numbered 3 ∷ []) 0 twice ≡ Completes (item (insert_result (numbered 2)) (item (error_tree DuplicateName) no_items)) empty
two_inserts_with_one_name = rw named_does (rw (table_is (codes "Switch")) refl)

-- ---- a name that is used before the insert that declares it

abbrev insert_switch : Data
insert_switch = insert_of (object (switch_with (two (string (codes "named-uuid")) (string (codes "p"))))) (table_members (codes "Switch") no_members)

abbrev port_members : Members
port_members = member (codes "name") (string (codes "s1")) (member (codes "tag") (number (unsigned 5)) no_members)

abbrev insert_port : Data
insert_port = insert_of (object port_members) (table_members (codes "Port") (named (codes "p")))

abbrev select_ports : Data
select_ports =
    object (member (codes "columns") (array (item (string (codes "ports")) no_items)) (member (codes "op") (string (codes "select"))
    (table_members (codes "Switch") (member (codes "where") (array no_items) no_members))))

abbrev before_declared : Items
before_declared = item insert_switch (item insert_port (item select_ports no_items))

abbrev in_before : OpContext
in_before = record { schema = net; before = empty; owns = owns_none; version = numbered 1; ids = numbered 2 ∷ numbered 3 ∷ []; operations = before_declared; age = 0 }

abbrev new_switch : Row
new_switch = record { version = numbered 1; columns = given (one (Uuid (numbered 3))) }

abbrev switch_rows : Database
switch_rows = insert empty (codes "Switch", numbered 2) new_switch

switch_does : outcome_of in_before 0 empty insert_switch ≡ Done (insert_result (numbered 2)) switch_rows
switch_does = rw (table_is (codes "Switch")) (rw (new_ports (names_in in_before) (numbered 3) refl) (rw (get-empty line_cmp (codes "Switch", numbered 2)) refl))

abbrev port_columns : Columns
port_columns = insert (insert empty (codes "name") (one (Text (codes "s1")))) (codes "tag") (one (Integer (pos 5)))

port_name : get port_columns (codes "name") ≡ Some (one (Text (codes "s1")))
port_name = get-insert name_cmp_total _ (codes "tag") (one (Integer (pos 5))) (codes "name") ∙ get-insert name_cmp_total empty (codes "name") (one (Text (codes "s1"))) (codes "name")

port_tag : get port_columns (codes "tag") ≡ Some (one (Integer (pos 5)))
port_tag = get-insert name_cmp_total _ (codes "tag") (one (Integer (pos 5))) (codes "tag")

port-given : (names : Names) → given_values may_be_new names (table_of net_rows.port_columns) port_members ≡ Ok port_columns
port-given names =
    rw (on_port (codes "name"), on_port (codes "tag")) (rw (text_s1, len-one (Text (codes "s1")), entries-one (Text (codes "s1"))) (rw (len-one (Integer (pos 5)), entries-one (Integer (pos 5))) refl))

port-complete : with_defaults (table_of net_rows.port_columns) port_columns ≡ Ok port_columns
port-complete = rw entries-port (rw (port_name, port_tag) refl)

new_port : (names : Names) → new_row names (table_of net_rows.port_columns) port_members ≡ Ok port_columns
new_port names = rw (port-given names) port-complete

no_port_3 : get switch_rows (codes "Port", numbered 3) ≡ None
no_port_3 = get-insert key_total empty _ _ (codes "Port", numbered 3) ∙ get-empty line_cmp (codes "Port", numbered 3)

abbrev port_row : Row
port_row = record { version = numbered 1; columns = port_columns }

abbrev both_rows : Database
both_rows = insert switch_rows (codes "Port", numbered 3) port_row

port_does : outcome_of in_before 1 switch_rows insert_port ≡ Done (insert_result (numbered 3)) both_rows
port_does = rw (table_is (codes "Port")) (rw (new_port (names_in in_before)) (rw no_port_3 (rw (get-empty line_cmp (codes "Port", numbered 3)) refl)))

entries-both_rows : entries both_rows ≡ ((codes "Port", numbered 3), port_row) ∷ ((codes "Switch", numbered 2), new_switch) ∷ []
entries-both_rows = entries-insert key_total switch_rows _ _ ∙ ap (put line_cmp (codes "Port", numbered 3) port_row) (entries-put (codes "Switch", numbered 2) new_switch)

abbrev ports_shown : Data
ports_shown = object (member (codes "rows") (array (item (object (member (codes "ports") (atom_tree (Uuid (numbered 3))) no_members)) no_items)) no_members)

select_does : outcome_of in_before 2 both_rows select_ports ≡ Done ports_shown both_rows
select_does = rw (table_is (codes "Switch")) (rw (on_switch (codes "ports"), entries-switch) (rw entries-both_rows (rw (given_ports (one (Uuid (numbered 3)))) (rw (entries-one (Uuid (numbered 3))) refl))))

entries-port_columns : entries port_columns ≡ (codes "name", one (Text (codes "s1"))) ∷ (codes "tag", one (Integer (pos 5))) ∷ []
entries-port_columns =
    entries-insert name_cmp_total _ (codes "tag") (one (Integer (pos 5))) ∙ ap (put name_cmp (codes "tag") (one (Integer (pos 5)))) (entries-given (codes "name") (one (Text (codes "s1"))))

both-enough : list_any (is_short net) (entries both_rows) ≡ false
both-enough =
    rw entries-both_rows (rw (table_is (codes "Port"), table_is (codes "Switch")) (rw (entries-port_columns, entries-given_all (one (Uuid (numbered 3))))
    (rw (on_port (codes "name"), on_port (codes "tag")) (rw (on_switch (codes "load"), on_switch (codes "name"), on_switch (codes "ports"))
    (rw (len-one (Text (codes "s1")), len-one (Integer (pos 5)), len-one (Uuid (numbered 3))) refl)))))

both-whole : is_whole net both_rows ≡ true
both-whole =
    rw (entries-both_rows, entries-tables) (rw (table_is (codes "Port"), table_is (codes "Switch")) (rw (entries-port_columns, entries-given_all (one (Uuid (numbered 3))))
    (rw (on_port (codes "name"), on_port (codes "tag")) (rw (on_switch (codes "load"), on_switch (codes "name"), on_switch (codes "ports"))
    (rw (entries-one (Text (codes "s1")), entries-one (Integer (pos 5)), entries-one (Uuid (numbered 3))) refl)))))

-- in this schema identifiers refer to no table, and each table is a root table
both-committed : committed net empty (numbered 1) both_rows ≡ Ok both_rows
both-committed = enough_committed net empty (numbered 1) both_rows both-enough both-whole

pub named_uuid_used_before : transaction net empty owns_none (numbered 1 ∷ numbered 2 ∷ numbered 3 ∷ []) 0 before_declared
    ≡ Completes (item (insert_result (numbered 2)) (item (insert_result (numbered 3)) (item ports_shown no_items))) both_rows
named_uuid_used_before = rw switch_does (rw port_does (rw select_does (rw both-committed refl)))

pub used_before_is_answered : Some (array (item (insert_result (numbered 2)) (item (insert_result (numbered 3)) (item ports_shown no_items))))
    ≡ read (codes "[{\"uuid\":[\"uuid\",\"00000000-0000-0000-0000-000000000002\"]},{\"uuid\":[\"uuid\",\"00000000-0000-0000-0000-000000000003\"]},{\"rows\":[{\"ports\":[\"uuid\",\"00000000-0000-0000-0000-000000000003\"]}]}]")
unfolding serde_json_on_literals by_index
used_before_is_answered = refl

-- ---- the edges of arithmetic: a load of -7, and what is left of it by 2

abbrev seven : Atom
seven = Integer (negsuc 6)

abbrev left : Atom
left = Integer (negsuc 0)

abbrev on_all : Members
on_all = table_members (codes "Switch") (member (codes "where") (array no_items) no_members)

abbrev update_load : Data
update_load = object (member (codes "op") (string (codes "update")) (member (codes "row") (object (member (codes "load") (number (negative (negsuc 6))) no_members)) on_all))

abbrev by_two : Data
by_two = array (item (string (codes "load")) (item (string (codes "%=")) (item (number (unsigned 2)) no_items)))

abbrev mutate_load : Data
mutate_load = object (member (codes "mutations") (array (item by_two no_items)) (member (codes "op") (string (codes "mutate")) on_all))

abbrev select_load : Data
select_load = object (member (codes "columns") (array (item (string (codes "load")) no_items)) (member (codes "op") (string (codes "select")) on_all))

abbrev edges : Items
edges = item update_load (item mutate_load (item select_load no_items))

abbrev lone : Database
lone = insert empty (key 7) (row columns_1)

abbrev in_edges : OpContext
in_edges = record { schema = net; before = lone; owns = owns_none; version = numbered 1; ids = []; operations = edges; age = 0 }

abbrev seven_row : Row
seven_row = record { version = numbered 1; columns = insert columns_1 (codes "load") (one seven) }

abbrev left_row : Row
left_row = record { version = numbered 1; columns = insert (insert columns_1 (codes "load") (one seven)) (codes "load") (one left) }

abbrev seven_rows : Database
seven_rows = insert lone (key 7) seven_row

abbrev left_rows : Database
left_rows = insert seven_rows (key 7) left_row

in_lone : get lone (key 7) ≡ Some (row columns_1)
in_lone = get-insert key_total empty (key 7) (row columns_1) (key 7)

entries-seven : entries seven_rows ≡ (key 7, seven_row) ∷ []
entries-seven = entries-insert key_total lone (key 7) seven_row ∙ ap (put line_cmp (key 7) seven_row) (entries-put (key 7) (row columns_1))

entries-left : entries left_rows ≡ (key 7, left_row) ∷ []
entries-left = entries-insert key_total seven_rows (key 7) left_row ∙ ap (put line_cmp (key 7) left_row) entries-seven

seven_load : get seven_row.columns (codes "load") ≡ Some (one seven)
seven_load = get-insert name_cmp_total columns_1 (codes "load") (one seven) (codes "load")

left_load : get left_row.columns (codes "load") ≡ Some (one left)
left_load = get-insert name_cmp_total seven_row.columns (codes "load") (one left) (codes "load")

update_does : outcome_of in_edges 0 lone update_load ≡ Done (count_result 1) seven_rows
update_does =
    rw (table_is (codes "Switch")) (rw (on_switch (codes "load")) (rw (len-one seven, entries-one seven) (rw (entries-put (key 7) (row columns_1)) (rw (entries-given (codes "load") (one seven))
    (rw in_lone (rw (entries-columns_1, entries-1 (codes "load") (one seven)) (rw (entries-one (Integer (pos 4)), entries-one seven) refl)))))))

mutate_does : outcome_of in_edges 1 seven_rows mutate_load ≡ Done (count_result 1) left_rows
mutate_does =
    rw (table_is (codes "Switch")) (rw (on_switch (codes "load")) (rw (entries-one (Integer (pos 2))) (rw entries-seven (rw (load_mutated (Compute Modulo (pos 2)) seven_row.columns, seven_load) (rw (entries-one seven) (rw (len-one left, entries-one left)
    (rw in_lone (rw (entries-columns_1, entries-again (codes "load") (one seven) (one left)) (rw (entries-one (Integer (pos 4)), entries-one left) refl)))))))))

abbrev load_shown : Data
load_shown = object (member (codes "rows") (array (item (object (member (codes "load") (number (negative (negsuc 0))) no_members)) no_items)) no_members)

load_does : outcome_of in_edges 2 left_rows select_load ≡ Done load_shown left_rows
load_does = rw (table_is (codes "Switch")) (rw (on_switch (codes "load"), entries-switch) (rw entries-left (rw left_load (rw (entries-one left) refl))))

left-enough : list_any (is_short net) (entries left_rows) ≡ false
left-enough =
    rw entries-left (rw (table_is (codes "Switch")) (rw (entries-again (codes "load") (one seven) (one left)) (rw (on_switch (codes "load"), on_switch (codes "name"), on_switch (codes "ports"))
    (rw (len-one left, len-one (Text (codes "s1")), len-none) refl))))

left-whole : is_whole net left_rows ≡ true
left-whole =
    rw (entries-left, entries-tables) (rw (table_is (codes "Switch")) (rw (entries-again (codes "load") (one seven) (one left)) (rw (on_switch (codes "load"), on_switch (codes "name"), on_switch (codes "ports"))
    (rw (entries-one left, entries-one (Text (codes "s1")), entries-none) refl))))

left-committed : committed net lone (numbered 1) left_rows ≡ Ok left_rows
left-committed = enough_committed net lone (numbered 1) left_rows left-enough left-whole

pub arithmetic_edges : transaction net lone owns_none (numbered 1 ∷ []) 0 edges ≡ Completes (item (count_result 1) (item (count_result 1) (item load_shown no_items))) left_rows
arithmetic_edges = rw update_does (rw mutate_does (rw load_does (rw left-committed refl)))

pub edges_are_answered : Some (array (item (count_result 1) (item (count_result 1) (item load_shown no_items)))) ≡ read (codes "[{\"count\":1},{\"count\":1},{\"rows\":[{\"load\":-1}]}]")
unfolding serde_json_on_literals
edges_are_answered = refl
