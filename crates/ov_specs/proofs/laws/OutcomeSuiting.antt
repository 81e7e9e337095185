-- A transaction keeps the rows those of the schema.
use Rattle.std.proofs.Common.{◌≡◌, ℕ, List, drop, map, Bool, true, false, cond, Option, Some, None, refl, subst}
use Rattle.std.specs.Prelude.{codes, nat_le, ◌+◌, option_and_then, Result, Ok, Err}
use Rattle.std.specs.List.{list_all}
use Rattle.std.specs.Str.{bytes_eq}
use Rattle.std.specs.FinMap.{get}
use Rattle.serde_json.specs.Data.{Data, Items, no_items, item}
use Rattle.serde_json.specs.Find as find
use Rattle.serde_json.specs.Find.{as_bool}
use Rattle.ov_specs.specs.wire.Message.{has_member}
use Rattle.ov_specs.specs.integrity.Committed.{committed}
use Rattle.ov_specs.specs.operations.Operation.{outcome_of}
use Rattle.ov_specs.specs.operations.Transaction.{TransactionOutcome, Completes, Waits, and_result, after, ended, performed, op_context, transaction}
use Rattle.ov_specs.specs.operations.Assert.{asserted_lock}
use Rattle.ov_specs.specs.operations.Delete.{delete_outcome}
use Rattle.ov_specs.specs.operations.Conditions.{Condition}
use Rattle.ov_specs.specs.operations.Errors.{OpError, SyntaxError, UnknownTable}
use Rattle.ov_specs.specs.operations.GivenRow.{may_be_changed, given_values}
use Rattle.ov_specs.specs.operations.Insert.{new_row, is_taken, put_new, uuid_fault, name_fault, insert_outcome}
use Rattle.ov_specs.specs.operations.MatchingRows.{on_conditions, matching, conditions_read}
use Rattle.ov_specs.specs.operations.Mutate.{mutations_read, mutated_rows, mutate_outcome}
use Rattle.ov_specs.specs.operations.NamedUuids.{id_at, inserts_before}
use Rattle.ov_specs.specs.operations.Members.{text_at, array_at, object_at}
use Rattle.ov_specs.specs.operations.OpOutcome.{Owns, OpContext, OpOutcome, Done, Fault, Blocked, some_or_fault, ok_or_fault, unless_fault, names_in, on_table}
use Rattle.ov_specs.specs.operations.Select.{select_outcome, projection, selected_columns}
use Rattle.ov_specs.specs.operations.Update.{updated_row, update_outcome}
use Rattle.ov_specs.specs.operations.Wait.{timeout_read, compared_columns, until_of, told_rows, is_met, unmet, wait_outcome}
use Rattle.ov_specs.specs.rows.Database.{Columns, Database}
use Rattle.ov_specs.specs.rows.Lines.{LineKey}
use Rattle.ov_specs.specs.rows.Suits.{SuitsTable, Suits}
use Rattle.ov_specs.specs.rows.Version.{row_now}
use Rattle.ov_specs.specs.schema.SchemaTypes.{Table, Schema}
use Rattle.ov_specs.specs.values.Uuid.{Uuid, is_uuid, AreUuids}
use Rattle.ov_specs.proofs.laws.Committing.{committed_suits}
use Rattle.ov_specs.proofs.laws.Suiting.{one_row_suits}
use Rattle.ov_specs.proofs.laws.SuitingColumns.{MakesRow}
use Rattle.ov_specs.proofs.laws.FoundRows.{at_is_uuid, names_are, inserted_are, others_are, matching_are, row_suits, put_suits, without_suits}
use Rattle.ov_specs.proofs.laws.MadeRows.{changed_are_others, updated_are, MakesMutations, mutations_are, MakesRows, mutated_are, new_row_suits, given_suit, GivesSuiting}

-- ---- what an operation comes to

-- the rows that it leaves, if it has a result, are those of the schema
abbrev pub SuitsOutcome : Schema → OpOutcome → Type 0
SuitsOutcome schema (Done result rows) = Suits schema rows
SuitsOutcome schema (Fault error) = Unit {0}
SuitsOutcome schema (Blocked timeout) = Unit {0}

module _ (schema : Schema) where
  some_suits : {A : Type 0} (o : Option A) (error : OpError) (next : A → OpOutcome) → ((a : A) → o ≡ Some a → SuitsOutcome schema (next a)) → SuitsOutcome schema (some_or_fault o error next)
  some_suits None error next h = tt
  some_suits (Some a) error next h = h a refl

  ok_suits : {A : Type 0} (r : Result A OpError) (next : A → OpOutcome) → ((a : A) → r ≡ Ok a → SuitsOutcome schema (next a)) → SuitsOutcome schema (ok_or_fault r next)
  ok_suits (Err error) next h = tt
  ok_suits (Ok a) next h = h a refl

  if_suits : (b : Bool) (d e : OpOutcome) → SuitsOutcome schema d → SuitsOutcome schema e → SuitsOutcome schema (cond b d e)
  if_suits true d e p q = p
  if_suits false d e p q = q

  unless_suits : (fault : Option OpError) (outcome : OpOutcome) → SuitsOutcome schema outcome → SuitsOutcome schema (unless_fault fault outcome)
  unless_suits None outcome h = h
  unless_suits (Some error) outcome h = tt

-- the database that a transaction leaves, if it completes, has rows of the schema
abbrev pub SuitsTransaction : Schema → TransactionOutcome → Type 0
SuitsTransaction schema (Completes results database) = Suits schema database
SuitsTransaction schema (Waits timeout) = Unit {0}

result_suits : (schema : Schema) (result : Data) (t : TransactionOutcome) → SuitsTransaction schema t → SuitsTransaction schema (and_result result t)
result_suits schema result (Completes results database) suits = suits
result_suits schema result (Waits timeout) suits = tt

after_suits : (schema : Schema) (before : Database) → Suits schema before → (outcome : OpOutcome) (operations : Items) (go : Database → TransactionOutcome) → SuitsOutcome schema outcome
    → ((rows : Database) → Suits schema rows → SuitsTransaction schema (go rows)) → SuitsTransaction schema (after before outcome operations go)
after_suits schema before all (Done result rows) operations go suits next = result_suits schema result (go rows) (next rows suits)
after_suits schema before all (Fault error) operations go suits next = all
after_suits schema before all (Blocked timeout) operations go suits next = tt

module _ (c : OpContext) (all : Suits c.schema c.before) (is_version : is_uuid c.version ≡ true) (ids : list_all is_uuid c.ids ≡ true) where
  are : AreUuids (names_in c)
  are = names_are c.ids c.operations ids

  on_table_suits : (d : Data) (next : List ℕ → Table → OpOutcome) → ((name : List ℕ) (table : Table) → get c.schema.tables name ≡ Some table → SuitsOutcome c.schema (next name table)) → SuitsOutcome c.schema (on_table c d next)
  on_table_suits d next h =
      some_suits c.schema (text_at (codes "table") d) SyntaxError _ (λ name _. some_suits c.schema (get c.schema.tables name) UnknownTable _ (λ table named. h name table named))

  on_conditions_suits : (table : Table) (d : Data) (next : List Condition → OpOutcome) → ((conditions : List Condition) → SuitsOutcome c.schema (next conditions)) → SuitsOutcome c.schema (on_conditions c table d next)
  on_conditions_suits table d next h =
      some_suits c.schema (array_at (codes "where") d) SyntaxError _ (λ items _. ok_suits c.schema (conditions_read (names_in c) table items) _ (λ conditions _. h conditions))

  module _ (rows : Database) (suits : Suits c.schema rows) where
    new_suits : (name : List ℕ) (table : Table) (columns : Columns) (is_chosen : Bool) (id : Uuid) → get c.schema.tables name ≡ Some table → SuitsTable table columns → is_uuid id ≡ true
        → SuitsOutcome c.schema (put_new c rows name columns is_chosen id)
    new_suits name table columns is_chosen id named made is_id =
        let key : LineKey = (name, id) in
        if_suits c.schema (is_taken c.before rows key is_chosen) _ _ tt
        (one_row_suits c.schema rows key (row_now c.before c.version key columns) (row_suits c.schema c.before c.version table key columns all is_version (record { named = named; id = is_id; suits = made })) suits)

    insert_suits : (place : ℕ) (d : Data) → SuitsOutcome c.schema (insert_outcome c place rows d)
    insert_suits place d = on_table_suits d _ (λ name table named.
        unless_suits c.schema (uuid_fault (find.get (codes "uuid") d)) _
        (unless_suits c.schema (name_fault c place (find.get (codes "uuid-name") d)) _
        (some_suits c.schema (object_at (codes "row") d) SyntaxError _ (λ members _.
        ok_suits c.schema (new_row (names_in c) table members) _ (λ columns made.
        new_suits name table columns (has_member (codes "uuid") d) (id_at c.ids c.operations place) named (subst (MakesRow table) made (new_row_suits (names_in c) are table members))
        (at_is_uuid c.ids (inserts_before place c.operations) ids))))))

    select_suits : (d : Data) → SuitsOutcome c.schema (select_outcome c rows d)
    select_suits d = on_table_suits d _ (λ name table named. on_conditions_suits table d _ (λ conditions. ok_suits c.schema (selected_columns table (find.get (codes "columns") d)) _ (λ names _. suits)))

    update_suits : (d : Data) → SuitsOutcome c.schema (update_outcome c rows d)
    update_suits d = on_table_suits d _ (λ name table named. on_conditions_suits table d _ (λ conditions.
        some_suits c.schema (object_at (codes "row") d) SyntaxError _ (λ members _.
        ok_suits c.schema (given_values may_be_changed (names_in c) table members) _ (λ given is.
        put_suits c table (map (updated_row given) (matching rows name conditions)) rows all is_version
        (updated_are c.schema table given (subst (GivesSuiting may_be_changed changed_are_others (names_in c) are table) is (given_suit may_be_changed changed_are_others (names_in c) are table members))
        (matching rows name conditions) (matching_are c.schema rows name table conditions named suits)) suits))))

    mutate_suits : (d : Data) → SuitsOutcome c.schema (mutate_outcome c rows d)
    mutate_suits d = on_table_suits d _ (λ name table named. on_conditions_suits table d _ (λ conditions.
        some_suits c.schema (array_at (codes "mutations") d) SyntaxError _ (λ items _.
        ok_suits c.schema (mutations_read (names_in c) table items) _ (λ ms is.
        ok_suits c.schema (mutated_rows ms (matching rows name conditions)) _ (λ changed made.
        put_suits c table changed rows all is_version
        (subst (MakesRows c.schema table) made (mutated_are c.schema table ms (subst (MakesMutations table) is (mutations_are (names_in c) are table items)) (matching rows name conditions)
        (matching_are c.schema rows name table conditions named suits))) suits)))))

    delete_suits : (d : Data) → SuitsOutcome c.schema (delete_outcome c rows d)
    delete_suits d = on_table_suits d _ (λ name table named. on_conditions_suits table d _ (λ conditions. without_suits c.schema (map (λ r. r.0) (matching rows name conditions)) rows suits))

    unmet_suits : (timeout : Option ℕ) → SuitsOutcome c.schema (unmet c.age timeout)
    unmet_suits None = tt
    unmet_suits (Some timeout) = if_suits c.schema (nat_le timeout c.age) _ _ tt tt

    wait_suits : (d : Data) → SuitsOutcome c.schema (wait_outcome c rows d)
    wait_suits d = on_table_suits d _ (λ name table named.
        ok_suits c.schema (timeout_read (find.get (codes "timeout") d)) _ (λ timeout _.
        on_conditions_suits table d _ (λ conditions.
        ok_suits c.schema (compared_columns table (find.get (codes "columns") d)) _ (λ compared _.
        some_suits c.schema (option_and_then until_of (text_at (codes "until") d)) SyntaxError _ (λ until _.
        some_suits c.schema (array_at (codes "rows") d) SyntaxError _ (λ items _.
        ok_suits c.schema (told_rows (names_in c) table compared items) _ (λ told _.
        if_suits c.schema (is_met until (map (projection compared) (matching rows name conditions)) told) _ _ suits (unmet_suits timeout))))))))

    -- each operation leaves rows of the schema
    pub outcome_suits : (place : ℕ) (d : Data) → SuitsOutcome c.schema (outcome_of c place rows d)
    outcome_suits place d =
        some_suits c.schema (text_at (codes "op") d) SyntaxError _ (λ op _.
        if_suits c.schema (bytes_eq op (codes "insert")) _ _ (insert_suits place d)
        (if_suits c.schema (bytes_eq op (codes "select")) _ _ (select_suits d)
        (if_suits c.schema (bytes_eq op (codes "update")) _ _ (update_suits d)
        (if_suits c.schema (bytes_eq op (codes "mutate")) _ _ (mutate_suits d)
        (if_suits c.schema (bytes_eq op (codes "delete")) _ _ (delete_suits d)
        (if_suits c.schema (bytes_eq op (codes "wait")) _ _ (wait_suits d)
        (if_suits c.schema (bytes_eq op (codes "commit")) _ _ (some_suits c.schema (option_and_then as_bool (find.get (codes "durable") d)) SyntaxError _ (λ durable _. suits))
        (if_suits c.schema (bytes_eq op (codes "abort")) _ _ tt
        (if_suits c.schema (bytes_eq op (codes "comment")) _ _ (some_suits c.schema (text_at (codes "comment") d) SyntaxError _ (λ text _. suits))
        (if_suits c.schema (bytes_eq op (codes "assert")) _ _ (some_suits c.schema (asserted_lock d) SyntaxError _ (λ name _. if_suits c.schema (c.owns name) _ _ suits tt)) tt))))))))))

  -- ---- transactions

  -- so does the commit, whether it succeeds or fails
  ended_suits : (rows : Database) → Suits c.schema rows → (r : Result Database OpError) → committed c.schema c.before c.version rows ≡ r → SuitsTransaction c.schema (ended c.before r)
  ended_suits rows suits (Ok database) is = committed_suits c.schema c.before c.version rows database all is_version suits is
  ended_suits rows suits (Err error) is = all

  performed_suits : (place : ℕ) (operations : Items) (rows : Database) → Suits c.schema rows → SuitsTransaction c.schema (performed c place operations rows)
  performed_suits place no_items rows suits = ended_suits rows suits (committed c.schema c.before c.version rows) refl
  performed_suits place (item d operations) rows suits =
      after_suits c.schema c.before all (outcome_of c place rows d) operations (performed c (place + 1) operations) (outcome_suits rows suits place d) (λ left left_suits. performed_suits (place + 1) operations left left_suits)

-- a transaction keeps the rows those of the schema
pub transaction_suits : (schema : Schema) (before : Database) (owns : Owns) (draws : List Uuid) (age : ℕ) (operations : Items) → list_all is_uuid draws ≡ true → Suits schema before
    → SuitsTransaction schema (transaction schema before owns draws age operations)
transaction_suits schema before owns draws age operations drawn suits =
    performed_suits (op_context schema before owns draws age operations) suits (at_is_uuid draws 0 drawn) (inserted_are (drop 1 draws) operations (others_are draws drawn)) 0 operations before suits
