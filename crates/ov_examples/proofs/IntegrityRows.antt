-- Worked commits: which rows stay, which references go, and what fails; and transactions that end so.
use Rattle.std.proofs.Common.{◌≡◌, ℕ, pos, int_lt, List, [], ◌∷◌, ◌++◌, ◌||◌, length, filter, Bool, true, false, cond, not, T, Option, Some, None, option_map, option_and_then, Ok, Err, refl, sym, ap, ◌∙◌, codes}
use Rattle.std.specs.FinMap.{FinMap, empty, insert, put, get, len, remove, entries, entries-insert, same_entries_map, is_sorted, find, same_map, from_entries, from_sorted, entries-from_sorted, get-from_entries, get-from_sorted, len-entries, get-remove}
use Rattle.std.specs.Ordering.{eq_by_cmp}
use Rattle.std.specs.Str.{is_utf8, chars}
use Rattle.serde_json.specs.Data.{null}
use Rattle.serde_json.specs.Find.{as_array}
use Rattle.serde_json.specs.Read.{read}
use Rattle.serde_json.proofs.OnLiterals.{serde_json_on_literals}
use Rattle.uuid.specs.Text.{by_index}
use Rattle.ov_specs.specs.integrity.Committed.{pruned_columns, pruned, within_limits, committed}
use Rattle.ov_specs.specs.integrity.Kept.{kept}
use Rattle.ov_specs.specs.integrity.Limits.{is_short, is_over_limits}
use Rattle.ov_specs.specs.integrity.References.{Target, RowReference, datum_targets, row_targets, references}
use Rattle.ov_specs.specs.operations.Errors.{ConstraintViolation, ReferentialIntegrity}
use Rattle.ov_specs.specs.operations.Transaction.{TransactionOutcome, Completes, transaction}
use Rattle.ov_specs.specs.rows.Database.{Columns, Row, Database}
use Rattle.ov_specs.specs.rows.Lines.{LineKey, line_cmp}
use Rattle.ov_specs.specs.schema.SchemaTypes.{name_cmp, Column, Table, Schema}
use Rattle.ov_specs.specs.values.Uuid.{Uuid}
use Rattle.ov_specs.specs.values.Value.{Uuids, Text, Uuid as Id, Datum, Atoms, set_of, count}
use Rattle.ov_specs.proofs.laws.KeptRows.{supported_all, kept_whole, kept_without}
use Rattle.ov_specs.proofs.laws.LineKeys.{key_total, key_exact, tied_same}
use Rattle.ov_specs.proofs.laws.Names.{name_cmp_total}
use Rattle.ov_specs.proofs.laws.PrunedValues.{is_sorted-filter}
use Rattle.ov_examples.proofs.ConditionRows.{len-one}
use Rattle.ov_examples.proofs.NetRows.{entries-named, numbered, owns_none, own, text}
use Rattle.ov_examples.proofs.TwoSwitches.{one, entries-one, entries-none, len-none, entries-given, text_s1}

-- ---- a switch has strong references to ports, and a weak one to its main port; a port may have a strong one to its peer

abbrev referring : Bool → Option ℕ → Column
referring is_strong max = record {
  type_of = record {
    key = record { kind = Uuids; choices = None; least = None; greatest = None; shortest = None; longest = None; refers = Some (record { table = codes "Port"; is_strong = is_strong }) };
    value = None;
    min = pos 0;
    max = option_map pos max;
  };
  is_ephemeral = false;
  is_mutable = true;
}

abbrev switch_listed : List (List ℕ × Column)
switch_listed = (codes "_uuid", own) ∷ (codes "_version", own) ∷ (codes "main", referring false (Some 1)) ∷ (codes "name", text) ∷ (codes "ports", referring true None) ∷ []

abbrev port_listed : List (List ℕ × Column)
port_listed = (codes "_uuid", own) ∷ (codes "_version", own) ∷ (codes "name", text) ∷ (codes "peer", referring true (Some 1)) ∷ []

switch_columns : FinMap name_cmp Column
switch_columns = from_entries switch_listed

port_columns : FinMap name_cmp Column
port_columns = from_entries port_listed

on_switch : (name : List ℕ) → get switch_columns name ≡ find name_cmp name switch_listed
unfolding switch_columns
on_switch name = get-from_entries name_cmp_total switch_listed name

on_port : (name : List ℕ) → get port_columns name ≡ find name_cmp name port_listed
unfolding port_columns
on_port name = get-from_entries name_cmp_total port_listed name

abbrev tables_listed : List (List ℕ × Table)
tables_listed =
    (codes "Port", record { columns = port_columns; max_rows = None; is_root = false; indexes = [] })
    ∷ (codes "Switch", record { columns = switch_columns; max_rows = None; is_root = true; indexes = (codes "name" ∷ []) ∷ [] })
    ∷ []

pub tables : FinMap name_cmp Table
tables = from_entries tables_listed

table_is : (name : List ℕ) → get tables name ≡ find name_cmp name tables_listed
unfolding tables
table_is name = get-from_entries name_cmp_total tables_listed name

entries-tables : entries tables ≡ tables_listed
unfolding tables
entries-tables = entries-named tables_listed tt

abbrev wired : Schema
wired = record { name = codes "Wired"; version = None; tables = tables; tree = null }

-- ---- rows

-- what may refer to one port
abbrev to_one : Option ℕ → Datum
to_one None = Atoms (set_of [])
to_one (Some n) = one (Id (numbered n))

abbrev switch : ℕ → LineKey
switch n = (codes "Switch", numbered n)

abbrev port : ℕ → LineKey
port n = (codes "Port", numbered n)

abbrev switch_values : List ℕ → Option ℕ → Option ℕ → List (List ℕ × Datum)
switch_values name main ports = (codes "main", to_one main) ∷ (codes "name", one (Text name)) ∷ (codes "ports", to_one ports) ∷ []

abbrev port_values : Option ℕ → List (List ℕ × Datum)
port_values peer = (codes "name", one (Text (codes "p"))) ∷ (codes "peer", to_one peer) ∷ []

pub of_switch : List ℕ → Option ℕ → Option ℕ → Columns
of_switch name main ports = from_entries (switch_values name main ports)

pub of_port : Option ℕ → Columns
of_port peer = from_entries (port_values peer)

entries-of_switch : (name : List ℕ) (main ports : Option ℕ) → entries (of_switch name main ports) ≡ switch_values name main ports
unfolding of_switch
entries-of_switch name main ports = entries-named (switch_values name main ports) tt

entries-of_port : (peer : Option ℕ) → entries (of_port peer) ≡ port_values peer
unfolding of_port
entries-of_port peer = entries-named (port_values peer) tt

of_switch-is : (name : List ℕ) (main ports : Option ℕ) → of_switch name main ports ≡ from_entries (switch_values name main ports)
unfolding of_switch
of_switch-is name main ports = refl

name-of_switch : (name : List ℕ) (main ports : Option ℕ) → get (of_switch name main ports) (codes "name") ≡ Some (one (Text name))
unfolding of_switch
name-of_switch name main ports = get-from_entries name_cmp_total (switch_values name main ports) (codes "name")

-- a switch of this name, with its main port and its ports, and a port with its peer; both of version 9
abbrev a_switch : List ℕ → Option ℕ → Option ℕ → Row
a_switch name main ports = record { version = numbered 9; columns = of_switch name main ports }

abbrev a_port : Option ℕ → Row
a_port peer = record { version = numbered 9; columns = of_port peer }

-- what they refer to
abbrev to_ports : Bool → Option ℕ → List Target
to_ports is_strong None = []
to_ports is_strong (Some n) = record { key = port n; is_strong = is_strong } ∷ []

targets-to_one : (is_strong : Bool) (max : Option ℕ) (o : Option ℕ) → datum_targets (referring is_strong max).type_of (to_one o) ≡ to_ports is_strong o
targets-to_one is_strong max None = rw entries-none refl
targets-to_one is_strong max (Some n) = rw (entries-one (Id (numbered n))) refl

targets-port : (n : ℕ) (peer : Option ℕ) → row_targets wired (port n, a_port peer) ≡ to_ports true peer ++ []
targets-port n peer =
    rw (table_is (codes "Port")) (rw (entries-of_port peer) (rw (on_port (codes "name"), on_port (codes "peer")) (rw (entries-one (Text (codes "p"))) (ap (λ ts. ts ++ []) (targets-to_one true (Some 1) peer)))))

targets-switch : (n : ℕ) (name : List ℕ) (main ports : Option ℕ) → row_targets wired (switch n, a_switch name main ports) ≡ to_ports false main ++ (to_ports true ports ++ [])
targets-switch n name main ports =
    rw (table_is (codes "Switch")) (rw (entries-of_switch name main ports) (rw (on_switch (codes "main"), on_switch (codes "name"), on_switch (codes "ports")) (rw (entries-one (Text name))
    (λ i. targets-to_one false (Some 1) main i ++ (targets-to_one true None ports i ++ [])))))

-- no value is too short
enough-to_one : (o : Option ℕ) → int_lt (pos (count (to_one o))) (pos 0) ≡ false
enough-to_one None = rw len-none refl
enough-to_one (Some n) = rw (len-one (Id (numbered n))) refl

enough-port : (n : ℕ) (peer : Option ℕ) → is_short wired (port n, a_port peer) ≡ false
enough-port n peer =
    rw (table_is (codes "Port")) (rw (entries-of_port peer) (rw (on_port (codes "name"), on_port (codes "peer")) (rw (len-one (Text (codes "p"))) (ap (λ b. b || false) (enough-to_one peer)))))

enough-switch : (n : ℕ) (name : List ℕ) (main ports : Option ℕ) → is_short wired (switch n, a_switch name main ports) ≡ false
enough-switch n name main ports =
    rw (table_is (codes "Switch")) (rw (entries-of_switch name main ports) (rw (on_switch (codes "main"), on_switch (codes "name"), on_switch (codes "ports")) (rw (len-one (Text name))
    (λ i. enough-to_one main i || (enough-to_one ports i || false)))))

-- ---- databases of the rows of a list

abbrev listed : List (LineKey × Row) → Database
listed rows = from_sorted rows

len-listed : (es : List (LineKey × Row)) → T (is_sorted line_cmp es) → len (listed es) ≡ length es
len-listed es h = len-entries (listed es) ∙ ap length (entries-from_sorted line_cmp es h)

-- the list without the row of this key
abbrev is_other : LineKey → LineKey × Row → Bool
is_other key r = not (eq_by_cmp line_cmp r.0 key)

find-others : (key q : LineKey) (es : List (LineKey × Row)) → cond (eq_by_cmp line_cmp q key) None (find line_cmp q es) ≡ find line_cmp q (filter (is_other key) es)
find-others key q [] = by (eq_by_cmp line_cmp q key)
  where
    by : (b : Bool) → ◌≡◌ {A = Option Row} (cond b None None) None
    by true = refl
    by false = refl
find-others key q (e ∷ es) = by (eq_by_cmp line_cmp q e.0) (eq_by_cmp line_cmp e.0 key) refl refl (find-others key q es)
  where
    others : List (LineKey × Row)
    others = filter (is_other key) es

    by : (here gone : Bool) → eq_by_cmp line_cmp q e.0 ≡ here → eq_by_cmp line_cmp e.0 key ≡ gone → cond (eq_by_cmp line_cmp q key) None (find line_cmp q es) ≡ find line_cmp q others
        → cond (eq_by_cmp line_cmp q key) None (cond here (Some e.1) (find line_cmp q es)) ≡ find line_cmp q (cond (not gone) (e ∷ others) others)
    by true true is at rest =
        let tied : eq_by_cmp line_cmp q key ≡ true = ap (λ k. eq_by_cmp line_cmp k key) (tied_same q e.0 is) ∙ at in
        ap (λ b. cond b None (Some e.1)) tied ∙ sym (ap (λ b. cond b None (find line_cmp q es)) tied) ∙ rest
    by true false is at rest =
        let untied : eq_by_cmp line_cmp q key ≡ false = ap (λ k. eq_by_cmp line_cmp k key) (tied_same q e.0 is) ∙ at in
        ap (λ b. cond b None (Some e.1)) untied ∙ sym (ap (λ b. cond b (Some e.1) (find line_cmp q others)) is)
    by false true is at rest = rest
    by false false is at rest = rest ∙ sym (ap (λ b. cond b (Some e.1) (find line_cmp q others)) is)

remove_listed : (es : List (LineKey × Row)) (key : LineKey) → T (is_sorted line_cmp es) → remove (listed es) key ≡ listed (filter (is_other key) es)
remove_listed es key h = same_map key_total key_exact _ _ (λ q.
    get-remove key_total (listed es) key q
    ∙ ap (cond (eq_by_cmp line_cmp q key) None) (get-from_sorted line_cmp es q h)
    ∙ find-others key q es
    ∙ sym (get-from_sorted line_cmp (filter (is_other key) es) q (is_sorted-filter line_cmp (is_other key) es h)))

-- the rows are those of the list
abbrev rows_are : (es : List (LineKey × Row)) → T (is_sorted line_cmp es) → entries (listed es) ≡ es
rows_are es h = entries-from_sorted line_cmp es h

-- ---- what keeps a port

-- a port that no row refers to goes
abbrev unused : List (LineKey × Row)
unused = (port 1, a_port None) ∷ (switch 7, a_switch (codes "s1") None None) ∷ []

abbrev one_switch : List (LineKey × Row)
one_switch = (switch 7, a_switch (codes "s1") None None) ∷ []

unused_refer : references wired (listed unused) ≡ []
unused_refer = rw (rows_are unused tt) (rw (targets-port 1 None, targets-switch 7 (codes "s1") None None) refl)

switch_stays : kept wired (listed one_switch) ≡ listed one_switch
switch_stays = kept_whole wired (listed one_switch) (supported_all wired (listed one_switch) (rw (rows_are one_switch tt) (rw (table_is (codes "Switch")) refl)))

unused_goes : kept wired (listed unused) ≡ listed one_switch
unused_goes =
    sym (kept_without wired (listed unused) (port 1) (rw unused_refer (rw (table_is (codes "Port")) refl)))
    ∙ ap (kept wired) (remove_listed unused (port 1) tt)
    ∙ switch_stays

switch_pruned : (before : Database) (version : Uuid) → pruned wired before version (listed one_switch) ≡ listed one_switch
switch_pruned before version = rw (rows_are one_switch tt) (rw (targets-switch 7 (codes "s1") None None) refl)

switch_limited : within_limits wired (listed one_switch) ≡ Ok (listed one_switch)
switch_limited = rw entries-tables (rw (rows_are one_switch tt) (rw (enough-switch 7 (codes "s1") None None) refl))

pub unused_port_goes : (before : Database) (version : Uuid) → committed wired before version (listed unused) ≡ Ok (listed one_switch)
unused_port_goes before version = rw unused_refer (rw unused_goes (rw (switch_pruned before version) switch_limited))

-- two ports that refer to each other stay, though nothing else refers to them
abbrev peers : List (LineKey × Row)
peers = (port 1, a_port (Some 2)) ∷ (port 2, a_port (Some 1)) ∷ []

abbrev refers : LineKey → LineKey → Bool → RowReference
refers from key is_strong = record { from = from; to = record { key = key; is_strong = is_strong } }

peers_refer : references wired (listed peers) ≡ refers (port 1) (port 2) true ∷ refers (port 2) (port 1) true ∷ []
peers_refer = rw (rows_are peers tt) (rw (targets-port 1 (Some 2), targets-port 2 (Some 1)) refl)

peers_kept : kept wired (listed peers) ≡ listed peers
peers_kept = kept_whole wired (listed peers) (supported_all wired (listed peers) (rw peers_refer (rw (rows_are peers tt) (rw (table_is (codes "Port")) refl))))

peers_pruned : (before : Database) (version : Uuid) → pruned wired before version (listed peers) ≡ listed peers
peers_pruned before version = rw (rows_are peers tt) (rw (targets-port 1 (Some 2), targets-port 2 (Some 1)) refl)

peers_limited : within_limits wired (listed peers) ≡ Ok (listed peers)
peers_limited = rw entries-tables (rw (rows_are peers tt) (rw (enough-port 1 (Some 2), enough-port 2 (Some 1)) refl))

pub peers_stay : (before : Database) (version : Uuid) → committed wired before version (listed peers) ≡ Ok (listed peers)
peers_stay before version =
    rw peers_refer (rw (get-from_sorted line_cmp peers (port 1) tt, get-from_sorted line_cmp peers (port 2) tt) (rw peers_kept (rw (peers_pruned before version) peers_limited)))

-- no rows are committed as they are
nothing_kept : kept wired (listed []) ≡ listed []
nothing_kept = kept_whole wired (listed []) (supported_all wired (listed []) (rw (rows_are [] tt) refl))

nothing_pruned : (before : Database) (version : Uuid) → pruned wired before version (listed []) ≡ listed []
nothing_pruned before version = rw (rows_are [] tt) refl

nothing_limited : within_limits wired (listed []) ≡ Ok (listed [])
nothing_limited = rw entries-tables (rw (rows_are [] tt) refl)

-- a port that refers to itself goes
abbrev itself : List (LineKey × Row)
itself = (port 1, a_port (Some 1)) ∷ []

itself_refers : references wired (listed itself) ≡ refers (port 1) (port 1) true ∷ []
itself_refers = rw (rows_are itself tt) (rw (targets-port 1 (Some 1)) refl)

itself_goes : kept wired (listed itself) ≡ listed []
itself_goes =
    sym (kept_without wired (listed itself) (port 1) (rw itself_refers (rw (table_is (codes "Port")) refl)))
    ∙ ap (kept wired) (remove_listed itself (port 1) tt)
    ∙ nothing_kept

pub port_of_itself_goes : (before : Database) (version : Uuid) → committed wired before version (listed itself) ≡ Ok (listed [])
port_of_itself_goes before version =
    rw itself_refers (rw (get-from_sorted line_cmp itself (port 1) tt) (rw itself_goes (rw (nothing_pruned before version) nothing_limited)))

-- a port goes if the only row that refers to it is a port that goes
abbrev row_of_ports : List (LineKey × Row)
row_of_ports = (port 1, a_port (Some 2)) ∷ (port 2, a_port None) ∷ []

abbrev last_port : List (LineKey × Row)
last_port = (port 2, a_port None) ∷ []

row_of_ports_refers : references wired (listed row_of_ports) ≡ refers (port 1) (port 2) true ∷ []
row_of_ports_refers = rw (rows_are row_of_ports tt) (rw (targets-port 1 (Some 2), targets-port 2 None) refl)

last_port_refers : references wired (listed last_port) ≡ []
last_port_refers = rw (rows_are last_port tt) (rw (targets-port 2 None) refl)

row_of_ports_goes : kept wired (listed row_of_ports) ≡ listed []
row_of_ports_goes =
    sym (kept_without wired (listed row_of_ports) (port 1) (rw row_of_ports_refers (rw (table_is (codes "Port")) refl)))
    ∙ ap (kept wired) (remove_listed row_of_ports (port 1) tt)
    ∙ sym (kept_without wired (listed last_port) (port 2) (rw last_port_refers (rw (table_is (codes "Port")) refl)))
    ∙ ap (kept wired) (remove_listed last_port (port 2) tt)
    ∙ nothing_kept

pub ports_go_in_a_row : (before : Database) (version : Uuid) → committed wired before version (listed row_of_ports) ≡ Ok (listed [])
ports_go_in_a_row before version =
    rw row_of_ports_refers (rw (get-from_sorted line_cmp row_of_ports (port 2) tt) (rw row_of_ports_goes (rw (nothing_pruned before version) nothing_limited)))

-- a port to which a switch refers stays, and so does the weak reference to it
abbrev in_use : List (LineKey × Row)
in_use = (port 1, a_port None) ∷ (switch 7, a_switch (codes "s1") (Some 1) (Some 1)) ∷ []

in_use_refer : references wired (listed in_use) ≡ refers (switch 7) (port 1) false ∷ refers (switch 7) (port 1) true ∷ []
in_use_refer = rw (rows_are in_use tt) (rw (targets-port 1 None, targets-switch 7 (codes "s1") (Some 1) (Some 1)) refl)

in_use_kept : kept wired (listed in_use) ≡ listed in_use
in_use_kept =
    kept_whole wired (listed in_use) (supported_all wired (listed in_use) (rw in_use_refer (rw (rows_are in_use tt) (rw (table_is (codes "Port"), table_is (codes "Switch")) refl))))

in_use_pruned : (before : Database) (version : Uuid) → pruned wired before version (listed in_use) ≡ listed in_use
in_use_pruned before version =
    rw (rows_are in_use tt) (rw (targets-port 1 None, targets-switch 7 (codes "s1") (Some 1) (Some 1)) (rw (get-from_sorted line_cmp in_use (port 1) tt) refl))

in_use_limited : within_limits wired (listed in_use) ≡ Ok (listed in_use)
in_use_limited = rw entries-tables (rw (rows_are in_use tt) (rw (enough-port 1 None, enough-switch 7 (codes "s1") (Some 1) (Some 1)) refl))

pub port_in_use_stays : (before : Database) (version : Uuid) → committed wired before version (listed in_use) ≡ Ok (listed in_use)
port_in_use_stays before version =
    rw in_use_refer (rw (get-from_sorted line_cmp in_use (port 1) tt) (rw in_use_kept (rw (in_use_pruned before version) in_use_limited)))

-- ---- references to rows that are not there

-- a strong one fails
abbrev broken : List (LineKey × Row)
broken = (switch 7, a_switch (codes "s1") None (Some 1)) ∷ []

broken_refers : references wired (listed broken) ≡ refers (switch 7) (port 1) true ∷ []
broken_refers = rw (rows_are broken tt) (rw (targets-switch 7 (codes "s1") None (Some 1)) refl)

pub strong_reference_to_nothing : (before : Database) (version : Uuid) → committed wired before version (listed broken) ≡ Err ReferentialIntegrity
strong_reference_to_nothing before version = rw broken_refers (rw (get-from_sorted line_cmp broken (port 1) tt) refl)

-- a weak one to a port that goes is removed, and so the switch has changed: before, the port was in use
abbrev weakly : List (LineKey × Row)
weakly = (port 1, a_port None) ∷ (switch 7, a_switch (codes "s1") (Some 1) None) ∷ []

abbrev weak_switch : List (LineKey × Row)
weak_switch = (switch 7, a_switch (codes "s1") (Some 1) None) ∷ []

abbrev changed : List (LineKey × Row)
changed = (switch 7, record { version = numbered 10; columns = of_switch (codes "s1") None None }) ∷ []

weakly_refer : references wired (listed weakly) ≡ refers (switch 7) (port 1) false ∷ []
weakly_refer = rw (rows_are weakly tt) (rw (targets-port 1 None, targets-switch 7 (codes "s1") (Some 1) None) refl)

weakly_goes : kept wired (listed weakly) ≡ listed weak_switch
weakly_goes =
    sym (kept_without wired (listed weakly) (port 1) (rw weakly_refer (rw (table_is (codes "Port")) refl)))
    ∙ ap (kept wired) (remove_listed weakly (port 1) tt)
    ∙ kept_whole wired (listed weak_switch) (supported_all wired (listed weak_switch) (rw (rows_are weak_switch tt) (rw (table_is (codes "Switch")) refl)))

columns_left : pruned_columns (listed weak_switch) (get tables (codes "Switch")) (of_switch (codes "s1") (Some 1) None) ≡ of_switch (codes "s1") None None
columns_left =
    rw (table_is (codes "Switch")) (rw (entries-of_switch (codes "s1") (Some 1) None) (rw (on_switch (codes "main"), on_switch (codes "name"), on_switch (codes "ports"))
    (rw (entries-one (Id (numbered 1)), entries-one (Text (codes "s1")), entries-none) (rw (get-from_sorted line_cmp weak_switch (port 1) tt) (sym (of_switch-is (codes "s1") None None))))))

weakly_pruned : pruned wired (listed in_use) (numbered 10) (listed weak_switch) ≡ listed changed
weakly_pruned =
    rw (rows_are weak_switch tt) (rw (targets-switch 7 (codes "s1") (Some 1) None) (rw (get-from_sorted line_cmp weak_switch (port 1) tt) (rw columns_left
    (rw (get-from_sorted line_cmp in_use (switch 7) tt) (rw (entries-of_switch (codes "s1") None None, entries-of_switch (codes "s1") (Some 1) (Some 1))
    (rw (entries-one (Id (numbered 1)), entries-none) refl))))))

changed_limited : within_limits wired (listed changed) ≡ Ok (listed changed)
changed_limited = rw entries-tables (rw (rows_are changed tt) (rw (enough-switch 7 (codes "s1") None None) refl))

pub weak_reference_goes : committed wired (listed in_use) (numbered 10) (listed weakly) ≡ Ok (listed changed)
weak_reference_goes = rw weakly_refer (rw weakly_goes (rw weakly_pruned changed_limited))

-- ---- limits

-- two switches of one name
abbrev twins : List (LineKey × Row)
twins = (switch 7, a_switch (codes "s1") None None) ∷ (switch 8, a_switch (codes "s1") None None) ∷ []

one_name_twice : is_over_limits wired (listed twins) ≡ true
one_name_twice = rw entries-tables (rw (rows_are twins tt) (rw (name-of_switch (codes "s1") None None) (rw (entries-one (Text (codes "s1"))) refl)))

twins_refer : references wired (listed twins) ≡ []
twins_refer = rw (rows_are twins tt) (rw (targets-switch 7 (codes "s1") None None) refl)

twins_kept : kept wired (listed twins) ≡ listed twins
twins_kept = kept_whole wired (listed twins) (supported_all wired (listed twins) (rw (rows_are twins tt) (rw (table_is (codes "Switch")) refl)))

twins_pruned : (before : Database) (version : Uuid) → pruned wired before version (listed twins) ≡ listed twins
twins_pruned before version = rw (rows_are twins tt) (rw (targets-switch 7 (codes "s1") None None) refl)

twins_limited : within_limits wired (listed twins) ≡ Err ConstraintViolation
twins_limited = rw one_name_twice (rw (rows_are twins tt) (rw (enough-switch 7 (codes "s1") None None) refl))

pub one_name_of_two : (before : Database) (version : Uuid) → committed wired before version (listed twins) ≡ Err ConstraintViolation
one_name_of_two before version = rw twins_refer (rw twins_kept (rw (twins_pruned before version) twins_limited))

-- ---- whole transactions

-- what the transaction of a text comes to, if version 9 is drawn, and then these identifiers
abbrev transacted : Database → List Uuid → List ℕ → Option TransactionOutcome
transacted before ids text = option_map (transaction wired before owns_none (numbered 9 ∷ ids) 0) (option_and_then as_array (read text))

-- the results, as they are sent, and the database
abbrev completes : List ℕ → Database → Option TransactionOutcome
completes text database = option_map (λ results. Completes results database) (option_and_then as_array (read text))

text_p : is_utf8 (codes "p") ≡ true
unfolding is_utf8 chars serde_json_on_literals
text_p = refl

entries-switch : entries switch_columns ≡ switch_listed
unfolding switch_columns
entries-switch = entries-named switch_listed tt

entries-port : entries port_columns ≡ port_listed
unfolding port_columns
entries-port = entries-named port_listed tt

in_switch : (name : List ℕ) (main ports : Option ℕ) (q : List ℕ) → get (of_switch name main ports) q ≡ find name_cmp q (switch_values name main ports)
unfolding of_switch
in_switch name main ports q = get-from_entries name_cmp_total (switch_values name main ports) q

in_port : (peer : Option ℕ) (q : List ℕ) → get (of_port peer) q ≡ find name_cmp q (port_values peer)
unfolding of_port
in_port peer q = get-from_entries name_cmp_total (port_values peer) q

-- the columns that are put one by one
made_switch : (name : List ℕ) (main ports : Option ℕ) → insert (insert (insert empty (codes "main") (to_one main)) (codes "name") (one (Text name))) (codes "ports") (to_one ports) ≡ of_switch name main ports
made_switch name main ports = same_entries_map _ _ (
    entries-insert name_cmp_total _ (codes "ports") (to_one ports)
    ∙ ap (put name_cmp (codes "ports") (to_one ports)) (entries-insert name_cmp_total _ (codes "name") (one (Text name))
    ∙ ap (put name_cmp (codes "name") (one (Text name))) (entries-given (codes "main") (to_one main)))
    ∙ sym (entries-of_switch name main ports))

made_port : (peer : Option ℕ) → insert (insert empty (codes "name") (one (Text (codes "p")))) (codes "peer") (to_one peer) ≡ of_port peer
made_port peer = same_entries_map _ _ (
    entries-insert name_cmp_total _ (codes "peer") (to_one peer)
    ∙ ap (put name_cmp (codes "peer") (to_one peer)) (entries-given (codes "name") (one (Text (codes "p"))))
    ∙ sym (entries-of_port peer))

-- one row more
insert_listed : (es : List (LineKey × Row)) (key : LineKey) (row : Row) → T (is_sorted line_cmp es) → T (is_sorted line_cmp (put line_cmp key row es)) → insert (listed es) key row ≡ listed (put line_cmp key row es)
insert_listed es key row h more = same_entries_map _ _ (entries-insert key_total (listed es) key row ∙ ap (put line_cmp key row) (rows_are es h) ∙ sym (rows_are (put line_cmp key row es) more))

-- the port has its result, and goes with the commit: the database is as before
pub insert_of_an_unused_port : transacted (listed one_switch) (numbered 1 ∷ []) (codes "[{\"op\":\"insert\",\"row\":{\"name\":\"p\",\"peer\":[\"set\",[]]},\"table\":\"Port\"}]")
    ≡ completes (codes "[{\"uuid\":[\"uuid\",\"00000000-0000-0000-0000-000000000001\"]}]") (listed one_switch)
unfolding serde_json_on_literals by_index
insert_of_an_unused_port =
    rw (table_is (codes "Port")) (rw (on_port (codes "name"), text_p) (rw (len-one (Text (codes "p")), entries-one (Text (codes "p"))) (rw (on_port (codes "peer")) (rw (len-none, entries-none)
    (rw entries-port (rw (made_port None) (rw (in_port None (codes "name"), in_port None (codes "peer")) (rw (get-from_sorted line_cmp one_switch (port 1) tt)
    (rw (insert_listed one_switch (port 1) (a_port None) tt tt) (rw (unused_port_goes (listed one_switch) (numbered 9)) refl))))))))))

-- each insert has its result, and one result more reports that the commit failed: no switch is there
pub one_name_in_two_inserts : transacted (listed []) (numbered 7 ∷ numbered 8 ∷ [])
    (codes "[{\"op\":\"insert\",\"row\":{\"main\":[\"set\",[]],\"name\":\"s1\",\"ports\":[\"set\",[]]},\"table\":\"Switch\"},{\"op\":\"insert\",\"row\":{\"main\":[\"set\",[]],\"name\":\"s1\",\"ports\":[\"set\",[]]},\"table\":\"Switch\"}]")
    ≡ completes (codes "[{\"uuid\":[\"uuid\",\"00000000-0000-0000-0000-000000000007\"]},{\"uuid\":[\"uuid\",\"00000000-0000-0000-0000-000000000008\"]},{\"error\":\"constraint violation\"}]") (listed [])
unfolding serde_json_on_literals by_index
one_name_in_two_inserts =
    rw (table_is (codes "Switch")) (rw (on_switch (codes "main")) (rw (len-none, entries-none) (rw (on_switch (codes "name"), text_s1) (rw (len-one (Text (codes "s1")), entries-one (Text (codes "s1")))
    (rw (on_switch (codes "ports")) (rw (len-none, entries-none) (rw entries-switch (rw (made_switch (codes "s1") None None)
    (rw (in_switch (codes "s1") None None (codes "main"), in_switch (codes "s1") None None (codes "name"), in_switch (codes "s1") None None (codes "ports"))
    (rw (get-from_sorted line_cmp [] (switch 7) tt) (rw (insert_listed [] (switch 7) (a_switch (codes "s1") None None) tt tt)
    (rw (get-from_sorted line_cmp one_switch (switch 8) tt, get-from_sorted line_cmp [] (switch 8) tt)
    (rw (insert_listed one_switch (switch 8) (a_switch (codes "s1") None None) tt tt) (rw (one_name_of_two (listed []) (numbered 9)) refl))))))))))))))

-- there is no port that the new switch could have
pub insert_that_refers_to_nothing : transacted (listed []) (numbered 7 ∷ [])
    (codes "[{\"op\":\"insert\",\"row\":{\"main\":[\"set\",[]],\"name\":\"s1\",\"ports\":[\"uuid\",\"00000000-0000-0000-0000-000000000001\"]},\"table\":\"Switch\"}]")
    ≡ completes (codes "[{\"uuid\":[\"uuid\",\"00000000-0000-0000-0000-000000000007\"]},{\"error\":\"referential integrity violation\"}]") (listed [])
unfolding serde_json_on_literals by_index
insert_that_refers_to_nothing =
    rw (table_is (codes "Switch")) (rw (on_switch (codes "main")) (rw (len-none, entries-none) (rw (on_switch (codes "name"), text_s1) (rw (len-one (Text (codes "s1")), entries-one (Text (codes "s1")))
    (rw (on_switch (codes "ports")) (rw (len-one (Id (numbered 1)), entries-one (Id (numbered 1))) (rw entries-switch (rw (made_switch (codes "s1") None (Some 1))
    (rw (in_switch (codes "s1") None (Some 1) (codes "main"), in_switch (codes "s1") None (Some 1) (codes "name"), in_switch (codes "s1") None (Some 1) (codes "ports"))
    (rw (get-from_sorted line_cmp [] (switch 7) tt) (rw (insert_listed [] (switch 7) (a_switch (codes "s1") None (Some 1)) tt tt)
    (rw (strong_reference_to_nothing (listed []) (numbered 9)) refl))))))))))))
