-- How a model stores requests and monitors.
use Rattle.std.specs.Prelude.{ℕ, Bool, List, Option, refl}
use Rattle.std.specs.Coded.{Coded, code_by, coded×, coded_ℕ, coded_bool, coded_list, coded_option}
use Rattle.serde_json.specs.Data.{Data}
use Rattle.ov_specs.specs.codes.TreeCode.{tree_code}
use Rattle.ov_specs.specs.monitors.Monitors.{Monitor}
use Rattle.ov_specs.specs.monitors.Requests.{MonitorSelect, MonitorRequest, MonitoredTable}

-- the names of columns, if there are any
abbrev SomeColumns : Type 0
SomeColumns = Option (List (List ℕ))

-- as a list that may be there
abbrev some_columns_code : Coded SomeColumns
some_columns_code = coded_option (coded_list (coded_list coded_ℕ))

-- four flags
abbrev pub select_code : Coded MonitorSelect
select_code = code_by (Bool × (Bool × (Bool × Bool))) (coded× coded_bool (coded× coded_bool (coded× coded_bool coded_bool)))
    (λ s. (s.initial, (s.insert, (s.delete, s.modify))))
    (λ p. record { initial = p.0; insert = p.1.0; delete = p.1.1.0; modify = p.1.1.1 }) (λ _. refl)

-- a request as its columns and its flags
abbrev pub request_code : Coded MonitorRequest
request_code =
    code_by (SomeColumns × MonitorSelect) (coded× some_columns_code select_code) (λ r. (r.columns, r.select))
    (λ p. record { columns = p.0; select = p.1 }) (λ _. refl)

-- a table as its name and four lists of columns
abbrev pub monitored_table_code : Coded MonitoredTable
monitored_table_code = code_by (List ℕ × (SomeColumns × (SomeColumns × (SomeColumns × SomeColumns))))
    (coded× (coded_list coded_ℕ)
    (coded× some_columns_code (coded× some_columns_code (coded× some_columns_code some_columns_code))))
    (λ t. (t.table, (t.initial, (t.insert, (t.delete, t.modify)))))
    (λ p. record { table = p.0; initial = p.1.0; insert = p.1.1.0; delete = p.1.1.1.0; modify = p.1.1.1.1 })
    (λ _. refl)

-- a monitor as its name and its tables
abbrev pub monitor_code : Coded Monitor
monitor_code =
    code_by (Data × List MonitoredTable) (coded× tree_code (coded_list monitored_table_code)) (λ m. (m.id, m.tables))
    (λ p. record { id = p.0; tables = p.1 }) (λ _. refl)
