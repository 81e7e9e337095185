-- A schema of two tables, and texts of operations, for worked operations and transactions. Maps do not compute, so lookups
-- in them and their listings are rewritten by the laws below.
use Rattle.std.proofs.Common.{◌≡◌, ℕ, pos, List, [], ◌∷◌, Bool, true, false, T, Option, Some, None, option_map, sym, ap, ◌∙◌, codes}
use Rattle.std.specs.FinMap.{FinMap, entries, is_sorted, find, get, same_map, from_entries, from_sorted, entries-from_sorted, get-from_entries, get-from_sorted}
use Rattle.serde_json.specs.Data.{null, no_items}
use Rattle.serde_json.specs.Read.{read}
use Rattle.ov_specs.specs.operations.Mutate.{column_mutated}
use Rattle.ov_specs.specs.operations.Mutators.{Change, Mutation}
use Rattle.ov_specs.specs.operations.Operation.{outcome_of}
use Rattle.ov_specs.specs.operations.OpOutcome.{Owns, OpContext, OpOutcome}
use Rattle.ov_specs.specs.rows.Database.{Columns, Database}
use Rattle.ov_specs.specs.schema.SchemaTypes.{BaseType, Column, Table, Schema, name_cmp}
use Rattle.ov_specs.specs.values.Uuid.{Uuid}
use Rattle.ov_specs.specs.values.Value.{AtomKind, Integers, Texts, Uuids}
use Rattle.ov_specs.proofs.laws.Mutating.{mutated_at, column_mutated-at}
use Rattle.ov_specs.proofs.laws.Names.{name_cmp_total, name_exact}

-- ---- maps made of a list, by name

module _ {X : Type 0} where
  pub entries-named : (es : List (List ℕ × X)) → T (is_sorted name_cmp es) → entries (from_entries {R = name_cmp} es) ≡ es
  entries-named es h =
      ap entries (same_map name_cmp_total name_exact (from_entries es) (from_sorted es) (λ q. get-from_entries name_cmp_total es q ∙ sym (get-from_sorted name_cmp es q h)))
      ∙ entries-from_sorted name_cmp es h

-- ---- Switch has the columns load, name and ports, Port the columns name, which is not mutable, and tag

abbrev base : AtomKind → Option ℕ → BaseType
base kind greatest = record { kind = kind; choices = None; least = None; greatest = option_map pos greatest; shortest = None; longest = None; refers = None }

abbrev column : Bool → AtomKind → Option ℕ → ℕ → Option ℕ → Column
column is_mutable kind greatest min max =
    record { type_of = record { key = base kind greatest; value = None; min = pos min; max = option_map pos max }; is_ephemeral = false; is_mutable = is_mutable }

abbrev pub own : Column
own = column false Uuids None 1 (Some 1)

abbrev pub integer : Column
integer = column true Integers None 1 (Some 1)

abbrev pub text : Column
text = column true Texts None 1 (Some 1)

abbrev pub uuids : Column
uuids = column true Uuids None 0 None

abbrev pub fixed : Column
fixed = column false Texts None 1 (Some 1)

abbrev pub tag : Column
tag = column true Integers (Some 4095) 0 (Some 1)

abbrev pub switch_listed : List (List ℕ × Column)
switch_listed = (codes "_uuid", own) ∷ (codes "_version", own) ∷ (codes "load", integer) ∷ (codes "name", text) ∷ (codes "ports", uuids) ∷ []

abbrev pub port_listed : List (List ℕ × Column)
port_listed = (codes "_uuid", own) ∷ (codes "_version", own) ∷ (codes "name", fixed) ∷ (codes "tag", tag) ∷ []

pub switch_columns : FinMap name_cmp Column
switch_columns = from_entries switch_listed

pub port_columns : FinMap name_cmp Column
port_columns = from_entries port_listed

pub on_switch : (name : List ℕ) → get switch_columns name ≡ find name_cmp name switch_listed
unfolding switch_columns
on_switch name = get-from_entries name_cmp_total switch_listed name

pub on_port : (name : List ℕ) → get port_columns name ≡ find name_cmp name port_listed
unfolding port_columns
on_port name = get-from_entries name_cmp_total port_listed name

pub entries-switch : entries switch_columns ≡ switch_listed
unfolding switch_columns
entries-switch = entries-named switch_listed tt

pub entries-port : entries port_columns ≡ port_listed
unfolding port_columns
entries-port = entries-named port_listed tt

abbrev pub table_of : FinMap name_cmp Column → Table
table_of columns = record { columns = columns; max_rows = None; is_root = true; indexes = [] }

abbrev tables_listed : List (List ℕ × Table)
tables_listed = (codes "Port", table_of port_columns) ∷ (codes "Switch", table_of switch_columns) ∷ []

pub tables : FinMap name_cmp Table
tables = from_entries tables_listed

pub table_is : (name : List ℕ) → get tables name ≡ find name_cmp name tables_listed
unfolding tables
table_is name = get-from_entries name_cmp_total tables_listed name

pub entries-tables : entries tables ≡ tables_listed
unfolding tables
entries-tables = entries-named tables_listed tt

abbrev pub net : Schema
net = record { name = codes "Net"; version = None; tables = tables; tree = null }

-- ---- identifiers, and operations as texts

abbrev pub numbered : ℕ → Uuid
numbered n = 0 ∷ 0 ∷ 0 ∷ 0 ∷ 0 ∷ 0 ∷ 0 ∷ 0 ∷ 0 ∷ 0 ∷ 0 ∷ 0 ∷ 0 ∷ 0 ∷ 0 ∷ n ∷ []

-- of a session that owns no lock
abbrev pub owns_none : Owns
owns_none name = false

-- an operation by itself, in a transaction of this age that declares no names
abbrev pub alone : Database → ℕ → OpContext
alone before age = record { schema = net; before = before; owns = owns_none; version = numbered 1; ids = numbered 2 ∷ []; operations = no_items; age = age }

-- what it comes to on these rows, which are as they were before the transaction
abbrev pub done_at : ℕ → Database → List ℕ → Option OpOutcome
done_at age rows text = option_map (outcome_of (alone rows age) 0 rows) (read text)

-- what it comes to in a transaction that has just arrived
abbrev pub done_on : Database → List ℕ → Option OpOutcome
done_on = done_at 0

-- ---- mutations of the load

abbrev pub of_load : Change → Mutation
of_load change = record { column = codes "load"; type_of = integer.type_of; change = change }

-- it is mutated where it is found
pub load_mutated : (change : Change) (columns : Columns) → column_mutated (of_load change) columns ≡ mutated_at (of_load change) columns (get columns (codes "load"))
load_mutated change columns = column_mutated-at (of_load change) columns
