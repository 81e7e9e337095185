-- What a query of a whole table returns, or of the cells of one key, and what it leaves of a connection.
use Rattle.std.specs.Prelude.{◌≡◌, ℕ, Bool, true, false, List, [], ◌∷◌, ◌++◌, map, filter, IsTrue}
use Rattle.std.specs.List.Sorted.{IsPermutation}
use Rattle.std.specs.Ordering.{eq_by_cmp}
use Rattle.sqlite.specs.Order.{Row, column}
use Rattle.sqlite.specs.Table.{Table}
use Rattle.sqlite.specs.State.{State, IsUnchanged}
use Rattle.ov_specs.specs.rows.Lines.{LineKey, line_cmp}
use Rattle.ov_tables.specs.Tables.{tree_number, HasTable}
use Rattle.ov_tables.specs.Format.{row_key, rows_of_cell}

-- a row of `meta` as it is read: its number and its columns, in their places
abbrev pub meta_selected : Row → Row
meta_selected r = column r 0 ∷ column r 1 ∷ column r 2 ∷ []

-- a row of `head` as it is read
abbrev pub head_selected : Row → Row
head_selected r = column r 0 ∷ column r 1 ∷ column r 2 ∷ column r 3 ∷ []

-- a row of `line` or of `cell` as it is read
abbrev pub row_selected : Row → Row
row_selected r = column r 0 ∷ column r 1 ∷ column r 2 ∷ column r 3 ∷ column r 4 ∷ []

-- while the connection is open, the table of this name is there
abbrev pub MayRead : (ℕ → Table) → List ℕ → State → Type 0
MayRead table name s = IsTrue s.is_open → HasTable s.now.schema (table (tree_number s.now.schema name))

-- if the connection is open, it was open before and holds what it held
pub record IsAsBefore (old new : State) : Type 0 where
  pub was_open : IsTrue new.is_open → IsTrue old.is_open
  pub now : IsTrue new.is_open → new.now ≡ old.now

-- the rows of a table were given one at a time, and all were taken, or the last that was given was refused
abbrev pub GivesRows : (List Row → Type 0) → (List Row → Type 0) → List Row → Bool → Type 0
GivesRows HasTaken HasRefused stored true =
    (rows : List Row) × IsPermutation stored rows × HasTaken rows
GivesRows HasTaken HasRefused stored false =
    (rows : List Row) × (rest : List Row) × IsPermutation stored (rows ++ rest) × HasRefused rows

-- a cell of a key as it is read: the name of its column and its body
abbrev pub cell_selected : Row → Row
cell_selected r = column r 3 ∷ column r 4 ∷ []

-- the rows of this key
abbrev pub rows_with_key : LineKey → List Row → List Row
rows_with_key key rows = filter (λ r. eq_by_cmp line_cmp key (row_key r)) rows

-- the cells of this key were read, each once, in some order, and nothing has changed
pub record ReadsKey (key : LineKey) (read : List Row) (old new : State) : Type 0 where
  pub same : IsUnchanged old new
  pub cells : IsPermutation (map cell_selected (rows_with_key key (rows_of_cell old.now.trees))) read
