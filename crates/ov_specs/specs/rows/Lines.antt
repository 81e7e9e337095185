-- What a keeper holds: the text of a schema, and lines, one for each row.
use Rattle.std.specs.Prelude.{ℕ, List, [], ◌∷◌}
use Rattle.std.specs.declared.cmp.Ordering.{Ordering}
use Rattle.std.specs.Ordering.{nat_cmp, ordering_then}
use Rattle.std.specs.Cmp.Lexicographic.{slice_cmp}
use Rattle.std.specs.FinMap.{FinMap, insert, remove}
use Rattle.ov_specs.specs.values.Uuid.{Uuid}

-- a table's name, and a row's identifier
abbrev pub LineKey : Type 0
LineKey = List ℕ × Uuid

-- a row's version, and the bytes of its body
abbrev pub LineBody : Type 0
LineBody = Uuid × List ℕ

-- keys in order: by the bytes of the table's name, then by those of the identifier
abbrev pub line_cmp : LineKey → LineKey → Ordering
line_cmp a b = ordering_then (slice_cmp nat_cmp a.0 b.0) (slice_cmp nat_cmp a.1 b.1)

-- the lines that are held
abbrev pub Lines : Type 0
Lines = FinMap line_cmp LineBody

-- a line is put in place of the one with its key, or removed
pub data LineChange : Type 0 where
  Put : (key : LineKey) (body : LineBody) → LineChange
  Remove : (key : LineKey) → LineChange

-- the lines after one change
abbrev pub after_change : LineChange → Lines → Lines
after_change (Put key body) lines = insert lines key body
after_change (Remove key) lines = remove lines key

-- the lines after these changes, in order
abbrev pub after_changes : List LineChange → Lines → Lines
after_changes [] lines = lines
after_changes (change ∷ changes) lines = after_changes changes (after_change change lines)

-- all that is held
pub record Contents : Type 0 where
  pub schema : List ℕ  -- its compact text
  pub lines : Lines
