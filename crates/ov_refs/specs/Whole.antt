-- Whether the references of a database are whole, judged by its links; for private clauses.
use Rattle.std.specs.Prelude.{ℕ, ◌&&◌, ◌||◌, ◌==◌, not, List, [], ◌∷◌, Bool, true, false, if◌then◌else◌}
use Rattle.std.specs.FinMap.{contains_key, get, keys, len}
use Rattle.std.specs.List.{list_any}
use Rattle.std.specs.Str.{bytes_eq}
use Rattle.ov_refs.specs.Holding.{Holders, KeySet}
use Rattle.ov_specs.specs.integrity.Kept.{is_in_root_table}
use Rattle.ov_specs.specs.rows.Database.{Row, Database, same_key}
use Rattle.ov_specs.specs.rows.Lines.{LineKey}
use Rattle.ov_specs.specs.schema.Schema.{is_some_and}
use Rattle.ov_specs.specs.schema.SchemaTypes.{Schema}
use Rattle.ov_specs.specs.values.Uuid.{Uuid}

-- the row exists, or no row refers to it
abbrev pub is_there : Database → LineKey × KeySet → Bool
is_there rows h = len h.1 == 0 || contains_key rows h.0

-- another row is among these
abbrev pub has_another : LineKey → KeySet → Bool
has_another key set = list_any (λ other. not (same_key other key)) (keys set)

-- the row is in a root table or has another row among its holders
abbrev pub is_root_or_held : Schema → Holders → LineKey × Row → Bool
is_root_or_held schema strong r = is_in_root_table schema r.0 || is_some_and (has_another r.0) (get strong r.0)

-- ---- the holders of the rows of one table, in ascending order of the rows' identifiers

-- the holders after those of the row of this identifier
abbrev pub past : Uuid → List (Uuid × KeySet) → List (Uuid × KeySet)
past id [] = []
past id (h ∷ hs) = if bytes_eq h.0 id then hs else past id hs

-- another row is among the holders of the row
abbrev pub is_held : LineKey → List (Uuid × KeySet) → Bool
is_held key [] = false
is_held key (h ∷ hs) = if bytes_eq h.0 key.1 then has_another key h.1 else is_held key hs

-- each of these rows of the table of this name has another row among its holders, which come after those of the rows before it
abbrev pub are_held : List ℕ → List (Uuid × Row) → List (Uuid × KeySet) → Bool
are_held name [] hs = true
are_held name (r ∷ rs) hs = is_held (name, r.0) hs && are_held name rs (past r.0 hs)
