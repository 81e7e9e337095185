-- What a commit makes of the rows that the operations of a transaction left, or why it fails (RFC 7047, 3.2 and 5.2; the
-- order of the rules is this server's).
use Rattle.std.specs.Prelude.{◌&&◌, ◌||◌, not, map, filter, Bool, if◌then◌else◌, Option, Some, None, Result, Ok, Err}
use Rattle.std.specs.List.{list_all, list_any}
use Rattle.std.specs.FinMap.{get, contains_key, keys, entries, from_entries, from_sorted}
use Rattle.ov_specs.specs.integrity.References.{Target, RowReference, target_of, row_targets, references}
use Rattle.ov_specs.specs.integrity.Kept.{is_supported, kept}
use Rattle.ov_specs.specs.integrity.Limits.{is_short, is_over_limits}
use Rattle.ov_specs.specs.operations.Errors.{OpError, ConstraintViolation, ReferentialIntegrity}
use Rattle.ov_specs.specs.rows.Database.{Columns, Row, Database}
use Rattle.ov_specs.specs.rows.Lines.{LineKey, line_cmp}
use Rattle.ov_specs.specs.rows.Version.{row_now}
use Rattle.ov_specs.specs.schema.Fitting.{is_none_or}
use Rattle.ov_specs.specs.schema.Schema.{is_some_and}
use Rattle.ov_specs.specs.schema.SchemaTypes.{BaseType, ColumnType, Column, Table, Schema}
use Rattle.ov_specs.specs.values.Uuid.{Uuid}
use Rattle.ov_specs.specs.values.Value.{Atom, Datum, Atoms, Pairs, set_of, map_of}

-- ---- strong references

-- a strong reference to a row that is not there
abbrev pub is_missing : Database → RowReference → Bool
is_missing rows r = r.to.is_strong && not (contains_key rows r.to.key)

-- ---- weak references

-- a weak reference to a row that is not there
abbrev pub is_dangling : Database → Target → Bool
is_dangling rows target = not target.is_strong && not (contains_key rows target.key)

-- the atom of this type is no such reference
abbrev pub stays : Database → BaseType → Atom → Bool
stays rows b a = not (is_some_and (is_dangling rows) (target_of b.refers a))

-- the pair of a map has no such reference, as its key or as its value
abbrev pub pair_stays : Database → ColumnType → Atom × Atom → Bool
pair_stays rows t p = stays rows t.key p.0 && is_none_or (λ b. stays rows b p.1) t.value

-- the value of the type without such references
abbrev pub pruned_datum : Database → ColumnType → Datum → Datum
pruned_datum rows t (Atoms atoms) = Atoms (set_of (filter (stays rows t.key) (keys atoms)))
pruned_datum rows t (Pairs pairs) = Pairs (map_of (filter (pair_stays rows t) (entries pairs)))

-- the value of a column without them
abbrev pub pruned_value : Database → Option Column → Datum → Datum
pruned_value rows None datum = datum
pruned_value rows (Some column) datum = pruned_datum rows column.type_of datum

-- the columns of a row of the table without them
abbrev pub pruned_columns : Database → Option Table → Columns → Columns
pruned_columns rows None columns = columns
pruned_columns rows (Some table) columns =
    from_entries (map (λ c. (c.0, pruned_value rows (get table.columns c.0) c.1)) (entries columns))

-- the row has one of them
abbrev pub dangles : Schema → Database → LineKey × Row → Bool
dangles schema rows r = list_any (is_dangling rows) (row_targets schema r)

-- The row without them, if it has any. The transaction has then changed it, or changed it back (RFC 7047, 3.2, <base-type>).
abbrev pub pruned_row : Schema → Database → Uuid → Database → LineKey × Row → Row
pruned_row schema before version rows r =
    if dangles schema rows r then row_now before version r.0 (pruned_columns rows (get schema.tables r.0.0) r.1.columns) else r.1

-- all rows without weak references to rows that are not there
abbrev pub pruned : Schema → Database → Uuid → Database → Database
pruned schema before version rows =
    from_sorted {R = line_cmp} (map (λ r. (r.0, pruned_row schema before version rows r)) (entries rows))

-- ---- the commit

-- the rows, if no value is too short, no table has too many rows, and no table has two rows that are alike in an index
abbrev pub within_limits : Schema → Database → Result Database OpError
within_limits schema rows =
    if list_any (is_short schema) (entries rows) || is_over_limits schema rows then Err ConstraintViolation else Ok rows

-- What a transaction of this version, on the database `before`, makes of the rows that its operations left. A strong
-- reference to a row that is not there is a referential integrity violation. Otherwise the rows that nothing keeps are
-- removed, and then the weak references to rows that are not there. If a limit is broken then, that is a constraint
-- violation.
abbrev pub committed : Schema → Database → Uuid → Database → Result Database OpError
committed schema before version rows =
    if list_any (is_missing rows) (references schema rows) then Err ReferentialIntegrity
    else within_limits schema (pruned schema before version (kept schema rows))

-- ---- what a commit leaves alone

-- Each reference is to a row that is there, each row is supported, and no limit is broken: what a commit leaves as it is.
abbrev pub is_whole : Schema → Database → Bool
is_whole schema rows =
    list_all (λ r. contains_key rows r.to.key) (references schema rows)
    && list_all (λ r. is_supported schema rows r.0) (entries rows)
    && not (is_over_limits schema rows)
