-- Worked conversions: what is carried over to a newer schema, and which conversions are refused.
use Rattle.std.proofs.Common.{◌≡◌, ℕ, pos, List, [], ◌∷◌, true, false, T, Some, None, Ok, Err, refl, sym, ◌∙◌, codes}
use Rattle.std.specs.FinMap.{FinMap, entries, is_sorted, find, get, same_map, from_entries, from_sorted, entries-from_sorted, get-from_entries, get-from_sorted}
use Rattle.std.specs.Str.{chars}
use Rattle.serde_json.specs.Data.{null}
use Rattle.ov_specs.specs.conversion.Carried.{carried}
use Rattle.ov_specs.specs.conversion.Converted.{SchemaDiffers, TypeChanged, NotConvertible, has_changed_type, gets_unfit_default, converted}
use Rattle.ov_specs.specs.integrity.Committed.{pruned, within_limits, committed, is_whole}
use Rattle.ov_specs.specs.integrity.Kept.{kept}
use Rattle.ov_specs.specs.integrity.References.{references}
use Rattle.ov_specs.specs.rows.Database.{Columns, Row, Database}
use Rattle.ov_specs.specs.rows.Lines.{LineKey, line_cmp}
use Rattle.ov_specs.specs.schema.SchemaTypes.{name_cmp, Column, Table, Schema}
use Rattle.ov_specs.specs.values.Uuid.{Uuid}
use Rattle.ov_specs.specs.values.Value.{Text, Datum}
use Rattle.ov_specs.proofs.laws.KeptRows.{supported_all, kept_whole}
use Rattle.ov_specs.proofs.laws.LineKeys.{key_total, key_exact}
use Rattle.ov_specs.proofs.laws.Names.{name_cmp_total}
use Rattle.ov_examples.proofs.ConditionRows.{len-one}
use Rattle.ov_examples.proofs.NetRows.{entries-named, numbered, own, text, integer}
use Rattle.ov_examples.proofs.TwoSwitches.{one, entries-one}

-- ---- of version 1.0.0 a switch has a name, and a port one too; of version 1.1.0 a switch has a note too, and there are hubs
-- in place of ports

abbrev named_listed : List (List ℕ × Column)
named_listed = (codes "_uuid", own) ∷ (codes "_version", own) ∷ (codes "name", text) ∷ []

abbrev noted_listed : List (List ℕ × Column)
noted_listed = (codes "_uuid", own) ∷ (codes "_version", own) ∷ (codes "name", text) ∷ (codes "note", text) ∷ []

pub named : FinMap name_cmp Column
named = from_entries named_listed

pub noted : FinMap name_cmp Column
noted = from_entries noted_listed

on_named : (name : List ℕ) → get named name ≡ find name_cmp name named_listed
unfolding named
on_named name = get-from_entries name_cmp_total named_listed name

entries-of_named : entries named ≡ named_listed
unfolding named
entries-of_named = entries-named named_listed tt

on_noted : (name : List ℕ) → get noted name ≡ find name_cmp name noted_listed
unfolding noted
on_noted name = get-from_entries name_cmp_total noted_listed name

entries-noted : entries noted ≡ noted_listed
unfolding noted
entries-noted = entries-named noted_listed tt

abbrev table_of : FinMap name_cmp Column → Table
table_of columns = record { columns = columns; max_rows = None; is_root = true; indexes = [] }

abbrev old_listed : List (List ℕ × Table)
old_listed = (codes "Port", table_of named) ∷ (codes "Switch", table_of named) ∷ []

abbrev new_listed : List (List ℕ × Table)
new_listed = (codes "Hub", table_of named) ∷ (codes "Switch", table_of noted) ∷ []

pub old_tables : FinMap name_cmp Table
old_tables = from_entries old_listed

pub new_tables : FinMap name_cmp Table
new_tables = from_entries new_listed

in_old : (name : List ℕ) → get old_tables name ≡ find name_cmp name old_listed
unfolding old_tables
in_old name = get-from_entries name_cmp_total old_listed name

in_new : (name : List ℕ) → get new_tables name ≡ find name_cmp name new_listed
unfolding new_tables
in_new name = get-from_entries name_cmp_total new_listed name

entries-old : entries old_tables ≡ old_listed
unfolding old_tables
entries-old = entries-named old_listed tt

entries-new : entries new_tables ≡ new_listed
unfolding new_tables
entries-new = entries-named new_listed tt

abbrev of_version : List ℕ → List ℕ → FinMap name_cmp Table → Schema
of_version name version tables = record { name = name; version = Some version; tables = tables; tree = null }

abbrev old : Schema
old = of_version (codes "Net") (codes "1.0.0") old_tables

abbrev new : Schema
new = of_version (codes "Net") (codes "1.1.0") new_tables

-- ---- a switch and a port; then a switch with a note

abbrev values_before : List (List ℕ × Datum)
values_before = (codes "name", one (Text (codes "s1"))) ∷ []

abbrev values_after : List (List ℕ × Datum)
values_after = (codes "name", one (Text (codes "s1"))) ∷ (codes "note", one (Text [])) ∷ []

pub columns_before : Columns
columns_before = from_entries values_before

pub columns_after : Columns
columns_after = from_entries values_after

entries-before : entries columns_before ≡ values_before
unfolding columns_before
entries-before = entries-named values_before tt

entries-after : entries columns_after ≡ values_after
unfolding columns_after
entries-after = entries-named values_after tt

after_is : columns_after ≡ from_entries values_after
unfolding columns_after
after_is = refl

on_before : (name : List ℕ) → get columns_before name ≡ find name_cmp name values_before
unfolding columns_before
on_before name = get-from_entries name_cmp_total values_before name

abbrev listed : List (LineKey × Row) → Database
listed rows = from_sorted rows

abbrev row_of : ℕ → Columns → Row
row_of version columns = record { version = numbered version; columns = columns }

abbrev before : List (LineKey × Row)
before = ((codes "Port", numbered 3), row_of 9 columns_before) ∷ ((codes "Switch", numbered 7), row_of 9 columns_before) ∷ []

abbrev after : List (LineKey × Row)
after = ((codes "Switch", numbered 7), row_of 10 columns_after) ∷ []

rows_are : (es : List (LineKey × Row)) → T (is_sorted line_cmp es) → entries (listed es) ≡ es
rows_are es h = entries-from_sorted line_cmp es h

made_listed : (es : List (LineKey × Row)) → T (is_sorted line_cmp es) → from_entries {R = line_cmp} es ≡ listed es
made_listed es h = same_map key_total key_exact _ _ (λ key. get-from_entries key_total es key ∙ sym (get-from_sorted line_cmp es key h))

-- ---- what is carried over: the switch, with an empty note and the new version; the port is dropped

pub a_note_is_empty : carried old new (numbered 10) (listed before) ≡ listed after
a_note_is_empty =
    rw (rows_are before tt) (rw (in_old (codes "Port"), in_old (codes "Switch"), in_new (codes "Port"), in_new (codes "Switch"))
    (rw entries-noted (rw (on_named (codes "name"), on_named (codes "note")) (rw (on_before (codes "name")) (rw (sym after_is)
    (rw (get-from_sorted line_cmp before (codes "Switch", numbered 7) tt) (rw (entries-before, entries-after) (rw (entries-one (Text (codes "s1"))) (made_listed after tt)))))))))

-- ---- and the whole conversion

no_references : references old (listed before) ≡ []
no_references =
    rw (rows_are before tt) (rw (in_old (codes "Port"), in_old (codes "Switch")) (rw entries-before (rw (on_named (codes "name")) (rw (entries-one (Text (codes "s1"))) refl))))

before_is_whole : is_whole old (listed before) ≡ true
before_is_whole = rw no_references (rw (rows_are before tt) (rw (in_old (codes "Port"), in_old (codes "Switch")) (rw entries-old refl)))

types_stay : has_changed_type old new ≡ false
types_stay = rw entries-new (rw (in_old (codes "Hub"), in_old (codes "Switch")) (rw entries-noted (rw (on_named (codes "name"), on_named (codes "note")) refl)))

defaults_fit : gets_unfit_default old new (listed before) ≡ false
defaults_fit =
    rw entries-new (rw (rows_are before tt) (rw (in_old (codes "Switch")) (rw entries-noted (rw (on_named (codes "name"), on_named (codes "note"))
    (rw (len-one (Text []), entries-one (Text [])) refl)))))

none_refer : references new (listed after) ≡ []
none_refer =
    rw (rows_are after tt) (rw (in_new (codes "Switch")) (rw entries-after (rw (on_noted (codes "name"), on_noted (codes "note")) (rw (entries-one (Text (codes "s1")), entries-one (Text [])) refl))))

after_kept : kept new (listed after) ≡ listed after
after_kept = kept_whole new (listed after) (supported_all new (listed after) (rw none_refer (rw (rows_are after tt) (rw (in_new (codes "Switch")) refl))))

after_pruned : pruned new (listed before) (numbered 10) (listed after) ≡ listed after
after_pruned =
    rw (rows_are after tt) (rw (in_new (codes "Switch")) (rw entries-after (rw (on_noted (codes "name"), on_noted (codes "note")) (rw (entries-one (Text (codes "s1")), entries-one (Text [])) refl))))

after_limited : within_limits new (listed after) ≡ Ok (listed after)
after_limited =
    rw entries-new (rw (rows_are after tt) (rw (in_new (codes "Switch")) (rw entries-after (rw (on_noted (codes "name"), on_noted (codes "note"))
    (rw (len-one (Text (codes "s1")), len-one (Text [])) refl)))))

after_committed : committed new (listed before) (numbered 10) (listed after) ≡ Ok (listed after)
after_committed = rw none_refer (rw after_kept (rw after_pruned after_limited))

pub a_switch_gets_a_note : converted old new (numbered 10) (listed before) ≡ Ok (listed after)
a_switch_gets_a_note = rw before_is_whole (rw types_stay (rw defaults_fit (rw a_note_is_empty (rw after_committed refl))))

-- ---- refused conversions

pub another_name : (version : Uuid) (rows : Database) → converted old (of_version (codes "Nets") (codes "1.1.0") new_tables) version rows ≡ Err SchemaDiffers
another_name version rows = refl

pub older : (version : Uuid) (rows : Database) → converted old (of_version (codes "Net") (codes "0.9.0") new_tables) version rows ≡ Err SchemaDiffers
older version rows = refl

pub of_the_same_version : (version : Uuid) (rows : Database) → converted old (of_version (codes "Net") (codes "01.0.0") new_tables) version rows ≡ Err SchemaDiffers
of_the_same_version version rows = refl

-- a switch whose column `name`, or whose column `note`, is this one
abbrev changed_listed : Column → List (List ℕ × Column)
changed_listed column = (codes "_uuid", own) ∷ (codes "_version", own) ∷ (codes "name", column) ∷ []

abbrev added_listed : Column → List (List ℕ × Column)
added_listed column = (codes "_uuid", own) ∷ (codes "_version", own) ∷ (codes "name", text) ∷ (codes "note", column) ∷ []

abbrev only_switch : FinMap name_cmp Column → List (List ℕ × Table)
only_switch columns = (codes "Switch", table_of columns) ∷ []

pub tables_of : FinMap name_cmp Column → FinMap name_cmp Table
tables_of columns = from_entries (only_switch columns)

entries-tables_of : (columns : FinMap name_cmp Column) → entries (tables_of columns) ≡ only_switch columns
unfolding tables_of
entries-tables_of columns = entries-named (only_switch columns) tt

pub made_of : List (List ℕ × Column) → FinMap name_cmp Column
made_of columns = from_entries columns

entries-made_of : (columns : List (List ℕ × Column)) → T (is_sorted name_cmp columns) → entries (made_of columns) ≡ columns
unfolding made_of
entries-made_of columns h = entries-named columns h

-- the name becomes a number
abbrev numbered_names : Schema
numbered_names = of_version (codes "Net") (codes "1.1.0") (tables_of (made_of (changed_listed integer)))

type_changes : has_changed_type old numbered_names ≡ true
type_changes =
    rw (entries-tables_of (made_of (changed_listed integer))) (rw (in_old (codes "Switch")) (rw (entries-made_of (changed_listed integer) tt) (rw (on_named (codes "name")) refl)))

pub name_becomes_a_number : (version : Uuid) → converted old numbered_names version (listed before) ≡ Err TypeChanged
name_becomes_a_number version = rw before_is_whole (rw type_changes refl)

-- the note must not be empty, but its default is
abbrev filled : Column
filled = record text { type_of = record text.type_of { key = record text.type_of.key { shortest = Some (pos 1) } } }

abbrev filled_notes : Schema
filled_notes = of_version (codes "Net") (codes "1.1.0") (tables_of (made_of (added_listed filled)))

types_stay_filled : has_changed_type old filled_notes ≡ false
types_stay_filled =
    rw (entries-tables_of (made_of (added_listed filled))) (rw (in_old (codes "Switch")) (rw (entries-made_of (added_listed filled) tt) (rw (on_named (codes "name"), on_named (codes "note")) refl)))

default_too_short : gets_unfit_default old filled_notes (listed before) ≡ true
unfolding chars
default_too_short =
    rw (entries-tables_of (made_of (added_listed filled))) (rw (rows_are before tt) (rw (in_old (codes "Switch")) (rw (entries-made_of (added_listed filled) tt)
    (rw (on_named (codes "name"), on_named (codes "note")) (rw (len-one (Text []), entries-one (Text [])) refl)))))

pub a_switch_lacks_its_note : (version : Uuid) → converted old filled_notes version (listed before) ≡ Err NotConvertible
a_switch_lacks_its_note version = rw before_is_whole (rw types_stay_filled (rw default_too_short refl))

-- in a table without rows it does no harm
pub no_switch_lacks_its_note : gets_unfit_default old filled_notes (listed []) ≡ false
no_switch_lacks_its_note = rw (entries-tables_of (made_of (added_listed filled))) (rw (rows_are [] tt) refl)
