-- A row more, of the schema, keeps the rows those of the schema.
use Rattle.std.proofs.Common.{◌≡◌, Bool, true, false, cond, Option, Some, None, refl, sym, subst, ◌∙◌}
use Rattle.std.specs.Ordering.{eq_by_cmp}
use Rattle.std.specs.FinMap.{empty, get, insert, entries, get-empty, get-insert}
use Rattle.std.proofs.lemmas.Option.{same_Some}
use Rattle.ov_specs.specs.rows.Database.{Database, Columns, Row, same_columns}
use Rattle.ov_specs.specs.rows.Lines.{LineKey, line_cmp}
use Rattle.ov_specs.specs.rows.Version.{version_over}
use Rattle.ov_specs.specs.rows.Suits.{SuitsRow, Suits}
use Rattle.ov_specs.specs.schema.SchemaTypes.{Schema}
use Rattle.ov_specs.specs.values.Uuid.{Uuid, is_uuid}
use Rattle.ov_specs.proofs.laws.LineKeys.{key_total, tied_same}

pub no_row_suits : (schema : Schema) → Suits schema empty
no_row_suits schema key row h = absurd (no (sym (get-empty line_cmp key) ∙ h))
  where
    no : None ≡ Some row → ⊥
    no e = cc

pub one_row_suits : (schema : Schema) (rows : Database) (key : LineKey) (row : Row) → SuitsRow schema key row → Suits schema rows → Suits schema (insert rows key row)
one_row_suits schema rows key row new suits q r h = by (eq_by_cmp line_cmp q key) refl (sym (get-insert key_total rows key row q) ∙ h)
  where
    by : (b : Bool) → eq_by_cmp line_cmp q key ≡ b → cond b (Some row) (get rows q) ≡ Some r → SuitsRow schema q r
    by true is k = subst (λ (p : LineKey × Row). SuitsRow schema p.0 p.1) (λ i. (sym (tied_same q key is) i, same_Some row r k i)) new
    by false is k = suits q r k

-- the version is the transaction's, or that of a row before it
pub version_suits : (before : Option Row) (version : Uuid) (columns : Columns) → is_uuid version ≡ true → ((row : Row) → before ≡ Some row → is_uuid row.version ≡ true) → is_uuid (version_over before version columns) ≡ true
version_suits None version columns is_version all = is_version
version_suits (Some row) version columns is_version all = by (same_columns (entries row.columns) (entries columns))
  where
    by : (same : Bool) → is_uuid (cond same row.version version) ≡ true
    by true = all row refl
    by false = is_version
