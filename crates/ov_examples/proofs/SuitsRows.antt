-- Worked rows that are rows of a schema, and some that are not. Maps do not compute, so lookups in them are rewritten by
-- their laws.
use Rattle.std.proofs.Common.{◌≡◌, ℕ, pos, List, [], ◌∷◌, Bool, true, false, cond, Option, Some, None, refl, sym, ap, ◌∙◌, codes}
use Rattle.std.specs.Str.{is_utf8, chars}
use Rattle.std.specs.FinMap.{empty, get, entries, insert, from_entries, get-empty, get-insert, get-from_entries}
use Rattle.serde_json.specs.Data.{null}
use Rattle.serde_json.proofs.OnLiterals.{serde_json_on_literals}
use Rattle.ov_specs.specs.rows.RowNames.{is_own_column}
use Rattle.ov_specs.specs.rows.Database.{Columns, Row}
use Rattle.ov_specs.specs.rows.Suits.{is_value_for, suits_column, SuitsTable, SuitsRow, Suits}
use Rattle.ov_specs.specs.schema.SchemaTypes.{Column, Table, Schema, name_cmp}
use Rattle.ov_specs.specs.values.Uuid.{is_uuid, zero_uuid}
use Rattle.ov_specs.specs.values.Value.{AtomKind, Integers, Texts, Uuids, Integer, is_text, Datum, Atoms, set_of}
use Rattle.ov_specs.proofs.laws.Names.{name_cmp_total, same_name, same_name-is}
use Rattle.ov_specs.proofs.laws.ReadingBack.{entries-from_entries}
use Rattle.ov_specs.proofs.laws.Suiting.{no_row_suits, one_row_suits}
use Rattle.ov_examples.proofs.ConditionRows.{len-one}

-- ---- texts and identifiers

pub text_is_text : is_text (codes "s1") ≡ true
unfolding is_utf8 chars serde_json_on_literals
text_is_text = refl

pub nul_is_no_text : is_text (0 ∷ []) ≡ false
nul_is_no_text = refl

pub lone_byte_is_no_text : is_text (255 ∷ []) ≡ false
unfolding is_utf8 chars
lone_byte_is_no_text = refl

pub fifteen_bytes_are_no_uuid : is_uuid (0 ∷ 0 ∷ 0 ∷ 0 ∷ 0 ∷ 0 ∷ 0 ∷ 0 ∷ 0 ∷ 0 ∷ 0 ∷ 0 ∷ 0 ∷ 0 ∷ 0 ∷ []) ≡ false
fifteen_bytes_are_no_uuid = refl

-- ---- the schema Net with one table, Switch, of the columns _uuid and load

abbrev scalar : AtomKind → Column
scalar kind = record {
  type_of = record {
    key = record { kind = kind; choices = None; least = None; greatest = None; shortest = None; longest = None; refers = None };
    value = None;
    min = pos 1;
    max = Some (pos 1);
  };
  is_ephemeral = false;
  is_mutable = true;
}

abbrev listed : List (List ℕ × Column)
listed = (codes "_uuid", scalar Uuids) ∷ (codes "load", scalar Integers) ∷ []

abbrev switch : Table
switch = record { columns = from_entries listed; max_rows = None; is_root = true; indexes = [] }

abbrev net : Schema
net = record { name = codes "Net"; version = None; tables = from_entries ((codes "Switch", switch) ∷ []); tree = null }

-- ---- one row

abbrev four : Datum
four = Atoms (set_of (Integer (pos 4) ∷ []))

abbrev columns : Columns
columns = insert empty (codes "load") four

abbrev row : Row
row = record { version = zero_uuid; columns = columns }

entries-four : entries (set_of (Integer (pos 4) ∷ [])) ≡ (Integer (pos 4), tt) ∷ []
entries-four = entries-from_entries ((Integer (pos 4), tt) ∷ []) tt

pub four_is_a_load : is_value_for (scalar Integers) four ≡ true
four_is_a_load = rw (len-one (Integer (pos 4)), entries-four) refl

pub four_is_no_name : is_value_for (scalar Texts) four ≡ false
four_is_no_name = rw (len-one (Integer (pos 4)), entries-four) refl

abbrev load_name : List ℕ
load_name = codes "load"

pub columns_suit : SuitsTable switch columns
columns_suit name =
    ap (λ (o : Option Column). suits_column (cond (is_own_column name) None o) (get columns name)) (get-from_entries name_cmp_total listed name)
    ∙ ap (suits_column (cond (is_own_column name) None (cond (same_name name (codes "_uuid")) (Some (scalar Uuids)) (cond (same_name name load_name) (Some (scalar Integers)) None))))
    (get-insert name_cmp_total empty load_name four name ∙ ap (cond (same_name name load_name) (Some four)) (get-empty name_cmp name))
    ∙ by (same_name name load_name) (same_name name (codes "_uuid")) refl refl
  where
    by : (load own : Bool) → same_name name load_name ≡ load → same_name name (codes "_uuid") ≡ own
        → suits_column (cond (is_own_column name) None (cond own (Some (scalar Uuids)) (cond load (Some (scalar Integers)) None))) (cond load (Some four) None) ≡ true
    by true own is_load is_own =
        let at : name ≡ load_name = same_name-is name load_name is_load in
        let apart : own ≡ false = sym is_own ∙ ap (λ n. same_name n (codes "_uuid")) at in
        ap (λ n. suits_column (cond (is_own_column n) None (cond own (Some (scalar Uuids)) (Some (scalar Integers)))) (Some four)) at
        ∙ ap (λ b. suits_column (cond b (Some (scalar Uuids)) (Some (scalar Integers))) (Some four)) apart ∙ four_is_a_load
    by false true is_load is_own = ap (λ n. suits_column (cond (is_own_column n) None (Some (scalar Uuids))) None) (same_name-is name (codes "_uuid") is_own)
    by false false is_load is_own = either (is_own_column name)
      where
        either : (b : Bool) → suits_column (cond b None None) None ≡ true
        either true = refl
        either false = refl

pub row_suits : SuitsRow net (codes "Switch", zero_uuid) row
row_suits = record { table = switch; named = get-from_entries name_cmp_total ((codes "Switch", switch) ∷ []) (codes "Switch"); id = refl; version = refl; columns = columns_suit }

pub database_suits : Suits net (insert empty (codes "Switch", zero_uuid) row)
database_suits = one_row_suits net empty (codes "Switch", zero_uuid) row row_suits (no_row_suits net)

-- ---- a row of a table that the schema does not have

no_table : (table : Table) → None ≡ Some table → ⊥
no_table table e = cc

pub other_table_suits_not : SuitsRow net (codes "Port", zero_uuid) row → ⊥
other_table_suits_not suits = no_table suits.table (sym (get-from_entries name_cmp_total ((codes "Switch", switch) ∷ []) (codes "Port")) ∙ suits.named)

-- a row without a value for a column
pub empty_row_suits_not : SuitsTable switch empty → ⊥
empty_row_suits_not suits =
    no (sym (ap (λ (o : Option Column). suits_column o (get (empty {K = List ℕ} {X = Datum} {R = name_cmp}) load_name)) (get-from_entries name_cmp_total listed load_name)
    ∙ ap (suits_column (Some (scalar Integers))) (get-empty name_cmp load_name)) ∙ suits load_name)
  where
    no : false ≡ true → ⊥
    no e = cc
