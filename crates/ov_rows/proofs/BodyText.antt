-- The tokens and the text of a row's columns, and that the text reads back as the object of the columns.
use Rattle.std.proofs.Common.{◌≡◌, ℕ, List, [], ◌∷◌, ◌++◌, map, flat_map, true, Some, refl, sym, ap, ◌∙◌}
use Rattle.std.proofs.lemmas.List.{append_assoc}
use Rattle.std.specs.FinMap.{get, entries, entries_sorted}
use Rattle.json.specs.Token.{Token, begin_object, end_object, key}
use Rattle.json.specs.Lex.{tokens}
use Rattle.json.specs.Print.{print}
use Rattle.json.specs.Tree.{members_tokens}
use Rattle.serde_json.specs.Data.{object}
use Rattle.serde_json.specs.Read.{read}
use Rattle.serde_json.specs.Written.{compact_text, members_outline}
use Rattle.serde_json.proofs.Texts.{print-outline}
use Rattle.ov_specs.specs.rows.Database.{Columns, written_column}
use Rattle.ov_specs.specs.values.Value.{Datum, Kinds, is_of}
use Rattle.ov_specs.specs.values.Writing.{tree}
use Rattle.ov_specs.proofs.laws.Names.{EachEntry, each_entry}
use Rattle.ov_specs.proofs.laws.Printing.{in_order, placed-in_order, written-sorted, body-reads}
use Rattle.ov_atoms.specs.Tokens.{tokens_of}
use Rattle.ov_rows.specs.Body.{body_of, AreOfKinds, column_tokens}

-- the tokens of an object's members, with its end
members-each : (es : List (List ℕ × Datum)) → members_tokens (members_outline (in_order (map written_column es))) ≡ flat_map column_tokens es ++ end_object ∷ []
members-each [] = refl
members-each (e ∷ es) =
    ap (λ ts. key e.0 ∷ (tokens_of (tree e.1) ++ ts)) (members-each es) ∙ sym (append_assoc (column_tokens e) (flat_map column_tokens es) (end_object ∷ []))

-- the tokens of a row's body
pub body-tokens : (columns : Columns) → begin_object ∷ (flat_map column_tokens (entries columns) ++ end_object ∷ []) ≡ tokens_of (body_of columns)
body-tokens columns =
    ap (λ ts. begin_object ∷ ts) (sym (members-each (entries columns)))
    ∙ ap (λ ms. tokens_of (object ms)) (sym (placed-in_order (map written_column (entries columns)) (written-sorted (entries columns) (entries_sorted columns))))

pub body-text : (columns : Columns) (ts : List Token) → ts ≡ tokens_of (body_of columns) → print ts ≡ compact_text (body_of columns)
body-text columns ts is = ap print is ∙ print-outline (body_of columns)

each-of_kinds : (columns : Columns) (es : List (List ℕ × Datum)) → AreOfKinds columns → EachEntry (λ name datum. get columns name ≡ Some datum) es
    → EachEntry (λ name datum. (kinds : Kinds) × (is_of kinds datum ≡ true)) es
each-of_kinds columns [] h each = tt
each-of_kinds columns (e ∷ es) h each = (h e.0 e.1 each.0, each-of_kinds columns es h each.1)

pub body-reads-back : (columns : Columns) (ts : List Token) → AreOfKinds columns → ts ≡ tokens_of (body_of columns) → tokens (print ts) ≡ ts → read (print ts) ≡ Some (body_of columns)
body-reads-back columns ts h is read_back =
    body-reads columns (print ts) (each-of_kinds columns (entries columns) h (each_entry columns)) (read_back ∙ is)
