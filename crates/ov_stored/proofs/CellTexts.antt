-- The text of a cell reads as the written value, if the value is of any kinds.
use Rattle.std.proofs.Common.{◌≡◌, ℕ, ◌≤◌, List, [], ◌∷◌, true, Some, None, if◌then◌else◌, option_and_then, sym, ap, ◌∙◌, subst, arith}
use Rattle.std.proofs.lemmas.List.{append-nil}
use Rattle.std.proofs.lemmas.Str.{is_utf8-from_IsUtf8}
use Rattle.std.specs.Str.{IsUtf8}
use Rattle.json.proofs.Printed.Trees.{value-json_tokens}
use Rattle.json.specs.Json as json
use Rattle.json.specs.Lex.{tokens}
use Rattle.json.specs.Print.{print}
use Rattle.json.specs.Token.{Token}
use Rattle.json.specs.Tree.{json_tokens}
use Rattle.serde_json.proofs.Texts.{print-outline}
use Rattle.serde_json.specs.Data.{depth}
use Rattle.serde_json.specs.Read.{read, of_json, max_depth}
use Rattle.serde_json.specs.Written.{outline}
use Rattle.ov_atoms.specs.Tokens.{tokens_of}
use Rattle.ov_specs.specs.rows.Cells.{cell_body}
use Rattle.ov_specs.specs.values.Value.{Kinds, Datum, is_of}
use Rattle.ov_specs.specs.values.Writing.{tree}
use Rattle.ov_specs.specs.wire.Message.{tree_of}
use Rattle.ov_specs.proofs.laws.Nesting.{body_depth}
use Rattle.ov_specs.proofs.laws.Printing.{reads-outline, depth-outline, datum-whole}
use Rattle.ov_stored.specs.Stored.{IsCellRead}

shallow : (datum : Datum) → depth (tree datum) ≤ max_depth
shallow datum = let whole = body_depth (([], datum) ∷ []) in omega arith

-- ---- a text of these tokens

datum-reads : (kinds : Kinds) (d : Datum) (text : List ℕ) → is_of kinds d ≡ true → tokens text ≡ tokens_of (tree d) → read text ≡ Some (tree d)
datum-reads kinds d text of is =
    let form = outline (tree d) in
    let whole = datum-whole kinds d of in
    let within = subst (λ n. n ≤ max_depth) (sym (depth-outline (tree d))) (shallow d) in
    ap (λ o. option_and_then of_json (option_and_then (λ p. json.if_last p.0 p.1) o))
    (ap (json.value max_depth) (is ∙ sym (append-nil (json_tokens form))) ∙ value-json_tokens form max_depth [] within) ∙ reads-outline (tree d) whole

pub cell_text : (datum : Datum) (ts : List Token) → ts ≡ tokens_of (tree datum) → print ts ≡ cell_body datum
cell_text datum ts is = ap print is ∙ print-outline (tree datum)

pub cell_reads : (datum : Datum) (ts : List Token) → ts ≡ tokens_of (tree datum) → tokens (print ts) ≡ ts → IsUtf8 (print ts) → IsCellRead datum
cell_reads datum ts is back utf8 = record {
  reads = λ kinds of. sym (ap tree_of (cell_text datum ts is)) ∙ ap (λ b. if b then read (print ts) else None) (is_utf8-from_IsUtf8 _ utf8) ∙ datum-reads kinds datum (print ts) of (back ∙ is);
}
