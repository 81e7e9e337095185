-- The members of a shown row, put one after another.
use Rattle.std.proofs.Common.{◌≡◌, ℕ, ◌+◌, ◌<◌, List, [], ◌∷◌, ◌++◌, length, get_or, drop, map, Some, None, refl, sym, ap, ◌∙◌, String, string_bytes, Global}
use Rattle.std.specs.Prelude.{option_map, option_to_list}
use Rattle.std.proofs.lemmas.List.{map-append}
use Rattle.serde_json.specs.Data.{Data, Members, put}
use Rattle.ov_rows.specs.Named.{named}
use Rattle.ov_specs.specs.operations.Conditions.{entry_value}
use Rattle.ov_specs.specs.operations.Select.{projection}
use Rattle.ov_specs.specs.rows.Database.{Row, placed, written_column}
use Rattle.ov_specs.specs.rows.Lines.{LineKey}
use Rattle.ov_specs.specs.values.Value.{Datum}
use Rattle.ov_specs.specs.values.Writing.{tree}
use Rattle.ov_projection.specs.Shown.{shown_column}
use Rattle.ov_projection.proofs.Equal.{drop-at}

placed-append : (before : Members) (ms others : List (List ℕ × Data)) → placed before (ms ++ others) ≡ placed (placed before ms) others
placed-append before [] others = refl
placed-append before (m ∷ ms) others = placed-append (put m.0 m.1 before) ms others

-- the column of this name, and then those after it
pub shown-at : (names : List (List ℕ)) (r : LineKey × Row) (i : ℕ) (name : List ℕ) (before after : Members) → i < length names → name ≡ get_or names i name
    → after ≡ placed before (map written_column (shown_column r name)) → placed before (map written_column (projection (drop i names) r)) ≡ placed after (map written_column (projection (drop (i + 1) names) r))
shown-at names r i name before after h e p =
    let rest = projection (drop (i + 1) names) r in
    ap (λ ns. placed before (map written_column (projection ns r))) (drop-at names i name h e)
    ∙ ap (placed before) (map-append written_column (shown_column r name) rest)
    ∙ placed-append before (map written_column (shown_column r name)) (map written_column rest)
    ∙ ap (λ ms. placed ms (map written_column rest)) (sym p)

-- if the row has a column of this name it is put; otherwise nothing is
pub placed-one : (name : List ℕ) (r : LineKey × Row) (datum : Datum) (before : Members) → entry_value r name ≡ Some datum → placed before (map written_column (shown_column r name)) ≡ put name (tree datum) before
placed-one name r datum before is = ap (λ o. placed before (map written_column (option_to_list (option_map (λ d. (name, d)) o)))) is

pub placed-none : (name : List ℕ) (r : LineKey × Row) (before : Members) → entry_value r name ≡ None → placed before (map written_column (shown_column r name)) ≡ before
placed-none name r before is = ap (λ o. placed before (map written_column (option_to_list (option_map (λ (d : Datum). (name, d)) o)))) is

pub placed-at : (cells : List (String Global × Datum)) (i : ℕ) (cell : String Global × Datum) (before after : Members) (name : List ℕ) → i < length cells → cell ≡ get_or cells i cell → name ≡ string_bytes cell.0
    → after ≡ put name (tree cell.1) before → placed before (map written_column (named (drop i cells))) ≡ placed after (map written_column (named (drop (i + 1) cells)))
placed-at cells i cell before after name h e n p =
    ap (λ es. placed before (map written_column (named es))) (drop-at cells i cell h e)
    ∙ sym (ap (λ ms. placed ms (map written_column (named (drop (i + 1) cells)))) (p ∙ ap (λ k. put k (tree cell.1) before) n))
