-- What is shown of borrowed rows, whatever the name of their table.
use Rattle.std.proofs.Common.{◌≡◌, ◌<◌, ◌+◌, ◌++◌, ℕ, List, [], ◌∷◌, length, get_or, map, take, refl, sym, ap, ◌∙◌}
use Rattle.std.proofs.lemmas.List.{take_more}
use Rattle.serde_json.specs.Data.{Data}
use Rattle.serde_json.specs.View.{items_of}
use Rattle.ov_results.proofs.Joining.{push_item}
use Rattle.ov_rows.specs.Lending.{lent_row_of}
use Rattle.ov_rows.specs.declared.row_view.RowView.{RowView}
use Rattle.ov_specs.specs.operations.Select.{projection, written_row}
use Rattle.ov_specs.specs.operations.Transaction.{and_item}
use Rattle.ov_specs.specs.rows.Database.{Row}
use Rattle.ov_specs.specs.rows.Lines.{LineKey}
use Rattle.ov_ops.specs.Shown.{shown_of}
use Rattle.ov_projection.proofs.Equal.{map-push}

module _ (names : List (List ℕ)) where
  pub shown-lent : (table : List ℕ) (rows : List RowView) → map (projection names) (map (lent_row_of table) rows) ≡ map (shown_of names) rows
  shown-lent table [] = refl
  shown-lent table (r ∷ rows) = ap (λ rest. shown_of names r ∷ rest) (shown-lent table rows)

  -- what is shown of the rows that were found, which are borrowed one after another
  pub shown-found : (table : List ℕ) (lent rows : List RowView) (found : List (LineKey × Row)) → lent ≡ rows → map (lent_row_of table) rows ≡ found → map (shown_of names) lent ≡ map (projection names) found
  shown-found table lent rows found same are = ap (map (shown_of names)) same ∙ sym (shown-lent table rows) ∙ ap (map (projection names)) are

  pub written-shown : (rows : List RowView) → map (λ r. written_row (shown_of names r)) rows ≡ map written_row (map (shown_of names) rows)
  written-shown [] = refl
  written-shown (r ∷ rows) = ap (λ rest. written_row (shown_of names r) ∷ rest) (written-shown rows)

-- what one more row is shown as, after the others
pub and_one : {A : Type 0} (g : A → Data) (rows : List A) (row : A) → items_of (map g (rows ++ row ∷ [])) ≡ and_item (items_of (map g rows)) (g row)
and_one g rows row = ap items_of (map-push g rows row) ∙ push_item (map g rows) (g row)

pub and_next : {A : Type 0} (g : A → Data) (rows : List A) (i : ℕ) (row : A) → i < length rows → row ≡ get_or rows i row → items_of (map g (take (i + 1) rows)) ≡ and_item (items_of (map g (take i rows))) (g row)
and_next g rows i row h e = ap (λ l. items_of (map g l)) (take_more rows i row h ∙ ap (λ y. take i rows ++ y ∷ []) (sym e)) ∙ and_one g (take i rows) row
