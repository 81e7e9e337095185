-- The rows of a table that meet conditions, and the same rows borrowed.
use Rattle.std.proofs.Common.{◌≡◌, ℕ, List, [], ◌∷◌, true, false, ◌&&◌, cond, filter, map, refl, ap}
use Rattle.std.specs.Str.{bytes_eq}
use Rattle.ov_rows.specs.Lending.{lent_row_of}
use Rattle.ov_rows.specs.declared.row_view.RowView.{RowView}
use Rattle.ov_specs.specs.operations.Conditions.{Condition}
use Rattle.ov_specs.specs.operations.MatchingRows.{meets_all, is_matching}
use Rattle.ov_specs.specs.rows.Database.{Row}
use Rattle.ov_specs.specs.rows.Lines.{LineKey}
use Rattle.ov_stage.specs.Staging.{meets}

-- the table's rows that meet all conditions
pub matching-of_table : (table : List ℕ) (conditions : List Condition) (rows : List (LineKey × Row)) → filter (is_matching table conditions) rows ≡ filter (meets_all conditions) (filter (λ r. bytes_eq r.0.0 table) rows)
matching-of_table table conditions [] = refl
matching-of_table table conditions (r ∷ rows) =
    let others = filter (is_matching table conditions) rows in
    let of_table = filter (λ r. bytes_eq r.0.0 table) rows in
    elim (bytes_eq r.0.0 table) as (λ b. cond (b && meets_all conditions r) (r ∷ others) others ≡ filter (meets_all conditions) (cond b (r ∷ of_table) of_table)) [
      | true ↦ ap (λ (rest : List (LineKey × Row)). cond (meets_all conditions r) (r ∷ rest) rest) (matching-of_table table conditions rows)
      | false ↦ matching-of_table table conditions rows
    ]

-- without conditions, every row meets them all
pub meeting-none : (rows : List RowView) → filter (meets []) rows ≡ rows
meeting-none [] = refl
meeting-none (r ∷ rows) = ap (λ (rest : List RowView). r ∷ rest) (meeting-none rows)

module _ (table : List ℕ) (conditions : List Condition) where
  abbrev seen : RowView → LineKey × Row
  seen = lent_row_of table

  pub lent-meeting : (rows : List RowView) → map seen (filter (meets conditions) rows) ≡ filter (meets_all conditions) (map seen rows)
  lent-meeting [] = refl
  lent-meeting (r ∷ rows) =
      let met = filter (meets conditions) rows in
      let others = filter (meets_all conditions) (map seen rows) in
      elim (meets conditions r) as (λ b. map seen (cond b (r ∷ met) met) ≡ cond b (seen r ∷ others) others) [
        | true ↦ ap (λ (rest : List (LineKey × Row)). seen r ∷ rest) (lent-meeting rows)
        | false ↦ lent-meeting rows
      ]
