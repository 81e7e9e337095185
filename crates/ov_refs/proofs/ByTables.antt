-- What holds of all rows, table by table.
use Rattle.std.proofs.Common.{◌≡◌, ℕ, List, [], ◌∷◌, Bool, ◌&&◌, refl, sym, ap, ◌∙◌}
use Rattle.std.proofs.lemmas.List.Folds.{list_all-append}
use Rattle.std.specs.FinMap.{entries}
use Rattle.std.specs.List.{list_all}
use Rattle.ov_specs.specs.rows.Lines.{LineKey}
use Rattle.ov_rows.specs.Nested.{OfTable, in_table, all_rows}

module _ {V : Type 0} (test : LineKey × V → Bool) where
  -- all rows of the table pass the test
  abbrev pub are_all_in : List ℕ × OfTable V → Bool
  are_all_in t = list_all test (in_table t.0 (entries t.1))

  -- all rows pass it if those of each table do
  pub by_tables : (ts : List (List ℕ × OfTable V)) → list_all are_all_in ts ≡ list_all test (all_rows ts)
  by_tables [] = refl
  by_tables (t ∷ ts) = ap (λ b. are_all_in t && b) (by_tables ts) ∙ sym (list_all-append test (in_table t.0 (entries t.1)) (all_rows ts))
