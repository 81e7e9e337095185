-- The changes of a transaction, as indexes of the rows before it are asked about them.
use Rattle.std.proofs.Common.{◌≡◌, Option, Some, None, unwrap_or, refl, sym, ap, ◌∙◌}
use Rattle.std.specs.FinMap.{entries, entries_sorted, get, get-entries, from_sorted, get-from_sorted}
use Rattle.ov_specs.specs.rows.Database.{Row, Database}
use Rattle.ov_specs.specs.rows.Lines.{line_cmp}
use Rattle.ov_stored.specs.Changing.{Delta, applied}
use Rattle.ov_stored.proofs.Places.{get-applied, or_before}
use Rattle.ov_specs.specs.rows.Changed.{IsAfter}

-- the rows that changes make are those after them
pub made_after : (delta : Delta) (before now : Database) → applied delta before ≡ now → IsAfter (entries delta) before now
made_after delta before now made key =
    sym (ap (λ rows. get rows key) made) ∙ get-applied delta before key ∙ by (get delta key) ∙ ap (λ change. unwrap_or change (get before key)) (sym listed)
  where
    listed : get (from_sorted {R = line_cmp} (entries delta)) key ≡ get delta key
    listed = get-from_sorted line_cmp (entries delta) key (entries_sorted delta) ∙ sym (get-entries delta key)

    by : (change : Option (Option Row)) → or_before change (get before key) ≡ unwrap_or change (get before key)
    by None = refl
    by (Some row) = refl
