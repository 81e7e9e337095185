-- What is reported of a commit is what is reported of its changes.
use Rattle.std.proofs.Common.{◌≡◌, [], ◌∷◌, cond, T, Option, Some, None, refl, sym, ap, ◌∙◌}
use Rattle.std.specs.FinMap.{get, get-entries, find, is_sorted, entries, entries_sorted}
use Rattle.std.specs.List.{filter_map, cons_option}
use Rattle.std.specs.Str.{bytes_eq}
use Rattle.ov_stored.specs.Changing.{Delta, applied}
use Rattle.ov_stored.proofs.Places.{Changes, or_before, get-applied, found-first, found-later}
use Rattle.ov_specs.specs.monitors.Requests.{MonitoredTable}
use Rattle.ov_specs.specs.monitors.Updates.{row_update, under_id, updated_rows}
use Rattle.ov_specs.specs.rows.Database.{Row, Database}
use Rattle.ov_specs.specs.rows.Lines.{LineKey, line_cmp}
use Rattle.ov_specs.proofs.laws.LineKeys.{same_tied}
use Rattle.ov_specs.proofs.laws.Monitoring.{told_at, updated_rows-by}
use Rattle.ov_specs.proofs.laws.Truths.{right_holds}
use Rattle.ov_watch.specs.Telling.{told_change}

-- each change alone, as its key has it among all
each_by_key : {B : Type 0} (f : LineKey × Option Row → Option B) (g : LineKey → Option B) (es : Changes) → T (is_sorted line_cmp es) → ((key : LineKey) (o : Option Row) → find line_cmp key es ≡ Some o → f (key, o) ≡ g key)
    → filter_map f es ≡ filter_map (λ e. g e.0) es
each_by_key f g [] sorted same = refl
each_by_key f g (e ∷ es) sorted same =
    (λ i. cons_option (same e.0 e.1 (found-first e es e.0 (same_tied e.0 e.0 refl)) i) (each_by_key f g es (right_holds _ _ sorted) (λ key o found. same key o (found-later e es key o sorted found)) i))

pub changes_told : (before : Database) (delta : Delta) (t : MonitoredTable) → filter_map (told_change before t) (entries delta) ≡ updated_rows before (applied delta before) t
changes_told before delta t =
    each_by_key (told_change before t) (told_at before (applied delta before) t) (entries delta) (entries_sorted delta) (λ key o found.
    sym (ap (λ after. cond (bytes_eq key.0 t.table) (under_id key (row_update t key (get before key) after)) None) (get-applied delta before key ∙ ap (λ c. or_before c (get before key)) (get-entries delta key ∙ found))))
    ∙ sym (updated_rows-by before (applied delta before) t (entries delta) (entries_sorted delta) (λ q none. sym (get-applied delta before q ∙ ap (λ c. or_before c (get before q)) (get-entries delta q ∙ none))))
