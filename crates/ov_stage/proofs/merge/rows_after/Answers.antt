use Rattle.std.proofs.Common.{T, map, sym, ap, subst, ◌∙◌}
use Rattle.std.proofs.lemmas.Result.{IfOk-weaker}
use Rattle.std.specs.FinMap.{entries, is_sorted, len}
use Rattle.ov_stored.specs.Changing.{with_row_changes}
use Rattle.ov_rows.specs.Lending.{lent_row, lent_row_of}
use Rattle.ov_rows.specs.Resident.{database_of}
use Rattle.ov_stored.proofs.Places.{Changes}
use Rattle.ov_specs.specs.rows.Lines.{line_cmp}
use Rattle.ov_stage.specs.Asked.{changes_of}
use Rattle.ov_stage.proofs.Merging.{Entries, after-none, keyed, keyed-map, ids_sorted, merged_is, its_changes_sorted}
use Rattle.ov_stage.proofs.merge.rows_after.Goals as goal
use Rattle.ov_specs.proofs.laws.Truths.{zero_is}

pub returns-then-is_empty : goal.returns-then-is_empty
returns-then-is_empty c =
    let none = zero_is (len c.args.delta.now) (sym c.is_empty.ensures ∙ c.if-is_empty.true) in
    after-none c.args.table.now c.args.delta.now (map (lent_row_of c.args.table.now) c.args.rows.items) none c.requires

pub merged-requires-clause-rows : goal.merged-requires-clause-rows
merged-requires-clause-rows c =
    let table = c.args.table.now in
    let rows = c.as_slice.result.now in
    let keyed_rows = keyed-map table lent_row rows ∙ ap (map (lent_row_of table)) c.as_slice.ensures.value in
    ids_sorted table (map lent_row rows) (subst (λ (es : Entries). T (is_sorted line_cmp es)) (sym keyed_rows) c.requires)

pub merged-requires-clause-changes : goal.merged-requires-clause-changes
merged-requires-clause-changes c =
    let table = c.args.table.now in
    let changes = c.as_slice-2.result.now in
    let keyed_changes = keyed-map table (λ r. (r.0.now, r.1.now)) changes ∙ ap (map (λ r. ((table, r.0.now), r.1.now))) c.as_slice-2.ensures.value ∙ c.in_ok-changes.ensures in
    ids_sorted table (map (λ r. (r.0.now, r.1.now)) changes) (subst (λ (cs : Changes). T (is_sorted line_cmp cs)) (sym keyed_changes) (its_changes_sorted table c.args.delta.now))

pub returns : goal.returns
returns c =
    let table = c.args.table.now in
    let rows = c.as_slice.result.now in
    let changes = c.as_slice-2.result.now in
    let keyed_rows = keyed-map table lent_row rows ∙ ap (map (lent_row_of table)) c.as_slice.ensures.value in
    let keyed_changes = keyed-map table (λ r. (r.0.now, r.1.now)) changes ∙ ap (map (λ r. ((table, r.0.now), r.1.now))) c.as_slice-2.ensures.value ∙ c.in_ok-changes.ensures in
    let sorted : T (is_sorted line_cmp (keyed table (map lent_row rows))) = subst (λ (es : Entries). T (is_sorted line_cmp es)) (sym keyed_rows) c.requires in
    IfOk-weaker c.merged.result _ _ (λ merged h.
    sym (keyed-map table lent_row merged.items) ∙ ap (keyed table) h ∙ merged_is table (map (λ r. (r.0.now, r.1.now)) changes) (map lent_row rows) sorted
    ∙ ap (λ (cs : Changes). entries (with_row_changes cs (database_of (keyed table (map lent_row rows))))) keyed_changes
    ∙ ap (λ (es : Entries). entries (with_row_changes (changes_of c.args.delta.now table) (database_of es))) keyed_rows) c.merged.ensures
