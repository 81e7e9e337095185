use Rattle.std.proofs.Common.{◌≡◌, ◌++◌, ◌+◌, ◌≤◌, length, List, sym, ap, subst, ◌∙◌}
use Rattle.std.specs.FinMap.{get, remove}
use Rattle.ov_rows.proofs.Nested.{ok_gives}
use Rattle.ov_stage.specs.Staging.{Stage}
use Rattle.ov_specs.specs.integrity.Kept.{kept}
use Rattle.ov_specs.specs.integrity.References.{Target, targets_in, row_targets, references}
use Rattle.ov_specs.specs.rows.Database.{Row}
use Rattle.ov_specs.specs.rows.Lines.{LineKey}
use Rattle.ov_specs.proofs.laws.KeptRows.{kept_without}
use Rattle.ov_support.specs.Linked.{AreLinked}
use Rattle.ov_support.specs.Supporting.{MayLack, strong_keys}
use Rattle.ov_support.proofs.Lacking.{lacking_step}
use Rattle.ov_support.proofs.SupportedRows.{linked_without, no_more}
use Rattle.ov_support.proofs.support.drop_one.Goals as goal

pub returns-clause-kept : goal.returns-clause-kept
returns-clause-kept c =
    let schema = c.args.schema.now in
    ok_gives c.push_strong.result _ _ (λ more.
    ap (λ (s : Stage). kept schema s.now) c.in_ok-remove.ensures.ok ∙ kept_without schema c.args.stage.now.now c.args.key (sym c.is_supported.ensures ∙ c.if-is_supported.false)) c.push_strong.ensures

pub returns-clause-linked : goal.returns-clause-linked
returns-clause-linked c =
    let schema = c.args.schema.now in
    let strong = c.args.links.now.strong in
    let changes = c.args.changes.now in
    ok_gives c.push_strong.result _ _ (λ more.
    subst (λ (s : Stage). AreLinked schema s.now strong changes) (sym c.in_ok-remove.ensures.ok) (linked_without schema c.args.stage.now.now strong changes c.args.key c.requires.linked)) c.push_strong.ensures

pub returns-clause-lacking : goal.returns-clause-lacking
returns-clause-lacking c =
    let schema = c.args.schema.now in
    let rows = c.args.stage.now.now in
    let gone = c.args.key in
    let row = c.in-Some.row.now in
    let work = c.args.work.now.items in
    let targets : c.in_ok-targets.targets.items ≡ row_targets schema (gone, row) =
    c.in_ok-targets.ensures ∙ (λ i. targets_in (get schema.tables (c.table.ensures i)) (ap (λ (r : Row). r.columns) c.row-2.view_is i)) in
    ok_gives c.push_strong.result _ _ (λ more.
    let items = more ∙ ap (λ (ts : List Target). work ++ strong_keys ts) targets in
    subst (λ (s : Stage). MayLack schema s.now c.push_strong.new.work.items) (sym c.in_ok-remove.ensures.ok)
    (subst (MayLack schema (remove rows gone)) (sym items) (lacking_step schema rows gone work row (sym c.in-Some.ensures) c.requires.lacking))) c.push_strong.ensures

pub returns-clause-smaller : goal.returns-clause-smaller
returns-clause-smaller c =
    let schema = c.args.schema.now in
    let rows = c.args.stage.now.now in
    let gone = c.args.key in
    let row = c.in-Some.row.now in
    let work = c.args.work.now.items in
    let targets : c.in_ok-targets.targets.items ≡ row_targets schema (gone, row) =
    c.in_ok-targets.ensures ∙ (λ i. targets_in (get schema.tables (c.table.ensures i)) (ap (λ (r : Row). r.columns) c.row-2.view_is i)) in
    ok_gives c.push_strong.result _ _ (λ more.
    let items = more ∙ ap (λ (ts : List Target). work ++ strong_keys ts) targets in
    subst (λ (s : Stage). length c.push_strong.new.work.items + length (references schema s.now) ≤ length work + length (references schema rows)) (sym c.in_ok-remove.ensures.ok)
    (subst (λ (keys : List LineKey). length keys + length (references schema (remove rows gone)) ≤ length work + length (references schema rows)) (sym items) (no_more schema rows gone row work (sym c.in-Some.ensures)))) c.push_strong.ensures
