use Rattle.std.proofs.Common.{◌++◌, List, ℕ, sym, ap, ◌∙◌, append_assoc, append-nil}
use Rattle.std.specs.FinMap.{get, entries}
use Rattle.std.specs.List.{flat_map}
use Rattle.ov_specs.specs.integrity.References.{Target, column_targets}
use Rattle.ov_specs.specs.schema.SchemaTypes.{Table}
use Rattle.ov_specs.specs.values.Value.{Datum}
use Rattle.ov_rows.proofs.Names.{paired, paired-start, paired-end, zip-entries, paired-more, paired-empty}
use Rattle.ov_refs.proofs.targets.targets_in.Goals as goal

abbrev in_columns : Table → List (List ℕ × Datum) → List Target
in_columns table columns = flat_map (λ c. column_targets (get table.columns c.0) c.1) columns

pub loop-name-preserved : goal.loop-name-preserved
loop-name-preserved c =
    let table = c.args.table.now in
    let items = c.loop-name.targets.items in
    let later = c.next.new.self in
    let more = paired-more c.loop-name.name-iterator later c.next.result _ c.in-Some.is c.next.ensures.steps in
    ap (λ targets. targets ++ in_columns table (paired later.a.rest.now later.b))
    (c.in_ok-push_column.ensures ∙ ap (λ n. items ++ column_targets (get table.columns n) c.in-Some.datum.now) c.as_str.ensures.value)
    ∙ append_assoc items _ _ ∙ ap (λ rest. items ++ in_columns table rest) (sym (λ i. paired (more.0 i) (more.1 i))) ∙ c.loop-name.invariant

pub returns : goal.returns
returns c =
    let table = c.args.table.now in
    let pairs = c.zip-name-items.ensures in
    let whole =
    paired-start _ _ _ _ _ _ c.into_iter-name-iterator.ensures.into_iter_gives pairs.first c.iter.ensures.rest c.names.ensures (pairs.second ∙ c.values.ensures) in
    let end = paired-end _ _ (paired-empty c.loop-name.name-iterator c.next.new.self c.next.result c.in-None.is c.next.ensures.steps) in
    sym (append-nil _) ∙ sym (ap (λ rest. c.loop-name.targets.items ++ in_columns table rest) end) ∙ c.loop-name.invariant
    ∙ (λ j. c.new-targets.ensures.items j ++ in_columns table (whole j)) ∙ ap (in_columns table) (zip-entries (entries c.args.columns.now))
