use Rattle.std.proofs.Common.{◌≡◌, ◌||◌, true, string_bytes, sym, ap, ◌∙◌}
use Rattle.std.specs.FinMap.{entries}
use Rattle.std.specs.List.{list_any}
use Rattle.ov_specs.specs.integrity.Limits.{has_too_few}
use Rattle.ov_rows.proofs.Names.{paired, paired-start, paired-end, zip-entries, paired-more, paired-empty}
use Rattle.ov_conversion.proofs.limits.have_too_few.Goals as goal

pub returns-then-has_too_few : goal.returns-then-has_too_few
returns-then-has_too_few c =
    let table = c.args.table.now in
    let later = c.next.new.self in
    let pairs = c.zip-name-items.ensures in
    let more = paired-more c.loop-name.name-iterator later c.next.result _ c.in-Some.is c.next.ensures.steps in
    let whole =
    paired-start _ _ _ _ _ _ c.into_iter-name-iterator.ensures.into_iter_gives pairs.first c.iter.ensures.rest c.names.ensures (pairs.second ∙ c.values.ensures) in
    let here : has_too_few table (string_bytes c.in-Some.name.now, c.in-Some.datum.now) ≡ true =
    ap (λ n. has_too_few table (n, c.in-Some.datum.now)) (sym c.as_str.ensures.value) ∙ sym c.has_too_few.ensures ∙ c.if-has_too_few.true in
    sym (ap (λ b. b || list_any (has_too_few table) (paired later.a.rest.now later.b)) here)
    ∙ sym (λ i. list_any (has_too_few table) (paired (more.0 i) (more.1 i))) ∙ c.loop-name.invariant
    ∙ ap (list_any (has_too_few table)) (whole ∙ zip-entries (entries c.args.columns.now))

pub returns : goal.returns
returns c =
    let table = c.args.table.now in
    let pairs = c.zip-name-items.ensures in
    let whole =
    paired-start _ _ _ _ _ _ c.into_iter-name-iterator.ensures.into_iter_gives pairs.first c.iter.ensures.rest c.names.ensures (pairs.second ∙ c.values.ensures) in
    let end = paired-end _ _ (paired-empty c.loop-name.name-iterator c.next.new.self c.next.result c.in-None.is c.next.ensures.steps) in
    sym (ap (list_any (has_too_few table)) end) ∙ c.loop-name.invariant
    ∙ ap (list_any (has_too_few table)) (whole ∙ zip-entries (entries c.args.columns.now))
