use Rattle.std.proofs.Common.{sym, ap, ◌∙◌}
use Rattle.std.proofs.lemmas.Bool.{or_parts}
use Rattle.std.specs.FinMap.{entries}
use Rattle.std.specs.List.{list_any}
use Rattle.ov_specs.specs.integrity.Committed.{pruned}
use Rattle.ov_specs.specs.integrity.Limits.{is_short, is_over_limits}
use Rattle.ov_conversion.proofs.Commits.{missing_refused, limit_refused}
use Rattle.ov_conversion.proofs.Suiting.{left_suits}
use Rattle.ov_conversion.proofs.committed.committed.Goals as goal

pub returns-then-branch-clause-err : goal.returns-then-branch-clause-err
returns-then-branch-clause-err c =
    λ _. missing_refused c.args.schema.now c.args.before.now c.args.version c.args.rows (sym c.if-branch.true ∙ c.in_ok-misses.ensures)

pub breaks_a_limit-requires : goal.breaks_a_limit-requires
breaks_a_limit-requires c =
    let schema = c.args.schema.now in
    let before = c.args.before.now in
    let version = c.args.version in
    record {
      suits = left_suits schema before version c.args.rows c.prune.new.rows (c.in_ok-prune.ensures ∙ ap (pruned schema before version) c.in_ok-drop_unsupported.ensures)
          c.requires.former c.has_sixteen_bytes.ensures c.requires.suits;
    }

pub returns-then-branch-2-clause-err : goal.returns-then-branch-2-clause-err
returns-then-branch-2-clause-err c =
    let schema = c.args.schema.now in
    let before = c.args.before.now in
    let version = c.args.version in
    λ _. limit_refused schema before version c.args.rows c.prune.new.rows (sym c.if-branch.false ∙ c.in_ok-misses.ensures)
    (c.in_ok-prune.ensures ∙ ap (pruned schema before version) c.in_ok-drop_unsupported.ensures) (sym c.if-branch-2.true ∙ c.in_ok-breaks_a_limit.ensures)

pub returns-clause-suits : goal.returns-clause-suits
returns-clause-suits c =
    let schema = c.args.schema.now in
    let before = c.args.before.now in
    let version = c.args.version in
    let left = c.prune.new.rows in
    left_suits schema before version c.args.rows left (c.in_ok-prune.ensures ∙ ap (pruned schema before version) c.in_ok-drop_unsupported.ensures)
    c.requires.former c.has_sixteen_bytes.ensures c.requires.suits
    (or_parts (list_any (is_short schema) (entries left)) (is_over_limits schema left) (sym c.in_ok-breaks_a_limit.ensures ∙ c.if-branch-2.false)).0
