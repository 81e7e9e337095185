use Rattle.std.proofs.Common.{arith, ◌≡◌, ◌+◌, ◌≤◌, length, ap, ◌∙◌}
use Rattle.std.proofs.lemmas.Grind.{common_steps}
use Rattle.std.specs.FinMap.{entries}
use Rattle.ov_specs.specs.integrity.Limits.{rows_of}
use Rattle.ov_support.proofs.Bounded.{at_most}
use Rattle.ov_support.proofs.limits.most_rows.Goals as goal

pub returns : goal.returns
returns c =
    let name = c.args.name.now in
    let now = c.args.stage.now.now in
    let bound = at_most name c.changes.result.now c.args.stage.now.before now c.changes.ensures.made in
    let before : c.count_of.result ≡ length (rows_of name c.args.stage.now.before) = c.count_of.ensures ∙ ap (λ rows. length (rows_of name rows)) c.before-2.ensures in
    let added : c.len.result ≡ length (entries c.changes.result.now) = c.len.ensures.len ∙ ap length c.map.ensures in
    let most : length (rows_of name now) ≤ c.count_of.result + c.len.result = omega (arith, bound, before, added) in
    grind (arith, common_steps)
