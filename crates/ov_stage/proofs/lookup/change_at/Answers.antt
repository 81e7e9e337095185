use Rattle.std.proofs.Common.{Some, sym, ◌∙◌}
use Rattle.std.specs.FinMap.{get}
use Rattle.ov_specs.specs.rows.Lines.{line_cmp}
use Rattle.ov_specs.proofs.laws.LineKeys.{key_exact}
use Rattle.ov_stage.proofs.Lookups.{found-none, found-some, id-none, id-some}
use Rattle.ov_stage.proofs.lookup.change_at.Goals as goal

pub returns-in-Some : goal.returns-in-Some
returns-in-Some c =
    let delta = c.args.delta.now in
    let key = c.args.key.now in
    let change = c.in-Some.change.now in
    id-some key c.in-Some.key.now change (get delta key) (found-some line_cmp key_exact delta key c.in-Some.key.now change c.map.result.now.entries c.map.ensures c.in-Some.ensures.same_key c.in-Some.ensures.value)
    ∙ (λ i. Some (sym c.as_id.ensures i, change))

pub returns-in-None : goal.returns-in-None
returns-in-None c =
    let delta = c.args.delta.now in
    let key = c.args.key.now in
    id-none key (get delta key) (found-none line_cmp key_exact delta key c.map.result.now.entries c.map.ensures c.in-None.ensures.value)
