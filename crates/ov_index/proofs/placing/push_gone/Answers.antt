use Rattle.std.proofs.Common.{List, sym, subst, ◌∙◌}
use Rattle.ov_index.specs.IndexKeys.{IndexEntry}
use Rattle.ov_index.proofs.Placed.{AreGoneTo, gone-not, gone-next}
use Rattle.ov_index.proofs.placing.push_gone.Goals as goal

pub loop-entry-preserved-in-Continue-1 : goal.loop-entry-preserved-in-Continue-1
loop-entry-preserved-in-Continue-1 c =
    let new = c.args.new.now in
    let all = c.into_iter-entry-iterator.result.rest.items in
    let before = c.args.gone.now.items in
    let now = c.loop-entry.gone.items in
    gone-next new c.in-Some.entry c.next.new.self.rest.items all before now (subst (λ (es : List IndexEntry). AreGoneTo new es now all before) c.in-Some.ensures.steps.0 c.loop-entry.invariant) c.push.new.self.items
    (sym c.if-not-is_among.true ∙ c.is_among.ensures) c.in_ok-push.ensures.items

pub loop-entry-preserved : goal.loop-entry-preserved
loop-entry-preserved c =
    let new = c.args.new.now in
    let all = c.into_iter-entry-iterator.result.rest.items in
    let before = c.args.gone.now.items in
    let now = c.loop-entry.gone.items in
    gone-not new c.in-Some.entry c.next.new.self.rest.items all before now (subst (λ (es : List IndexEntry). AreGoneTo new es now all before) c.in-Some.ensures.steps.0 c.loop-entry.invariant)
    (sym c.if-not-is_among.false ∙ c.is_among.ensures)
