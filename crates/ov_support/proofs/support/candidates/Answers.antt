use Rattle.std.proofs.Common.{◌≡◌, ◌++◌, List, Option, Some, flat_map, sym, ap, subst, ◌∙◌, append_assoc}
use Rattle.std.specs.FinMap.{get, keys}
use Rattle.ov_specs.specs.integrity.References.{Target, targets_in, row_targets}
use Rattle.ov_specs.specs.rows.Database.{Row}
use Rattle.ov_specs.specs.rows.Lines.{LineKey}
use Rattle.ov_refs.specs.Holding.{KeySet}
use Rattle.ov_support.specs.Supporting.{MayLack, strong_keys}
use Rattle.ov_support.proofs.SupportedRows.{lost_of, lost_at, lack_at_first}
use Rattle.ov_support.proofs.support.candidates.Goals as goal

pub loop-key-init : goal.loop-key-init
loop-key-init c =
    let schema = c.args.schema.now in
    let stage = c.args.stage.now in
    let all : c.into_iter-key-iterator.result ≡ keys c.args.changes.now.keys =
    c.into_iter-key-iterator.ensures.into_iter_gives ∙ c.iter-key-items.ensures ∙ ap (λ (set : KeySet). keys set) c.keys.ensures in
    subst (MayLack schema stage.now) (sym (λ i. c.new-work.ensures.items i ++ flat_map (lost_at schema stage.before) (all i)))
    (lack_at_first schema stage.before stage.now c.args.changes.now c.requires.whole c.requires.changed)

pub loop-key-preserved-in_ok-push_strong-in-Some-row : goal.loop-key-preserved-in_ok-push_strong-in-Some-row
loop-key-preserved-in_ok-push_strong-in-Some-row c =
    let schema = c.args.schema.now in
    let stage = c.args.stage.now in
    let key = c.in-Some.key.now in
    let row = c.in-Some-row.row.now in
    let work = c.loop-key.work.items in
    let rest = flat_map (lost_at schema stage.before) c.next.new.self in
    let found : get stage.before key ≡ Some row = sym (c.in-Some-row.ensures ∙ (λ i. get (c.before-in-loop-key.ensures i) (c.table.ensures i, c.id.ensures i))) in
    let targets : c.in_ok-targets-in-Some-row.targets.items ≡ row_targets schema (key, row) =
    c.in_ok-targets-in-Some-row.ensures ∙ (λ i. targets_in (get schema.tables (c.table-in-Some-row.ensures i)) (ap (λ (r : Row). r.columns) c.row-in-Some-row.view_is i)) in
    let pushed = c.in_ok-push_strong-in-Some-row.ensures ∙ ap (λ (ts : List Target). work ++ strong_keys ts) targets ∙ ap (λ (o : Option Row). work ++ lost_of schema key o) (sym found) in
    subst (MayLack schema stage.now)
    (ap (λ (ks : List LineKey). work ++ flat_map (lost_at schema stage.before) ks) c.in-Some.ensures.steps
    ∙ sym (ap (λ (ks : List LineKey). ks ++ rest) pushed ∙ append_assoc work (lost_at schema stage.before key) rest)) c.loop-key.invariant
