use Rattle.std.proofs.Common.{List, [], ap, subst, ◌∙◌}
use Rattle.ov_rows.proofs.Maps.{ascends}
use Rattle.ov_specs.specs.rows.Lines.{line_cmp}
use Rattle.std.specs.FinMap.{get}
use Rattle.ov_index.specs.Collecting.{entries_of_row, AreMoreGone}
use Rattle.ov_index.specs.IndexKeys.{IndexEntry}
use Rattle.ov_index.proofs.Placed.{Changes, ArePlacedTo, placed-next, same-then, back_is, placed_is}
use Rattle.ov_index.proofs.indexes.Indexes.place.Goals as goal

pub returns-in_err-new-clause-back : goal.returns-in_err-new-clause-back
returns-in_err-new-clause-back c = back_is c.args.schema.now c.args.rows.now c.args.self.now c.loop-key.self c.loop-key.room.added.items c.requires.indexed c.loop-key.invariant.0

pub returns-in_err-old-clause-back : goal.returns-in_err-old-clause-back
returns-in_err-old-clause-back c = back_is c.args.schema.now c.args.rows.now c.args.self.now c.loop-key.self c.loop-key.room.added.items c.requires.indexed c.loop-key.invariant.0

pub returns-in_err-add_all_new-clause-back : goal.returns-in_err-add_all_new-clause-back
returns-in_err-add_all_new-clause-back c =
    let self = c.args.self.now in
    let now = c.add_all_new.new.self in
    let added = c.add_all_new.new.added.items in
    back_is c.args.schema.now c.args.rows.now self now added c.requires.indexed
    (same-then [] c.loop-key.room.added.items added self c.loop-key.self now c.loop-key.invariant.0 c.add_all_new.ensures.back)

pub returns-in_err-push_gone-clause-back : goal.returns-in_err-push_gone-clause-back
returns-in_err-push_gone-clause-back c = back_is c.args.schema.now c.args.rows.now c.args.self.now c.loop-key.self c.loop-key.room.added.items c.requires.indexed c.loop-key.invariant.0

pub loop-key-preserved : goal.loop-key-preserved
loop-key-preserved c =
    let schema = c.args.schema.now in
    let rows = c.args.rows.now in
    let before = c.args.self.now in
    let now = c.loop-key.self in
    let key = c.in-Some.key.now in
    let all = c.into_iter-key-iterator.result in
    let gone = c.loop-key.room.gone.items in
    let more = c.push_gone.new.gone.items in
    let old = c.in_ok-old.old.items in (
      same-then [] c.loop-key.room.added.items c.add_all_new.new.added.items before now c.add_all_new.new.self c.loop-key.invariant.0 c.add_all_new.ensures.back,
      placed-next schema rows (key, c.in-Some.row.now) c.next.new.self all before now c.add_all_new.new.self gone more old c.in_ok-new.new.items
          (subst (λ (left : Changes). ArePlacedTo schema rows all before (record { left = left; indexes = now; gone = gone })) c.in-Some.ensures.steps c.loop-key.invariant.1)
          (c.in_ok-new.ensures ∙ ap (entries_of_row schema key) c.as_ref.ensures.value)
          (c.in_ok-old.ensures ∙ ap (entries_of_row schema key) (c.row.ensures ∙ (λ i. get rows (c.table.ensures i, c.id.ensures i))))
          c.in_ok-add_all_new.ensures.on (subst (λ (new : List IndexEntry). AreMoreGone old new gone more) c.as_slice.ensures.value c.in_ok-push_gone.ensures),
    )

pub returns-clause-back : goal.returns-clause-back
returns-clause-back c = back_is c.args.schema.now c.args.rows.now c.args.self.now c.loop-key.self c.loop-key.room.added.items c.requires.indexed c.loop-key.invariant.0

pub returns-clause-on : goal.returns-clause-on
returns-clause-on c =
    let schema = c.args.schema.now in
    let rows = c.args.rows.now in
    let before = c.args.self.now in
    let now = c.loop-key.self in
    let gone = c.loop-key.room.gone.items in
    let given = c.into_iter-key-iterator.ensures.into_iter_gives in
    placed_is schema rows c.args.changes.now.entries before now gone (ascends line_cmp _ given.5) c.requires.indexed
    (subst (λ (all : Changes). ArePlacedTo schema rows all before (record { left = []; indexes = now; gone = gone })) given.0
    (subst (λ (left : Changes). ArePlacedTo schema rows c.into_iter-key-iterator.result before (record { left = left; indexes = now; gone = gone })) c.in-None.ensures.steps.0 c.loop-key.invariant.1))
