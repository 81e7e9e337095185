use Rattle.std.proofs.Common.{sym, ◌∙◌}
use Rattle.std.specs.Vec.Iter.{into_iter_items}
use Rattle.std.proofs.lemmas.List.{nil_from_length}
use Rattle.ov_cut.proofs.Pieces.{reads_none, reads_more, reads_stop, reads_all}
use Rattle.ov_cut.proofs.reading.read_texts.Goals as goal

pub loop-text-init : goal.loop-text-init
loop-text-init c = rw c.new-messages.ensures.items (reads_none c.args.texts.items (into_iter_items c.into_iter-text-iterator.result) c.into_iter-text-iterator.ensures.into_iter_gives.0)

pub returns-in-Err : goal.returns-in-Err
returns-in-Err c =
    reads_stop c.args.texts.items (into_iter_items c.loop-text.text-iterator) (into_iter_items c.next.new.self) c.in-Some.text c.loop-text.messages.items c.read_text.new.messages.items c.in-Err.fault c.in-Some.ensures.steps.0 c.loop-text.invariant
    c.in-Err.ensures

pub loop-text-preserved : goal.loop-text-preserved
loop-text-preserved c = reads_more c.args.texts.items (into_iter_items c.loop-text.text-iterator) (into_iter_items c.next.new.self) c.in-Some.text c.loop-text.messages.items c.read_text.new.messages.items c.in-Some.ensures.steps.0 c.loop-text.invariant
    c.in_default.ensures

pub returns : goal.returns
returns c =
    let rest = c.loop-text.text-iterator.rest in
    reads_all c.args.texts.items (into_iter_items c.loop-text.text-iterator) c.loop-text.messages.items (nil_from_length rest.items (sym rest.ok.0 ∙ c.in-None.ensures.steps.0)) c.loop-text.invariant
