use Rattle.std.proofs.Common.{List, ◌++◌, map, sym, ap, ◌∙◌, rules}
use Rattle.std.specs.Vec.Iter.{into_iter_items}
use Rattle.std.proofs.lemmas.List.{nil_from_length}
use Rattle.rtrb.specs.Ring.{sent}
use Rattle.ov_specs.specs.wire.Message as wire
use Rattle.ov_order.specs.declared.items.Brought.TheVariants.{Message}
use Rattle.ov_workers.proofs.Bringing.{brings_next, brings_last}
use Rattle.ov_workers.proofs.bring.bring_all.Goals as goal

pub loop-message-init : goal.loop-message-init
loop-message-init g c = record {
  inlet = search rules;
  brought = ap (λ (ms : List wire.Message). sent c.args.inlet.now.ring ++ map Message ms) c.into_iter-message-iterator.ensures.into_iter_gives.0;
}

pub loop-message-preserved : goal.loop-message-preserved
loop-message-preserved g c = record {
  inlet = search rules;
  brought = brings_next _ (sent c.loop-message.inlet.ring) (sent c.bring.new.inlet.ring) (into_iter_items c.loop-message.message-iterator) (into_iter_items c.next.new.self) c.in-Some.message
      c.loop-message.invariant.brought c.in-Some.ensures.steps.0 c.bring.ensures.sent;
}

pub returns-clause-brought : goal.returns-clause-brought
returns-clause-brought g c =
    let rest = c.loop-message.message-iterator.rest in
    brings_last _ (sent c.loop-message.inlet.ring) (into_iter_items c.loop-message.message-iterator) c.loop-message.invariant.brought (nil_from_length rest.items (sym rest.ok.0 ∙ c.in-None.ensures.steps.0))
