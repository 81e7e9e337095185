use Rattle.rtrb.specs.Ring.{sent}
use Rattle.ov_workers.proofs.Bringing.{brings_piece}
use Rattle.ov_workers.proofs.bring.bring_piece.Goals as goal

pub returns-clause-brought : goal.returns-clause-brought
returns-clause-brought g c = λ stream f.
    brings_piece stream c.args.piece.now c.read-messages.result.messages.items c.args.cutter.now c.read-messages.new.self (sent c.args.inlet.now.ring) (sent c.bring_all.new.inlet.ring) f c.bring_all.ensures.brought
    c.read-messages.result.fault (c.read-messages.ensures stream f.fed)
