use Rattle.ov_cut.proofs.Pieces.{reads_piece}
use Rattle.ov_cut.proofs.cutter.Cutter.read.Goals as goal

pub returns : goal.returns
returns c = λ stream f.
    rw c.fault_of.ensures (reads_piece stream c.args.piece.now c.feed-texts.result.messages.items c.args.self.now c.feed-texts.new.self f c.read_texts-messages.result.messages.items (c.feed-texts.ensures.memory stream f.given f.cuts)
    c.read_texts-messages.result.fault c.feed-texts.result.fault c.read_texts-messages.ensures c.feed-texts.ensures.fault (c.feed-texts.ensures.whole stream f.given f.cuts))
