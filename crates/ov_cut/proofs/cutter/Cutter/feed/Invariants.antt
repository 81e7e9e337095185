use Rattle.std.proofs.Common.{◌≡◌, ◌+◌, ◌-◌, ◌≤◌, [], None, length, take}
use Rattle.ov_cut.specs.Piece.{TakesPiece}
use Rattle.ov_cut.proofs.cutter.Cutter.feed.Given as goal

abbrev pub invariant-fronts : goal.invariant-fronts
invariant-fronts l = record {
  within : l.used ≤ length l.piece;
  takes : TakesPiece l.fn.self [] (take l.used l.piece) l.self l.messages.items;
  looked : l.self.looked ≤ l.fn.self.looked + l.used;
  looked_at_all : l.self.fault ≡ None → l.self.looked ≡ l.fn.self.looked + l.used;
}

abbrev pub decreases-fronts : goal.decreases-fronts
decreases-fronts l = length l.piece - l.used
