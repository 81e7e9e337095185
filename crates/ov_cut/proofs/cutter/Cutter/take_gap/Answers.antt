use Rattle.std.proofs.Common.{◌≡◌, ◌-◌, ◌≤◌, ◌∙◌, ap, arith, length, take, drop}
use Rattle.std.proofs.lemmas.List.{take_all, take_rest, length-drop}
use Rattle.std.proofs.lemmas.Result.{err_from_is_err_and}
use Rattle.ov_cut.specs.CutterState.{CutterState}
use Rattle.ov_cut.specs.Piece.{TakesPiece, advanced, with_fault}
use Rattle.ov_cut.proofs.Fronts.{took_gap, took_stray, gap_then, gap_over}
use Rattle.ov_cut.proofs.cutter.Cutter.take_gap.Goals as goal

pub returns-in_err-take_message-in-Brace-clause-takes : goal.returns-in_err-take_message-in-Brace-clause-takes
returns-in_err-take_message-in-Brace-clause-takes c =
    let p = err_from_is_err_and c.from_residual.result c.from_residual.ensures.1 in
    let g = c.in-Brace.ensures.gap in
    let before = c.args.messages.now.items in
    let is = c.advance-in-Brace.ensures ∙ ap (λ (s : CutterState). advanced (record s { looked = c.find_gap.new.looks }) c.in-Brace.gap) c.self.view_is in
    let two : TakesPiece c.advance-in-Brace.new.self before (drop c.in-Brace.gap c.args.piece.now) (with_fault c.take_message.new.self c.in_err-take_message-in-Brace.field-0.0) c.take_message.new.messages.items = rw (← take_rest c.args.piece.now c.in-Brace.gap) c.in_err-take_message-in-Brace.ensures.takes in
    rw (p.1, p.2) (gap_over c.args.self.now c.find_gap.new.looks before c.requires.sound c.requires.between c.args.piece.now c.in-Brace.gap g.0 g.1 c.advance-in-Brace.new.self is _ _ two)

pub returns-in_ok-take_message-in-Brace-clause-takes : goal.returns-in_ok-take_message-in-Brace-clause-takes
returns-in_ok-take_message-in-Brace-clause-takes c =
    let g = c.in-Brace.ensures.gap in
    let before = c.args.messages.now.items in
    let n = c.in_ok-take_message-in-Brace.field-0 in
    let is = c.advance-in-Brace.ensures ∙ ap (λ (s : CutterState). advanced (record s { looked = c.find_gap.new.looks }) c.in-Brace.gap) c.self.view_is in
    let e = c.in_ok-take_message-in-Brace.ensures.takes in
    let within : length (take (length c.args.piece.now - c.in-Brace.gap) (drop c.in-Brace.gap c.args.piece.now)) ≡ length c.args.piece.now - c.in-Brace.gap = ap length (take_rest c.args.piece.now c.in-Brace.gap) ∙ length-drop c.in-Brace.gap c.args.piece.now in
    let two : TakesPiece c.advance-in-Brace.new.self before (take n (drop c.in-Brace.gap c.args.piece.now)) c.take_message.new.self c.take_message.new.messages.items = rw (← take_rest c.args.piece.now c.in-Brace.gap) e.2 in
    (omega (arith, e.0), omega (arith, e.1, within), gap_then c.args.self.now c.find_gap.new.looks before c.requires.sound c.requires.between c.args.piece.now c.in-Brace.gap g.0 g.1 c.advance-in-Brace.new.self is n _ _ two)

pub returns-in-Space-clause-takes : goal.returns-in-Space-clause-takes
returns-in-Space-clause-takes c =
    let piece = c.args.piece.now in
    let all : length piece ≤ length piece = omega arith in
    let is = c.advance.ensures ∙ ap (λ (s : CutterState). advanced (record s { looked = c.find_gap.new.looks }) (length piece)) c.self.view_is in
    (omega (arith, c.requires.some), all, rw (take_all (length piece) piece all, is) (took_gap c.args.self.now c.find_gap.new.looks c.args.messages.now.items c.requires.sound c.requires.between piece c.in-Space.ensures.gap))

pub returns-in-Stray-clause-takes : goal.returns-in-Stray-clause-takes
returns-in-Stray-clause-takes c =
    let g = c.in-Stray.ensures.gap in
    let start = ap (λ (s : CutterState). s.start) c.self.view_is in
    rw (c.moved.ensures, start) (took_stray c.args.self.now 0 c.args.messages.now.items c.requires.sound c.requires.between c.args.piece.now c.in-Stray.gap (record c.args.self.now { looked = c.find_gap.new.looks }) g.0 g.1 g.2 g.3)
