use Rattle.std.proofs.Common.{◌≡◌, ◌+◌, ◌≤◌, ◌∙◌, ℕ, [], ◌++◌, ◌∷◌, Some, ap, arith, length, take, drop}
use Rattle.std.proofs.lemmas.List.{length-drop}
use Rattle.std.proofs.lemmas.Result.{err_from_is_err_and}
use Rattle.ov_specs.specs.wire.Cut.{cut_from, max_message, TooLong}
use Rattle.ov_cut.specs.CutterState.{CutterState}
use Rattle.ov_cut.specs.Message.{Brings, Finds}
use Rattle.ov_cut.specs.Piece.{advanced}
use Rattle.ov_cut.specs.declared.message.Found.TheVariants as Found
use Rattle.ov_cut.proofs.Scan.{first_begun, first_some}
use Rattle.ov_cut.proofs.Fronts.{first_whole, first_more, first_long, took_whole, took_more, took_none, took_long}
use Rattle.ov_cut.proofs.cutter.Cutter.take_message.Goals as goal

pub find_end-requires : goal.find_end-requires
find_end-requires c = rw c.split_at.ensures.front (first_begun c.args.piece.now c.requires.brace)

pub returns-in_err-copy_message-in-Whole-clause-takes : goal.returns-in_err-copy_message-in-Whole-clause-takes
returns-in_err-copy_message-in-Whole-clause-takes c =
    let p = err_from_is_err_and c.from_residual.result c.from_residual.ensures.1 in
    let e = c.in_err-copy_message-in-Whole.ensures in
    rw (p.1, p.2) (took_none c.args.self.now 0 c.args.messages.now.items c.requires.sound c.args.piece.now c.copy_message.new.self c.copy_message.new.messages.items _ e.0 e.2)

pub returns-in_err-keep-in-Begun-clause-takes : goal.returns-in_err-keep-in-Begun-clause-takes
returns-in_err-keep-in-Begun-clause-takes c =
    let p = err_from_is_err_and c.from_residual-in_err-keep-in-Begun.result c.from_residual-in_err-keep-in-Begun.ensures.1 in
    let e = c.in_err-keep-in-Begun.ensures in
    rw (p.1, p.2) (took_none c.args.self.now 0 c.args.messages.now.items c.requires.sound c.args.piece.now c.keep.new.self c.args.messages.now.items _ e.0 (λ i. c.args.messages.now.items))

pub returns-in_ok-copy_message-in-Whole-clause-takes : goal.returns-in_ok-copy_message-in-Whole-clause-takes
returns-in_ok-copy_message-in-Whole-clause-takes c =
    let piece = c.args.piece.now in
    let n = c.in-Whole.len in
    let e = c.in_ok-copy_message-in-Whole.ensures in
    let f : Finds (take 1 piece) (drop 1 piece) (Found.Whole n) = rw (← c.split_at.ensures.front, ← c.split_at.ensures.back) c.in-Whole.ensures.end in
    let some = first_some piece c.requires.brace in
    let within : n + 1 ≤ length piece = omega (arith, f.1, length-drop 1 piece) in
    let is = e.0 ∙ ap (λ (s : CutterState). record (advanced (record s { looked = c.find_end.new.looks }) (length (take (n + 1) piece))) { rest = [] }) c.self.view_is in
    let whole : Brings c.args.self.now.rest (take (n + 1) piece) (take (n + 1) piece ∷ []) [] = rw c.requires.between (first_whole piece c.requires.brace n f.2) in
    (omega arith, within, took_whole c.args.self.now c.find_end.new.looks c.args.messages.now.items c.requires.sound piece (take (n + 1) piece) (n + 1) c.copy_message.new.self c.copy_message.new.messages.items (rw c.requires.between (omega arith)) whole is e.1)

pub returns-in_ok-keep-in-Begun-clause-takes : goal.returns-in_ok-keep-in-Begun-clause-takes
returns-in_ok-keep-in-Begun-clause-takes c =
    let piece = c.args.piece.now in
    let e = c.in_ok-keep-in-Begun.ensures in
    let f : Brings (take 1 piece) (drop 1 piece) [] (take 1 piece ++ drop 1 piece) = rw (← c.split_at.ensures.front, ← c.split_at.ensures.back) c.in-Begun.ensures.end.1 in
    let is = e ∙ ap (λ (s : CutterState). record s { rest = s.rest ++ piece; looked = c.find_end.new.looks }) c.self.view_is in
    let more : Brings c.args.self.now.rest piece [] (c.args.self.now.rest ++ piece) = rw c.requires.between (first_more piece c.requires.brace f) in
    (first_some piece c.requires.brace, omega arith, took_more c.args.self.now c.find_end.new.looks c.args.messages.now.items c.requires.sound piece c.keep.new.self more is)

pub returns-in-TooLong-clause-takes : goal.returns-in-TooLong-clause-takes
returns-in-TooLong-clause-takes c =
    let piece = c.args.piece.now in
    let f : (at : ℕ) → cut_from max_message at (take 1 piece) (drop 1 piece) ≡ record { messages = []; rest = []; damage = Some TooLong } = rw (← c.split_at.ensures.front, ← c.split_at.ensures.back) c.in-TooLong.ensures.end in
    took_long c.args.self.now 0 c.args.messages.now.items c.requires.sound piece (record c.args.self.now { start = c.self.inside.start; looked = c.find_end.new.looks }) (rw c.requires.between (first_long piece c.requires.brace f))
