use Rattle.std.proofs.Common.{◌∙◌, [], ◌++◌, ◌∷◌, ap, subst, arith, length, length-append, take}
use Rattle.std.proofs.lemmas.Result.{err_from_is_err_and}
use Rattle.ov_cut.specs.CutterState.{CutterState}
use Rattle.ov_cut.specs.Message.{Brings, Finds}
use Rattle.ov_cut.specs.Piece.{advanced}
use Rattle.ov_cut.specs.declared.message.Found.TheVariants as Found
use Rattle.ov_cut.proofs.Fronts.{took_whole, took_more, took_none, took_long}
use Rattle.ov_cut.proofs.cutter.Cutter.take_front.Goals as goal

pub returns-in_err-end_message-in-Whole-clause-takes : goal.returns-in_err-end_message-in-Whole-clause-takes
returns-in_err-end_message-in-Whole-clause-takes c =
    let p = err_from_is_err_and c.from_residual.result c.from_residual.ensures.1 in
    let e = c.in_err-end_message-in-Whole.ensures in
    rw (p.1, p.2) (took_none c.args.self.now 0 c.args.messages.now.items c.requires.sound c.args.piece.now c.end_message.new.self c.end_message.new.messages.items _ e.0 e.2)

pub returns-in_err-keep-in-Begun-clause-takes : goal.returns-in_err-keep-in-Begun-clause-takes
returns-in_err-keep-in-Begun-clause-takes c =
    let p = err_from_is_err_and c.from_residual-in_err-keep-in-Begun.result c.from_residual-in_err-keep-in-Begun.ensures.1 in
    let e = c.in_err-keep-in-Begun.ensures in
    rw (p.1, p.2) (took_none c.args.self.now 0 c.args.messages.now.items c.requires.sound c.args.piece.now c.keep.new.self c.args.messages.now.items _ e.0 (λ i. c.args.messages.now.items))

pub returns-in_ok-end_message-in-Whole-clause-takes : goal.returns-in_ok-end_message-in-Whole-clause-takes
returns-in_ok-end_message-in-Whole-clause-takes c =
    let piece = c.args.piece.now in
    let n = c.in-Whole.len in
    let rest = c.self.inside.rest.items in
    let e = c.in_ok-end_message-in-Whole.ensures in
    let f : Finds rest piece (Found.Whole n) = rw (← c.deref.ensures.value) c.in-Whole.ensures.end in
    let same = ap (λ (s : CutterState). s.rest) c.self.view_is in
    let is = e.0 ∙ ap (λ (s : CutterState). record (advanced (record s { looked = c.find_end.new.looks }) (length (rest ++ take n piece))) { rest = [] }) c.self.view_is in
    let whole = subst (λ r. Brings r (take n piece) ((rest ++ take n piece) ∷ []) []) same f.2 in
    (f.0, f.1, took_whole c.args.self.now c.find_end.new.looks c.args.messages.now.items c.requires.sound piece (rest ++ take n piece) n c.end_message.new.self c.end_message.new.messages.items (rw (← same) (length-append rest (take n piece))) whole is e.1)

pub returns-in_ok-keep-in-Begun-clause-takes : goal.returns-in_ok-keep-in-Begun-clause-takes
returns-in_ok-keep-in-Begun-clause-takes c =
    let piece = c.args.piece.now in
    let rest = c.self.inside.rest.items in
    let f : Brings rest piece [] (rest ++ piece) = rw (← c.deref.ensures.value) c.in-Begun.ensures.end.1 in
    let same = ap (λ (s : CutterState). s.rest) c.self.view_is in
    let is = c.in_ok-keep-in-Begun.ensures ∙ ap (λ (s : CutterState). record s { rest = s.rest ++ piece; looked = c.find_end.new.looks }) c.self.view_is in
    (c.requires.some, omega arith, took_more c.args.self.now c.find_end.new.looks c.args.messages.now.items c.requires.sound piece c.keep.new.self (subst (λ r. Brings r piece [] (r ++ piece)) same f) is)

pub returns-in-TooLong-clause-takes : goal.returns-in-TooLong-clause-takes
returns-in-TooLong-clause-takes c =
    let rest = c.self.inside.rest.items in
    let f : Finds rest c.args.piece.now Found.TooLong = rw (← c.deref.ensures.value) c.in-TooLong.ensures.end in
    let same = ap (λ (s : CutterState). s.rest) c.self.view_is in
    took_long c.args.self.now 0 c.args.messages.now.items c.requires.sound c.args.piece.now (record c.args.self.now { start = c.self.inside.start; looked = c.find_end.new.looks }) (subst (λ r. Finds r c.args.piece.now Found.TooLong) same f)
