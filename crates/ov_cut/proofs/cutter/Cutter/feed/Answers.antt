use Rattle.std.proofs.Common.{◌≡◌, ◌⊎◌, ◌≤◌, ◌-◌, ◌∙◌, [], Bool, false, Option, Some, None, inl, inr, refl, sym, subst, ap, arith, length, take, drop}
use Rattle.std.specs.Prelude.{◌↔◌, IsTrue, IsSome}
use Rattle.std.proofs.lemmas.Bool.{false≢true}
use Rattle.std.proofs.lemmas.List.{append-nil, take_rest, length-drop}
use Rattle.ov_cut.specs.declared.fault.CutFault.{CutFault}
use Rattle.ov_cut.specs.CutterState.{CutterState}
use Rattle.ov_cut.specs.Piece.{TakesPiece}
use Rattle.ov_cut.proofs.Scan.{take_add}
use Rattle.ov_cut.proofs.Feeding.{takes_then, takes_all}
use Rattle.ov_cut.proofs.cutter.Cutter.feed.Goals as goal
use Rattle.ov_cut.proofs.cutter.Cutter.feed.Goals.{then-fronts-test+else-not-is_over, else-fronts-test}

is_sound : {b : Bool} (f : Option CutFault) → (IsTrue b ↔ IsSome f) → b ≡ false → f ≡ None
is_sound None h e = refl
is_sound (Some why) h e = absurd (false≢true (sym e ∙ h.1 refl))

pub fronts-preserved : goal.fronts-preserved
fronts-preserved c =
    let piece = c.args.piece.now in
    let used = c.fronts.used in
    let n = c.feed_front-used.result in
    let e = c.feed_front-used.ensures in
    let left : length (take (length piece - used) (drop used piece)) ≡ length piece - used = ap length (take_rest piece used) ∙ length-drop used piece in
    let two : TakesPiece c.fronts.self c.fronts.messages.items (take n (drop used piece)) c.feed_front-used.new.self c.feed_front-used.new.messages.items = rw (← take_rest piece used) e.takes in
    record {
      within = omega (arith, e.within, left);
      takes = subst (λ p. TakesPiece c.args.self.now [] p c.feed_front-used.new.self c.feed_front-used.new.messages.items) (take_add used n piece) (takes_then c.args.self.now c.fronts.self c.feed_front-used.new.self [] c.fronts.messages.items c.feed_front-used.new.messages.items (take used piece) (take n (drop used piece)) c.fronts.invariant.takes two);
      looked = omega (arith, e.looked);
      looked_at_all = λ none. omega (arith, e.looked_at_all none, c.fronts.invariant.looked_at_all (is_sound c.fronts.self.fault c.is_over.ensures c.if-not-is_over.true));
    }

pub returns-clause-whole : goal.returns-clause-whole
returns-clause-whole c = λ stream given s enough.
    let over : (length c.args.piece.now ≤ c.fronts.used) ⊎ IsSome c.fronts.self.fault = elim c.fronts-test.branch [
      | then-fronts-test+else-not-is_over w ↦ inr (w.is_over.ensures.0 w.if-not-is_over.false)
      | else-fronts-test w ↦ inl w.fronts-test.false
    ] in
    (takes_all c.args.self.now c.fronts.self [] c.fronts.messages.items c.args.piece.now c.fronts.used over c.fronts.invariant.takes).whole stream given (rw append-nil s) (λ e. enough (ap (λ (t : CutterState). t.fault) c.self-2.view_is ∙ e))

pub returns-clause-memory : goal.returns-clause-memory
returns-clause-memory c = λ stream given s.
    let over : (length c.args.piece.now ≤ c.fronts.used) ⊎ IsSome c.fronts.self.fault = elim c.fronts-test.branch [
      | then-fronts-test+else-not-is_over w ↦ inr (w.is_over.ensures.0 w.if-not-is_over.false)
      | else-fronts-test w ↦ inl w.fronts-test.false
    ] in
    (takes_all c.args.self.now c.fronts.self [] c.fronts.messages.items c.args.piece.now c.fronts.used over c.fronts.invariant.takes).memory stream given (rw append-nil s)
