use Rattle.std.proofs.Common.{◌≡◌, ℕ, ◌<◌, ◌≤◌, Bool, true, false, arith}
use Rattle.std.specs.Prelude.{◌↔◌, IsTrue}
use Rattle.ov_specs.specs.wire.Cut.{max_message}
use Rattle.ov_cut.proofs.Scan.{step_high, scan_leaves, scan_more, scan_whole, scan_long}
use Rattle.ov_cut.proofs.message.find_end.Goals as goal

is_over : {b : Bool} {n : ℕ} → (IsTrue b ↔ (max_message < n)) → b ≡ true → max_message < n
is_over h e = grind arith

is_within : {b : Bool} {n : ℕ} → (IsTrue b ↔ (max_message < n)) → b ≡ false → n ≤ max_message
is_within h e = grind arith

pub returns-then-is_too_long-clause-end : goal.returns-then-is_too_long-clause-end
returns-then-is_too_long-clause-end c =
    let over = is_over c.is_too_long.ensures c.if-is_too_long.true in
    scan_long c.args.front.now c.args.text.now c.loop-place.place (omega arith) (omega arith) (omega (arith, over)) c.loop-place.invariant.run

pub returns-then-depth-eq0-clause-end : goal.returns-then-depth-eq0-clause-end
returns-then-depth-eq0-clause-end c =
    let short = is_within c.is_too_long.ensures c.if-is_too_long.false in
    (omega arith, omega arith, scan_whole c.args.front.now c.args.text.now c.loop-place.place _ _ c.next_mode.result (omega arith) (omega arith) (rw (← c.byte.ensures.value) c.next_mode.ensures) c.loop-place.invariant.leaves c.loop-place.invariant.low (omega (arith, short)) c.if-depth-eq0.true c.loop-place.invariant.run)

pub loop-place-preserved : goal.loop-place-preserved
loop-place-preserved c =
    let short = is_within c.is_too_long.ensures c.if-is_too_long.false in
    record {
      run = scan_more c.args.front.now c.args.text.now c.loop-place.place _ _ c.next_mode.result (omega arith) (omega arith) (rw (← c.byte.ensures.value) c.next_mode.ensures) c.loop-place.invariant.leaves c.loop-place.invariant.low (omega (arith, short)) (omega arith) c.loop-place.invariant.run;
      leaves = scan_leaves c.args.front.now c.args.text.now c.loop-place.place _ _ c.next_mode.result (omega arith) (omega arith) (rw (← c.byte.ensures.value) c.next_mode.ensures) c.loop-place.invariant.leaves c.loop-place.invariant.low;
      low = omega arith;
      high = let up = step_high c.loop-place.mode c.loop-place.depth c.byte.result in rw c.next_mode.ensures (omega (arith, up));
      short = omega (arith, short);
      looked = omega arith;
    }
