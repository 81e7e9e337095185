use Rattle.std.proofs.Common.{◌++◌, ◌+◌, ◌<◌, ◌-◌, length, drop, take, map, sym, ap, ◌∙◌, arith}
use Rattle.std.proofs.lemmas.List.{map-append}
use Rattle.std.specs.List.{flat_map}
use Rattle.ov_rows.specs.Lending.{lent_row}
use Rattle.ov_stage.specs.Staging.{row_made}
use Rattle.ov_projection.proofs.Equal.{map-push, slice-rest}
use Rattle.ov_stage.proofs.Merging.{Rows, rows_next, changes_next, row_turn, same_turn, change_turn, rows_through, changes_through, with_others}
use Rattle.ov_stage.proofs.merge.merged.Goals.{then-turns-test+else-j-changes, else-turns-test}
use Rattle.ov_stage.proofs.merge.merged.Goals as goal

pub turns-preserved-in-Less : goal.turns-preserved-in-Less
turns-preserved-in-Less c =
    let xs = c.args.rows.now in
    let ys = c.args.changes.now in
    let i = c.turns.i in
    let j = c.turns.j in
    let x = c.index-rows-i.result in
    let y = c.index-changes-j.result in
    let p : i < length xs = c.turns-test.true in
    let q : j < length ys = c.if-j-changes.true in
    let ms : Rows = map lent_row c.turns.merged.items in
    record {
      row = omega (arith, p);
      change = c.turns.invariant.change;
      rows = rows_next lent_row (λ c. (c.0.now, c.1.now)) xs ys i j x y p c.index-rows-i.is q c.index-changes-j.is c.turns.invariant.rows c.turns.invariant.changes;
      changes = c.turns.invariant.changes;
      going = ap (λ (es : Rows). with_others lent_row (λ c. (c.0.now, c.1.now)) xs ys es (i + 1) j) (ap (map lent_row) c.in_ok-push-in-Less.ensures.items ∙ map-push lent_row c.turns.merged.items x)
          ∙ row_turn lent_row (λ c. (c.0.now, c.1.now)) xs ys i j x y p c.index-rows-i.is q c.index-changes-j.is c.turns.invariant.rows c.turns.invariant.changes ms (sym c.cmp.ensures ∙ c.in-Less.is)
          ∙ c.turns.invariant.going;
    }

pub turns-preserved-in-Equal : goal.turns-preserved-in-Equal
turns-preserved-in-Equal c =
    let xs = c.args.rows.now in
    let ys = c.args.changes.now in
    let i = c.turns.i in
    let j = c.turns.j in
    let x = c.index-rows-i.result in
    let y = c.index-changes-j.result in
    let p : i < length xs = c.turns-test.true in
    let q : j < length ys = c.if-j-changes.true in
    let ms : Rows = map lent_row c.turns.merged.items in
    record {
      row = omega (arith, p);
      change = omega (arith, q);
      rows = rows_next lent_row (λ c. (c.0.now, c.1.now)) xs ys i j x y p c.index-rows-i.is q c.index-changes-j.is c.turns.invariant.rows c.turns.invariant.changes;
      changes = changes_next lent_row (λ c. (c.0.now, c.1.now)) xs ys i j x y p c.index-rows-i.is q c.index-changes-j.is c.turns.invariant.rows c.turns.invariant.changes;
      going = ap (λ (es : Rows). with_others lent_row (λ c. (c.0.now, c.1.now)) xs ys es (i + 1) (j + 1)) c.in_ok-push_change-in-Equal.ensures
          ∙ same_turn lent_row (λ c. (c.0.now, c.1.now)) xs ys i j x y p c.index-rows-i.is q c.index-changes-j.is c.turns.invariant.rows c.turns.invariant.changes ms (sym c.cmp.ensures ∙ c.in-Equal.is)
          ∙ c.turns.invariant.going;
    }

pub turns-preserved : goal.turns-preserved
turns-preserved c =
    let xs = c.args.rows.now in
    let ys = c.args.changes.now in
    let i = c.turns.i in
    let j = c.turns.j in
    let x = c.index-rows-i.result in
    let y = c.index-changes-j.result in
    let p : i < length xs = c.turns-test.true in
    let q : j < length ys = c.if-j-changes.true in
    let ms : Rows = map lent_row c.turns.merged.items in
    record {
      row = c.turns.invariant.row;
      change = omega (arith, q);
      rows = c.turns.invariant.rows;
      changes = changes_next lent_row (λ c. (c.0.now, c.1.now)) xs ys i j x y p c.index-rows-i.is q c.index-changes-j.is c.turns.invariant.rows c.turns.invariant.changes;
      going = ap (λ (es : Rows). with_others lent_row (λ c. (c.0.now, c.1.now)) xs ys es i (j + 1)) c.in_ok-push_change-in-Greater.ensures
          ∙ change_turn lent_row (λ c. (c.0.now, c.1.now)) xs ys i j x y p c.index-rows-i.is q c.index-changes-j.is c.turns.invariant.rows c.turns.invariant.changes ms (sym c.cmp.ensures ∙ c.in-Greater.is)
          ∙ c.turns.invariant.going;
    }

pub returns : goal.returns
returns c =
    let xs = c.args.rows.now in
    let ys = c.args.changes.now in
    let i = c.turns.i in
    let j = c.turns.j in
    let ms : Rows = map lent_row c.turns.merged.items in
    c.in_ok-push_changes.ensures
    ∙ ap (λ (es : Rows). es ++ flat_map row_made (map (λ c. (c.0.now, c.1.now)) (take (length ys - j) (drop j ys)))) (ap (map lent_row) c.in_ok-extend_from_slice.ensures.items ∙ map-append lent_row c.turns.merged.items (take (length xs - i) (drop i xs)))
    ∙ ap (λ zs. (ms ++ map lent_row zs) ++ flat_map row_made (map (λ c. (c.0.now, c.1.now)) (take (length ys - j) (drop j ys)))) (slice-rest xs i)
    ∙ ap (λ zs. (ms ++ map lent_row (drop i xs)) ++ flat_map row_made (map (λ c. (c.0.now, c.1.now)) zs)) (slice-rest ys j)
    ∙ elim c.turns-test.branch [
      | then-turns-test+else-j-changes w ↦ changes_through lent_row (λ c. (c.0.now, c.1.now)) xs ys ms i j (omega (arith, w.if-j-changes.false))
      | else-turns-test w ↦ rows_through lent_row (λ c. (c.0.now, c.1.now)) xs ys ms i j (omega (arith, w.turns-test.false)) c.turns.invariant.changes
    ]
    ∙ c.turns.invariant.going
