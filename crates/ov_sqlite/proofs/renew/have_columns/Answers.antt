use Rattle.std.proofs.Common.{◌≡◌, ◌<◌, ◌≤◌, length, get_or, ap, sym, ◌∙◌, arith}
use Rattle.std.proofs.lemmas.List.{take_all}
use Rattle.sqlite.specs.declared.types.Value.TheVariants.{Text}
use Rattle.sqlite.specs.Order.{column}
use Rattle.sqlite_value.specs.Order.{bytes}
use Rattle.ov_keeper.specs.declared.cell_line.Cell.{Cell}
use Rattle.ov_sqlite.proofs.PlaceLemmas.{columns_push}
use Rattle.ov_sqlite.proofs.renew.have_columns.Goals as goal

pub loop-at-preserved : goal.loop-at-preserved
loop-at-preserved c =
    let i = c.loop-at.at in
    let rows = c.args.rows.now in
    let cells = c.args.cells.now in
    let y = c.index-rows-at.result in
    let x = c.index-cells-at.result in
    let low : i < length cells = c.loop-at-test.true in
    let few : i < length rows = omega (arith, low, c.requires) in
    let is : column y 0 ≡ Text (get_or cells i x).column = rw (c.as_bytes.ensures.value, c.as_str.ensures) at (c.is_text_at.ensures.0 c.if-not-is_text_at.false) in
    columns_push rows cells i y x few low c.index-rows-at.is c.index-cells-at.is
    (ap bytes is ∙ ap (λ (d : Cell). d.column) (sym c.index-cells-at.is)) c.loop-at.invariant

pub returns : goal.returns
returns c holds =
    let i = c.loop-at.at in
    let rows = c.args.rows.now in
    let cells = c.args.cells.now in
    let low : length cells ≤ i = omega (arith, c.loop-at-test.false) in
    let few : length rows ≤ i = omega (arith, low, c.requires) in
    rw (take_all i rows few, take_all i cells low) at c.loop-at.invariant
