use Rattle.std.proofs.Common.{inl, inr, subst, MatchBool, false}
use Rattle.sqlite.specs.Held.{state}
use Rattle.ov_tables.specs.Tables.{HasLineTables, HasCellTables}
use Rattle.ov_tables.proofs.EmptyLemmas.{not_both}
use Rattle.ov_sqlite.specs.Reading.{MayReadCells, MayReadRows}
use Rattle.ov_sqlite.proofs.EndingLemmas.{ends_passed}
use Rattle.ov_sqlite.proofs.format.read_rows.Goals as goal

pub returns-in-Err-clause-reads : goal.returns-in-Err-clause-reads
returns-in-Err-clause-reads g c =
    let old = state g.S.Store c.args.conn.now in
    let cells : MayReadRows c.args.in_cells old → MayReadCells old = λ has up. subst (λ b. MatchBool b (HasCellTables old.now.schema) (HasLineTables old.now.schema)) c.if-in_cells.true (has up) in
    ends_passed _ _ _ _ c.in-Err.ensures.reads cells
    (λ up has bad text f. elim f [ inl it ↦ not_both old.now.schema it.schema (cells has up) | inr it ↦ bad text it ])

pub returns-in-Err-read_whole-clause-reads : goal.returns-in-Err-read_whole-clause-reads
returns-in-Err-read_whole-clause-reads g c =
    let old = state g.S.Store c.args.conn.now in
    let lines : MayReadRows c.args.in_cells old → MayReadRows false old = λ has up. subst (λ b. MatchBool b (HasCellTables old.now.schema) (HasLineTables old.now.schema)) c.if-in_cells.false (has up) in
    ends_passed _ _ _ _ c.in-Err-read_whole.ensures.reads lines
    (λ up has bad text f. elim f [ inl it ↦ bad it.lines | inr it ↦ not_both old.now.schema (lines has up) it.schema ])
