use Rattle.std.proofs.Common.{rules, ◌∷◌, ◌++◌, [], ap, arith, option_copied}
use Rattle.sqlite.specs.State.{HasCleanDisk, Survives, CommitsShowing}
use Rattle.sqlite.specs.Held.{state}
use Rattle.sqlite.specs.Given.{HasGiven, row_if}
use Rattle.sqlite.proofs.Callers.{given_begin, unchanged_then}
use Rattle.ov_tables.specs.Tables.{cell_select_text}
use Rattle.ov_tables.proofs.EachLemmas.{begun_query, query_commits_nothing, query_fails_as_before, all_given, some_given, none_seen, row_seen, refused_by}
use Rattle.ov_tables.proofs.each.each_cell.Goals as goal

pub returns-in_err-rows-clause-same : goal.returns-in_err-rows-clause-same
returns-in_err-rows-clause-same g c clean =
    let old = state g.S.Store c.args.conn.now in
    let new = state g.S.Store c.query.follows.lender-at-none in
    let held = rw c.in_err-rows.was at c.query.follows.holds-at-none in
    query_fails_as_before cell_select_text [] old new _ (held.err clean) (c.is_autocommit.ensures.settled c.if-not-is_autocommit.false)

pub returns-in_err-rows-clause-survives : goal.returns-in_err-rows-clause-survives
returns-in_err-rows-clause-survives g c =
    let old = state g.S.Store c.args.conn.now in
    let new = state g.S.Store c.query.follows.lender-at-none in
    let held = c.query.follows.holds-at-none in
    let kept : Survives old new (CommitsShowing cell_select_text [] old) = search rules in
    query_commits_nothing [] old new kept

pub rows-init : goal.rows-init
rows-init g c =
    let made = c.in_ok-rows.ensures in
    let now = c.in_ok-rows.rows.conn.now in
    record {
      same_reference = search rules;
      mode = made.mode c.requires.mode;
      survives = query_commits_nothing [] (state g.S.Store c.args.conn.now) (state g.S.Store now) made.survives;
      given = λ clean. let it = begun_query g.S.Store [] c.args.conn.now now (made.begun clean) in ([], it.0, it.1, c.requires.fresh);
    }

pub returns-in_default-clause-rows : goal.returns-in_default-clause-rows
returns-in_default-clause-rows g c clean has =
    let old = state g.S.Store c.args.conn.now in
    let before = state g.S.Store c.rows.rows.conn.now in
    let moved = c.advance.new.self.conn.now in
    let late : HasCleanDisk (state g.S.Store moved) = search rules in
    let early : HasCleanDisk before = omega (arith, c.advance.ensures.survives.clean) in
    let was = c.rows.invariant.given early in
    let shown = none_seen g.S.Store c.rows.rows.conn.now moved was.0 (option_copied c.get.result) (row_if c.advance.new.self.has_row moved) c.get.ensures (c.in_ok-advance.ensures.ok late cell_select_text [] was.0 was.1) (ap option_copied c.in_default.is) in
    let up = was.2.0.was_open in
    (up, (was.0, all_given old before (has up, (c.schema-schema.ensures.live up).0) was.2 (state g.S.Store moved) was.0 shown, was.3))

pub returns-then-not-branch-clause-rows : goal.returns-then-not-branch-clause-rows
returns-then-not-branch-clause-rows g c clean has =
    let old = state g.S.Store c.args.conn.now in
    let moved = c.advance.new.self.conn.now in
    let now = state g.S.Store moved in
    let late : HasCleanDisk now = search rules in
    let early : HasCleanDisk (state g.S.Store c.rows.rows.conn.now) = omega (arith, c.advance.ensures.survives.clean) in
    let was = c.rows.invariant.given early in
    let rows = was.0 ++ c.in-Some.row.now ∷ [] in
    let given : HasGiven g.S.Store cell_select_text [] moved rows = row_seen g.S.Store c.rows.rows.conn.now moved was.0 (option_copied c.get.result) (row_if c.advance.new.self.has_row moved) c.get.ensures (c.in_ok-advance.ensures.ok late cell_select_text [] was.0 was.1) c.in-Some.row.now (ap option_copied c.in-Some.is) in
    let same = unchanged_then old (state g.S.Store c.rows.rows.conn.now) now was.2 (c.in_ok-advance.ensures.same late) in
    let up = was.2.0.was_open in
    let rest = some_given old now (has up, (c.schema-schema.ensures.live up).0) same rows (given_begin g.S.Store cell_select_text [] moved rows given) in
    (up, (rows, rest.0, rest.1, refused_by (g.T.TakesRows.has_taken c.args.taker.now c.take.new.self rows) (g.T.TakesRows.has_refused c.args.taker.now c.take.new.self rows) c.in_ok-take.field-0 c.if-not-branch.true (c.in_ok-take.ensures c.args.taker.now was.0 was.3)))
