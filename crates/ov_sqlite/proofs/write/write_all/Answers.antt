use Rattle.std.proofs.Common.{◌≡◌, inl, inr, ap, refl, sym, subst, arith, rules, IsTrue, ◌∙◌}
use Rattle.sqlite_trees.specs.Tree.{Trees}
use Rattle.sqlite.specs.State.{HasCleanDisk, Survives, KeepsCommit}
use Rattle.sqlite.specs.Held.{state}
use Rattle.sqlite.proofs.StateLemmas.{survives_then}
use Rattle.sqlite.proofs.Callers.{survives_begin}
use Rattle.std.specs.Prelude.{List, ℕ}
use Rattle.ov_specs.specs.rows.Cells.{after_cell_changes}
use Rattle.ov_keeper.specs.Views.{changes_view}
use Rattle.ov_tables.specs.Format.{stored_cells, rows_of_meta}
use Rattle.sqlite.specs.Effect.{Database}
use Rattle.ov_tables.specs.Holding.{HoldsCells, MayHoldCells, KeepsOthers}
use Rattle.ov_sqlite.specs.Changing.{Stores, IsCommitImage}
use Rattle.ov_tables.specs.Tables.{row_trees}
use Rattle.ov_tables.specs.Querying.{IsAsBefore}
use Rattle.ov_sqlite.proofs.RewriteLemmas.{rolled_same, refused_same}
use Rattle.ov_tables.proofs.KeepLemmas.{nothing_now, nothing_then, keeps_now, keeps_then, rolled_keeps, survives_as, commit_fails_keeps}
use Rattle.ov_sqlite.proofs.write.write_all.Goals as goal

pub returns-in-Err-commit-clause-crash : goal.returns-in-Err-commit-clause-crash
returns-in-Err-commit-clause-crash g c =
    let old = c.args.conn.now in
    let last = c.apply_all.new.tx.conn.now in
    let end = c.commit.new.self.0 in
    let begun = c.transaction-tx.ensures.begun in
    let P = λ (trees : Trees). (text : List ℕ) → MayHoldCells text (state g.S.Store old) → IsCommitImage (after_cell_changes (changes_view c.args.changes.now)) (state g.S.Store old) trees in
    let made = λ (clean : HasCleanDisk (state g.S.Store last)) (text : List ℕ). (rw begun at c.in-Ok.ensures.writes.ok) text clean refl in
    let whole = survives_then (state g.S.Store old) (state g.S.Store last) (state g.S.Store end) (λ _. ⊥) (λ db. db ≡ (state g.S.Store last).now.trees) P (λ _ db none. absurd none)
    (λ clean db is text may.
    let late : HasCleanDisk (state g.S.Store last) = omega (arith, c.commit.ensures.survives.clean) in
    let was : IsTrue (state g.S.Store old).is_open = (rw begun at c.in-Ok.ensures.opened) late refl c.requires.some in
    record { was_open = was; was_settled = c.is_autocommit.ensures.settled c.if-not-is_autocommit.false was; lines_are = ap (λ (t : Trees). stored_cells t) is ∙ (made late text may).lines_are; meta = ap (λ (t : Trees). rows_of_meta t) is ∙ (made late text may).meta; others = subst (KeepsOthers (row_trees (state g.S.Store old).now.schema) (state g.S.Store old).now.schema (state g.S.Store old).now.trees) (sym is) (made late text may).others })
    (survives_begin g.S.Store old (state g.S.Store last) _ (rw begun at c.apply_all.ensures.writes.survives)) c.commit.ensures.survives in
    let same : end ≡ c.conn-2-1.given.0 = search rules in
    subst (λ h. Survives (state g.S.Store old) (state g.S.Store h) P) same whole

pub returns-in-Ok-commit-clause-crash : goal.returns-in-Ok-commit-clause-crash
returns-in-Ok-commit-clause-crash g c =
    let old = c.args.conn.now in
    let last = c.apply_all.new.tx.conn.now in
    let end = c.commit.new.self.0 in
    let begun = c.transaction-tx.ensures.begun in
    let P = λ (trees : Trees). (text : List ℕ) → MayHoldCells text (state g.S.Store old) → IsCommitImage (after_cell_changes (changes_view c.args.changes.now)) (state g.S.Store old) trees in
    let made = λ (clean : HasCleanDisk (state g.S.Store last)) (text : List ℕ). (rw begun at c.in-Ok.ensures.writes.ok) text clean refl in
    let whole = survives_then (state g.S.Store old) (state g.S.Store last) (state g.S.Store end) (λ _. ⊥) (λ db. db ≡ (state g.S.Store last).now.trees) P (λ _ db none. absurd none)
    (λ clean db is text may.
    let late : HasCleanDisk (state g.S.Store last) = omega (arith, c.commit.ensures.survives.clean) in
    let was : IsTrue (state g.S.Store old).is_open = (rw begun at c.in-Ok.ensures.opened) late refl c.requires.some in
    record { was_open = was; was_settled = c.is_autocommit.ensures.settled c.if-not-is_autocommit.false was; lines_are = ap (λ (t : Trees). stored_cells t) is ∙ (made late text may).lines_are; meta = ap (λ (t : Trees). rows_of_meta t) is ∙ (made late text may).meta; others = subst (KeepsOthers (row_trees (state g.S.Store old).now.schema) (state g.S.Store old).now.schema (state g.S.Store old).now.trees) (sym is) (made late text may).others })
    (survives_begin g.S.Store old (state g.S.Store last) _ (rw begun at c.apply_all.ensures.writes.survives)) c.commit.ensures.survives in
    let same : end ≡ c.conn-2-1.given.0 = search rules in
    subst (λ h. Survives (state g.S.Store old) (state g.S.Store h) P) same whole

pub returns-in-Ok-commit-clause-ok : goal.returns-in-Ok-commit-clause-ok
returns-in-Ok-commit-clause-ok g c =
    let old = c.args.conn.now in
    let last = c.apply_all.new.tx.conn.now in
    let end = c.commit.new.self.0 in
    let begun = c.transaction-tx.ensures.begun in
    let made = λ (clean : HasCleanDisk (state g.S.Store last)) (text : List ℕ). (rw begun at c.in-Ok.ensures.writes.ok) text clean refl in
    let same : end ≡ c.conn-2-1.given.0 = search rules in
    subst (λ h. HasCleanDisk (state g.S.Store h) → (text : List ℕ) → MayHoldCells text (state g.S.Store old) → Stores text (after_cell_changes (changes_view c.args.changes.now)) (state g.S.Store old) (state g.S.Store h)) same (λ clean text may.
    let late : HasCleanDisk (state g.S.Store last) = omega (arith, c.commit.ensures.survives.clean) in
    let was : IsTrue (state g.S.Store old).is_open = (rw begun at c.in-Ok.ensures.opened) late refl c.requires.some in
    let shows = (c.in-Ok-commit.ensures.ok clean).1 in
    let one = made late text may in
    record {
      was_open = was;
      is_open = shows.is_open;
      was_settled = c.is_autocommit.ensures.settled c.if-not-is_autocommit.false was;
      is_settled = shows.now_is ∙ sym shows.committed_is;
      stored = subst (HoldsCells text) (sym shows.now_is) (one.stored shows.was_open);
      lines_are = ap (λ (d : Database). stored_cells d.trees) shows.now_is ∙ one.lines_are;
      meta = ap (λ (d : Database). rows_of_meta d.trees) shows.now_is ∙ one.meta;
      others = subst (λ (d : Database). KeepsOthers (row_trees (state g.S.Store old).now.schema) (state g.S.Store old).now.schema (state g.S.Store old).now.trees d.trees) (sym shows.now_is) one.others;
    })

pub returns-then-not-is_autocommit-clause-before : goal.returns-then-not-is_autocommit-clause-before
returns-then-not-is_autocommit-clause-before g c before = nothing_now _

pub returns-then-not-is_autocommit-clause-crash : goal.returns-then-not-is_autocommit-clause-crash
returns-then-not-is_autocommit-clause-crash g c =
    let old = state g.S.Store c.args.conn.now in
    survives_as old old (λ _. ⊥) _ (nothing_now old) (λ clean db h. inl h)

pub returns-then-not-is_autocommit-clause-unmoved : goal.returns-then-not-is_autocommit-clause-unmoved
returns-then-not-is_autocommit-clause-unmoved g c clean = keeps_now _

pub returns-in-Err-commit-clause-unmoved : goal.returns-in-Err-commit-clause-unmoved
returns-in-Err-commit-clause-unmoved g c =
    let old = c.args.conn.now in
    let last = c.apply_all.new.tx.conn.now in
    let end = c.commit.new.self.0 in
    let begun = c.transaction-tx.ensures.begun in
    let same : end ≡ c.conn-2-1.given.0 = search rules in
    subst (λ h. HasCleanDisk (state g.S.Store h) → KeepsCommit (state g.S.Store old) (state g.S.Store h)) same (λ clean.
    let late : HasCleanDisk (state g.S.Store last) = omega (arith, c.commit.ensures.survives.clean) in
    let kept = (rw begun at c.apply_all.ensures.writes.kept) late refl in
    keeps_then (state g.S.Store old) (state g.S.Store last) (state g.S.Store end) (record { was_open = kept.was_open; committed = kept.committed }) (commit_fails_keeps _ _ _ (c.in-Err-commit.ensures.err clean)))

pub returns-in-Err-clause-before : goal.returns-in-Err-clause-before
returns-in-Err-clause-before g c before =
    let old = c.args.conn.now in
    let last = c.apply_all.new.tx.conn.now in
    let begun = c.transaction-tx.ensures.begun in
    let same : c.drop-tx.new.self.0 ≡ c.conn-1.given.0 = search rules in
    subst (λ h. Survives (state g.S.Store old) (state g.S.Store h) (λ _. ⊥)) same
    (nothing_then _ _ _ (survives_begin g.S.Store old (state g.S.Store last) _ (rw begun at c.apply_all.ensures.writes.survives)) c.drop-tx.ensures.survives)

pub returns-in-Err-clause-crash : goal.returns-in-Err-clause-crash
returns-in-Err-clause-crash g c =
    let old = c.args.conn.now in
    let last = c.apply_all.new.tx.conn.now in
    let end = c.drop-tx.new.self.0 in
    let begun = c.transaction-tx.ensures.begun in
    let P = λ (trees : Trees). (text : List ℕ) → MayHoldCells text (state g.S.Store old) → IsCommitImage (after_cell_changes (changes_view c.args.changes.now)) (state g.S.Store old) trees in
    let same : end ≡ c.conn-1.given.0 = search rules in
    let whole = nothing_then _ _ _ (survives_begin g.S.Store old (state g.S.Store last) _ (rw begun at c.apply_all.ensures.writes.survives)) c.drop-tx.ensures.survives in
    subst (λ h. Survives (state g.S.Store old) (state g.S.Store h) P) same
    (survives_as (state g.S.Store old) (state g.S.Store end) (λ _. ⊥) P whole (λ clean db h. elim (whole.crash clean db h) [ inl was ↦ inl was | inr none ↦ absurd none ]))

pub returns-in-Err-clause-unmoved : goal.returns-in-Err-clause-unmoved
returns-in-Err-clause-unmoved g c =
    let old = c.args.conn.now in
    let last = c.apply_all.new.tx.conn.now in
    let end = c.drop-tx.new.self.0 in
    let begun = c.transaction-tx.ensures.begun in
    let same : end ≡ c.conn-1.given.0 = search rules in
    subst (λ h. HasCleanDisk (state g.S.Store h) → KeepsCommit (state g.S.Store old) (state g.S.Store h)) same (λ clean.
    let late : HasCleanDisk (state g.S.Store last) = omega (arith, c.drop-tx.ensures.survives.clean) in
    let kept = (rw begun at c.apply_all.ensures.writes.kept) late refl in
    keeps_then (state g.S.Store old) (state g.S.Store last) (state g.S.Store end) (record { was_open = kept.was_open; committed = kept.committed }) (rolled_keeps _ _ (c.drop-tx.ensures.undone clean)))

pub returns-then-not-is_autocommit-clause-same : goal.returns-then-not-is_autocommit-clause-same
returns-then-not-is_autocommit-clause-same g c clean = record { was_open = λ up. up; now = λ _. refl }

pub returns-in-Err-clause-same : goal.returns-in-Err-clause-same
returns-in-Err-clause-same g c =
    let old = state g.S.Store c.args.conn.now in
    let last = state g.S.Store c.apply_all.new.tx.conn.now in
    let end = c.drop-tx.new.self.0 in
    let begun = c.transaction-tx.ensures.begun in
    let same : end ≡ c.conn-1.given.0 = search rules in
    subst (λ h. HasCleanDisk (state g.S.Store h) → IsAsBefore old (state g.S.Store h)) same (λ clean.
    let late : HasCleanDisk last = omega (arith, c.drop-tx.ensures.survives.clean) in
    let kept = (rw begun at c.apply_all.ensures.writes.kept) late refl in
    rolled_same g.S.Store c.args.conn.now last (state g.S.Store end) (c.is_autocommit.ensures.settled c.if-not-is_autocommit.false) kept (c.drop-tx.ensures.undone clean))

pub returns-in-Err-commit-clause-same : goal.returns-in-Err-commit-clause-same
returns-in-Err-commit-clause-same g c =
    let old = state g.S.Store c.args.conn.now in
    let last = state g.S.Store c.apply_all.new.tx.conn.now in
    let end = c.commit.new.self.0 in
    let begun = c.transaction-tx.ensures.begun in
    let same : end ≡ c.conn-2-1.given.0 = search rules in
    subst (λ h. HasCleanDisk (state g.S.Store h) → IsAsBefore old (state g.S.Store h)) same (λ clean.
    let late : HasCleanDisk last = omega (arith, c.commit.ensures.survives.clean) in
    refused_same g.S.Store c.args.conn.now last (state g.S.Store end) (c.is_autocommit.ensures.settled c.if-not-is_autocommit.false) _ ((rw begun at c.apply_all.ensures.writes.kept) late refl)
    ((rw begun at c.in-Ok.ensures.writes.goes_on) late refl) (c.in-Err-commit.ensures.err clean))
