use Rattle.std.proofs.Common.{◌≡◌, ◌∙◌, ℕ, List, codes, is_some, inl, inr, ap, refl, subst, arith, rules}
use Rattle.sqlite_schema.specs.Names.{table_named}
use Rattle.ov_sqlite.proofs.RewriteLemmas.{by_format, rolled_same, refused_same, rewritten_crash, rewritten}
use Rattle.std.specs.FinMap.{empty}
use Rattle.sqlite_trees.specs.Tree.{Trees}
use Rattle.sqlite.specs.State.{HasCleanDisk, Survives, KeepsCommit}
use Rattle.sqlite.specs.Held.{state}
use Rattle.sqlite.proofs.Callers.{survives_begin}
use Rattle.ov_specs.specs.rows.Cells.{after_cell_changes}
use Rattle.ov_keeper.specs.Views.{changes_view}
use Rattle.ov_tables.specs.Holding.{MayBeStored}
use Rattle.ov_tables.specs.Querying.{IsAsBefore}
use Rattle.ov_sqlite.specs.Rewriting.{Rewrites, IsRewriteImage}
use Rattle.ov_tables.proofs.KeepLemmas.{nothing_now, nothing_then, keeps_now, keeps_then, rolled_keeps, survives_as, commit_fails_keeps}
use Rattle.ov_sqlite.proofs.rewrite.rewrite_all.Goals as goal

-- ---- nothing was begun

pub returns-then-not-is_autocommit-clause-before : goal.returns-then-not-is_autocommit-clause-before
returns-then-not-is_autocommit-clause-before g c before = nothing_now _

pub returns-then-not-is_autocommit-clause-crash : goal.returns-then-not-is_autocommit-clause-crash
returns-then-not-is_autocommit-clause-crash g c =
    let old = state g.S.Store c.args.conn.now in
    survives_as old old (λ _. ⊥) _ (nothing_now old) (λ clean db h. inl h)

pub returns-then-not-is_autocommit-clause-unmoved : goal.returns-then-not-is_autocommit-clause-unmoved
returns-then-not-is_autocommit-clause-unmoved g c clean = keeps_now _

pub returns-then-not-is_autocommit-clause-same : goal.returns-then-not-is_autocommit-clause-same
returns-then-not-is_autocommit-clause-same g c clean = record { was_open = λ up. up; now = λ _. refl }

-- ---- a statement failed

pub returns-in-Err-clause-before : goal.returns-in-Err-clause-before
returns-in-Err-clause-before g c before =
    let old = state g.S.Store c.args.conn.now in
    let last = state g.S.Store c.rewrite.new.tx.conn.now in
    let begun = c.transaction-tx.ensures.begun in
    let same : c.drop-tx.new.self.0 ≡ c.conn-1.given.0 = search rules in
    subst (λ h. Survives old (state g.S.Store h) (λ _. ⊥)) same (nothing_then _ _ _ (survives_begin g.S.Store c.args.conn.now last _ (rw begun at c.rewrite.ensures.writes.survives)) c.drop-tx.ensures.survives)

pub returns-in-Err-clause-crash : goal.returns-in-Err-clause-crash
returns-in-Err-clause-crash g c =
    let old = state g.S.Store c.args.conn.now in
    let last = state g.S.Store c.rewrite.new.tx.conn.now in
    let end = c.drop-tx.new.self.0 in
    let begun = c.transaction-tx.ensures.begun in
    let P = λ (trees : Trees). (text : List ℕ) → MayBeStored text old → IsRewriteImage c.args.schema.now (after_cell_changes (changes_view c.args.changes.now) empty) old trees in
    let same : end ≡ c.conn-1.given.0 = search rules in
    let whole = nothing_then _ _ _ (survives_begin g.S.Store c.args.conn.now last _ (rw begun at c.rewrite.ensures.writes.survives)) c.drop-tx.ensures.survives in
    subst (λ h. Survives old (state g.S.Store h) P) same (survives_as old (state g.S.Store end) (λ _. ⊥) P whole (λ clean db h. elim (whole.crash clean db h) [ inl was ↦ inl was | inr none ↦ absurd none ]))

pub returns-in-Err-clause-unmoved : goal.returns-in-Err-clause-unmoved
returns-in-Err-clause-unmoved g c =
    let old = state g.S.Store c.args.conn.now in
    let last = state g.S.Store c.rewrite.new.tx.conn.now in
    let end = c.drop-tx.new.self.0 in
    let begun = c.transaction-tx.ensures.begun in
    let same : end ≡ c.conn-1.given.0 = search rules in
    subst (λ h. HasCleanDisk (state g.S.Store h) → KeepsCommit old (state g.S.Store h)) same (λ clean.
    let late : HasCleanDisk last = omega (arith, c.drop-tx.ensures.survives.clean) in
    let kept = (rw begun at c.rewrite.ensures.writes.kept) late refl in
    keeps_then old last (state g.S.Store end) (record { was_open = kept.was_open; committed = kept.committed }) (rolled_keeps _ _ (c.drop-tx.ensures.undone clean)))

pub returns-in-Err-clause-same : goal.returns-in-Err-clause-same
returns-in-Err-clause-same g c =
    let old = state g.S.Store c.args.conn.now in
    let last = state g.S.Store c.rewrite.new.tx.conn.now in
    let end = c.drop-tx.new.self.0 in
    let begun = c.transaction-tx.ensures.begun in
    let same : end ≡ c.conn-1.given.0 = search rules in
    subst (λ h. HasCleanDisk (state g.S.Store h) → IsAsBefore old (state g.S.Store h)) same (λ clean.
    let late : HasCleanDisk last = omega (arith, c.drop-tx.ensures.survives.clean) in
    let kept = (rw begun at c.rewrite.ensures.writes.kept) late refl in
    rolled_same g.S.Store c.args.conn.now last (state g.S.Store end) (c.is_autocommit.ensures.settled c.if-not-is_autocommit.false) kept (c.drop-tx.ensures.undone clean))

-- ---- the commit failed

pub returns-in-Err-commit-clause-crash : goal.returns-in-Err-commit-clause-crash
returns-in-Err-commit-clause-crash g c =
    let old = state g.S.Store c.args.conn.now in
    let begun = c.transaction-tx.ensures.begun in
    let lines = after_cell_changes (changes_view c.args.changes.now) empty in
    let same : c.commit.new.self.0 ≡ c.conn-2-1.given.0 = search rules in
    subst (λ h. Survives old (state g.S.Store h) (λ (trees : Trees). (text : List ℕ) → MayBeStored text old → IsRewriteImage c.args.schema.now lines old trees)) same
    (rewritten_crash g.S.Store c.args.conn.now (state g.S.Store c.rewrite.new.tx.conn.now) (state g.S.Store c.commit.new.self.0) (c.is_autocommit.ensures.settled c.if-not-is_autocommit.false) c.args.schema.now lines
    (rw begun at c.rewrite.ensures.writes.survives) c.commit.ensures.survives (λ clean text may. (rw begun at c.in-Ok.ensures.writes.ok) text clean refl (λ up. by_format text (state g.S.Store c.args.conn.now) _ (c.has_heads-in_cells.ensures ∙ ap (λ s. is_some (table_named s (codes "head"))) c.schema.ensures.value) (may up))))

pub returns-in-Err-commit-clause-unmoved : goal.returns-in-Err-commit-clause-unmoved
returns-in-Err-commit-clause-unmoved g c =
    let old = state g.S.Store c.args.conn.now in
    let last = state g.S.Store c.rewrite.new.tx.conn.now in
    let end = c.commit.new.self.0 in
    let begun = c.transaction-tx.ensures.begun in
    let same : end ≡ c.conn-2-1.given.0 = search rules in
    subst (λ h. HasCleanDisk (state g.S.Store h) → KeepsCommit old (state g.S.Store h)) same (λ clean.
    let late : HasCleanDisk last = omega (arith, c.commit.ensures.survives.clean) in
    let kept = (rw begun at c.rewrite.ensures.writes.kept) late refl in
    keeps_then old last (state g.S.Store end) (record { was_open = kept.was_open; committed = kept.committed }) (commit_fails_keeps _ _ _ (c.in-Err-commit.ensures.err clean)))

pub returns-in-Err-commit-clause-same : goal.returns-in-Err-commit-clause-same
returns-in-Err-commit-clause-same g c =
    let old = state g.S.Store c.args.conn.now in
    let last = state g.S.Store c.rewrite.new.tx.conn.now in
    let end = c.commit.new.self.0 in
    let begun = c.transaction-tx.ensures.begun in
    let same : end ≡ c.conn-2-1.given.0 = search rules in
    subst (λ h. HasCleanDisk (state g.S.Store h) → IsAsBefore old (state g.S.Store h)) same (λ clean.
    let late : HasCleanDisk last = omega (arith, c.commit.ensures.survives.clean) in
    refused_same g.S.Store c.args.conn.now last (state g.S.Store end) (c.is_autocommit.ensures.settled c.if-not-is_autocommit.false) _ ((rw begun at c.rewrite.ensures.writes.kept) late refl)
    ((rw begun at c.in-Ok.ensures.writes.goes_on) late refl) (c.in-Err-commit.ensures.err clean))

-- ---- it is committed

pub returns-in-Ok-commit-clause-crash : goal.returns-in-Ok-commit-clause-crash
returns-in-Ok-commit-clause-crash g c =
    let old = state g.S.Store c.args.conn.now in
    let begun = c.transaction-tx.ensures.begun in
    let lines = after_cell_changes (changes_view c.args.changes.now) empty in
    let same : c.commit.new.self.0 ≡ c.conn-2-1.given.0 = search rules in
    subst (λ h. Survives old (state g.S.Store h) (λ (trees : Trees). (text : List ℕ) → MayBeStored text old → IsRewriteImage c.args.schema.now lines old trees)) same
    (rewritten_crash g.S.Store c.args.conn.now (state g.S.Store c.rewrite.new.tx.conn.now) (state g.S.Store c.commit.new.self.0) (c.is_autocommit.ensures.settled c.if-not-is_autocommit.false) c.args.schema.now lines
    (rw begun at c.rewrite.ensures.writes.survives) c.commit.ensures.survives (λ clean text may. (rw begun at c.in-Ok.ensures.writes.ok) text clean refl (λ up. by_format text (state g.S.Store c.args.conn.now) _ (c.has_heads-in_cells.ensures ∙ ap (λ s. is_some (table_named s (codes "head"))) c.schema.ensures.value) (may up))))

pub returns-in-Ok-commit-clause-ok : goal.returns-in-Ok-commit-clause-ok
returns-in-Ok-commit-clause-ok g c =
    let old = state g.S.Store c.args.conn.now in
    let last = state g.S.Store c.rewrite.new.tx.conn.now in
    let begun = c.transaction-tx.ensures.begun in
    let lines = after_cell_changes (changes_view c.args.changes.now) empty in
    let same : c.commit.new.self.0 ≡ c.conn-2-1.given.0 = search rules in
    subst (λ h. HasCleanDisk (state g.S.Store h) → (text : List ℕ) → MayBeStored text old → Rewrites c.args.schema.now lines old (state g.S.Store h)) same (λ clean text may.
    let late : HasCleanDisk last = omega (arith, c.commit.ensures.survives.clean) in
    let shows = (c.in-Ok-commit.ensures.ok clean).1 in
    rewritten g.S.Store c.args.conn.now last (state g.S.Store c.commit.new.self.0) (c.is_autocommit.ensures.settled c.if-not-is_autocommit.false) c.args.schema.now lines
    ((rw begun at c.in-Ok.ensures.writes.ok) text late refl (λ up. by_format text old _ (c.has_heads-in_cells.ensures ∙ ap (λ s. is_some (table_named s (codes "head"))) c.schema.ensures.value) (may up))) shows.was_open shows.is_open shows.now_is shows.committed_is)
