use Rattle.std.proofs.Common.{◌≡◌, inl, inr, refl, subst, arith, rules}
use Rattle.sqlite_trees.specs.Tree.{Trees}
use Rattle.sqlite.specs.State.{HasCleanDisk, Survives, KeepsCommit}
use Rattle.sqlite.specs.Held.{state}
use Rattle.sqlite.proofs.Callers.{survives_begin}
use Rattle.ov_tables.specs.Making.{MayMake, IsNew, IsNewBeside}
use Rattle.ov_tables.proofs.MakeLemmas.{filled_crash, filled_committed, from_begun}
use Rattle.ov_tables.proofs.KeepLemmas.{nothing_then, survives_as, keeps_then, rolled_keeps, commit_fails_keeps}
use Rattle.ov_tables.proofs.make.make_tables.Goals as goal

pub returns-in-Ok-commit-clause-crash : goal.returns-in-Ok-commit-clause-crash
returns-in-Ok-commit-clause-crash g c =
    let old = state g.S.Store c.args.conn.now in
    let last = state g.S.Store c.make_all.new.tx.conn.now in
    let begun = c.transaction-tx.ensures.begun in
    let same : c.commit.new.self.0 ≡ c.conn-2-1.given.0 = search rules in
    subst (λ h. Survives old (state g.S.Store h) (λ (trees : Trees). MayMake old → IsNewBeside c.args.schema.now old trees)) same
    (filled_crash c.args.schema.now old last (state g.S.Store c.commit.new.self.0) (survives_begin g.S.Store c.args.conn.now last _ (rw begun at c.make_all.ensures.survives)) c.commit.ensures.survives
    (c.is_autocommit-before.ensures.settled (rw c.requires at c.is_autocommit-before.ensures.value)) (λ clean up. (rw begun at c.make_all.ensures.kept clean).was_open up) (λ clean may. from_begun g.S.Store c.args.conn.now c.args.schema.now last ((rw begun at c.in-Ok.ensures.ok) clean refl may)))

pub returns-in-Err-commit-clause-crash : goal.returns-in-Err-commit-clause-crash
returns-in-Err-commit-clause-crash g c =
    let old = state g.S.Store c.args.conn.now in
    let last = state g.S.Store c.make_all.new.tx.conn.now in
    let begun = c.transaction-tx.ensures.begun in
    let same : c.commit.new.self.0 ≡ c.conn-2-1.given.0 = search rules in
    subst (λ h. Survives old (state g.S.Store h) (λ (trees : Trees). MayMake old → IsNewBeside c.args.schema.now old trees)) same
    (filled_crash c.args.schema.now old last (state g.S.Store c.commit.new.self.0) (survives_begin g.S.Store c.args.conn.now last _ (rw begun at c.make_all.ensures.survives)) c.commit.ensures.survives
    (c.is_autocommit-before.ensures.settled (rw c.requires at c.is_autocommit-before.ensures.value)) (λ clean up. (rw begun at c.make_all.ensures.kept clean).was_open up) (λ clean may. from_begun g.S.Store c.args.conn.now c.args.schema.now last ((rw begun at c.in-Ok.ensures.ok) clean refl may)))

pub returns-in-Ok-commit-clause-ok : goal.returns-in-Ok-commit-clause-ok
returns-in-Ok-commit-clause-ok g c =
    let old = state g.S.Store c.args.conn.now in
    let last = state g.S.Store c.make_all.new.tx.conn.now in
    let begun = c.transaction-tx.ensures.begun in
    let same : c.commit.new.self.0 ≡ c.conn-2-1.given.0 = search rules in
    subst (λ h. HasCleanDisk (state g.S.Store h) → MayMake old → IsNew c.args.schema.now old (state g.S.Store h)) same (λ clean may.
    let late : HasCleanDisk last = omega (arith, c.commit.ensures.survives.clean) in
    let filled = from_begun g.S.Store c.args.conn.now c.args.schema.now last ((rw begun at c.in-Ok.ensures.ok) late refl may) in
    let shows = (c.in-Ok-commit.ensures.ok clean).1 in
    let was = (rw begun at c.make_all.ensures.kept late).was_open filled.is_open in
    filled_committed c.args.schema.now old last (state g.S.Store c.commit.new.self.0) filled was (c.is_autocommit-before.ensures.settled (rw c.requires at c.is_autocommit-before.ensures.value) was) shows.is_open shows.now_is shows.committed_is)

pub returns-in-Ok-commit-clause-settled : goal.returns-in-Ok-commit-clause-settled
returns-in-Ok-commit-clause-settled g c up = c.is_autocommit-before.ensures.settled (rw c.requires at c.is_autocommit-before.ensures.value) up

pub returns-in-Err-commit-clause-settled : goal.returns-in-Err-commit-clause-settled
returns-in-Err-commit-clause-settled g c up = c.is_autocommit-before.ensures.settled (rw c.requires at c.is_autocommit-before.ensures.value) up

pub returns-in-Err-clause-settled : goal.returns-in-Err-clause-settled
returns-in-Err-clause-settled g c up = c.is_autocommit-before.ensures.settled (rw c.requires at c.is_autocommit-before.ensures.value) up

pub returns-in-Err-commit-clause-unmoved : goal.returns-in-Err-commit-clause-unmoved
returns-in-Err-commit-clause-unmoved g c =
    let old = state g.S.Store c.args.conn.now in
    let last = state g.S.Store c.make_all.new.tx.conn.now in
    let end = c.commit.new.self.0 in
    let begun = c.transaction-tx.ensures.begun in
    let same : end ≡ c.conn-2-1.given.0 = search rules in
    subst (λ h. HasCleanDisk (state g.S.Store h) → KeepsCommit old (state g.S.Store h)) same (λ clean.
    let late : HasCleanDisk last = omega (arith, c.commit.ensures.survives.clean) in
    let kept = (rw begun at c.make_all.ensures.kept) late in
    keeps_then old last (state g.S.Store end) (record { was_open = kept.was_open; committed = kept.committed }) (commit_fails_keeps _ _ _ (c.in-Err-commit.ensures.err clean)))

pub returns-in-Err-clause-before : goal.returns-in-Err-clause-before
returns-in-Err-clause-before g c before =
    let old = state g.S.Store c.args.conn.now in
    let last = state g.S.Store c.make_all.new.tx.conn.now in
    let begun = c.transaction-tx.ensures.begun in
    let same : c.drop-tx.new.self.0 ≡ c.conn-1.given.0 = search rules in
    subst (λ h. Survives old (state g.S.Store h) (λ _. ⊥)) same (nothing_then _ _ _ (survives_begin g.S.Store c.args.conn.now last _ (rw begun at c.make_all.ensures.survives)) c.drop-tx.ensures.survives)

pub returns-in-Err-clause-crash : goal.returns-in-Err-clause-crash
returns-in-Err-clause-crash g c =
    let old = state g.S.Store c.args.conn.now in
    let last = state g.S.Store c.make_all.new.tx.conn.now in
    let end = c.drop-tx.new.self.0 in
    let begun = c.transaction-tx.ensures.begun in
    let P = λ (trees : Trees). MayMake old → IsNewBeside c.args.schema.now old trees in
    let same : end ≡ c.conn-1.given.0 = search rules in
    let whole = nothing_then _ _ _ (survives_begin g.S.Store c.args.conn.now last _ (rw begun at c.make_all.ensures.survives)) c.drop-tx.ensures.survives in
    subst (λ h. Survives old (state g.S.Store h) P) same (survives_as old (state g.S.Store end) (λ _. ⊥) P whole (λ clean db h. elim (whole.crash clean db h) [ inl was ↦ inl was | inr none ↦ absurd none ]))

pub returns-in-Err-clause-unmoved : goal.returns-in-Err-clause-unmoved
returns-in-Err-clause-unmoved g c =
    let old = state g.S.Store c.args.conn.now in
    let last = state g.S.Store c.make_all.new.tx.conn.now in
    let end = c.drop-tx.new.self.0 in
    let begun = c.transaction-tx.ensures.begun in
    let same : end ≡ c.conn-1.given.0 = search rules in
    subst (λ h. HasCleanDisk (state g.S.Store h) → KeepsCommit old (state g.S.Store h)) same (λ clean.
    let late : HasCleanDisk last = omega (arith, c.drop-tx.ensures.survives.clean) in
    let kept = (rw begun at c.make_all.ensures.kept) late in
    keeps_then old last (state g.S.Store end) (record { was_open = kept.was_open; committed = kept.committed }) (rolled_keeps _ _ (c.drop-tx.ensures.undone clean)))
