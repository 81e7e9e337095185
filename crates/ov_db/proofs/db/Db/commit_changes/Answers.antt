use Rattle.std.proofs.Common.{◌≡◌, true, Some, None, sym, ap, subst, ◌∙◌}
use mathlib.Core.Logic.{inl, inr}
use Rattle.ov_specs.specs.conversion.Converted.{stored_of}
use Rattle.ov_specs.specs.integrity.Committed.{is_whole}
use Rattle.ov_specs.specs.rows.Database.{Database}
use Rattle.ov_keeper.specs.Keeping.{LeavesRefused, changed}
use Rattle.ov_keeper.specs.Views.{changes_view}
use Rattle.ov_stored.specs.Changing.{applied, SuitsChanges}
use Rattle.ov_db.specs.Committing.{AreKept}
use Rattle.ov_specs.specs.schema.SchemaTypes.{Schema}
use Rattle.ov_stored.proofs.Keeping.{changes_kept}
use Rattle.ov_db.proofs.Keeping.{sealed_none, sealed_some}
use Rattle.ov_db.specs.KeptDatabase.{KeptDatabase}
use Rattle.ov_db.specs.Residing.{IsBeside}
use Rattle.ov_db.proofs.Stored.{found, found_changed, unsealed_held, still_none}
use Rattle.ov_db.proofs.db.Db.commit_changes.Goals as goal

pub invariant_of-self-in-Ok-commit : goal.invariant_of-self-in-Ok-commit
invariant_of-self-in-Ok-commit g c =
    let rows = c.self.inside.resident.rows in
    let schema = c.self.inside.schema in
    let delta = c.args.delta in
    let unsealed = ap (λ (k : KeptDatabase _). k.sealed) c.self.view_is ∙ c.requires.unsealed in
    let ready = c.let_go.ensures schema delta rows c.in-Ok-place.ensures.on in
    let now = c.make.ensures schema rows ready in (
      c.commit.ensures.same_format ∙ c.self.invariant.0,
      (λ honest held leaves.
          let changes = ap changes_view c.as_slice.ensures.value ∙ c.in-Ok.ensures.changes in
          let made = c.in-Ok-commit.ensures.ok honest held leaves in
          let before = found schema rows made.0 (unsealed_held schema rows _ made.0 unsealed (c.self.invariant.1 (c.commit.ensures.honest honest) made.0 made.1)) in
          let after = found_changed schema delta rows _ made.0 held before changes made.2 in
          inl (after ∙ ap (stored_of schema) (sym now.0))),
      (let suits = subst (λ (x : Schema). SuitsChanges x delta) (sym (ap (λ (k : KeptDatabase _). k.schema) c.self.view_is)) c.requires.suits in
          let whole = subst (λ (k : KeptDatabase _). is_whole k.schema (applied delta k.committed) ≡ true) (sym c.self.view_is) c.requires.whole in
          let after = changes_kept schema delta rows suits c.in-Ok.ensures.read c.self.invariant.2.committed_kept in
          subst (AreKept schema c.make.new.self.rows) (sym (still_none c.self.inside.failed (λ d. applied d rows) (λ d. applied d c.make.new.self.rows) unsealed))
          (subst (λ (d : Database). AreKept schema d None) (sym now.0) (sealed_none schema (applied delta rows) after whole))),
      subst (λ (d : Database). IsBeside schema d c.make.new.self) (sym now.0) now.1,
    )

pub invariant_of-self-in-Device-1 : goal.invariant_of-self-in-Device-1
invariant_of-self-in-Device-1 g c =
    let rows = c.self.inside.resident.rows in
    let schema = c.self.inside.schema in
    let delta = c.args.delta in
    let unsealed = ap (λ (k : KeptDatabase _). k.sealed) c.self.view_is ∙ c.requires.unsealed in
    let back = c.take_back-in-Err-Device.ensures schema rows c.in-Ok-place.ensures.back in (
      c.commit.ensures.same_format ∙ c.self.invariant.0,
      (λ honest held leaves.
          let changes = ap changes_view c.as_slice.ensures.value ∙ c.in-Ok.ensures.changes in
          let may = subst (LeavesRefused (changed (changes_view c.as_slice.result.now)) (g.K.Keeper.leaves c.self.inside.keeper) (g.K.Keeper.leaves c.commit.new.self)) c.in-Err-Device.field-0-is (c.in-Err-Device.ensures.err honest) in
          let was = c.self.invariant.1 (c.commit.ensures.honest honest) in
          elim (may held leaves) [
            | inl same ↦
                let before = found schema rows held (unsealed_held schema rows _ held unsealed (was held same)) in
                inl (before ∙ ap (stored_of schema) (sym back.0))
            | inr made ↦
                let before = found schema rows made.0 (unsealed_held schema rows _ made.0 unsealed (was made.0 made.1)) in
                let after = found_changed schema delta rows _ made.0 held before changes made.2 in
                inr (applied delta rows, ap (λ (d : Database). Some (applied delta d)) back.0, after)
          ]),
      (let suits = subst (λ (x : Schema). SuitsChanges x delta) (sym (ap (λ (k : KeptDatabase _). k.schema) c.self.view_is)) c.requires.suits in
          let whole = subst (λ (k : KeptDatabase _). is_whole k.schema (applied delta k.committed) ≡ true) (sym c.self.view_is) c.requires.whole in
          let kept = c.self.invariant.2 in
          let after = changes_kept schema delta rows suits c.in-Ok.ensures.read kept.committed_kept in
          subst (λ (d : Database). AreKept schema d (Some (applied delta d))) (sym back.0) (sealed_some schema rows (applied delta rows) kept.committed_kept kept.committed_whole after whole)),
      subst (λ (d : Database). IsBeside schema d c.take_back-in-Err-Device.new.self) (sym back.0) back.1,
    )

pub returns-in-Ok-commit-clause-commits : goal.returns-in-Ok-commit-clause-commits
returns-in-Ok-commit-clause-commits g c =
    let delta = c.args.delta in
    let before = c.self.inside.resident.rows in
    let now = c.make.ensures c.self.inside.schema before (c.let_go.ensures c.self.inside.schema delta before c.in-Ok-place.ensures.on) in
    let schema = ap (λ (k : KeptDatabase _). k.schema) c.self.view_is in
    let rows = now.0 ∙ ap (λ (k : KeptDatabase _). applied delta k.committed) c.self.view_is in
    let sealed = still_none c.self.inside.failed (λ d. applied d before) (λ d. applied d c.make.new.self.rows) (ap (λ (k : KeptDatabase _). k.sealed) c.self.view_is ∙ c.requires.unsealed) ∙ sym c.requires.unsealed in
    λ i. record { schema = schema i; committed = rows i; sealed = sealed i; keeper = c.commit.new.self }
