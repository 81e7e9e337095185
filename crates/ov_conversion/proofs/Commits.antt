-- Why a commit is refused, by what is found of the rows.
use Rattle.std.proofs.Common.{◌≡◌, true, false, cond, ◌||◌, Ok, Err, sym, ap, ◌∙◌}
use Rattle.std.specs.FinMap.{entries}
use Rattle.std.specs.List.{list_any}
use Rattle.ov_specs.specs.integrity.Committed.{is_missing, pruned, within_limits, committed}
use Rattle.ov_specs.specs.integrity.Kept.{kept}
use Rattle.ov_specs.specs.integrity.Limits.{is_short, is_over_limits}
use Rattle.ov_specs.specs.integrity.References.{references}
use Rattle.ov_specs.specs.operations.Errors.{OpError, ConstraintViolation, ReferentialIntegrity}
use Rattle.ov_specs.specs.rows.Database.{Database}
use Rattle.ov_specs.specs.schema.SchemaTypes.{Schema}
use Rattle.ov_specs.specs.values.Uuid.{Uuid}

module _ (schema : Schema) (before : Database) (version : Uuid) (rows : Database) where
  -- a strong reference is to a missing row
  pub missing_refused : true ≡ list_any (is_missing rows) (references schema rows) → (error : OpError) × (committed schema before version rows ≡ Err error)
  missing_refused missing =
      (ReferentialIntegrity, ap (λ b. cond b (Err ReferentialIntegrity) (within_limits schema (pruned schema before version (kept schema rows)))) (sym missing))

  -- a limit is broken
  pub limit_refused : (left : Database) → false ≡ list_any (is_missing rows) (references schema rows) → left ≡ pruned schema before version (kept schema rows)
      → true ≡ (list_any (is_short schema) (entries left) || is_over_limits schema left) → (error : OpError) × (committed schema before version rows ≡ Err error)
  limit_refused left found are broken =
      (ConstraintViolation, (λ i. cond (sym found i) (Err ReferentialIntegrity) (within_limits schema (sym are i))) ∙ ap (λ b. cond b (Err ConstraintViolation) (Ok left)) (sym broken))
