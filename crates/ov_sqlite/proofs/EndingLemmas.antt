-- How a reading of the tables ends: with what was read, with malformed tables, or with a fault that is passed on.
use Rattle.std.proofs.Common.{Ok, Err, IsTrue}
use Rattle.sqlite.specs.Effect.{Database}
use Rattle.sqlite.specs.State.{State, HasCleanDisk, Survives}
use Rattle.ov_keeper.specs.declared.fault.KeepFault.{KeepFault}
use Rattle.ov_keeper.specs.declared.fault.KeepFault.TheVariants.{Format}
use Rattle.ov_tables.specs.Querying.{IsAsBefore}
use Rattle.ov_sqlite.specs.Reading.{ReadsTables}
use Rattle.ov_sqlite.proofs.OpenLemmas.{err_of}

module _ {A : Type 0} {May : State → Type 0} {Holds : Database → A → Type 0} {IsMalformed : Database → Type 0} {old new : State} where
  pub ends_read : (read : A) → (HasCleanDisk new → May old → IsTrue old.is_open × Holds old.now read) → (HasCleanDisk new → IsAsBefore old new) → Survives old new (λ _. ⊥) → ReadsTables (Ok read) May Holds IsMalformed old new
  ends_read read holds same survives = record { ok = holds; format = λ clean may err. absurd cc; same = same; survives = survives }

  pub ends_malformed : (HasCleanDisk new → May old → IsTrue old.is_open × IsMalformed old.now) → (HasCleanDisk new → IsAsBefore old new) → Survives old new (λ _. ⊥) → ReadsTables (Err Format) May Holds IsMalformed old new
  ends_malformed bad same survives = record { ok = λ _ _. tt; format = λ clean may err. bad clean may; same = same; survives = survives }

  -- the fault of a reading of some tables is that of a reading of more
  pub ends_passed : {B : Type 0} (fault : KeepFault) (MayFirst : State → Type 0) (First : Database → B → Type 0) (IsBad : Database → Type 0) → ReadsTables (Err fault) MayFirst First IsBad old new
      → (May old → MayFirst old) → (IsTrue old.is_open → May old → IsBad old.now → IsMalformed old.now) → ReadsTables (Err fault) May Holds IsMalformed old new
  ends_passed fault MayFirst First IsBad it may bad = record {
    ok = λ _ _. tt;
    format = λ clean has err. let is = it.format clean (may has) (err_of _ _ err) in (is.0, bad is.0 has is.1);
    same = it.same;
    survives = it.survives;
  }
