-- What an opening makes of a keeper that was looked at before, it makes of the keeper as it was.
use Rattle.std.proofs.Common.{◌≡◌, ◌≤◌, inl, inr, ℕ, zero, suc, Some, None, refl, sym, subst, ◌∙◌, arith}
use Rattle.std.specs.Prelude.{Result, Ok, Err}
use Rattle.std.specs.Coded.{Coded, Coded-set, Unit-prop, code_by, coded_ℕ, coded_result}
use Rattle.std.proofs.Math.Logic.{∥∥₁_elim}
use Rattle.ov_specs.specs.conversion.Converted as refusal
use Rattle.ov_specs.specs.conversion.Converted.{OpenRefusal, stored_of}
use Rattle.ov_specs.specs.rows.Cells.{Stored}
use Rattle.ov_specs.specs.rows.Database.{Database}
use Rattle.ov_specs.specs.schema.SchemaTypes.{Schema}
use Rattle.ov_specs.specs.values.Uuid.{Uuid}
use Rattle.ov_rows.specs.Resident.{database_code}
use Rattle.ov_keeper.specs.declared.fault.KeepFault.TheVariants.{Device, Memory}
use Rattle.ov_keeper.specs.declared.keeper.Keeper.{Ghosts}
use Rattle.ov_keeper.specs.Keeping.{LeavesNoMore}
use Rattle.ov_stored.specs.declared.fault.OpenFault.{OpenFault}
use Rattle.ov_stored.specs.declared.fault.OpenFault.TheVariants.{SchemaDiffers, BadBody, Broken, TypeChanged, NotConvertible, Keeping}
use Rattle.ov_db.specs.declared.fault.RefusedOpen.{RefusedOpen}
use Rattle.ov_db.specs.Committing.{IsHeld}
use Rattle.ov_db.specs.KeptDatabase.{KeptDatabase}
use Rattle.ov_db.specs.Opening.{FindsOne, IsRenewed, LeavesOpened, LeavesUnopened, TellsRefusal, open_of, opens_as}
use Rattle.ov_db.proofs.Answers.{another_text}
use Rattle.ov_db.proofs.Opening.{failed_since}
use Rattle.ov_core.specs.Opening.{FindsAnother, OpensDatabase, RefusesCore}

-- ---- an answer is determined

-- a refusal as a number
abbrev number_of : OpenRefusal → ℕ
number_of refusal.BadBody = 0
number_of refusal.SchemaDiffers = 1
number_of refusal.Broken = 2
number_of refusal.TypeChanged = 3
number_of refusal.NotConvertible = 4

-- and back
abbrev refusal_at : ℕ → OpenRefusal
refusal_at zero = refusal.BadBody
refusal_at (suc zero) = refusal.SchemaDiffers
refusal_at (suc (suc zero)) = refusal.Broken
refusal_at (suc (suc (suc zero))) = refusal.TypeChanged
refusal_at (suc (suc (suc (suc n)))) = refusal.NotConvertible

refusal_at-number_of : (r : OpenRefusal) → refusal_at (number_of r) ≡ r
refusal_at-number_of refusal.BadBody = refl
refusal_at-number_of refusal.SchemaDiffers = refl
refusal_at-number_of refusal.Broken = refl
refusal_at-number_of refusal.TypeChanged = refl
refusal_at-number_of refusal.NotConvertible = refl

answer_code : Coded (Result Database OpenRefusal)
answer_code = coded_result database_code (code_by ℕ coded_ℕ number_of refusal_at refusal_at-number_of)

-- an answer is this one in one way at most
answer_prop : (answer this : Result Database OpenRefusal) → IsProp (answer ≡ this)
answer_prop answer this = Coded-set answer_code answer this

-- and tells a refusal in one way at most
tells_prop : (answer : Result Database OpenRefusal) (fault : OpenFault) → IsProp (TellsRefusal answer fault)
tells_prop answer SchemaDiffers = answer_prop answer (Err refusal.SchemaDiffers)
tells_prop answer BadBody = answer_prop answer (Err refusal.BadBody)
tells_prop answer Broken = answer_prop answer (Err refusal.Broken)
tells_prop answer TypeChanged = answer_prop answer (Err refusal.TypeChanged)
tells_prop answer NotConvertible = answer_prop answer (Err refusal.NotConvertible)
tells_prop answer (Keeping fault) = Unit-prop

-- ---- what is found

-- a database that is not sealed is what is held
pub unsealed_held : {K : Type 0} (schema : Schema) (d : KeptDatabase K) (held : Stored) → d.schema ≡ schema → d.sealed ≡ None → IsHeld d.schema d.committed d.sealed held → held ≡ stored_of schema d.committed
unsealed_held schema d held same none (inl is) = subst (λ (s : Schema). held ≡ stored_of s d.committed) same is
unsealed_held schema d held same none (inr (other, sealed, is)) = absurd (no other (sym none ∙ sealed))
  where
    no : (other : Database) → None ≡ Some other → ⊥
    no other e = cc

-- a refusal for the schema is no failure of the device, and leaves no more
leaves_no_more : (old mid : Stored → Type 0) (opens : Stored → Result Database OpenRefusal) (schema : Schema) (fault : OpenFault) → fault ≡ SchemaDiffers → LeavesUnopened old mid opens schema fault → LeavesNoMore old mid
leaves_no_more old mid opens schema fault differs leaves found may = elim (leaves found may) [
  | inl here ↦ here
  | inr made ↦ absurd (no (sym differs ∙ made.0))
]
  where
    no : SchemaDiffers ≡ Keeping Device → ⊥
    no e = cc

module _ (old mid new : Stored → Type 0) (opens : Stored → Result Database OpenRefusal) (schema : Schema) (same : LeavesNoMore old mid) where
  -- what was written anew after the look was written over what might have been found before it
  renewed_before : (database : Database) (found : Stored) → IsRenewed mid opens schema database found → IsRenewed old opens schema database found
  renewed_before database found r = record {
    before = r.before;
    was = same r.before r.was;
    outdated = r.outdated;
    opened = r.opened;
    now = r.now;
  }

  opened_before : (database : Database) → LeavesOpened mid new opens schema database → LeavesOpened old new opens schema database
  opened_before database leaves found may = elim (leaves found may) [
    | inl here ↦ inl (same found here)
    | inr made ↦ inr (renewed_before database found made)
  ]

  unopened_before : (fault : OpenFault) → LeavesUnopened mid new opens schema fault → LeavesUnopened old new opens schema fault
  unopened_before fault leaves found may = elim (leaves found may) [
    | inl here ↦ inl (same found here)
    | inr made ↦ inr (made.0, (made.1.0, renewed_before made.1.0 found made.1.1))
  ]

-- ---- nothing was opened

-- an allocation failed before the keeper was looked at
pub no_memory : {K D : Type 0} (k : Ghosts K) (draws : D → Uuid → D → Type 0) (keeper : K) (schema : Schema) (source : D)
    → RefusesCore k draws keeper schema source (record { fault = Keeping Memory; keeper = keeper; schema = schema })
no_memory k draws keeper schema source = record {
  schema_is = refl;
  version = None;
  after = source;
  drawn = refl;
  another = λ now some. absurd (some refl);
  kinds = tt;
  read_kinds = λ none now two. tt;
  plain = λ none same. cc;
  fault = λ now held here. tt;
  cause = λ same. cc;
  counts = omega arith;
  left = λ now found here. inl here;
  format = refl;
  honest = λ now. now;
}

-- ---- the keeper was looked at

-- An open found one thing alone before, under another text than the schema's, and it finds that, if it finds anything.
pub record IsLookedAt {K : Type 0} (k : Ghosts K) (schema : Schema) (old mid : K) : Type 0 where
  pub same : k.is_honest mid → LeavesNoMore (k.leaves old) (k.leaves mid)
  pub one : k.is_honest mid → FindsOne (k.leaves old)
  pub some : k.is_honest mid → ∥ ((held : Stored) × k.leaves mid held) ∥₁
  pub another : k.is_honest mid → FindsAnother (k.leaves old) schema
  pub honest : k.is_honest mid → k.is_honest old
  pub counts : k.failed old ≤ k.failed mid
  pub format : k.format mid ≡ k.format old

-- so an open looked at it that was refused for its schema
pub looked_at : {K : Type 0} (k : Ghosts K) (schema : Schema) (old : K) (refused : RefusedOpen K) → refused.fault ≡ SchemaDiffers
    → (k.is_honest refused.keeper → LeavesUnopened (k.leaves old) (k.leaves refused.keeper) (open_of schema) schema refused.fault)
    → (k.is_honest refused.keeper → refused.fault ≡ SchemaDiffers → FindsOne (k.leaves old)) → (k.is_honest refused.keeper → ∥ ((held : Stored) × k.leaves refused.keeper held) ∥₁)
    → (k.is_honest refused.keeper → (held : Stored) → k.leaves old held → TellsRefusal (open_of schema held) refused.fault) → (k.is_honest refused.keeper → k.is_honest old)
    → k.failed old ≤ k.failed refused.keeper → k.format refused.keeper ≡ k.format old → IsLookedAt k schema old refused.keeper
looked_at k schema old refused differs left one some tells honest counts format = record {
  same = λ now. leaves_no_more (k.leaves old) (k.leaves refused.keeper) (open_of schema) schema refused.fault differs (left now);
  one = λ now. one now differs;
  some = some;
  another = λ now held here. another_text schema held (subst (λ (fault : OpenFault). TellsRefusal (open_of schema held) fault) differs (tells now held here));
  honest = honest;
  counts = counts;
  format = format;
}

-- and still finds another text
pub finds_another : {K : Type 0} (k : Ghosts K) (schema : Schema) (old mid : K) → IsLookedAt k schema old mid → k.is_honest mid → FindsAnother (k.leaves mid) schema
finds_another k schema old mid looks now held here = looks.another now held (looks.same now held here)

module _ {K D : Type 0} (k : Ghosts K) (draws : D → Uuid → D → Type 0) (schema : Schema) (source : D) (old mid : K) (looks : IsLookedAt k schema old mid) where
  -- what holds of all that may be found now held of all that might have been found before
  held_before : (P : Stored → Type 0) → ((held : Stored) → IsProp (P held)) → k.is_honest mid → ((held : Stored) → k.leaves mid held → P held) → (held : Stored) → k.leaves old held → P held
  held_before P prop now each held here =
      ∥∥₁_elim (looks.some now) (prop held) (λ it. subst P (looks.one now it.0 held (looks.same now it.0 it.1) here) (each it.0 it.1))

  pub opens_before : (database : KeptDatabase K) (after : D) → OpensDatabase k draws mid schema source database after → OpensDatabase k draws old schema source database after
  opens_before database after opens = record {
    version = opens.version;
    drawn = opens.drawn;
    another = λ now some. looks.another (opens.honest now);
    held = λ now. held_before (λ held. opens_as schema opens.version held ≡ Ok database.committed) (λ held. answer_prop (opens_as schema opens.version held) (Ok database.committed)) (opens.honest now) (opens.held now);
    left = λ now. opened_before (k.leaves old) (k.leaves mid) (k.leaves database.keeper) (opens_as schema opens.version) schema (looks.same (opens.honest now)) database.committed (opens.left now);
    honest = λ now. looks.honest (opens.honest now);
  }

  pub refuses_before : (refused : RefusedOpen K) → RefusesCore k draws mid schema source refused → RefusesCore k draws old schema source refused
  refuses_before refused r = record {
    schema_is = r.schema_is;
    version = r.version;
    after = r.after;
    drawn = r.drawn;
    another = λ now some. looks.another (r.honest now);
    kinds = r.kinds;
    read_kinds = λ none now two. r.read_kinds none now (looks.format ∙ two);
    plain = r.plain;
    fault = λ now. held_before (λ held. TellsRefusal (opens_as schema r.version held) refused.fault) (λ held. tells_prop (opens_as schema r.version held) refused.fault) (r.honest now) (r.fault now);
    cause = λ device. failed_since (k.failed old) (k.failed mid) (k.failed refused.keeper) looks.counts r.counts (r.cause device);
    counts = omega (arith, looks.counts, r.counts);
    left = λ now. unopened_before (k.leaves old) (k.leaves mid) (k.leaves refused.keeper) (opens_as schema r.version) schema (looks.same (r.honest now)) refused.fault (r.left now);
    format = r.format ∙ looks.format;
    honest = λ now. looks.honest (r.honest now);
  }
