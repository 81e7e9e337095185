-- Why files are refused at an open.
use Rattle.std.proofs.Common.{◌≡◌, ◌≢◌, inl, inr, ℕ, ◌∙◌, sym, ap, ap₂, subst, refl, arith, Result, Ok, Err, IfErr, List}
use Rattle.std.proofs.lemmas.Bool.{cond_both, eqb-false}
use Rattle.std.specs.Prelude.{◌==◌}
use Rattle.sqlite.specs.declared.error.Error.{Error}
use Rattle.sqlite.specs.declared.file.Leftover.{Leftover}
use Rattle.sqlite.specs.declared.file.Leftover.TheVariants as rest
use Rattle.sqlite.specs.Files.{image_of, faults_of, faults_left, tally_left, IsCleanLeft, IsFullLeft, FailsToOpenFiles, IsNothing, AreFoundIn}
use Rattle.sqlite.specs.Opening.{FailsAs}
use Rattle.sqlite.specs.State.{State, Opens, IsLive, store_error}
use Rattle.sqlite.specs.Effect.{Database}
use Rattle.sqlite.specs.Schema.{Schema}
use Rattle.ov_tables.specs.Tables.{no_schema, HasOurTables}
use Rattle.sqlite_disk.specs.declared.Disk as disk
use Rattle.sqlite_disk.specs.declared.Files.{Files}
use Rattle.sqlite_disk.specs.declared.tally.Tally.{Tally}
use Rattle.sqlite_disk.specs.Disk.{MoreFaults}
use Rattle.sqlite_disk.specs.Tally.{both_counts}
use Rattle.sqlite_store.specs.Report.{named}
use Rattle.sqlite_store.specs.Unopened.{files_of}
use Rattle.sqlite_store.specs.declared.store.FileStore.{FileStore}
use Rattle.sqlite_store.specs.declared.store.open.Unopened.{Unopened}
use Rattle.sqlite_trees.specs.declared.error.StoreError.{StoreError}
use Rattle.sqlite_trees.specs.declared.error.StoreError.TheVariants.{Io, Full}
use Rattle.sqlite_wal.specs.Reads.{tally_of_files}
use Rattle.sqlite_wal.specs.Recovery.{Image}
use Rattle.ov_keeper.specs.declared.fault.KeepFault.{KeepFault}
use Rattle.ov_keeper.specs.declared.fault.KeepFault.TheVariants.{NotOurs}
use Rattle.ov_files.specs.Calls.{Connecting}
use Rattle.ov_store.specs.Answers.{WasAnswered}
use Rattle.ov_files.specs.Causes.{IsOpenable, HasFault, Explains, FailsToConnect, IsUnopened, FailsInMemory, FailsToBegin, IsErrorInMemory, SaysOfCopy, IsCopyRefused, error_in_memory}
use Rattle.ov_files.specs.Refusing.{fault_of_open}

abbrev pub none_met : Tally
none_met = record { caught = 0; refused = 0 }

module _ {D : Type 0} (g : disk.Ghosts D) where
  -- files that held this, and with which nothing has happened
  abbrev pub IsStart : Image → Files D → Type 0
  IsStart image files = (image_of g files ≡ image) × (faults_of g files ≡ 0) × ((tally_of_files g (files.log, files.db)).caught ≡ 0)

module _ {D : Type 0} {g : disk.Ghosts D} where
  -- the fault for a failure of this kind, if the count of damage reports that kind
  of_kind : (image : Image) (left : Leftover D g) (old : Tally) → old.caught ≡ 0 → HasFault left → Explains image left (fault_of_open (store_error (named old (tally_left left))))
  of_kind image left old zero failed =
      let new = tally_left left in
      let explains = λ (kind : StoreError). Explains image left (fault_of_open (store_error kind)) in
      cond_both (new.caught == old.caught) _ _ explains
      (λ _. cond_both (new.refused == old.refused) Io Full explains (λ _. inl failed) (λ _. inl failed))
      (λ other. inr (failed, λ none. eqb-false _ _ other (none ∙ sym zero)))

  some_fault : (left : Leftover D g) (old : ℕ) → old ≡ 0 → MoreFaults old (faults_left left) → HasFault left
  some_fault left old zero more = omega (arith, zero, more)

  -- what the kit says of an error and what is left explains the fault that it is
  explained : (image : Image) (files : Files D) (left : Leftover D g) (e : Error) → image_of g files ≡ image → faults_of g files ≡ 0 → (tally_of_files g (files.log, files.db)).caught ≡ 0
      → FailsToOpenFiles files left e → Explains image left (fault_of_open e)
  explained image files left e held zero none (inl memory) = subst (λ (e : Error). Explains image left (fault_of_open e)) (sym memory) tt
  explained image files left e held zero none (inr (inl (inl is, foreign))) = subst (λ (e : Error). Explains image left (fault_of_open e)) (sym is) (inl (subst (λ (i : Image). ¬ IsOpenable i) held foreign))
  explained image files left e held zero none (inr (inl (inr is, foreign))) = subst (λ (e : Error). Explains image left (fault_of_open e)) (sym is) (inl (subst (λ (i : Image). ¬ IsOpenable i) held foreign))
  explained image files left e held zero none (inr (inr (inl (is, more)))) =
      subst (λ (e : Error). Explains image left (fault_of_open e)) (sym is) (of_kind image left (tally_of_files g (files.log, files.db)) none (some_fault left (faults_of g files) zero more))
  explained image files left e held zero none (inr (inr (inr (is, full)))) = subst (λ (e : Error). Explains image left (fault_of_open e)) (sym is) (inr full)

  -- files in memory meet neither damage nor a full disk
  none_left : ((d : D) → g.tally_of d ≡ none_met) → (left : Leftover D g) → tally_left left ≡ none_met
  none_left none (rest.Files files) = ap₂ both_counts (none files.log) (none files.db)
  none_left none (rest.Unopened files) = ap₂ both_counts (none (files_of files).0) (none (files_of files).1)
  none_left none (rest.Store it) = ap₂ both_counts (none _) (none _)

  -- what is left is clean, whichever it is
  pub clean_left : ((files : Files D) → IsCleanLeft {g = g} (rest.Files files)) → ((files : Unopened D g) → IsCleanLeft {g = g} (rest.Unopened files)) → ((it : FileStore D g) → IsCleanLeft {g = g} (rest.Store it))
      → (left : Leftover D g) → IsCleanLeft left
  clean_left files unopened store (rest.Files it) = files it
  clean_left files unopened store (rest.Unopened it) = unopened it
  clean_left files unopened store (rest.Store it) = store it

  refused_in_memory : (image : Image) (left : Leftover D g) (old new : ℕ) (e : Error) → FailsAs Io old new (IsFullLeft left) (IsOpenable image) e → FailsInMemory g image (error_in_memory e)
  refused_in_memory image left old new e (inl memory) = inl (ap error_in_memory memory)
  refused_in_memory image left old new e (inr (inl (inl is, foreign))) = inr (inl (inl (ap error_in_memory is), foreign))
  refused_in_memory image left old new e (inr (inl (inr is, foreign))) = inr (inl (inr (ap error_in_memory is), foreign))
  refused_in_memory image left old new e (inr (inr (inl (is, more)))) = inl (ap error_in_memory is)
  refused_in_memory image left old new e (inr (inr (inr (is, full)))) = inr (inr (ap error_in_memory is, (left, full)))

  pub fails_in_memory : ((d : D) → g.tally_of d ≡ none_met) → (files : Files D) (left : Leftover D g) (e : Error) → FailsToOpenFiles files left e → FailsInMemory g (image_of g files) (error_in_memory e)
  fails_in_memory none files left e fails =
      let kind : named (tally_of_files g (files.log, files.db)) (tally_left left) ≡ Io = ap₂ named (ap₂ both_counts (none files.log) (none files.db)) (none_left none left) in
      refused_in_memory (image_of g files) left _ _ e (subst (λ (kind : StoreError). FailsAs kind (faults_of g files) (faults_left left) (IsFullLeft left) (IsOpenable (image_of g files)) e) kind fails)

  -- empty files hold nothing, so they are not refused as no database
  pub fails_to_begin : (image : Image) (e : Error) → IsNothing image → FailsInMemory g image e → FailsToBegin g e
  fails_to_begin image e nothing (inl memory) = inl memory
  fails_to_begin image e nothing (inr (inl foreign)) = absurd (foreign.1 (inr nothing))
  fails_to_begin image e nothing (inr (inr limit)) = inr limit

  -- the same of a copy of files
  of_copy : (copy : Image) (e : Error) → FailsInMemory g copy e → SaysOfCopy copy (fault_of_open e)
  of_copy copy e (inl memory) = subst (λ (e : Error). SaysOfCopy copy (fault_of_open e)) (sym memory) tt
  of_copy copy e (inr (inl (inl is, foreign))) = subst (λ (e : Error). SaysOfCopy copy (fault_of_open e)) (sym is) foreign
  of_copy copy e (inr (inl (inr is, foreign))) = subst (λ (e : Error). SaysOfCopy copy (fault_of_open e)) (sym is) foreign
  of_copy copy e (inr (inr limit)) = subst (λ (e : Error). SaysOfCopy copy (fault_of_open e)) (sym limit.0) tt

  pub copy_refused : (seen : Image) (log db : List ℕ) (e : Error) → IsErrorInMemory seen e → FailsInMemory g seen e → seen.log ≡ log → seen.db ≡ db → IsCopyRefused (record { log = log; db = db }) (fault_of_open e)
  copy_refused seen log db e answer fails is_log is_db =
      let image : seen ≡ record { log = log; db = db } = λ i. record { log = is_log i; db = is_db i } in
      subst (λ (i : Image). IsCopyRefused i (fault_of_open e)) image (inl (e, answer, refl, of_copy seen e fails))

module _ {D : Type 0} (g : disk.Ghosts D) where
  -- why an opening of files that held this is refused
  pub unopened : {T : Type 0} (path : List ℕ) (image : Image) (files : Files D) (r : Result T KeepFault) → IfErr r (FailsToConnect g files) → IsStart g image files → IfErr r (IsUnopened g path image)
  unopened path image files (Ok x) fails start = tt
  unopened path image files (Err fault) fails start = inr (
    (fails.error, subst (λ (i : Image). WasAnswered (Connecting i) fails.error) start.0 fails.answer, fails.named, fails.is),
    (
      fails.left,
      λ clean. subst (Explains image fails.left) (sym fails.is) (explained image files fails.left fails.error start.0 start.1 start.2 (fails.cause clean)),
    ),
  )

-- a copy that was opened and does not pass is foreign
pub foreign_refused : {T : Type 0} (seen : Image) (log db : List ℕ) (s : State) → Opens s → IsLive s → AreFoundIn seen s.committed.trees → seen.log ≡ log → seen.db ≡ db
    → (schema : Schema) → schema ≡ s.now.schema → (r : Result T KeepFault) → IfErr r (λ fault. (fault ≡ NotOurs) × (schema ≢ no_schema) × (¬ HasOurTables schema)) → IfErr r (IsCopyRefused (record { log = log; db = db }))
foreign_refused seen log db s opens live found is_log is_db schema is (Ok x) refused = tt
foreign_refused seen log db s opens live found is_log is_db schema is (Err fault) refused =
    let image : seen ≡ record { log = log; db = db } = λ i. record { log = is_log i; db = is_db i } in
    inr (
      refused.0,
      record {
        db = s.now;
        sound = (live opens.is_open).0;
        found = subst (λ (i : Image). AreFoundIn i s.now.trees) image (subst (λ (d : Database). AreFoundIn seen d.trees) (sym opens.clean) found);
        some = λ none. refused.1 (is ∙ none);
        foreign = λ has. refused.2 (subst HasOurTables (sym is) has);
      },
    )
