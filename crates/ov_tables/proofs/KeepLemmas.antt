-- What several calls keep, one after the other.
use Rattle.std.proofs.Common.{◌≡◌, ℕ, List, [], ◌∷◌, false, refl, sym, ◌∙◌, arith, IsTrue, inl, inr, ◌⊎◌, Result, Ok, Err, OnOk, IfOk, IfErr, subst}
use Rattle.sqlite.specs.State.{State, HasCleanDisk, Survives, KeepsCommit, IsUnchanged, IsRolledBack, ExecutesInside, IsNotRun}
use Rattle.sqlite.specs.Steps.{FailsToCommit}
use Rattle.sqlite.specs.Held.{Held as Connected, state}
use Rattle.sqlite.specs.Store.{Ghosts}
use Rattle.sqlite.specs.declared.error.ErrorCode.TheVariants.{TransactionState}
use Rattle.sqlite.specs.declared.error.Error.TheVariants.{SqliteFailure}
use Rattle.std.proofs.lemmas.Bool.{cases_Bool}
use Rattle.sqlite.specs.Order.{Row}
use Rattle.sqlite.specs.declared.error.Error.{Error}
use Rattle.sqlite_trees.specs.Tree.{Trees}
use Rattle.sqlite.proofs.StateLemmas.{survives_then}
use Rattle.std.specs.List.{AllByRecursion}
use Rattle.sqlite.specs.Schema.{Schema}
use Rattle.sqlite_trees.proofs.ListLemmas.{all_weaker, all_both}
use Rattle.ov_tables.specs.Holding.{KeepsOthers, is_among}

pub others_now : (exempt : List ℕ) (schema : Schema) (trees : Trees) → KeepsOthers exempt schema trees trees
others_now exempt schema trees = record { tables = all_weaker _ _ (λ t here apart. refl) schema.tables (all_here schema.tables); trees = λ t apart free. refl }
  where
    all_here : {X : Type 0} (xs : List X) → AllByRecursion (λ _. Unit {0}) xs
    all_here [] = tt
    all_here (x ∷ xs) = (tt, all_here xs)

pub others_then : (exempt : List ℕ) (schema : Schema) (a b c : Trees) → KeepsOthers exempt schema a b → KeepsOthers exempt schema b c → KeepsOthers exempt schema a c
others_then exempt schema a b c one two = record {
  tables = all_both _ _ _ (λ t first then apart. then apart ∙ first apart) schema.tables one.tables two.tables;
  trees = λ t apart free. two.trees t apart free ∙ one.trees t apart free;
}

-- more trees may change
pub others_wider : (few more : List ℕ) (schema : Schema) (a b : Trees) → ((t : ℕ) → is_among more t ≡ false → is_among few t ≡ false) → KeepsOthers few schema a b → KeepsOthers more schema a b
others_wider few more schema a b within kept = record {
  tables = all_weaker _ _ (λ t same free. same (within t.tree free)) schema.tables kept.tables;
  trees = λ t free none. kept.trees t (within t free) none;
}

-- the second change is of trees that the schema after the first names
pub others_after : (trees_in : Schema → List ℕ) (a b c : State) → b.now.schema ≡ a.now.schema → KeepsOthers (trees_in a.now.schema) a.now.schema a.now.trees b.now.trees
    → KeepsOthers (trees_in b.now.schema) b.now.schema b.now.trees c.now.trees → KeepsOthers (trees_in a.now.schema) a.now.schema a.now.trees c.now.trees
others_after trees_in a b c same one two = others_then _ a.now.schema a.now.trees b.now.trees c.now.trees one (subst (λ s. KeepsOthers (trees_in s) s b.now.trees c.now.trees) same two)

pub on_ok : {T E A B : Type 0} (r : Result T E) → OnOk r A → (A → B) → OnOk r B
on_ok (Ok x) a f = f a
on_ok (Err e) a f = tt

pub nothing_then : (a b c : State) → Survives a b (λ _. ⊥) → Survives b c (λ _. ⊥) → Survives a c (λ _. ⊥)
nothing_then a b c = survives_then a b c (λ _. ⊥) (λ _. ⊥) (λ _. ⊥) (λ _ db none. none) (λ _ db none. none)

-- the same, but for what may be committed
pub survives_as : (a b : State) (P Q : Trees → Type 0) → Survives a b P → (HasCleanDisk b → (db : Trees) → b.may_leave db → a.may_leave db ⊎ Q db) → Survives a b Q
survives_as a b P Q s crash = record { clean = s.clean; shield = s.shield; counts = s.counts; limit = s.limit; closes = s.closes; crash = crash }

pub nothing_now : (s : State) → Survives s s (λ _. ⊥)
nothing_now s = record { clean = omega arith; shield = λ h. h; counts = omega arith; limit = refl; closes = λ _ up. inl up; crash = λ _ db h. inl h }

pub keeps_then : (a b c : State) → KeepsCommit a b → KeepsCommit b c → KeepsCommit a c
keeps_then a b c one two = record {
  was_open = λ up. one.was_open (two.was_open up);
  committed = λ up. two.committed up ∙ one.committed (two.was_open up);
}

pub keeps_now : (s : State) → KeepsCommit s s
keeps_now s = record { was_open = λ up. up; committed = λ _. refl }

pub unchanged_keeps : (a b : State) → IsUnchanged a b → KeepsCommit a b
unchanged_keeps a b same = record { was_open = λ _. same.0.was_open; committed = λ _. same.0.committed_is }

pub rolled_keeps : (a b : State) → IsRolledBack a b → KeepsCommit a b
rolled_keeps a b back = record { was_open = back.was_open; committed = λ up. (back.undone up).1 }

-- a commit that fails commits nothing
pub commit_fails_keeps : (a b : State) (e : Error) → FailsToCommit a b e → KeepsCommit a b
commit_fails_keeps a b e (inl fails) = rolled_keeps a b fails.3
commit_fails_keeps a b e (inr ends) = unchanged_keeps a b ends.2

-- a statement within a transaction commits nothing
pub inside_keeps : (sql : List ℕ) (params : Row) (a b : State) (r : Result ℕ Error) → ExecutesInside 0 sql params a b r → KeepsCommit a b
inside_keeps sql params a b (Ok count) h = record { was_open = λ _. h.1.was_open; committed = λ _. h.1.committed_is }
inside_keeps sql params a b (Err e) (inl (ran, inl same)) = unchanged_keeps a b same
inside_keeps sql params a b (Err e) (inl (ran, inr back)) = rolled_keeps a b back
inside_keeps sql params a b (Err e) (inr ends) = unchanged_keeps a b ends.2

pub execute_keeps : {S : Type 0} (g : Ghosts S) (sql : List ℕ) (params : Row) (old new : Connected S) (r : Result ℕ Error) → (IsTrue (state g old).in_transaction → ExecutesInside 0 sql params (state g old) (state g new) r)
    → ((state g old).in_transaction ≡ false → (r ≡ Err (SqliteFailure TransactionState)) × (new ≡ old)) → KeepsCommit (state g old) (state g new)
execute_keeps g sql params old new r runs ended = elim (cases_Bool (state g old).in_transaction) [
  | inl inside ↦ inside_keeps sql params _ _ r (runs inside)
  | inr outside ↦ subst (λ h. KeepsCommit (state g old) (state g h)) (sym (ended outside).1) (keeps_now _)
]

pub inside_opens : (sql : List ℕ) (params : Row) (a b : State) (r : Result ℕ Error) → ExecutesInside 0 sql params a b r → OnOk r (IsTrue a.is_open)
inside_opens sql params a b (Ok count) h = h.1.was_open
inside_opens sql params a b (Err e) h = tt

not_run_keeps : (a b : State) (sql : List ℕ) (params : Row) (e : Error) → IsNotRun a b sql params e → KeepsCommit a b
unfolding IsNotRun
not_run_keeps a b sql params e (inl refused) = unchanged_keeps a b refused.1
not_run_keeps a b sql params e (inr fails) = rolled_keeps a b fails.3

pub prepared_keeps : {T : Type 0} (P : T → Type 0) (a b : State) (sql : List ℕ) (r : Result T Error) → IfOk r (λ s. P s × IsUnchanged a b) → IfErr r (λ e. (params : Row) → IsNotRun a b sql params e) → KeepsCommit a b
prepared_keeps P a b sql (Ok s) ok err = unchanged_keeps a b ok.1
prepared_keeps P a b sql (Err e) ok err = not_run_keeps a b sql [] e (err [])
