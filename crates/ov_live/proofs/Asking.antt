-- What several attempts leave of the keeper and of the seal, from what each of them leaves.
use Rattle.std.proofs.Common.{◌≡◌, ℕ, ◌≤◌, List, [], ◌∷◌, ◌++◌, map, refl, sym, ap, ◌∙◌, Bool, true, false, Option, Some, None, ◌⊎◌, inl, inr, arith}
use Rattle.std.specs.Prelude.{is_some, ◌||◌}
use Rattle.std.proofs.lemmas.Bool.{false≢true, cases_order}
use Rattle.ov_specs.specs.machine.Machine as machine
use Rattle.ov_specs.specs.rows.Database.{Database}
use Rattle.ov_db.specs.KeptDatabase.{KeptDatabase}
use Rattle.ov_keeper.specs.Keeping.{HasFailed}
use Rattle.ov_history.specs.declared.event.Outcome.{Outcome}
use Rattle.ov_history.specs.declared.event.Outcome.TheVariants as outcome
use Rattle.ov_history.specs.Entries.{attempt_view, listed_by, is_of_store, is_failure, some_outcome}
use Rattle.ov_live.specs.Asking.{AsksStore, KeeperState, keeper_state, HasSameKeeper, IsSealedForCause, AsksKeeper}

-- ---- one after another

-- the parts of a list
some-append : (test : machine.Outcome → Bool) (xs ys : List machine.Attempt) → some_outcome test (xs ++ ys) ≡ (some_outcome test xs || some_outcome test ys)
some-append test [] ys = refl
some-append test (x ∷ xs) ys = by (test x.outcome) (some-append test xs ys)
  where
    by : (b : Bool) → some_outcome test (xs ++ ys) ≡ (some_outcome test xs || some_outcome test ys) → (b || some_outcome test (xs ++ ys)) ≡ ((b || some_outcome test xs) || some_outcome test ys)
    by true h = refl
    by false h = h

neither : (b c : Bool) → (b || c) ≡ false → (b ≡ false) × (c ≡ false)
neither true c h = cc
neither false c h = (refl, h)

one_of : (b c : Bool) → (b || c) ≡ true → (b ≡ true) ⊎ (c ≡ true)
one_of true c h = inl refl
one_of false c h = inr h

-- a failure stays one while the count only rises
failed_before : (a b c : ℕ) → HasFailed a b → b ≤ c → HasFailed a c
failed_before a b c (inl less) up = inl (omega (arith, less, up))
failed_before a b c (inr most) up = inr most

failed_after : (a b c : ℕ) → a ≤ b → b ≤ c → HasFailed b c → HasFailed a c
failed_after a b c up more (inl less) = inl (omega (arith, less, up))
failed_after a b c up more (inr most) = elim (cases_order a b) [
  | inl same ↦ inr (same ∙ most)
  | inr other ↦ elim other [
    | inl less ↦ inl (omega (arith, less, more))
    | inr above ↦ absurd (omega (arith, above, up))
  ]
]

sealed_by : (o : Option Database) → (is_some o ≡ false) ⊎ (is_some o ≡ true)
sealed_by None = inl refl
sealed_by (Some d) = inr refl

-- a database with the same seal did not become sealed
pub sealed_same : {K : Type 0} (a b : KeeperState K) → b.sealed ≡ a.sealed → IsSealedForCause a b
sealed_same a b same = λ before after. absurd (false≢true (sym before ∙ (ap is_some (sym same) ∙ after)))

pub sealed_then : {K : Type 0} (a b c : KeeperState K) → a.failures ≤ b.failures → b.failures ≤ c.failures → IsSealedForCause a b → IsSealedForCause b c → IsSealedForCause a c
sealed_then a b c up more one two = λ before after. elim (sealed_by b.sealed) [
  | inl between ↦ failed_after a.failures b.failures c.failures up more (two between after)
  | inr between ↦ failed_before a.failures b.failures c.failures (one before between) more
]

pub asks_then : {K : Type 0} (xs ys : List machine.Attempt) (a b c : KeeperState K) → AsksKeeper xs a b → AsksKeeper ys b c → AsksKeeper (xs ++ ys) a c
asks_then xs ys a b c one two = record {
  unasked = λ none.
      let parts = neither (some_outcome is_of_store xs) (some_outcome is_of_store ys) (sym (some-append is_of_store xs ys) ∙ none) in
      let first = one.unasked parts.0 in
      let then = two.unasked parts.1 in
      (then.0 ∙ first.0, then.1 ∙ first.1);
  failure = λ some. elim (one_of (some_outcome is_failure xs) (some_outcome is_failure ys) (sym (some-append is_failure xs ys) ∙ some)) [
    | inl first ↦ failed_before a.failures b.failures c.failures (one.failure first) two.counts
    | inr then ↦ failed_after a.failures b.failures c.failures one.counts two.counts (two.failure then)
  ];
  seal = sealed_then a b c one.counts two.counts one.seal two.seal;
  counts = omega (arith, one.counts, two.counts);
}

-- ---- one

-- the keeper and the seal are as before
pub asks_nothing : {K : Type 0} (attempts : List machine.Attempt) (old new : KeeperState K) → some_outcome is_failure attempts ≡ false → HasSameKeeper old new → new.sealed ≡ old.sealed → AsksKeeper attempts old new
asks_nothing attempts old new none same sealed = record {
  unasked = λ _. same;
  failure = λ some. absurd (false≢true (sym none ∙ some));
  seal = sealed_same old new sealed;
  counts = omega (arith, same.1);
}

-- the database is as before
asks_same : {K : Type 0} (failed : K → ℕ) (attempts : List machine.Attempt) (old new : KeptDatabase K) → some_outcome is_failure attempts ≡ false → new ≡ old → AsksKeeper attempts (keeper_state failed old) (keeper_state failed new)
asks_same {K} failed attempts old new none same =
    let keeper = ap (λ (k : KeptDatabase K). k.keeper) same in
    asks_nothing attempts (keeper_state failed old) (keeper_state failed new) none (keeper, ap failed keeper) (ap (λ (k : KeptDatabase K). k.sealed) same)

-- the store answered, and did not fail
asks_unsealed : {K : Type 0} (attempts : List machine.Attempt) (old new : KeeperState K) → some_outcome is_of_store attempts ≡ true → some_outcome is_failure attempts ≡ false → new.sealed ≡ old.sealed → old.failures ≤ new.failures → AsksKeeper attempts old new
asks_unsealed attempts old new asked none sealed counts = record {
  unasked = λ never. absurd (false≢true (sym never ∙ asked));
  failure = λ some. absurd (false≢true (sym none ∙ some));
  seal = sealed_same old new sealed;
  counts = counts;
}

-- an attempt, by what is listed of it
pub asks_one : {K : Type 0} (failed : K → ℕ) (number : ℕ) (o : Option Outcome) (old new : KeptDatabase K) → AsksStore failed o old new → failed old.keeper ≤ failed new.keeper → AsksKeeper (map attempt_view (listed_by number o)) (keeper_state failed old) (keeper_state failed new)
asks_one failed number None old new same counts = asks_same failed [] old new refl same
asks_one failed number (Some outcome.NoMemory) old new same counts = asks_same failed _ old new refl same
asks_one failed number (Some outcome.Committed) old new sealed counts = asks_unsealed _ (keeper_state failed old) (keeper_state failed new) refl refl sealed counts
asks_one failed number (Some outcome.Exhausted) old new sealed counts = asks_unsealed _ (keeper_state failed old) (keeper_state failed new) refl refl sealed counts
asks_one failed number (Some outcome.Failed) old new cause counts = record {
  unasked = λ never. absurd (false≢true (sym never));
  failure = λ _. cause;
  seal = λ _ _. cause;
  counts = counts;
}
