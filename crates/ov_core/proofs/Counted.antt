-- The counts of a core after several entries, from those after each.
use Rattle.std.proofs.Common.{◌≡◌, ℕ, ◌+◌, ◌≤◌, List, [], ◌∷◌, ◌++◌, length, refl, sym, ap, subst, Option, Some, arith}
use Rattle.ov_specs.specs.machine.Machine.{State, Entry, Sent, Stepped, step}
use Rattle.ov_laws.specs.Attempts.{most_attempts, count_of}
use Rattle.ov_laws.specs.Databases.{at_moment_of}
use Rattle.ov_live.specs.Counting.{CountsTries, CountsAll, most_in}
use Rattle.ov_live.specs.Asking.{IsSealedForCause}
use Rattle.ov_core.specs.Following.{CoreState, CountsWork, keeper_of}
use Rattle.ov_live.proofs.Asking.{sealed_same, sealed_then}
use Rattle.ov_live.proofs.Trying.{counts_few}

-- entries after entries
all_then : (s : State) (es fs : List Entry) (a : ℕ) (m : State) (b : ℕ) (t : State) (c : ℕ) → CountsAll s es a m b → CountsAll m fs b t c → CountsAll s (es ++ fs) a t c
all_then s [] fs a m b t c (same, none) then = subst (λ (v : State). CountsAll v fs a t c) same (subst (λ (n : ℕ). CountsAll m fs n t c) none then)
all_then s (e ∷ es) fs a m b t c (u, mid, is, one, rest) then = (u, mid, is, one, all_then u.state es fs mid m b t c rest then)

-- the count rises by few
all_few : (s : State) (es : List Entry) (a : ℕ) (t : State) (b : ℕ) → CountsAll s es a t b → b ≤ a + most_in s es
all_few s [] a t b (same, none) = omega (arith, none)
all_few s (e ∷ es) a t b (u, mid, is, one, rest) =
    subst (λ (o : Option Stepped). b ≤ a + (most_attempts e.event (length s.outstanding) + count_of o (λ (x : Stepped). most_in x.state es))) (sym is)
    (omega (arith, counts_few (at_moment_of e s) e.choice e.event a mid one, all_few u.state es mid t b rest))

module _ {K D : Type 0} where
  -- nothing was entered, and what is counted is as before
  counts_still : (a b : CoreState K D) → b.state ≡ a.state → b.tries ≡ a.tries → b.failures ≡ a.failures → CountsWork a [] b
  counts_still a b state tries failures = record {
    tries = (state, tries);
    few = omega (arith, tries);
    failures = omega (arith, failures);
    seal = sealed_same (keeper_of a) (keeper_of b) (ap (λ (s : State). s.sealed) state);
  }

  pub counts_none : (a : CoreState K D) → CountsWork a [] a
  counts_none a = counts_still a a refl refl refl

  -- at most the waiting frames are others
  pub counts_same : (a b : CoreState K D) → b ≡ record a { outbox = b.outbox } → CountsWork a [] b
  counts_same a b same = counts_still a b (ap (λ (r : CoreState K D). r.state) same) (ap (λ (r : CoreState K D). r.tries) same) (ap (λ (r : CoreState K D). r.failures) same)

  -- one entry
  pub counts_one : (a b : CoreState K D) (e : Entry) (sent : List Sent) → step a.state e ≡ Some (record { state = b.state; sent = sent }) → CountsTries (at_moment_of e a.state) e.choice e.event a.tries b.tries
      → a.failures ≤ b.failures → IsSealedForCause (keeper_of a) (keeper_of b) → CountsWork a (e ∷ []) b
  counts_one a b e sent stepped tries failures seal =
      let all : CountsAll a.state (e ∷ []) a.tries b.state b.tries = (record { state = b.state; sent = sent }, b.tries, stepped, tries, (refl, refl)) in
      record { tries = all; few = all_few a.state (e ∷ []) a.tries b.state b.tries all; failures = failures; seal = seal }

  -- for which the keeper was not asked
  pub counts_unasked : (a b : CoreState K D) (e : Entry) (sent : List Sent) → step a.state e ≡ Some (record { state = b.state; sent = sent }) → CountsTries (at_moment_of e a.state) e.choice e.event a.tries b.tries
      → b.failures ≡ a.failures → b.state.sealed ≡ a.state.sealed → CountsWork a (e ∷ []) b
  counts_unasked a b e sent stepped tries failures sealed =
      counts_one a b e sent stepped tries (omega (arith, failures)) (sealed_same (keeper_of a) (keeper_of b) sealed)

  -- entries after entries
  pub counts_on : (a b c : CoreState K D) (es fs : List Entry) → CountsWork a es b → CountsWork b fs c → CountsWork a (es ++ fs) c
  counts_on a b c es fs one two =
      let all = all_then a.state es fs a.tries b.state b.tries c.state c.tries one.tries two.tries in
      record {
        tries = all;
        few = all_few a.state (es ++ fs) a.tries c.state c.tries all;
        failures = omega (arith, one.failures, two.failures);
        seal = sealed_then (keeper_of a) (keeper_of b) (keeper_of c) one.failures two.failures one.seal two.seal;
      }
