-- What the calls of a transaction write, one after the other.
use Rattle.std.proofs.Common.{◌≡◌, ◌∙◌, ℕ, List, Result, Ok, Err, IsErrAnd, IsTrue, MutBor, refl, arith}
use Rattle.sqlite.specs.declared.error.Error.{Error}
use Rattle.sqlite.specs.Order.{Row}
use Rattle.sqlite.specs.Store.{Ghosts}
use Rattle.sqlite.specs.State.{State, HasCleanDisk, Survives, ExecutesInside}
use Rattle.sqlite.specs.Held.{Held, state}
use Rattle.ov_specs.specs.rows.Cells.{CellLines}
use Rattle.ov_tables.specs.Inside.{WasOpenInside, CommitsNothing}
use Rattle.ov_tables.proofs.KeepLemmas.{on_ok, keeps_now, keeps_then, nothing_now, nothing_then, inside_keeps}
use Rattle.ov_sqlite.specs.Changing.{MakesRows}
use Rattle.ov_sqlite.specs.Writing.{WritesTables}
use Rattle.ov_sqlite.proofs.RunLemmas.{makes_then}

module _ {S T : Type 0} {g : Ghosts S} {May : List ℕ → State → Type 0} {Did : List ℕ → State → State → Type 0} where
  -- nothing was done
  pub writes_none : (x : T) (a : MutBor (Held S)) → ((text : List ℕ) → IsTrue (state g a.now).in_transaction → May text (state g a.now) → Did text (state g a.now) (state g a.now)) → WritesTables g (Ok x) May Did a a
  writes_none x a did = record {
    same_reference = refl;
    ok = λ text clean mode may. did text mode may;
    goes_on = λ clean mode. mode;
    kept = λ clean mode. keeps_now _;
    survives = nothing_now _;
  }

  module _ {a b : MutBor (Held S)} where
    -- a statement was run
    pub writes_by : (sql : List ℕ) (params : Row) (n : ℕ) (x : T) → b.ghost_name ≡ a.ghost_name → (HasCleanDisk (state g b.now) → IsTrue (state g a.now).in_transaction → ExecutesInside 0 sql params (state g a.now) (state g b.now) (Ok n))
        → Survives (state g a.now) (state g b.now) (λ _. ⊥) → ((text : List ℕ) → May text (state g a.now) → ExecutesInside 0 sql params (state g a.now) (state g b.now) (Ok n) → Did text (state g a.now) (state g b.now)) → WritesTables g (Ok x) May Did a b
    writes_by sql params n x same runs survives did = record {
      same_reference = same;
      ok = λ text clean mode may. did text may (runs clean mode);
      goes_on = λ clean mode. (runs clean mode).1.mode;
      kept = λ clean mode. inside_keeps sql params _ _ (Ok n) (runs clean mode);
      survives = survives;
    }

    -- a call that failed: of that nothing more is asked
    pub writes_failed : {U : Type 0} {MayFirst : List ℕ → State → Type 0} {First : List ℕ → State → State → Type 0} {q : Result U Error} (P : Error → Type 0) (r : Result T Error) → IsErrAnd r P
        → WritesTables g q MayFirst First a b → WritesTables g r May Did a b
    writes_failed P (Ok x) is one = absurd is
    writes_failed P (Err e) is one = record { same_reference = one.same_reference; ok = λ text clean mode may. tt; goes_on = λ clean mode. tt; kept = one.kept; survives = one.survives }

    -- what was done is also something else
    pub writes_as : {MayFirst : List ℕ → State → Type 0} {First : List ℕ → State → State → Type 0} (r : Result T Error) → WritesTables g r MayFirst First a b
        → ((text : List ℕ) → May text (state g a.now) → MayFirst text (state g a.now) × (First text (state g a.now) (state g b.now) → Did text (state g a.now) (state g b.now))) → WritesTables g r May Did a b
    writes_as r one is = record {
      same_reference = one.same_reference;
      ok = λ text clean mode may. let it = is text may in on_ok r (one.ok text clean mode it.0) it.1;
      goes_on = one.goes_on;
      kept = one.kept;
      survives = one.survives;
    }

    -- a call after something that wrote nothing to the disk
    pub writes_after : {MayThen : List ℕ → State → Type 0} {Then : List ℕ → State → State → Type 0} {c : MutBor (Held S)} (r : Result T Error) → b.ghost_name ≡ a.ghost_name
        → (HasCleanDisk (state g b.now) → IsTrue (state g a.now).in_transaction → IsTrue (state g b.now).in_transaction) → CommitsNothing (state g a.now) (state g b.now) → Survives (state g a.now) (state g b.now) (λ _. ⊥) → WritesTables g r MayThen Then b c
        → ((text : List ℕ) → HasCleanDisk (state g b.now) → IsTrue (state g a.now).in_transaction → May text (state g a.now) → (late : List ℕ) × MayThen late (state g b.now) × (Then late (state g b.now) (state g c.now) → Did text (state g a.now) (state g c.now)))
        → WritesTables g r May Did a c
    writes_after {c = c} r same goes_on kept survives two is =
        let early = λ (clean : HasCleanDisk (state g c.now)). let before : HasCleanDisk (state g b.now) = omega (arith, two.survives.clean) in before in
        record {
          same_reference = two.same_reference ∙ same;
          ok = λ text clean mode may. let it = is text (early clean) mode may in on_ok r (two.ok it.0 clean (goes_on (early clean) mode) it.1) it.2;
          goes_on = λ clean mode. two.goes_on clean (goes_on (early clean) mode);
          kept = λ clean mode. keeps_then _ _ _ (kept (early clean) mode) (two.kept clean (goes_on (early clean) mode));
          survives = nothing_then _ _ _ survives two.survives;
        }

    -- a call that failed after one that succeeded
    pub writes_broken : {U V : Type 0} {MayFirst MayThen : List ℕ → State → Type 0} {First Then : List ℕ → State → State → Type 0} {x : U} {q : Result V Error} {c : MutBor (Held S)} (P : Error → Type 0) (r : Result T Error) → IsErrAnd r P
        → WritesTables g (Ok x) MayFirst First a b → WritesTables g q MayThen Then b c → WritesTables g r May Did a c
    writes_broken P (Ok x) is one two = absurd is
    writes_broken {c = c} P (Err e) is one two =
        let early = λ (clean : HasCleanDisk (state g c.now)). let before : HasCleanDisk (state g b.now) = omega (arith, two.survives.clean) in before in
        record {
          same_reference = two.same_reference ∙ one.same_reference;
          ok = λ text clean mode may. tt;
          goes_on = λ clean mode. tt;
          kept = λ clean mode. keeps_then _ _ _ (one.kept (early clean) mode) (two.kept clean (one.goes_on (early clean) mode));
          survives = nothing_then _ _ _ one.survives two.survives;
        }

-- what succeeds after a call that succeeds only over an open connection does so too
pub opened_first : {T : Type 0} (a b c : State) (r : Result T Error) → (HasCleanDisk b → IsTrue a.in_transaction → IsTrue a.is_open) → Survives b c (λ _. ⊥) → WasOpenInside a c r
opened_first a b c (Ok x) opened survives = λ clean mode. let early : HasCleanDisk b = omega (arith, survives.clean) in opened early mode
opened_first a b c (Err e) opened survives = λ clean mode. tt

-- a change of the rows after another
module _ {S T U : Type 0} {g : Ghosts S} {May MayThen : List ℕ → State → Type 0} {P Q R : CellLines → CellLines → Type 0} {x : U} {a b c : MutBor (Held S)} where
  pub rows_then : (r : Result T Error) → WritesTables g (Ok x) May (MakesRows P) a b → WritesTables g r MayThen (MakesRows Q) b c
      → ((text : List ℕ) → May text (state g a.now) → MakesRows P text (state g a.now) (state g b.now) → MayThen text (state g b.now)) → ((k l m : CellLines) → P k l → Q l m → R k m) → WritesTables g r May (MakesRows R) a c
  rows_then r one two may_then is =
      writes_after r one.same_reference one.goes_on one.kept one.survives two
      (λ text clean mode may. let made = one.ok text clean mode may in (text, may_then text may made, λ then. makes_then text P Q R (state g a.now) (state g b.now) (state g c.now) is made then))
