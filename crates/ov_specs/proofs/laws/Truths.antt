-- Truth of && and ||, the sides of a condition, and what an order's answer is.
use Rattle.std.proofs.Common.{◌≡◌, ◌==◌, ℕ, Bool, true, false, T, ◌&&◌, ◌||◌, cond, not, refl}
use Rattle.std.proofs.lemmas.Bool.Decides.{nat_tests}
use Rattle.std.proofs.Common.{arith}
use Rattle.std.specs.declared.cmp.Ordering.{Ordering}
use Rattle.std.specs.declared.cmp.Ordering.TheVariants.{Less, Equal, Greater}
use Rattle.std.specs.Ordering.{is_eq, is_lt, ordering_then}

-- both are true
pub both_hold : (a b : Bool) → T a → T b → T (a && b)
both_hold true b p q = q
both_hold false b p q = p

pub left_holds : (a b : Bool) → T (a && b) → T a
left_holds true b h = tt
left_holds false b h = h

pub right_holds : (a b : Bool) → T (a && b) → T b
right_holds true b h = h
right_holds false b h = absurd h

pub or_nothing : (b : Bool) → (b || false) ≡ b
or_nothing true = refl
or_nothing false = refl

pub or_truth : (b : Bool) → (b || true) ≡ true
or_truth true = refl
or_truth false = refl

pub was_not : (b : Bool) → not b ≡ true → b ≡ false
was_not true h = cc
was_not false h = refl

pub right_fails : (a b : Bool) → (a || b) ≡ false → b ≡ false
right_fails true b h = cc
right_fails false b h = h

-- a condition that is turned
pub cond-not : {A : Type 0} (b : Bool) (x y : A) → cond (not b) x y ≡ cond b y x
cond-not true x y = refl
cond-not false x y = refl

-- a condition that is asked twice
pub cond-twice : {A : Type 0} (b : Bool) (x y : A) → cond b x y ≡ cond b x (cond b x y)
cond-twice true x y = refl
cond-twice false x y = refl

pub less_is : (r : Ordering) → T (is_lt r) → r ≡ Less
less_is Less h = refl
less_is Equal h = absurd h
less_is Greater h = absurd h

pub equal_is : (r : Ordering) → is_eq r ≡ true → r ≡ Equal
equal_is Less h = cc
equal_is Equal h = refl
equal_is Greater h = cc

pub then_equal : (r : Ordering) → r ≡ ordering_then r Equal
then_equal Less = refl
then_equal Equal = refl
then_equal Greater = refl

pub zero_is : (n : ℕ) → (n == 0) ≡ true → n ≡ 0
zero_is n h = grind (arith, nat_tests, h)

-- what is less is not equal
pub not_tied : (o : Ordering) → T (is_lt o) → is_eq o ≡ false
not_tied Less h = refl
not_tied Equal h = absurd h
not_tied Greater h = absurd h
