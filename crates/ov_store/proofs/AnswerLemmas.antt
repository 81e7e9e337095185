-- From the result of a call to what its contract says was answered. The result is given by the name of the call.
use Rattle.std.proofs.Common.{◌≡◌, Result, Ok, Err, IfErr}
use Rattle.ov_store.specs.Answers.{WasAnswered, was_answered}

-- the call returned this value, of which the contract sees so much
pub value_told : {C T B E : Type 0} (call : C) (view : T → B) (r : Result T E) (x : T) → r ≡ Ok x → WasAnswered {A = Result B E} call (Ok (view x))
value_told call view r x is = was_answered call (Ok (view x))

-- it returned this error in place of a value
pub error_told : {C T E : Type 0} (B : Type 0) (call : C) (r : Result T E) (e : E) → r ≡ Err e → WasAnswered {A = Result B E} call (Err e)
error_told B call r e is = was_answered call (Err e)

-- the same, where only the error is spoken of
pub refusal_told : {C T E : Type 0} (call : C) (r : Result T E) (e : E) → r ≡ Err e → WasAnswered call e
refusal_told call r e is = was_answered call e

-- the same of a result that is passed on
pub refusals_told : {C T E : Type 0} (call : C) (r : Result T E) → IfErr r (WasAnswered call)
refusals_told call (Ok x) = tt
refusals_told call (Err e) = was_answered call e

-- and where it comes with more
pub paired_told : {C T E X : Type 0} (call : C) (r : Result T (E × X)) (e : E) (x : X) → r ≡ Err (e, x) → WasAnswered call e
paired_told call r e x is = was_answered call e
