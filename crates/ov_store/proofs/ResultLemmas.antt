-- Several clauses on one outcome as one.
use Rattle.std.proofs.Common.{Result, Ok, Err, IfOk, IfErr}

pub ok_pair : {T E : Type 0} (r : Result T E) (A B : T → Type 0) → IfOk r A → IfOk r B → IfOk r (λ x. A x × B x)
ok_pair (Ok x) A B a b = (a, b)
ok_pair (Err e) A B a b = tt

pub err_pair : {T E : Type 0} (r : Result T E) (A B : E → Type 0) → IfErr r A → IfErr r B → IfErr r (λ e. A e × B e)
err_pair (Ok x) A B a b = tt
err_pair (Err e) A B a b = (a, b)
