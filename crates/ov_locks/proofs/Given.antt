-- What holds if something is refused.
use Rattle.std.specs.Prelude.{Result, Ok, Err, OnErr}

pub on_err : {A E : Type 0} (r : Result A E) (P : Type 0) → P → OnErr r P
on_err (Ok a) P p = tt
on_err (Err e) P p = p
