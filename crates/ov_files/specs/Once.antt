-- What a `FailsOnce` shows.
use Rattle.std.specs.Prelude.{◌≡◌, ℕ, zero, suc, Option, None, Some, false}
use Rattle.ov_files.specs.declared.once.FailsOnce.{FailsOnce}

-- the disk that it passes calls on to
abbrev pub inner_of : {D : Type 0} → FailsOnce D → D
inner_of f = f.inner

-- how many calls it passes on before the one that fails; none once that has failed
abbrev pub calls_left : {D : Type 0} → FailsOnce D → Option ℕ
calls_left f = f.calls_left

-- the same after one more call
abbrev pub after_one_call : Option ℕ → Option ℕ
after_one_call None = None
after_one_call (Some zero) = None
after_one_call (Some (suc calls)) = Some calls

-- it has failed no call
abbrev pub IsFresh : {D : Type 0} → FailsOnce D → Type 0
IsFresh f = (f.failed ≡ 0) × (f.sync_failed ≡ false)
