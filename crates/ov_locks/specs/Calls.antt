-- The calls of the code as those of the definitions.
use Rattle.ov_specs.specs.locks.Queues as spec
use Rattle.ov_locks.specs.declared.call.LockCall.{LockCall}
use Rattle.ov_locks.specs.declared.call.LockCall.TheVariants.{Lock, Steal, Unlock}

-- a call on a lock
abbrev pub lock_call_view : LockCall → spec.LockCall
lock_call_view Lock = spec.Lock
lock_call_view Steal = spec.Steal
lock_call_view Unlock = spec.Unlock
