use Rattle.std.proofs.Common.{sym, ap, subst, ◌∙◌}
use Rattle.ov_specs.specs.locks.Queues.{names_of}
use Rattle.ov_specs.proofs.laws.LockQueues.{DoQueuesAscend}
use Rattle.ov_locks.specs.Held.{names_asked, requests_in}
use Rattle.ov_locks.proofs.Tables.{Freeing, none-ascend}
use Rattle.ov_locks.proofs.table.LockTable.new.Goals as goal

pub invariant_of-result : goal.invariant_of-result
invariant_of-result c = (
  subst DoQueuesAscend (sym c.new.ensures) none-ascend,
  λ session. ap (names_asked session) c.new-2.ensures ∙ sym (ap (names_of session) c.new.ensures),
  ap (λ (f : Freeing). f.1) c.new-3.ensures ∙ sym (ap requests_in c.new-2.ensures),
)
