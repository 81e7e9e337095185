use Rattle.std.proofs.Common.{◌≡◌, ◌||◌, false}
use Rattle.ov_specs.specs.rows.Suits.{Suits}
use Rattle.ov_integrity.specs.Pruning.{pruned_at_all}
use Rattle.ov_integrity.proofs.PrunedInTurn.{some_short}
use Rattle.ov_integrity.proofs.prune.prune.Given as goal

abbrev pub invariant-loop-key : goal.invariant-loop-key
invariant-loop-key l = record {
  before : l.stage.before ≡ l.fn.stage.before;
  now : pruned_at_all l.schema l.fn.stage.before l.version l.key-iterator.rest.items l.stage.now
      ≡ pruned_at_all l.schema l.fn.stage.before l.version l.initial.key-iterator.rest.items l.fn.stage.now;
  short : (l.short || some_short l.schema l.fn.stage.before l.version l.key-iterator.rest.items l.stage.now)
      ≡ some_short l.schema l.fn.stage.before l.version l.initial.key-iterator.rest.items l.fn.stage.now;
  suits : l.short ≡ false → Suits l.schema l.stage.now;
}
