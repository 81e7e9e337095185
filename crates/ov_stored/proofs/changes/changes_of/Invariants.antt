use Rattle.std.proofs.Common.{◌≡◌, ◌++◌, map}
use Rattle.ov_keeper.specs.Views.{changes_view}
use Rattle.ov_stored.specs.Changing.{change_of}
use Rattle.ov_stored.specs.Stored.{ArePutRead}
use Rattle.ov_stored.proofs.changes.changes_of.Given as goal

abbrev pub invariant-loop-key : goal.invariant-loop-key
invariant-loop-key l = record {
  made : changes_view l.changes.items ++ map change_of l.key-iterator ≡ map change_of l.initial.key-iterator;
  read : ArePutRead l.key-iterator → ArePutRead l.initial.key-iterator;
}
