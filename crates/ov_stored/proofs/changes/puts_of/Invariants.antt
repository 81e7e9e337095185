use Rattle.std.proofs.Common.{◌≡◌, ◌++◌, map}
use Rattle.ov_rows.specs.Named.{named}
use Rattle.ov_rows.specs.Nested.{all_rows}
use Rattle.ov_keeper.specs.Views.{changes_view}
use Rattle.ov_stored.specs.Changing.{as_puts, change_of}
use Rattle.ov_stored.specs.Stored.{ArePutRead}
use Rattle.ov_stored.proofs.changes.puts_of.Given as goal

abbrev pub invariant-loop-name : goal.invariant-loop-name
invariant-loop-name l = record {
  made : changes_view l.changes.items ++ map change_of (as_puts (all_rows (named l.name-iterator))) ≡ map change_of (as_puts (all_rows (named l.initial.name-iterator)));
  read : ArePutRead (as_puts (all_rows (named l.name-iterator))) → ArePutRead (as_puts (all_rows (named l.initial.name-iterator)));
}
