use Rattle.std.proofs.Common.{◌≡◌, ◌++◌, map}
use Rattle.ov_rows.specs.Nested.{in_table}
use Rattle.ov_keeper.specs.Views.{changes_view}
use Rattle.ov_stored.specs.Changing.{as_puts, change_of}
use Rattle.ov_stored.specs.Stored.{ArePutRead}
use Rattle.ov_stored.proofs.changes.put_table.Given as goal

abbrev pub invariant-loop-id : goal.invariant-loop-id
invariant-loop-id l = record {
  made : changes_view l.changes.items ++ map change_of (as_puts (in_table l.name l.id-iterator)) ≡ changes_view l.fn.changes.items ++ map change_of (as_puts (in_table l.name l.initial.id-iterator));
  read : ArePutRead (as_puts (in_table l.name l.id-iterator)) → ArePutRead (as_puts (in_table l.name l.initial.id-iterator));
}
