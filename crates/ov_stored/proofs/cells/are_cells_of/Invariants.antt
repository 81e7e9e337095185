use Rattle.std.proofs.Common.{◌≡◌, map}
use Rattle.ov_rows.proofs.Names.{paired}
use Rattle.ov_keeper.specs.Views.{cell_entry}
use Rattle.ov_stored.proofs.WrittenCells.{EachRead, written}
use Rattle.ov_stored.proofs.cells.are_cells_of.Given as goal

abbrev pub invariant-loop-name : goal.invariant-loop-name
invariant-loop-name l = record {
  same : map cell_entry l.rest ≡ map written (paired l.name-iterator.a.rest.now l.name-iterator.b)
      → map cell_entry l.fn.cells ≡ map written (paired l.initial.name-iterator.a.rest.now l.initial.name-iterator.b);
  read : EachRead (paired l.name-iterator.a.rest.now l.name-iterator.b) → EachRead (paired l.initial.name-iterator.a.rest.now l.initial.name-iterator.b);
}
