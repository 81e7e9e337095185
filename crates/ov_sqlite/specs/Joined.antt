-- Cells that are put one at a time into the lines of their heads.
use Rattle.std.specs.Prelude.{◌≡◌, ◌≢◌, ℤ, ◌<ℤ◌, true, false, List, [], map, IsTrue, IfSome}
use Rattle.std.specs.List.{AllByRecursion}
use Rattle.sqlite.specs.declared.types.Value.TheVariants.{Int}
use Rattle.sqlite.specs.Order.{Row, column}
use Rattle.ov_specs.specs.rows.Cells.{have_heads}
use Rattle.ov_keeper.specs.declared.cell_line.CellLine.{CellLine}
use Rattle.ov_tables.specs.Format.{IsCell, head_of, cell_of}
use Rattle.ov_tables.specs.Holding.{IsNumbered}
use Rattle.ov_sqlite.specs.declared.join.Joining.{Joining}
use Rattle.ov_sqlite.specs.Joining.{AreDistinct, line_parts, head_parts}

-- the lines are those of these heads, without cells, and no two heads have one key
abbrev pub AreBare : List Row → List CellLine → Type 0
AreBare heads lines = AreDistinct heads × (map line_parts lines ≡ map (head_parts []) heads)

-- the lines are those of the heads, with these cells, each of which has its head
pub record AreJoined (heads cells : List Row) (lines : List CellLine) : Type 0 where
  pub joined : map line_parts lines ≡ map (head_parts cells) heads
  pub owned : have_heads (map head_of heads) (map cell_of cells) ≡ true

-- from its first state, it put these rows into their lines, each of which is a cell; their numbers ascend
pub record HasJoined (first now : Joining) (cells : List Row) : Type 0 where
  pub sound : now.is_malformed ≡ false
  pub are : AllByRecursion IsCell cells
  pub numbered : IsNumbered (λ r. r) cells
  pub below : (n : ℤ) → IfSome now.number (λ m. m <ℤ n)
      → AllByRecursion (λ r. column r 0 ≢ Int n) cells
  pub joins : (heads : List Row) → AreBare heads first.lines.items
      → AreJoined heads cells now.lines.items

-- it refused the last of these rows: if it calls it malformed, one of them is no cell, or has no head
abbrev pub HasRefused : Joining → Joining → List Row → Type 0
HasRefused first now cells =
    IsTrue now.is_malformed → AllByRecursion IsCell cells
    → (heads : List Row) → AreBare heads first.lines.items
    → have_heads (map head_of heads) (map cell_of cells) ≡ false
