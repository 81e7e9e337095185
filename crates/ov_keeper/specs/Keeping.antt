-- How a call of a keeper changes the contents that an open would find.
use Rattle.std.specs.Prelude.{◌≡◌, ◌⊎◌, ◌<◌, ◌-◌, ◌^◌, ℕ, List}
use Rattle.std.specs.FinMap.{empty}
use Rattle.ov_specs.specs.rows.Cells.{CellChange, CellLines, Stored, StoredLines, Whole, InCells, after_cell_changes}
use Rattle.ov_keeper.specs.declared.keeper.Loaded.{Loaded}
use Rattle.ov_keeper.specs.declared.fault.KeepFault.{KeepFault}
use Rattle.ov_keeper.specs.declared.fault.KeepFault.TheVariants.{Memory, Device, NotOurs, Format, TooLarge}
use Rattle.ov_keeper.specs.Views.{lines_view}

-- the rows that are in cells; a keeper of format 2 finds no others
abbrev pub cells_in : StoredLines → CellLines
cells_in (Whole lines) = empty
cells_in (InCells lines) = lines

-- the contents after the changes, in format 2
abbrev pub changed : List CellChange → Stored → Stored
changed changes held = record { schema = held.schema; lines = InCells (after_cell_changes changes (cells_in held.lines)) }

-- whatever may be found now might have been found before
abbrev pub LeavesNoMore : (Stored → Type 0) → (Stored → Type 0) → Type 0
LeavesNoMore old new = (held : Stored) → new held → old held

-- whatever may be found now is what might have been found before, made into what `made` makes of it
abbrev pub LeavesMade : (Stored → Stored) → (Stored → Type 0) → (Stored → Type 0) → Type 0
LeavesMade made old new = (held : Stored) → new held → (before : Stored) × old before × (held ≡ made before)

-- whatever may be found now is what might have been found before, as it was or made so
abbrev pub MayLeaveMade : (Stored → Stored) → (Stored → Type 0) → (Stored → Type 0) → Type 0
MayLeaveMade made old new = (held : Stored) → new held → old held ⊎ ((before : Stored) × old before × (held ≡ made before))

-- what a refusal leaves of a call that would have made them so; a fault that only an open can find is no answer to it
abbrev pub LeavesRefused : (Stored → Stored) → (Stored → Type 0) → (Stored → Type 0) → KeepFault → Type 0
LeavesRefused made old new Device = MayLeaveMade made old new
LeavesRefused made old new Memory = LeavesNoMore old new
LeavesRefused made old new TooLarge = LeavesNoMore old new
LeavesRefused made old new NotOurs = ⊥
LeavesRefused made old new Format = ⊥

-- a commit or a rewrite is refused when out of memory, by the device, or for changes that are too large;
-- only an open can find the others
abbrev pub IsCommitFault : KeepFault → Type 0
IsCommitFault Memory = Unit {0}
IsCommitFault Device = Unit {0}
IsCommitFault TooLarge = Unit {0}
IsCommitFault NotOurs = ⊥
IsCommitFault Format = ⊥

-- a load is refused when out of memory, or by the device
abbrev pub IsLoadFault : KeepFault → Type 0
IsLoadFault Memory = Unit {0}
IsLoadFault Device = Unit {0}
IsLoadFault TooLarge = ⊥
IsLoadFault NotOurs = ⊥
IsLoadFault Format = ⊥

-- the device has failed in between: its count rose, or was already at its maximum
abbrev pub HasFailed : ℕ → ℕ → Type 0
HasFailed old new = (old < new) ⊎ (old ≡ 2 ^ 64 - 1)

-- the contents that were loaded
abbrev pub loaded_contents : Loaded → Stored
loaded_contents loaded = record { schema = loaded.schema; lines = lines_view loaded.lines }
