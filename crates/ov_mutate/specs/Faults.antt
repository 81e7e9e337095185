-- What a call that reads or applies a mutation may return.
use Rattle.std.specs.Prelude.{◌≡◌, Result, Ok, Err}
use Rattle.ov_specs.specs.operations.Mutators as mutators
use Rattle.ov_atoms.specs.declared.fault.AtomFault.{AtomFault}
use Rattle.ov_atoms.specs.declared.fault.AtomFault.TheVariants as atom
use Rattle.ov_mutate.specs.declared.fault.MutationFault.{MutationFault}
use Rattle.ov_mutate.specs.declared.fault.MutationFault.TheVariants.{Syntax, UnknownColumn, Clash, NotMutable, Memory}
use Rattle.ov_mutate.specs.declared.fault.MutateFault.{MutateFault}
use Rattle.ov_mutate.specs.declared.fault.MutateFault.TheVariants as made

-- why a value cannot be read, as the fault of its mutation
abbrev pub fault_of : AtomFault → MutationFault
fault_of atom.Syntax = Syntax
fault_of atom.Clash = Clash
fault_of atom.Memory = Memory

-- what is read, or the fault instead; "out of memory" may be returned in any case
abbrev pub IsMutationRead : {A B : Type 0} → (A → B) → Result B mutators.MutationFault → Result A MutationFault → Type 0
IsMutationRead seen read (Ok a) = read ≡ Ok (seen a)
IsMutationRead seen read (Err Syntax) = read ≡ Err mutators.BadMutation
IsMutationRead seen read (Err UnknownColumn) = read ≡ Err mutators.NoColumn
IsMutationRead seen read (Err Clash) = read ≡ Err mutators.Clash
IsMutationRead seen read (Err NotMutable) = read ≡ Err mutators.NotMutable
IsMutationRead seen read (Err Memory) = Unit {0}

-- what is made, or the fault instead; "out of memory" may be returned in any case
abbrev pub IsMutated : {A B : Type 0} → (A → B) → Result B mutators.MutateError → Result A MutateFault → Type 0
IsMutated seen answer (Ok a) = answer ≡ Ok (seen a)
IsMutated seen answer (Err made.Domain) = answer ≡ Err mutators.Domain
IsMutated seen answer (Err made.Range) = answer ≡ Err mutators.Range
IsMutated seen answer (Err made.Constraint) = answer ≡ Err mutators.Constraint
IsMutated seen answer (Err made.Memory) = Unit {0}
