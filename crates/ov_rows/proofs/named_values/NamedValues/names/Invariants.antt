use Rattle.std.proofs.Common.{◌≡◌, ◌++◌, map, string_bytes}
use Rattle.ov_rows.proofs.named_values.NamedValues.names.Given as goal

abbrev pub invariant-loop-name : goal.invariant-loop-name
invariant-loop-name l = map string_bytes l.names.items ++ map (λ e. string_bytes e.0) l.name-iterator ≡ map (λ e. string_bytes e.0) l.initial.name-iterator
