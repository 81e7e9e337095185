use Rattle.std.proofs.Common.{◌≡◌, ◌++◌, map}
use Rattle.ov_rows.proofs.named_values.NamedValues.into_values.Given as goal

abbrev pub invariant-loop-name : goal.invariant-loop-name
invariant-loop-name l = l.listed.items ++ map (λ e. e.1) l._name-iterator ≡ map (λ e. e.1) l.initial._name-iterator
