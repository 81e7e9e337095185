use Rattle.std.proofs.Common.{◌≡◌, ◌≤◌, ◌++◌, length, take, map, string_bytes}
use Rattle.ov_rows.proofs.named_values.NamedValues.has_names.Given as goal

abbrev pub invariant-loop-name : goal.invariant-loop-name
invariant-loop-name l = record {
  within : l.place ≤ length l.listed;
  same : map string_bytes (take l.place l.listed) ++ map (λ e. string_bytes e.0) l.name-iterator ≡ map (λ e. string_bytes e.0) l.initial.name-iterator;
}
