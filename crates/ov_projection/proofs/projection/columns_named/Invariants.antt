use Rattle.std.proofs.Common.{◌≡◌, ◌++◌, drop, map, filter}
use Rattle.std.specs.List.{list_any}
use Rattle.std.specs.Str.{bytes_eq}
use Rattle.ov_projection.proofs.projection.columns_named.Given as goal

abbrev pub invariant-loop-name : goal.invariant-loop-name
invariant-loop-name l =
    filter (λ name. list_any (bytes_eq name) l.names) (map (λ c. c.0) l.name-items)
    ≡ l.named.items ++ filter (λ name. list_any (bytes_eq name) l.names) (map (λ c. c.0) (drop l.name-index l.name-items))
