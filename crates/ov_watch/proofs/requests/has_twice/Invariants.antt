use Rattle.std.proofs.Common.{◌≡◌, ℕ, List, false, map, take}
use Rattle.std.specs.List.{list_any}
use Rattle.std.specs.Str.{bytes_eq}
use Rattle.ov_specs.specs.schema.Schema.{has_twice}
use Rattle.ov_watch.proofs.Twice.{any_key}
use Rattle.ov_watch.proofs.requests.has_twice.Given as goal

abbrev pub invariant-loop-name : goal.invariant-loop-name
invariant-loop-name l = record {
  once : has_twice (map (λ t. t.now) (take l.name-index l.names)) ≡ false;
  seen : (q : List ℕ) → any_key q l.seen.keys ≡ list_any (bytes_eq q) (map (λ t. t.now) (take l.name-index l.names));
}
