use Rattle.std.proofs.Common.{◌≡◌, ◌++◌, length, map}
use Rattle.std.specs.FinMap.{from_entries}
use Rattle.ov_schema.specs.NamedViews.{named_view}
use Rattle.ov_schema.proofs.NamedLemmas.{put_over}
use Rattle.ov_schema.proofs.named.ascending.Given as goal

abbrev pub invariant-loop-name : goal.invariant-loop-name
invariant-loop-name g l = put_over (from_entries (map named_view l.by_name.entries)) (map named_view l.named.items) ≡ from_entries (map named_view l.fn.named.items)

abbrev pub decreases-loop-name : goal.decreases-loop-name
decreases-loop-name g l = length l.named.items

abbrev pub invariant-loop-name-2 : goal.invariant-loop-name-2
invariant-loop-name-2 g l = map named_view l.initial.name-iterator ≡ l.ascending.items ++ map named_view l.name-iterator
