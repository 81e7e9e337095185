use Rattle.std.proofs.Common.{◌≡◌, ◌++◌, ◌+◌, ◌-◌, ◌≤◌, T, drop, length, map}
use Rattle.std.specs.FinMap.{is_sorted}
use Rattle.ov_rows.specs.Lending.{lent_row}
use Rattle.ov_rows.specs.Nested.{id_cmp}
use Rattle.ov_stage.specs.Staging.{place_each}
use Rattle.ov_stage.proofs.merge.merged.Given as goal

abbrev pub invariant-turns : goal.invariant-turns
invariant-turns l = record {
  row : l.i ≤ length l.rows;
  change : l.j ≤ length l.changes;
  rows : T (is_sorted id_cmp (map lent_row (drop l.i l.rows)));
  changes : T (is_sorted id_cmp (map (λ c. (c.0.now, c.1.now)) (drop l.j l.changes)));
  going : map lent_row l.merged.items ++ place_each id_cmp (map (λ c. (c.0.now, c.1.now)) (drop l.j l.changes)) (map lent_row (drop l.i l.rows))
      ≡ place_each id_cmp (map (λ c. (c.0.now, c.1.now)) l.changes) (map lent_row l.rows);
}

abbrev pub decreases-turns : goal.decreases-turns
decreases-turns l = (length l.rows - l.i) + (length l.changes - l.j)
