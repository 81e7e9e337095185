use Rattle.std.proofs.Common.{◌++◌, List, map, sym, ap, subst, ◌∙◌, string_bytes, String, Global}
use Rattle.std.proofs.lemmas.List.{append_assoc}
use Rattle.std.specs.FinMap.{entries}
use Rattle.ov_rows.specs.Named.{named}
use Rattle.ov_rows.specs.Nested.{TableRows, in_table, all_rows}
use Rattle.ov_keeper.specs.Views.{changes_view}
use Rattle.ov_stored.specs.Changing.{as_puts, change_of}
use Rattle.ov_stored.specs.Stored.{ArePutRead}
use Rattle.ov_stored.proofs.Putting.{puts_together, read_together}
use Rattle.ov_stored.proofs.changes.puts_of.Goals as goal

pub loop-name-preserved : goal.loop-name-preserved
loop-name-preserved c =
    let name = string_bytes c.in-Some.name.now in
    let here = in_table name (entries c.in-Some.table.now) in
    let rest = all_rows (named c.next.new.self) in
    let before = changes_view c.loop-name.changes.items in
    let steps = c.in-Some.ensures.steps in
    record {
      made =
          ap (λ cs. cs ++ map change_of (as_puts rest)) (c.in_ok-put_table.ensures.changes ∙ ap (λ n. before ++ map change_of (as_puts (in_table n (entries c.in-Some.table.now)))) c.as_str.ensures.value)
          ∙ append_assoc before (map change_of (as_puts here)) (map change_of (as_puts rest))
          ∙ ap (λ cs. before ++ cs) (sym (puts_together here rest))
          ∙ ap (λ (ts : List (String Global × TableRows)). before ++ map change_of (as_puts (all_rows (named ts)))) (sym steps)
          ∙ c.loop-name.invariant.made;
      read = λ also.
          c.loop-name.invariant.read (subst (λ (ts : List (String Global × TableRows)). ArePutRead (as_puts (all_rows (named ts)))) (sym steps)
          (read_together here rest (subst (λ n. ArePutRead (as_puts (in_table n (entries c.in-Some.table.now)))) c.as_str.ensures.value c.in_ok-put_table.ensures.read) also));
    }
