use Rattle.std.proofs.Common.{List, String, Global, ap, ◌∙◌}
use Rattle.std.specs.List.{list_all}
use Rattle.ov_rows.specs.Named.{named}
use Rattle.ov_refs.specs.Holding.{TableHolders}
use Rattle.ov_refs.specs.Whole.{is_there}
use Rattle.ov_refs.proofs.ByTables.{are_all_in, by_tables}
use Rattle.ov_refs.proofs.whole.are_there.Goals as goal

pub loop-name-init : goal.loop-name-init
loop-name-init c =
    let test = is_there c.args.rows.now in
    ap (λ (ts : List (String Global × TableHolders)). list_all (are_all_in test) (named ts)) c.into_iter-name-iterator.ensures.into_iter_gives.0
    ∙ by_tables test (named c.tables-name-items.result.now.entries) ∙ ap (list_all test) c.tables-name-items.ensures
