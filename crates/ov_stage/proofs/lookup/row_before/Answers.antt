use Rattle.std.proofs.Common.{◌≡◌, option_map, ap, sym, ◌∙◌}
use Rattle.std.specs.FinMap.{get}
use Rattle.ov_rows.specs.Lending.{lent_row_of}
use Rattle.ov_specs.specs.rows.Lines.{LineKey}
use Rattle.ov_stage.specs.Staging.{entry_if_found}
use Rattle.ov_stage.proofs.Lookups.{get-no_table, get-of_table, keyed-lent}
use Rattle.ov_stage.proofs.lookup.row_before.Goals as goal

pub returns-in-Some : goal.returns-in-Some
returns-in-Some c =
    let rows = c.args.rows.now in
    let name = c.table.result.now in
    let id = c.id.result in
    let table = c.in-Some.table.now in
    let key : (name, id) ≡ c.args.key.now = λ i. (c.table.ensures i, c.id.ensures i) in
    ap (λ n. option_map (lent_row_of n) c.row_in.result) (sym c.table.ensures)
    ∙ keyed-lent name id c.row_in.result (get table id) c.row_in.ensures
    ∙ ap (entry_if_found (name, id)) (sym (get-of_table name id rows table c.in-Some.ensures))
    ∙ ap (λ (k : LineKey). entry_if_found k (get rows k)) key

pub returns-in-None : goal.returns-in-None
returns-in-None c =
    let rows = c.args.rows.now in
    let name = c.table.result.now in
    let key : (name, c.args.key.now.1) ≡ c.args.key.now = λ i. (c.table.ensures i, c.args.key.now.1) in
    sym (ap (λ (k : LineKey). entry_if_found k (get rows k)) (sym key) ∙ ap (entry_if_found (name, c.args.key.now.1)) (get-no_table name c.args.key.now.1 rows c.in-None.ensures))
