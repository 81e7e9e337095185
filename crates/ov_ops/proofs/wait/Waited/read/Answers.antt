use Rattle.std.proofs.Common.{◌≡◌, ℕ, List, sym, ap, ◌∙◌, rules, codes, Vec, Global}
use Rattle.std.proofs.lemmas.Result.{err_from_is_err_and}
use Rattle.std.specs.Option.{option_copied}
use Rattle.std.specs.Prelude.{Some, None, Ok, option_map, option_and_then}
use Rattle.serde_json.specs.Find as find
use Rattle.serde_json.specs.View.{view, items_view}
use Rattle.ov_specs.specs.operations.Members.{text_at, array_at}
use Rattle.ov_specs.specs.operations.OpOutcome.{names_in, ok_or_fault}
use Rattle.ov_specs.specs.operations.Wait.{timeout_read, compared_columns, until_of, told_rows, wait_outcome}
use Rattle.ov_specs.specs.values.Value.{Datum}
use Rattle.ov_given.specs.Waiting.{until_view}
use Rattle.ov_ops.specs.Outcomes.{context_of}
use Rattle.ov_ops.proofs.Going.{refuses, refused_by}
use Rattle.ov_ops.proofs.Awaiting.{from_table, from_conditions, from_compared, from_told, to_timeout, to_conditions, to_no_until, to_no_rows, to_rows}
use Rattle.ov_ops.proofs.wait.Waited.read.Goals as goal

pub returns-in_err-name : goal.returns-in_err-name
returns-in_err-name g c before rows =
    let t = context_of g.O.Owns.owned c.args.ctx.now before in
    let d = view c.args.operation.now in
    let p = err_from_is_err_and c.from_residual.result c.from_residual.ensures.1 in
    rw (p.1, p.2) (c.in_err-name.ensures before (from_table t rows d))

pub returns-in_err-conditions : goal.returns-in_err-conditions
returns-in_err-conditions g c before rows =
    let t = context_of g.O.Owns.owned c.args.ctx.now before in
    let d = view c.args.operation.now in
    let name = c.in_ok-name.name.now in
    let table = c.in_ok-name.table.now in
    let timeout = c.in_ok-timeout.timeout in
    let begins = c.in_ok-name.ensures before (from_table t rows d) in
    let limit : find.get (codes "timeout") d ≡ option_map view (option_copied c.get.result) = search rules in
    let timed : timeout_read (find.get (codes "timeout") d) ≡ Ok timeout = ap timeout_read limit ∙ c.in_ok-timeout.ensures in
    let p = err_from_is_err_and c.from_residual-in_err-conditions.result c.from_residual-in_err-conditions.ensures.1 in
    rw (p.1, p.2) (refused_by _ _ c.in_err-conditions.field-0.0 (to_timeout t rows d name table (wait_outcome t rows d) timeout begins timed) (c.in_err-conditions.ensures before (from_conditions t rows d name table timeout)))

pub returns-in_err-compared : goal.returns-in_err-compared
returns-in_err-compared g c before rows =
    let t = context_of g.O.Owns.owned c.args.ctx.now before in
    let d = view c.args.operation.now in
    let name = c.in_ok-name.name.now in
    let table = c.in_ok-name.table.now in
    let timeout = c.in_ok-timeout.timeout in
    let begins = c.in_ok-name.ensures before (from_table t rows d) in
    let limit : find.get (codes "timeout") d ≡ option_map view (option_copied c.get.result) = search rules in
    let timed : timeout_read (find.get (codes "timeout") d) ≡ Ok timeout = ap timeout_read limit ∙ c.in_ok-timeout.ensures in
    let conditions = c.in_ok-conditions.conditions.items in
    let read = c.in_ok-conditions.ensures before (from_conditions t rows d name table timeout) in
    let names : find.get (codes "columns") d ≡ option_map view (option_copied c.get-2.result) = search rules in
    let p = err_from_is_err_and c.from_residual-in_err-compared.result c.from_residual-in_err-compared.ensures.1 in
    let next = from_compared t rows d name table timeout conditions in
    rw (p.1, p.2) (refused_by _ _ c.in_err-compared.field-0.0
    (to_conditions t rows d name table (wait_outcome t rows d) timeout begins timed conditions read ∙ ap (λ o. ok_or_fault (compared_columns table o) next) names)
    (refuses (compared_columns table (option_map view (option_copied c.get-2.result))) (λ (v : Vec (List ℕ) Global). v.items) next c.in_err-compared.field-0.0 c.in_err-compared.ensures))

pub returns-in_default : goal.returns-in_default
returns-in_default g c before rows =
    let t = context_of g.O.Owns.owned c.args.ctx.now before in
    let d = view c.args.operation.now in
    let name = c.in_ok-name.name.now in
    let table = c.in_ok-name.table.now in
    let timeout = c.in_ok-timeout.timeout in
    let begins = c.in_ok-name.ensures before (from_table t rows d) in
    let limit : find.get (codes "timeout") d ≡ option_map view (option_copied c.get.result) = search rules in
    let timed : timeout_read (find.get (codes "timeout") d) ≡ Ok timeout = ap timeout_read limit ∙ c.in_ok-timeout.ensures in
    let conditions = c.in_ok-conditions.conditions.items in
    let read = c.in_ok-conditions.ensures before (from_conditions t rows d name table timeout) in
    let names : find.get (codes "columns") d ≡ option_map view (option_copied c.get-2.result) = search rules in
    let compared = c.in_ok-compared.compared.items in
    let chosen : compared_columns table (find.get (codes "columns") d) ≡ Ok compared = ap (compared_columns table) names ∙ c.in_ok-compared.ensures in
    let steps = to_no_until t rows d name table (wait_outcome t rows d) timeout begins timed conditions read compared chosen in
    let asked : option_and_then until_of (text_at (codes "until") d) ≡ None = search rules in
    steps asked

pub returns-in_default-until_of : goal.returns-in_default-until_of
returns-in_default-until_of g c before rows =
    let t = context_of g.O.Owns.owned c.args.ctx.now before in
    let d = view c.args.operation.now in
    let name = c.in_ok-name.name.now in
    let table = c.in_ok-name.table.now in
    let timeout = c.in_ok-timeout.timeout in
    let begins = c.in_ok-name.ensures before (from_table t rows d) in
    let limit : find.get (codes "timeout") d ≡ option_map view (option_copied c.get.result) = search rules in
    let timed : timeout_read (find.get (codes "timeout") d) ≡ Ok timeout = ap timeout_read limit ∙ c.in_ok-timeout.ensures in
    let conditions = c.in_ok-conditions.conditions.items in
    let read = c.in_ok-conditions.ensures before (from_conditions t rows d name table timeout) in
    let names : find.get (codes "columns") d ≡ option_map view (option_copied c.get-2.result) = search rules in
    let compared = c.in_ok-compared.compared.items in
    let chosen : compared_columns table (find.get (codes "columns") d) ≡ Ok compared = ap (compared_columns table) names ∙ c.in_ok-compared.ensures in
    let steps = to_no_until t rows d name table (wait_outcome t rows d) timeout begins timed conditions read compared chosen in
    let asked : option_and_then until_of (text_at (codes "until") d) ≡ None = search rules in
    steps asked

pub returns-in_default-and_then : goal.returns-in_default-and_then
returns-in_default-and_then g c before rows =
    let t = context_of g.O.Owns.owned c.args.ctx.now before in
    let d = view c.args.operation.now in
    let name = c.in_ok-name.name.now in
    let table = c.in_ok-name.table.now in
    let timeout = c.in_ok-timeout.timeout in
    let begins = c.in_ok-name.ensures before (from_table t rows d) in
    let limit : find.get (codes "timeout") d ≡ option_map view (option_copied c.get.result) = search rules in
    let timed : timeout_read (find.get (codes "timeout") d) ≡ Ok timeout = ap timeout_read limit ∙ c.in_ok-timeout.ensures in
    let conditions = c.in_ok-conditions.conditions.items in
    let read = c.in_ok-conditions.ensures before (from_conditions t rows d name table timeout) in
    let names : find.get (codes "columns") d ≡ option_map view (option_copied c.get-2.result) = search rules in
    let compared = c.in_ok-compared.compared.items in
    let chosen : compared_columns table (find.get (codes "columns") d) ≡ Ok compared = ap (compared_columns table) names ∙ c.in_ok-compared.ensures in
    let steps = to_no_until t rows d name table (wait_outcome t rows d) timeout begins timed conditions read compared chosen in
    let until = until_view c.in-Some-until_of.until in
    let asked : option_and_then until_of (text_at (codes "until") d) ≡ Some until = search rules in
    let none : array_at (codes "rows") d ≡ None = search rules in
    to_no_rows t rows d name table (wait_outcome t rows d) timeout begins timed conditions read compared chosen until asked none

pub returns-in_err-told : goal.returns-in_err-told
returns-in_err-told g c before rows =
    let t = context_of g.O.Owns.owned c.args.ctx.now before in
    let d = view c.args.operation.now in
    let name = c.in_ok-name.name.now in
    let table = c.in_ok-name.table.now in
    let timeout = c.in_ok-timeout.timeout in
    let begins = c.in_ok-name.ensures before (from_table t rows d) in
    let limit : find.get (codes "timeout") d ≡ option_map view (option_copied c.get.result) = search rules in
    let timed : timeout_read (find.get (codes "timeout") d) ≡ Ok timeout = ap timeout_read limit ∙ c.in_ok-timeout.ensures in
    let conditions = c.in_ok-conditions.conditions.items in
    let read = c.in_ok-conditions.ensures before (from_conditions t rows d name table timeout) in
    let names : find.get (codes "columns") d ≡ option_map view (option_copied c.get-2.result) = search rules in
    let compared = c.in_ok-compared.compared.items in
    let chosen : compared_columns table (find.get (codes "columns") d) ≡ Ok compared = ap (compared_columns table) names ∙ c.in_ok-compared.ensures in
    let steps = to_no_until t rows d name table (wait_outcome t rows d) timeout begins timed conditions read compared chosen in
    let until = until_view c.in-Some-until_of.until in
    let asked : option_and_then until_of (text_at (codes "until") d) ≡ Some until = search rules in
    let items = items_view c.as_slice-2.result.now in
    let found : array_at (codes "rows") d ≡ Some items = search rules in
    let next = from_told t rows d name table timeout conditions compared until in
    let p = err_from_is_err_and c.from_residual-in_err-told.result c.from_residual-in_err-told.ensures.1 in
    rw (p.1, p.2) (refused_by _ _ c.in_err-told.field-0.0
    (to_rows t rows d name table (wait_outcome t rows d) timeout begins timed conditions read compared chosen until asked items found ∙ (λ i. ok_or_fault (told_rows (names_in t) table (sym c.as_slice.ensures.value i) items) next))
    (refuses (told_rows (names_in t) table c.as_slice.result.now items) (λ (v : Vec (List (List ℕ × Datum)) Global). v.items) next c.in_err-told.field-0.0 c.in_err-told.ensures))

pub returns : goal.returns
returns g c before rows =
    let t = context_of g.O.Owns.owned c.args.ctx.now before in
    let d = view c.args.operation.now in
    let name = c.in_ok-name.name.now in
    let table = c.in_ok-name.table.now in
    let timeout = c.in_ok-timeout.timeout in
    let begins = c.in_ok-name.ensures before (from_table t rows d) in
    let limit : find.get (codes "timeout") d ≡ option_map view (option_copied c.get.result) = search rules in
    let timed : timeout_read (find.get (codes "timeout") d) ≡ Ok timeout = ap timeout_read limit ∙ c.in_ok-timeout.ensures in
    let conditions = c.in_ok-conditions.conditions.items in
    let read = c.in_ok-conditions.ensures before (from_conditions t rows d name table timeout) in
    let names : find.get (codes "columns") d ≡ option_map view (option_copied c.get-2.result) = search rules in
    let compared = c.in_ok-compared.compared.items in
    let chosen : compared_columns table (find.get (codes "columns") d) ≡ Ok compared = ap (compared_columns table) names ∙ c.in_ok-compared.ensures in
    let steps = to_no_until t rows d name table (wait_outcome t rows d) timeout begins timed conditions read compared chosen in
    let until = until_view c.in-Some-until_of.until in
    let asked : option_and_then until_of (text_at (codes "until") d) ≡ Some until = search rules in
    let items = items_view c.as_slice-2.result.now in
    let found : array_at (codes "rows") d ≡ Some items = search rules in
    let next = from_told t rows d name table timeout conditions compared until in
    to_rows t rows d name table (wait_outcome t rows d) timeout begins timed conditions read compared chosen until asked items found
    ∙ (λ i. ok_or_fault (told_rows (names_in t) table (sym c.as_slice.ensures.value i) items) next)
    ∙ ap (λ r. ok_or_fault r next) c.in_ok-told.ensures
