use Rattle.std.proofs.Common.{Vec, Global, ◌+◌, drop, sym, ap, ◌∙◌}
use Rattle.std.proofs.lemmas.Result.{err_from_is_err_and}
use Rattle.std.specs.Prelude.{Result}
use Rattle.serde_json.specs.Data.{Data}
use Rattle.serde_json.specs.View.{items_view}
use Rattle.ov_specs.specs.operations.Errors.{OpError}
use Rattle.ov_specs.specs.operations.Mutate.{mutations_read}
use Rattle.ov_specs.specs.operations.Mutators.{Mutation, mutation_error, mutation_read}
use Rattle.ov_specs.specs.values.Results.{result_map_err}
use Rattle.ov_specs.proofs.laws.Results.{after_these, item_more}
use Rattle.ov_given.proofs.InFront.{fault_of_all}
use Rattle.ov_given.proofs.mutated.mutations_of.Goals as goal

pub loop-item-preserved : goal.loop-item-preserved
loop-item-preserved g c =
    let names = g.N.Names.names c.args.names.now in
    let items = c.args.items.now in
    let i = c.loop-item.item-index in
    let table = c.args.table.now in
    let read : Data → Result Mutation OpError = λ d. result_map_err mutation_error (mutation_read names table d) in
    c.loop-item.invariant
    ∙ (item_more read items i c.item-item.result c.loop-item-test.true c.item-item.is c.loop-item.mutations.items c.in_ok-mutation.mutation c.in_ok-mutation.ensures
    ∙ ap (λ first. after_these first (mutations_read names table (items_view (drop (i + 1) items)))) (sym c.in_default.ensures.items))

pub returns-in_err-mutation : goal.returns-in_err-mutation
returns-in_err-mutation g c =
    let names = g.N.Names.names c.args.names.now in
    let items = c.args.items.now in
    let i = c.loop-item.item-index in
    let table = c.args.table.now in
    let read : Data → Result Mutation OpError = λ d. result_map_err mutation_error (mutation_read names table d) in
    let p = err_from_is_err_and c.from_residual.result c.from_residual.ensures.1 in
    rw (p.1, p.2) (fault_of_all (λ (v : Vec Mutation Global). v.items) read items i c.item-item.result c.loop-item-test.true c.item-item.is c.loop-item.mutations.items c.in_err-mutation.field-0.0 c.in_err-mutation.ensures
    (mutations_read names table (items_view items)) c.loop-item.invariant)
