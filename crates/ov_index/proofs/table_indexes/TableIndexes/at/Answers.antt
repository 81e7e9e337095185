use Rattle.std.proofs.Common.{sym, ap, ◌∙◌}
use Rattle.std.specs.Prelude.{option_and_then}
use Rattle.std.specs.FinMap.{get}
use Rattle.ov_index.specs.Nested.{IdsByValues, TableIndexes, numbered}
use Rattle.ov_index.proofs.IdMaps.{get_whole}
use Rattle.ov_index.proofs.IndexMaps.{by_numbers}
use Rattle.ov_index.proofs.table_indexes.TableIndexes.at.Goals as goal

pub returns-in-Some : goal.returns-in-Some
returns-in-Some c =
    c.at.ensures ∙ ap (option_and_then (λ (index : IdsByValues). get index c.args.values.now)) c.in-Some.ensures.value
    ∙ sym (get_whole by_numbers c.self.inside.indexes.entries c.args.number c.args.values.now c.self.invariant)
    ∙ ap (λ (table : TableIndexes). get table (numbered c.args.number c.args.values.now)) c.self.view_is

pub returns-in-None : goal.returns-in-None
returns-in-None c =
    ap (option_and_then (λ (index : IdsByValues). get index c.args.values.now)) c.in-None.ensures.value
    ∙ sym (get_whole by_numbers c.self.inside.indexes.entries c.args.number c.args.values.now c.self.invariant)
    ∙ ap (λ (table : TableIndexes). get table (numbered c.args.number c.args.values.now)) c.self.view_is
