use Rattle.std.proofs.Common.{sym, ap, ◌∙◌}
use Rattle.std.specs.Prelude.{option_and_then}
use Rattle.std.specs.FinMap.{get}
use Rattle.ov_index.specs.IndexKeys.{index_key}
use Rattle.ov_index.specs.Indexing.{Indexes}
use Rattle.ov_index.specs.Nested.{TableIndexes, numbered}
use Rattle.ov_index.proofs.IdMaps.{get_whole}
use Rattle.ov_index.proofs.IndexMaps.{by_names}
use Rattle.ov_index.proofs.indexes.Indexes.at.Goals as goal

pub returns-in-Some : goal.returns-in-Some
returns-in-Some c =
    c.at.ensures ∙ ap (option_and_then (λ (table : TableIndexes). get table (numbered c.args.number c.args.values.now))) c.in-Some.ensures.value
    ∙ sym (get_whole by_names c.self.inside.tables.entries c.args.table.now (numbered c.args.number c.args.values.now) c.self.invariant)
    ∙ ap (λ (indexes : Indexes). get indexes (index_key c.args.table.now c.args.number c.args.values.now)) c.self.view_is

pub returns-in-None : goal.returns-in-None
returns-in-None c =
    ap (option_and_then (λ (table : TableIndexes). get table (numbered c.args.number c.args.values.now))) c.in-None.ensures.value
    ∙ sym (get_whole by_names c.self.inside.tables.entries c.args.table.now (numbered c.args.number c.args.values.now) c.self.invariant)
    ∙ ap (λ (indexes : Indexes). get indexes (index_key c.args.table.now c.args.number c.args.values.now)) c.self.view_is
