use Rattle.std.proofs.Common.{◌≡◌, sym, ap, ◌∙◌, rules, Option, None}
use Rattle.std.specs.Prelude.{unwrap_or}
use Rattle.std.specs.FinMap.{empty, get, keys}
use Rattle.ov_index.specs.IndexKeys.{index_key}
use Rattle.ov_index.specs.Indexing.{IdSet}
use Rattle.ov_stage.proofs.Asking.{no-ids}
use Rattle.ov_stage.proofs.indexed.ids_at.Goals as goal

pub returns-in-None : goal.returns-in-None
returns-in-None c =
    let none : None ≡ get c.args.indexes.now (index_key c.args.table.now c.args.number c.args.values.now) = search rules in
    sym no-ids ∙ ap (λ (o : Option IdSet). keys (unwrap_or o empty)) none
