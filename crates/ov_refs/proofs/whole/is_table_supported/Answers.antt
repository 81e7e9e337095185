use Rattle.std.proofs.Common.{◌≡◌, ◌↔◌, List, length, IsTrue, sym, subst, ◌∙◌}
use Rattle.std.specs.FinMap.{entries}
use Rattle.ov_specs.specs.rows.Database.{Row}
use Rattle.ov_specs.specs.values.Uuid.{Uuid}
use Rattle.ov_refs.proofs.WholeLinks.{root_table, held_table, held_by_none}
use Rattle.ov_refs.proofs.whole.is_table_supported.Goals as goal

pub returns-then-is_root_table : goal.returns-then-is_root_table
returns-then-is_root_table c =
    root_table c.args.schema.now c.args.strong.now c.args.name.now (entries c.args.rows.now) (sym c.is_root_table.ensures ∙ c.if-is_root_table.true)

pub returns-in-Some : goal.returns-in-Some
returns-in-Some c =
    c.are_held.ensures
    ∙ held_table c.args.schema.now c.args.strong.now c.args.name.now (sym c.is_root_table.ensures ∙ c.if-is_root_table.false) c.args.rows.now c.in-Some.holders.now c.in-Some.ensures

pub returns-in-None : goal.returns-in-None
returns-in-None c =
    held_by_none c.args.schema.now c.args.strong.now c.args.name.now (sym c.is_root_table.ensures ∙ c.if-is_root_table.false) (entries c.args.rows.now) c.is_empty.result
    (subst (λ (es : List (Uuid × Row)). IsTrue c.is_empty.result ↔ (length es ≡ 0)) c.map.ensures c.is_empty.ensures) c.in-None.ensures
