use Rattle.std.proofs.Common.{T, sym, ap, ◌∙◌, subst}
use Rattle.std.specs.FinMap.{entries_sorted, from_entries, is_sorted}
use Rattle.ov_specs.specs.schema.SchemaTypes.{name_cmp}
use Rattle.ov_schema.specs.Built.{indexes_in}
use Rattle.ov_schema.specs.Shapes.{shape_in}
use Rattle.ov_schema.proofs.NamedLemmas.{from_entries-entries}
use Rattle.ov_schema.proofs.table.Table.new.Goals as goal

pub invariant_of-result : goal.invariant_of-result
invariant_of-result c = (
  subst (λ es. T (is_sorted name_cmp es)) (sym c.in_ok-columns.ensures) (entries_sorted _),
  c.in_ok-shape_of.ensures ∙ ap shape_in c.as_slice.ensures.value,
)

pub returns : goal.returns
returns c =
    let columns = ap from_entries c.in_ok-columns.ensures ∙ (from_entries-entries _ ∙ ap from_entries c.in_ok-with_own.ensures) in
    ap (λ m. record { columns = m; max_rows = c.args.max_rows; is_root = c.args.is_root; indexes = indexes_in c.args.indexes.items }) columns
