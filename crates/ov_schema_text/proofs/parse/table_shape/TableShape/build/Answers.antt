use Rattle.std.proofs.Common.{map, ap, ◌∙◌}
use Rattle.ov_schema_text.specs.Built.{named_column_of}
use Rattle.ov_schema_text.specs.ShapeViews.{named_column_view, indexes_view}
use Rattle.ov_schema_text.proofs.parse.table_shape.TableShape.build.Goals as goal

pub returns : goal.returns
returns c =
    let columns = c.in_ok-columns.ensures ∙ ap (λ cs. map named_column_of (map named_column_view cs)) c.as_slice.ensures.value in
    let indexes = c.in_ok-indexes.ensures ∙ ap indexes_view c.as_slice-2.ensures.value in
    rw (columns, c.is_root-is_root.ensures, indexes) at c.new.ensures
