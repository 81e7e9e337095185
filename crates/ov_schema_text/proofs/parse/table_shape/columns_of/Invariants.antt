use Rattle.std.proofs.Common.{◌≡◌, map}
use Rattle.serde_json.specs.View.{members_view}
use Rattle.ov_specs.specs.schema.SchemaShape.{each_member, column_shape}
use Rattle.ov_atoms.proofs.Lists.{after}
use Rattle.ov_schema_text.specs.ShapeViews.{named_column_view}
use Rattle.ov_schema_text.proofs.parse.table_shape.columns_of.Given as goal

abbrev pub invariant-loop-name : goal.invariant-loop-name
invariant-loop-name l =
    each_member column_shape (members_view l.members.entries) ≡ after (map named_column_view l.columns.items) (each_member column_shape (members_view l.name-iterator))
