use Rattle.std.proofs.Common.{◌≡◌, map}
use Rattle.serde_json.specs.View.{members_view}
use Rattle.ov_specs.specs.schema.SchemaShape.{each_member, table_shape}
use Rattle.ov_atoms.proofs.Lists.{after}
use Rattle.ov_schema_text.specs.ShapeViews.{named_table_view}
use Rattle.ov_schema_text.proofs.parse.schema_shape.tables_of.Given as goal

abbrev pub invariant-loop-name : goal.invariant-loop-name
invariant-loop-name l =
    each_member table_shape (members_view l.members.entries) ≡ after (map named_table_view l.tables.items) (each_member table_shape (members_view l.name-iterator))
