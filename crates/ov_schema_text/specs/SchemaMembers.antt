-- What is read from a schema, as that schema.
use Rattle.serde_json.specs.Data.{Data}
use Rattle.ov_specs.specs.schema.SchemaTypes as types
use Rattle.ov_schema.specs.Built.{schema_of_parts}
use Rattle.ov_schema_text.specs.declared.schema.SchemaMembers.{SchemaMembers}

-- the schema of these parts, read from the tree
abbrev pub schema_of_members : Data → SchemaMembers → types.Schema
schema_of_members tree p = schema_of_parts p.name p.version p.tables.items tree
