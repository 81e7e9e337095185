-- The schema that is served if no other is named.
use Rattle.std.specs.Prelude.{◌≡◌, Some, codes}
use Rattle.serde_json.specs.Read.{read}
use Rattle.ov_specs.specs.schema.SchemaTypes.{Schema}
use Rattle.ov_server.specs.declared.database.TheConstants.{SCHEMA}

-- its name, and the text that it is
pub record IsBuiltIn (schema : Schema) : Type 0 where
  pub name : schema.name ≡ codes "Net"
  pub tree : read SCHEMA.now ≡ Some schema.tree
