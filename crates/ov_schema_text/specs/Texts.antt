-- What a text is as a schema, and what a fault says of it (RFC 7047, 3.2).
use Rattle.std.specs.Prelude.{◌≡◌, ◌≢◌, ℕ, List, Some, None, Ok}
use Rattle.serde_json.specs.Data.{Data}
use Rattle.ov_specs.specs.wire.Message.{tree_of}
use Rattle.ov_specs.specs.schema.Schema.{accepted}
use Rattle.ov_specs.specs.schema.SchemaTypes.{Schema}
use Rattle.ov_schema.specs.declared.fault.SchemaFault.TheVariants as refusal
use Rattle.ov_schema_text.specs.Refusals.{RefusesWith}
use Rattle.ov_schema_text.specs.declared.file_fault.SchemaFileFault.{SchemaFileFault}
use Rattle.ov_schema_text.specs.declared.file_fault.SchemaFileFault.TheVariants.{Unread, NotJson, Refused, Memory}

-- the text is the JSON of this schema
pub record IsSchemaText (text : List ℕ) (schema : Schema) : Type 0 where
  pub tree : tree_of text ≡ Some schema.tree
  pub accepted : accepted schema.tree ≡ Ok schema

-- a text is refused if it is not JSON or its tree is refused, for another fault than memory; any text may be, when out of memory
abbrev pub RefusesText : List ℕ → SchemaFileFault → Type 0
RefusesText text Unread = ⊥
RefusesText text NotJson = tree_of text ≡ None
RefusesText text (Refused fault) = (fault ≢ refusal.Memory) × ((tree : Data) × (tree_of text ≡ Some tree) × RefusesWith tree fault)
RefusesText text Memory = Unit {0}

-- so is what a file holds; and any file may be one that cannot be read
abbrev pub RefusesFile : List ℕ → SchemaFileFault → Type 0
RefusesFile text Unread = Unit {0}
RefusesFile text fault = RefusesText text fault
