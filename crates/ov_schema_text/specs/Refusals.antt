-- What a fault says of a tree.
use Rattle.std.specs.Prelude.{◌≡◌, Option, Some, None, Result, Err}
use Rattle.serde_json.specs.Data.{Data}
use Rattle.ov_specs.specs.schema.SchemaShape.{schema_shape}
use Rattle.ov_specs.specs.schema.SchemaTypes.{Schema}
use Rattle.ov_specs.specs.schema.Schema.{SchemaRefusal, judged, accepted}
use Rattle.ov_schema.specs.declared.fault.SchemaFault.{SchemaFault}
use Rattle.ov_schema_text.specs.FaultViews.{refusal_view}

-- the refusal is the answer to the tree, if the fault is one
abbrev pub IsRefusalOf : Option SchemaRefusal → Result Schema SchemaRefusal → Type 0
IsRefusalOf None answer = Unit {0}
IsRefusalOf (Some refusal) answer = answer ≡ Err refusal

-- the tree is refused with this fault; any tree may be, when out of memory
abbrev pub RefusesWith : Data → SchemaFault → Type 0
RefusesWith tree fault = IsRefusalOf (refusal_view fault) (accepted tree)

-- the same of a tree without reals
abbrev pub JudgesWith : Data → SchemaFault → Type 0
JudgesWith tree fault = IsRefusalOf (refusal_view fault) (judged tree (schema_shape tree))
