-- What is known of a text that is refused.
use Rattle.std.proofs.Common.{◌≡◌, List, ℕ, true, refl}
use Rattle.std.specs.Prelude.{Err}
use Rattle.serde_json.specs.Data.{Data}
use Rattle.ov_specs.specs.schema.Schema.{RealNotSupported, accepted}
use Rattle.ov_specs.specs.wire.Tree.{has_real}
use Rattle.ov_schema_text.specs.Texts.{RefusesText, RefusesFile}
use Rattle.ov_schema_text.specs.declared.file_fault.SchemaFileFault.{SchemaFileFault}
use Rattle.ov_schema_text.specs.declared.file_fault.SchemaFileFault.TheVariants.{Unread, NotJson, Refused, Memory}

-- a tree with a real is refused for it
pub real_refused : (d : Data) → has_real d ≡ true → accepted d ≡ Err RealNotSupported
real_refused d h = rw h refl

-- a text that is refused is refused in a file
pub file_refused : (text : List ℕ) (fault : SchemaFileFault) → RefusesText text fault → RefusesFile text fault
file_refused text Unread h = absurd h
file_refused text NotJson h = h
file_refused text (Refused fault) h = h
file_refused text Memory h = h
