use Rattle.std.proofs.Common.{refl}
use Rattle.ov_schema_text.proofs.parse.type_shape.TypeShape.plain.Goals as goal

pub returns : goal.returns
returns c = refl
