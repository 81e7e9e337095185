use Rattle.std.proofs.Common.{◌≡◌, ◌++◌, drop, map, string_bytes}
use Rattle.ov_schema.specs.Shapes.{shape_in}
use Rattle.ov_schema.proofs.row_shape.shape_of.Given as goal

abbrev pub invariant-loop-name : goal.invariant-loop-name
invariant-loop-name l = record {
  names : (shape_in l.columns).names ≡ map string_bytes l.names.items ++ (shape_in (drop l.name-index l.columns)).names;
  defaults : (shape_in l.columns).defaults ≡ l.defaults.items ++ (shape_in (drop l.name-index l.columns)).defaults;
}
