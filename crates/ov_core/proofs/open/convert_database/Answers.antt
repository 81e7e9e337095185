use Rattle.std.proofs.Common.{refl, Some}
use Rattle.ov_core.proofs.open.convert_database.Goals as goal

pub returns-in-Ok-clause-opened : goal.returns-in-Ok-clause-opened
returns-in-Ok-clause-opened g c = let it = c.in-Ok.ensures in record {
  version = Some c.draw-version.result;
  drawn = (c.draw-version.new.self, c.draw-version.ensures, refl);
  another = λ now some. c.requires.another (it.honest now);
  held = it.held;
  left = it.left;
  honest = it.honest;
}

pub returns-in-Err-clause-refused : goal.returns-in-Err-clause-refused
returns-in-Err-clause-refused g c = let it = c.in-Err.ensures in record {
  schema_is = it.schema;
  version = Some c.draw-version.result;
  after = c.draw-version.new.self;
  drawn = (c.draw-version.new.self, c.draw-version.ensures, refl);
  another = λ now some. c.requires.another (it.honest_refused now);
  kinds = it.kinds;
  read_kinds = λ none now two. cc;
  plain = λ none same. cc;
  fault = it.fault;
  cause = it.cause;
  counts = it.counts;
  left = it.left_refused;
  format = it.format_refused;
  honest = it.honest_refused;
}
