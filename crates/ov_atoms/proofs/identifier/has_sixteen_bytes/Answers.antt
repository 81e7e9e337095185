use Rattle.std.proofs.Common.{ap, sym, ◌∙◌}
use Rattle.ov_specs.specs.values.Uuid.{is_uuid}
use Rattle.ov_specs.proofs.laws.Uuids.{is_uuid_from}
use Rattle.ov_atoms.proofs.identifier.has_sixteen_bytes.Goals as goal

pub returns : goal.returns
returns c = ap is_uuid (sym c.as_bytes.ensures) ∙ is_uuid_from c.as_bytes.result.now c.are_sixteen.ensures.length c.are_sixteen.ensures.fit
