use Rattle.std.proofs.Common.{sym, ap, ◌∙◌}
use Rattle.ov_schema_text.proofs.ChoiceLemmas.{set_told, set_told-set_reading}
use Rattle.ov_schema_text.proofs.parse.choices.read_set.Goals as goal

pub returns-in-Ok : goal.returns-in-Ok
returns-in-Ok c = sym (ap set_told c.in-Ok.ensures.value) ∙ set_told-set_reading _
