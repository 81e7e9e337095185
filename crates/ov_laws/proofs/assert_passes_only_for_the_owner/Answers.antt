use Rattle.ov_laws.proofs.Asserting.{works_asserts, tries_assert}
use Rattle.ov_laws.proofs.assert_passes_only_for_the_owner.Goals as goal

pub returns-clause-arrived : goal.returns-clause-arrived
returns-clause-arrived c = works_asserts

pub returns-clause-later : goal.returns-clause-later
returns-clause-later c = tries_assert
