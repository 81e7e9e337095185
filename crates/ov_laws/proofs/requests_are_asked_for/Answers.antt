use Rattle.ov_laws.proofs.Requests.{requests_are_asked_for}
use Rattle.ov_laws.proofs.requests_are_asked_for.Goals as goal

pub returns : goal.returns
returns c = requests_are_asked_for
