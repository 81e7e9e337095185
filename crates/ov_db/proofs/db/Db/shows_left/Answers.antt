use Rattle.ov_db.proofs.Keeping.{found_rows}
use Rattle.ov_db.proofs.db.Db.shows_left.Goals as goal

pub returns-clause-held : goal.returns-clause-held
returns-clause-held g c = rw (← c.self.view_is) c.self.invariant.1

pub returns-clause-found : goal.returns-clause-found
returns-clause-found g c = rw (← c.self.view_is) (λ honest. found_rows _ c.self.inside.schema c.self.inside.resident.rows _ (c.self.invariant.1 honest) c.self.invariant.2)

pub returns-clause-format : goal.returns-clause-format
returns-clause-format g c = rw (← c.self.view_is) c.self.invariant.0
