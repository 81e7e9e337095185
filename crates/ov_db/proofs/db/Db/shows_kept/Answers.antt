use Rattle.ov_db.proofs.db.Db.shows_kept.Goals as goal

pub returns : goal.returns
returns g c = rw (← c.self.view_is) c.self.invariant.2
