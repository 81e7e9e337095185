use Rattle.ov_db.proofs.db.Db.strong_count.Goals as goal

pub strong_count-requires : goal.strong_count-requires
strong_count-requires g c = c.self.invariant.3.links

pub returns : goal.returns
returns g c = rw (← c.self.view_is) c.strong_count.ensures
