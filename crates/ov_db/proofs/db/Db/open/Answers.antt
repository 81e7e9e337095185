use Rattle.ov_db.proofs.db.Db.open.Goals as goal

pub invariant_of-result : goal.invariant_of-result
invariant_of-result g c =
    (c.in-Ok.ensures.opens.format, c.in-Ok.ensures.opens.found, c.in-Ok.ensures.opens.kept, c.in-Ok.ensures.beside)
