use Rattle.ov_sqlite.proofs.write.apply.Goals as goal

pub returns-in-Put : goal.returns-in-Put
returns-in-Put g c = record { writes = rw c.in-Put.is c.put_row.ensures.writes }

pub returns-in-Remove : goal.returns-in-Remove
returns-in-Remove g c = record { writes = rw (c.in-Remove.is, ← c.as_str.ensures) c.remove_row.ensures.writes }
