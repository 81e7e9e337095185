use Rattle.std.proofs.Common.{◌∙◌}
use Rattle.ov_stored.proofs.Places.{applied-same}
use Rattle.ov_db.proofs.resident.Resident.make.Goals as goal

pub returns : goal.returns
returns c schema database ready =
    (c.make_changes.ensures ∙ applied-same c.args.delta database c.args.self.now.rows ready.same, record { links = ready.beside.links; indexes = ready.beside.indexes })
