use Rattle.std.proofs.Common.{◌≡◌, Ok, sym, subst}
use Rattle.ov_stored.specs.Changing.{applied}
use Rattle.ov_specs.specs.integrity.Committed.{committed}
use Rattle.ov_specs.specs.rows.Database.{Database}
use Rattle.ov_specs.specs.rows.Suits.{Suits}
use Rattle.ov_specs.specs.schema.Schema.{IsAccepted}
use Rattle.ov_specs.specs.schema.SchemaTypes.{Schema}
use Rattle.test_commits.proofs.Commits.{finished_suits, finished_whole}
use Rattle.test_commits.proofs.changes.finished.Goals as goal

pub finish-requires-clause-suits : goal.finish-requires-clause-suits
finish-requires-clause-suits g c = subst (λ (schema : Schema). Suits schema c.args.stage.now) (sym c.schema-2.ensures) c.requires.suits

pub returns-in-Changed-clause-suits : goal.returns-in-Changed-clause-suits
returns-in-Changed-clause-suits g c =
    let db = c.args.db.now in
    let is = subst (λ (schema : Schema). committed schema c.args.stage.before c.args.version c.args.stage.now ≡ Ok (applied c.in-Changed.delta c.args.stage.before)) c.schema-2.ensures c.in-Changed.ensures.0 in
    finished_suits db.schema db.committed c.args.version c.args.stage.now c.in-Changed.delta
    (subst (λ (before : Database). committed db.schema before c.args.version c.args.stage.now ≡ Ok (applied c.in-Changed.delta before)) c.requires.before is)
    c.shows_kept.ensures.committed_kept.suits c.requires.version c.requires.suits

pub returns-in-Changed-clause-whole : goal.returns-in-Changed-clause-whole
returns-in-Changed-clause-whole g c =
    let db = c.args.db.now in
    let is = subst (λ (schema : Schema). committed schema c.args.stage.before c.args.version c.args.stage.now ≡ Ok (applied c.in-Changed.delta c.args.stage.before)) c.schema-2.ensures c.in-Changed.ensures.0 in
    finished_whole db.schema db.committed c.args.version c.args.stage.now c.in-Changed.delta
    (subst (λ (before : Database). committed db.schema before c.args.version c.args.stage.now ≡ Ok (applied c.in-Changed.delta before)) c.requires.before is)
    (subst IsAccepted c.schema.ensures c.shows_accepted.ensures)
