use Rattle.std.proofs.Common.{◌≡◌, Some, sym, ap, subst, ◌∙◌}
use Rattle.std.specs.FinMap.{insert}
use Rattle.ov_stored.specs.Loading.{whole_entry}
use Rattle.ov_stored.specs.Stored.{row_stored}
use Rattle.ov_specs.specs.rows.Database.{Database, Row, Columns}
use Rattle.ov_specs.specs.rows.Lines.{LineKey}
use Rattle.ov_specs.specs.rows.Suits.{Suits}
use Rattle.ov_specs.specs.rows.Version.{row_now}
use Rattle.ov_specs.specs.schema.SchemaTypes.{Schema}
use Rattle.ov_stage.specs.Staging.{Stage}
use Rattle.test_commits.proofs.Commits.{put_suits}
use Rattle.test_commits.proofs.changes.put_line.Goals as goal

pub finished-requires-clause-suits : goal.finished-requires-clause-suits
finished-requires-clause-suits g c =
    let schema = c.args.db.now.schema in
    let entry = whole_entry c.args.line.now in
    let row : Row = c.in_ok-row.row in
    let stored = subst (λ (x : Schema). row_stored x entry.0 entry.1 ≡ Some row) c.schema.ensures c.in_ok-row.ensures in
    let key : c.in_ok-key.key ≡ entry.0 = c.in_ok-key.ensures ∙ ap (λ table. (table, c.args.line.now.id)) c.as_str.ensures in
    let first : Stage = c.new-stage.result in
    let at_first : first ≡ record { before = c.args.db.now.committed; now = c.args.db.now.committed } =
    c.new-stage.ensures ∙ ap (λ (rows : Database). record { before = rows; now = rows }) c.rows.ensures in
    let columns : c.in_ok-columns.columns ≡ row.columns = c.in_ok-columns.ensures ∙ ap (λ (r : Row). r.columns) c.row.view_is in
    let put : c.put.new.self.now ≡ insert first.now c.in_ok-key.key (row_now first.before c.args.line.now.version c.in_ok-key.key row.columns) =
    ap (λ (s : Stage). s.now) c.in_ok-put.ensures.ok ∙ ap (λ (x : Columns). insert first.now c.in_ok-key.key (row_now first.before c.args.line.now.version c.in_ok-key.key x)) columns in
    let over : c.put.new.self.now ≡ insert c.args.db.now.committed entry.0 (row_now c.args.db.now.committed entry.1.0 entry.0 row.columns) =
    put ∙ ap (λ (s : Stage). insert s.now c.in_ok-key.key (row_now s.before entry.1.0 c.in_ok-key.key row.columns)) at_first
    ∙ ap (λ (k : LineKey). insert c.args.db.now.committed k (row_now c.args.db.now.committed entry.1.0 k row.columns)) key in
    subst (λ (rows : Database). Suits schema rows) (sym over)
    (put_suits schema c.args.db.now.committed entry.0 entry.1 row c.shows_kept.ensures.committed_kept.suits c.has_sixteen_bytes.ensures c.has_sixteen_bytes-2.ensures stored)
