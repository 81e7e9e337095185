use Rattle.std.proofs.Common.{ap, ◌∙◌, arith}
use Rattle.std.proofs.lemmas.List.{take_all}
use Rattle.std.specs.List.{list_any}
use Rattle.ov_specs.specs.rows.Database.{same_columns}
use Rattle.ov_projection.proofs.Showing.{seen-push}
use Rattle.ov_given.proofs.until.rows_known.Goals as goal

pub loop-row-preserved : goal.loop-row-preserved
loop-row-preserved c =
    seen-push c.args.rows.now c.loop-row.row-index c.row-item.result c.loop-row-test.true c.row-item.is c.loop-row.known.keys c.insert.new.self.keys c.loop-row.invariant
    (λ q. c.in_ok-insert.ensures.updates.0 (record { ref_ptr = (0, 0); now = q }))

pub returns : goal.returns
returns c = λ q. c.loop-row.invariant q ∙ ap (list_any (λ x. same_columns x q)) (take_all c.loop-row.row-index c.args.rows.now (omega arith))
