use Rattle.std.proofs.Common.{sym, ◌∙◌}
use Rattle.ov_projection.proofs.Showing.{shown_once}
use Rattle.ov_stage.proofs.stage.Stage.tells_apart.Goals as goal

pub returns-then-is_among : goal.returns-then-is_among
returns-then-is_among c told conditions = shown_once c.args.names.now (sym c.is_among.ensures ∙ c.if-is_among.true) c.args.table.now conditions c.args.self.now.now
