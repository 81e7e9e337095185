use Rattle.ov_specs.specs.machine.Machine.{opening}
use Rattle.ov_specs.proofs.laws.StepWhole.{step_whole, run_whole, opening_whole}
use Rattle.ov_laws.proofs.rows_stay_whole.Goals as goal

pub returns-clause-step : goal.returns-clause-step
returns-clause-step c = step_whole

pub returns-clause-run : goal.returns-clause-run
returns-clause-run c schema database history stepped h accepted whole = run_whole (opening schema database) history stepped h accepted (opening_whole schema database whole)
