use Rattle.ov_specs.specs.machine.Machine.{opening}
use Rattle.ov_specs.proofs.laws.StepSuiting.{step_suits, run_suits, opening_suits}
use Rattle.ov_laws.proofs.rows_stay_those_of_the_schema.Goals as goal

pub returns-clause-step : goal.returns-clause-step
returns-clause-step c = step_suits

pub returns-clause-run : goal.returns-clause-run
returns-clause-run c schema database history stepped h are suits = run_suits (opening schema database) history stepped h are (opening_suits schema database suits)
