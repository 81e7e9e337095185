-- How one session over pipes changes a core.
use Rattle.std.specs.Prelude.{◌≡◌, ◌⊎◌, ℕ}
use Rattle.ov_specs.specs.machine.Machine.{Open as SpecOpen}
use Rattle.ov_history.specs.declared.event.Cause.{Cause}
use Rattle.ov_history.specs.declared.event.StepFault.{StepFault}
use Rattle.ov_core.specs.Following.{CoreState}
use Rattle.ov_core.specs.Stepping.{RefusesStep}
use Rattle.ov_serve.specs.Serving.{ServerState, ServesSession}
use Rattle.ov_words.specs.declared.ending.Ending.{Ending}
use Rattle.ov_words.specs.Causes.{by_step, by_cause}
use Rattle.ov_listen.specs.Pipes.{PipesState}

-- a core with pipes
abbrev pub server_over : {K D C : Type 0} → CoreState K D → PipesState C → ServerState K D C
server_over core pipes = record { core = core; reader = pipes.reader; writer = pipes.writer; clock = pipes.clock }

-- The session was served, and the ending is that of the cause for which it was closed; or it could not be opened, and
-- nothing is changed.
abbrev pub EndsSession : {K D C : Type 0} → (C → ℕ → C → Type 0) → ServerState K D C → Ending → ServerState K D C → Type 0
EndsSession tells old ending new =
    ((cause : Cause) × (ending ≡ by_cause cause) × ServesSession tells old cause new)
    ⊎ ((fault : StepFault) × (ending ≡ by_step fault) × RefusesStep SpecOpen old.core.state fault × (new ≡ old))
