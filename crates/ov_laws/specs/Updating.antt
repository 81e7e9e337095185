-- What a try of a transaction sends: to the monitors, and to the session that asked for it (RFC 7047, 4.1.3, 4.1.6).
use Rattle.std.specs.Prelude.{◌≡◌, ◌⊎◌, ◌++◌, ℕ, []}
use Rattle.serde_json.specs.Data.{Data, Items}
use Rattle.ov_specs.specs.machine.Machine.{State, Stepped, results_to, updates_sent}

-- first the updates of what the step changed in the database, and then the reply with some results
abbrev pub SendsUpdatesFirst : State → ℕ → Data → Stepped → Type 0
SendsUpdatesFirst s session id stepped = (results : Items)
    × (stepped.sent
    ≡ updates_sent s.database stepped.state.database s.sessions ++ results_to session id results)

-- nothing, or the reply alone
abbrev pub SendsAtMostReply : ℕ → Data → Stepped → Type 0
SendsAtMostReply session id stepped =
    (stepped.sent ≡ []) ⊎ ((results : Items) × (stepped.sent ≡ results_to session id results))
