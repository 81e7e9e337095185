-- The frames that wait for sessions, and the queues of the locks.
use Rattle.std.specs.Prelude.{refl}
use Rattle.std.specs.Coded.{Coded, code_by, coded×, coded_ℕ, coded_list}
use Rattle.ov_specs.specs.locks.Queues.{Queues}
use Rattle.ov_outbox.specs.Frames.{WaitingFrames}

-- the frames, with the places that are kept for more, and for each lock the sessions that have asked for it
pub record Outbox : Type 0 where
  pub frames : WaitingFrames
  pub queues : Queues

-- frames as a model stores them
abbrev pub frames_code : Coded WaitingFrames
frames_code = coded_list (coded× coded_ℕ (coded× (coded_list (coded_list coded_ℕ)) coded_ℕ))

-- queues as a model stores them
abbrev pub queues_code : Coded Queues
queues_code = coded_list (coded× (coded_list coded_ℕ) (coded_list coded_ℕ))

-- both, as a pair
abbrev pub outbox_code : Coded Outbox
outbox_code =
    code_by (WaitingFrames × Queues) (coded× frames_code queues_code) (λ o. (o.frames, o.queues))
    (λ p. record { frames = p.0; queues = p.1 }) (λ _. refl)
