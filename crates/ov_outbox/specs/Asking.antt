-- How a call that asks for a lock, or gives it up, changes the outbox.
use Rattle.std.specs.Prelude.{◌≡◌, ℕ, List, [], ◌∷◌, ◌++◌, Some, None, option_to_list, Result, Ok, Err, IfSome}
use Rattle.serde_json.specs.Data.{Data}
use Rattle.ov_specs.specs.locks.Queues.{Queues, LockCall, call_refusal, after_call, call_result, told_of_call}
use Rattle.ov_specs.specs.machine.Machine.{Sent, to_session, told}
use Rattle.ov_specs.specs.wire.Frame.{reply_tree}
use Rattle.ov_locks.specs.Refusing.{fault_text}
use Rattle.ov_locks.specs.declared.fault.LockFault.{LockFault}
use Rattle.ov_outbox.specs.Frames.{WaitingFrames, HasSameFrames, HasSamePlaces, PostsSent}
use Rattle.ov_outbox.specs.Outbox.{Outbox}

-- A request of a session about a lock, with the id of its reply (RFC 7047, 4.1.8).
pub record LockRequest : Type 0 where
  pub call : LockCall
  pub session : ℕ
  pub id : Data
  pub name : List ℕ

-- what is sent: the reply, and then the notification of another session (RFC 7047, 4.1.8 to 4.1.10)
abbrev pub sent_of_call : LockRequest → Queues → List Sent
sent_of_call request queues =
    to_session request.session
    (reply_tree request.id (call_result request.call request.name queues) ∷ [])
    ++ told (option_to_list (told_of_call request.call request.name request.session queues))

-- the request is not refused, and all of that is sent
pub record IsAnswered (request : LockRequest) (old new : Outbox) : Type 0 where
  pub goes : call_refusal request.call request.name request.session old.queues ≡ None
  pub queues : new.queues ≡ after_call request.call request.name request.session old.queues
  pub sends : PostsSent (sent_of_call request old.queues) old.frames new.frames

-- the request is refused with the text of the fault, if it is reported, and nothing is changed
pub record IsRequestRefused
    (request : LockRequest) (old : Outbox) (fault : LockFault) (new : Outbox) : Type 0 where
  pub text : IfSome (fault_text fault)
      (λ text. call_refusal request.call request.name request.session old.queues ≡ Some text)
  pub queues : new.queues ≡ old.queues
  pub frames : HasSameFrames old.frames new.frames
  pub places : HasSamePlaces old.frames new.frames

-- one or the other
abbrev pub IsAsked : LockRequest → Outbox → Result (Unit {0}) LockFault → Outbox → Type 0
IsAsked request old (Ok done) new = IsAnswered request old new
IsAsked request old (Err fault) new = IsRequestRefused request old fault new

-- an outbox of these frames and these queues
abbrev pub parts : WaitingFrames → Queues → Outbox
parts frames queues = record { frames = frames; queues = queues }
