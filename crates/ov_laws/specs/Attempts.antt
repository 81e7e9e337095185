-- How many attempts of transactions an event makes, and how many it may make.
use Rattle.std.specs.Prelude.{ℕ, ◌+◌, ◌-◌, ◌*◌, ◌/◌, List, if◌then◌else◌, Option, Some, None}
use Rattle.ov_specs.specs.machine.Machine.{State, Event, Open, Take, Close, Tick, Choice, Attempt, Work, work_of, listed, is_kept, settle, takes}
use Rattle.ov_specs.specs.wire.Message.{Message}
use Rattle.ov_laws.specs.Making.{is_transaction}

-- how many are counted of this, or none if the choice does not suit
abbrev pub count_of : {A : Type 0} → Option A → (A → ℕ) → ℕ
count_of None count = 0
count_of (Some a) count = count a

-- how many attempts settling makes, beginning with the attempt of this number
abbrev pub settling_attempts : State → ℕ → List Attempt → ℕ
settling_attempts s number attempts = count_of (settle s number attempts) (λ p. p.next - number)

-- how many attempts follow the work on a message: if that is kept, the waiting transactions are settled
abbrev pub attempts_after : State → Choice → ℕ → Message → ℕ
attempts_after s c session message = count_of (takes s c session message)
    (λ t. if is_kept (listed 1 c.outcomes).outcome
    then settling_attempts t.stepped.state 2 t.others
    else 0)

-- how many attempts the work on a message makes, if no allocation fails before its attempt
abbrev pub own_attempts : Work → ℕ
own_attempts work = if is_transaction work then 1 else 0

-- how many attempts an event makes: one of its own for a message that asks for a transaction, and those that settle
abbrev pub attempts_of : State → Choice → Event → ℕ
attempts_of s c Open = 0
attempts_of s c (Take session message) =
    own_attempts (work_of s session message) + attempts_after s c session message
attempts_of s c (Close session cause) = 0
attempts_of s c Tick = settling_attempts s 1 c.outcomes

-- the most attempts that settle n waiting transactions
abbrev pub most_settling : ℕ → ℕ
most_settling n = n * (n + 1) / 2

-- the most attempts of an event while n transactions wait
abbrev pub most_attempts : Event → ℕ → ℕ
most_attempts Open n = 0
most_attempts (Take session message) n = 1 + most_settling n
most_attempts (Close session cause) n = 0
most_attempts Tick n = most_settling n
