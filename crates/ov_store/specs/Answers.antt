-- What the system, the allocator and SQLite answered, where no contract of theirs says which answer they give.
--
-- The meaning of `WasAnswered` is closed: a proof learns from a contract alone that there was such an answer. `was_answered` begins
-- it, in the proof of the function that makes the call and of what that call returned, named as its result; the lemmas of
-- `AnswerLemmas` take that result. No other proof cites `was_answered`, so what rests on an answer rests on a call that gave it.
-- Each crate lists its own calls.

-- a call
pub data Call : Type 0 where
  -- for the tables in a database that has none
  Making : Call
  -- for the format, and the schema's text, of a database with the tables of a format
  Testing : Call

-- the call was answered so
pub WasAnswered : {C A : Type 0} → C → A → Type 0
WasAnswered call answer = Unit {0}

-- for the proof of the function that made the call
pub was_answered : {C A : Type 0} (call : C) (answer : A) → WasAnswered call answer
unfolding WasAnswered
was_answered call answer = tt
