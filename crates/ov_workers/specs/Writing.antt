-- What a writer's worker did from its beginning to its end.
use Rattle.std.specs.Prelude.{◌≡◌, ℕ, ◌++◌, List, [], ◌∷◌, map, Bool, true}
use Rattle.ov_specs.specs.machine.History.{joined}
use Rattle.ov_ends.specs.Ends.{GivesWritten}
use Rattle.ov_ends.specs.States.{SinkState}
use Rattle.ov_ends.specs.Writing.{WritesOf, CountsFailures}
use Rattle.ov_order.specs.declared.items.Sent.{Sent}
use Rattle.ov_order.specs.declared.items.Sent.TheVariants.{Frame, End}

-- These items were taken: frames, and the end mark after them. All of the frames were written and flushed; or, if the writer
-- failed, which was once, a beginning of them was written.
pub record Writes (is_whole : Bool) (old new : SinkState) (items : List Sent) : Type 0 where
  pub frames : List (List ℕ)
  pub taken : items ≡ map Frame frames ++ End ∷ []
  pub written : WritesOf is_whole (joined frames) old.written new.written
  pub flushed : is_whole ≡ true → new.is_flushed ≡ true
  pub faults : CountsFailures is_whole old.faults new.faults
  pub given : GivesWritten old.written old.contents new.written new.contents
