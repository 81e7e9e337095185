-- What whole histories say of a session that was served to its end.
use Rattle.std.proofs.Common.{◌≡◌, ◌≤◌, ℕ, List, [], ◌∷◌, ◌++◌, refl, sym, ap, subst, ◌∙◌, append-nil, Option}
use Rattle.std.specs.Option.{option_or}
use Rattle.std.proofs.lemmas.Grind.{flat_map-append}
use Rattle.ov_specs.specs.wire.Message.{Message}
use Rattle.ov_specs.specs.machine.Machine as machine
use Rattle.ov_specs.specs.machine.Machine.{opening}
use Rattle.ov_specs.specs.machine.History.{requests, taken_by, frames_to, closed_by}
use Rattle.ov_specs.proofs.laws.Histories.{closed_by_append}
use Rattle.ov_outbox.specs.Frames.{waiting_for}
use Rattle.ov_history.specs.declared.event.Cause.{Cause}
use Rattle.ov_core.specs.Following.{CoreState}
use Rattle.ov_lanes.specs.Since.{Since, course_of, and_then_handed}
use Rattle.ov_workers.specs.LinkStates.{LinkState}
use Rattle.ov_hall.specs.Outcome.{Account, Finish, LinkOutcome}
use Rattle.ov_hall.specs.Ending.{EndsAfter, finish_for, CourseEnds, LinkEnds}
use Rattle.ov_lanes.proofs.Unopened.{later_is_unopened}

first_empty : {A : Type 0} (xs ys : List A) → xs ++ ys ≡ [] → xs ≡ []
first_empty [] ys h = refl
first_empty (x ∷ xs) ys h = cc

-- what a history says
abbrev pub said : Option machine.Cause → List Message → List (List ℕ) → Account
said closed messages sent = record { closed = closed; messages = messages; sent = sent }

pub outcome_as : (closed closed' : Option machine.Cause) (messages messages' : List Message) (sent sent' : List (List ℕ)) (finish : Finish) (x y : LinkState)
    → closed' ≡ closed → messages' ≡ messages → sent' ≡ sent → LinkOutcome (said closed messages sent) finish x y → LinkOutcome (said closed' messages' sent') finish x y
outcome_as closed closed' messages messages' sent sent' finish x y a b c o =
    subst (λ k. LinkOutcome (said k messages' sent') finish x y) (sym a)
    (subst (λ k. LinkOutcome (said closed k sent') finish x y) (sym b)
    (subst (λ k. LinkOutcome (said closed messages k) finish x y) (sym c) o))

module _ {K D : Type 0} {old new : CoreState K D} (since : Since old new) (n : ℕ) (later : old.state.next ≤ n) (none_left : waiting_for n new.outbox ≡ []) where
  pub ends_past : (finish : Finish) (x y : LinkState) → LinkOutcome (said (closed_by old.state since.entries n) (requests since.entries n) (since.handed n)) finish x y → EndsAfter since n finish x y
  ends_past finish x y o schema database history given f =
      let f' = since.follows (opening schema database) history given f in
      let before : machine.Stepped = record { state = old.state; sent = f.sent } in
      let to_come = later_is_unopened schema database history before n later f.legal in
      let none : given n ≡ [] = first_empty (given n) (waiting_for n old.outbox) (sym (f.issued n) ∙ to_come.silent) in
      let closed : closed_by (opening schema database) (history ++ since.entries) n ≡ closed_by old.state since.entries n =
      closed_by_append (opening schema database) history since.entries n before f.legal ∙ ap (λ (c : Option machine.Cause). option_or c (closed_by old.state since.entries n)) to_come.no_cause in
      let messages : requests (history ++ since.entries) n ≡ requests since.entries n =
      flat_map-append (λ (e : machine.Entry). taken_by n e.event) history since.entries ∙ ap (λ (l : List Message). l ++ requests since.entries n) to_come.unasked in
      let sent : frames_to n f'.sent ≡ since.handed n =
      f'.issued n ∙ (ap (λ (l : List (List ℕ)). and_then_handed given since.handed n ++ l) none_left ∙ (append-nil (and_then_handed given since.handed n) ∙ ap (λ (l : List (List ℕ)). l ++ since.handed n) none)) in
      record {
        reached = record { state = new.state; sent = f'.sent };
        legal = f'.legal;
        comes_to = outcome_as (closed_by old.state since.entries n) (closed_by (opening schema database) (history ++ since.entries) n) (requests since.entries n) (requests (history ++ since.entries) n) (since.handed n) (frames_to n f'.sent)
            finish x y closed messages sent o;
      }

-- what a session comes to, in each history
pub link_ends : {K D : Type 0} {old new : CoreState K D} (since : Since old new) (n : ℕ) → old.state.next ≤ n → (told : Cause) (x y : LinkState) → CourseEnds (course_of since n) told x y → LinkEnds since n told x y
link_ends since n later told x y e = record {
  why = e.why;
  told_for = e.told_for;
  ends = ends_past since n later e.none_left (finish_for e.why told) x y e.comes_to;
}
