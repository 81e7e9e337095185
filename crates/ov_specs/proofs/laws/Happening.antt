-- What an event comes to, from its parts; and where no transaction waits.
use Rattle.std.proofs.Common.{◌≡◌, ℕ, List, [], ◌++◌, Bool, true, false, cond, Option, Some, None, length, eqb, refl, ap, ◌∙◌}
use Rattle.std.specs.Prelude.{option_map, option_and_then, codes}
use Rattle.std.specs.Str.{bytes_eq}
use Rattle.std.proofs.lemmas.List.{append-nil}
use Rattle.serde_json.specs.Data.{Data, Items, no_items, item}
use Rattle.ov_specs.specs.machine.Machine.{State, Choice, Take, Tick, Outcome, Attempt, Outstanding, Sent, Stepped, Tried, Passed, Listed, listed, none_listed, when, ends, is_kept, is_open, passes_after, settle, works, then_settles, takes_and_settles, happens, Work, Answers, Transact, work_of, transact_work, notification_of, cancel_notification}
use Rattle.ov_specs.specs.values.Uuid.{Uuid}
use Rattle.ov_specs.specs.wire.Message.{Message}
use Rattle.ov_specs.proofs.laws.Settling.{settle_nothing}
use Rattle.ov_specs.proofs.laws.Tries.{left_by, sent_by}
use Rattle.ov_specs.proofs.laws.Works.{work_has}

-- ---- an event from its parts

-- what is left of the list is none
ends-none : (t : Tried) → t.others ≡ [] → ends (Some t) ≡ Some t.stepped
ends-none t none = ap (λ others. when (none_listed others) (Some t.stepped)) none

-- work on a message
takes-work : (s : State) (c : Choice) (n : ℕ) (message : Message) (own : Listed) (first : Stepped) → listed 1 c.outcomes ≡ own → works s n c.draws own.outcome (work_of s n message) ≡ Some first
    → takes_and_settles s c n message ≡ then_settles (is_kept own.outcome) (record { stepped = first; others = own.others })
takes-work s c n message own first list work =
    ap (λ (l : Listed). option_and_then (then_settles (is_kept l.outcome)) (option_map (λ t. record { stepped = t; others = l.others }) (works s n c.draws l.outcome (work_of s n message)))) list
    ∙ ap (λ r. option_and_then (then_settles (is_kept own.outcome)) (option_map (λ t. record { stepped = t; others = own.others }) r)) work

module _ (s : State) (c : Choice) (n : ℕ) (message : Message) (own : Listed) (first : Stepped) (there : is_open s n ≡ true) (list : listed 1 c.outcomes ≡ own) (work : works s n c.draws own.outcome (work_of s n message) ≡ Some first) where
  -- which changed nothing that was kept
  pub take_done : is_kept own.outcome ≡ false → own.others ≡ [] → happens s c (Take n message) ≡ Some first
  take_done not_kept none =
      ap (λ b. when b (ends (takes_and_settles s c n message))) there
      ∙ (ap ends (takes-work s c n message own first list work ∙ ap (λ b. then_settles b (record { stepped = first; others = own.others })) not_kept)
      ∙ ends-none (record { stepped = first; others = own.others }) none)

  -- which changed the database, so that those that wait are tried
  pub take_settled : (p : Passed) → is_kept own.outcome ≡ true → settle first.state 2 own.others ≡ Some p → p.tried.others ≡ [] → happens s c (Take n message) ≡ Some (record { state = left_by p; sent = first.sent ++ sent_by p })
  take_settled p kept settled none =
      ap (λ b. when b (ends (takes_and_settles s c n message))) there
      ∙ (ap ends (takes-work s c n message own first list work
      ∙ (ap (λ b. then_settles b (record { stepped = first; others = own.others })) kept ∙ ap (option_map (λ x. (passes_after first.sent x).tried)) settled))
      ∙ ends-none (passes_after first.sent p).tried none)

-- time passes, and those that wait are tried
pub tick_settled : (s : State) (c : Choice) (p : Passed) → c.draws ≡ [] → settle s 1 c.outcomes ≡ Some p → p.tried.others ≡ [] → happens s c Tick ≡ Some p.tried.stepped
tick_settled s c p undrawn settled none =
    ap (λ (draws : List Uuid). when (eqb (length draws) 0) (ends (option_map (λ x. x.tried) (settle s 1 c.outcomes)))) undrawn
    ∙ (ap (λ r. ends (option_map (λ x. x.tried) r)) settled ∙ ends-none p.tried none)

-- ---- where no transaction waits

-- a transaction is tried
pub transact_work-none : (s : State) (n : ℕ) (id : Data) (operations : Items) → s.outstanding ≡ [] → transact_work s n id operations ≡ Transact id operations
transact_work-none s n id operations none = ap (λ (os : List Outstanding). transact_work (record s { outstanding = os }) n id operations) none

-- and a notification asks for nothing
cancel_notification-none : (s : State) (n : ℕ) (params : Items) → s.outstanding ≡ [] → cancel_notification s n params ≡ Answers []
cancel_notification-none s n no_items none = refl
cancel_notification-none s n (item id no_items) none = ap (λ (os : List Outstanding). cancel_notification (record s { outstanding = os }) n (item id no_items)) none
cancel_notification-none s n (item id (item d items)) none = refl

pub notification_of-none : (s : State) (n : ℕ) (method : List ℕ) (params : Items) → s.outstanding ≡ [] → notification_of s n method params ≡ Answers []
notification_of-none s n method params none = ap (λ w. cond (bytes_eq method (codes "cancel")) w (Answers [])) (cancel_notification-none s n params none) ∙ same (bytes_eq method (codes "cancel"))
  where
    same : (b : Bool) → cond b (Answers []) (Answers []) ≡ Answers []
    same true = refl
    same false = refl

-- work that changed the database leaves those that wait
kept_leaves : (s : State) (n : ℕ) (draws : List Uuid) (o : Option Outcome) (w : Work) (t : Stepped) → works s n draws o w ≡ Some t → is_kept o ≡ true → t.state.outstanding ≡ s.outstanding
kept_leaves s n draws o w t h kept =
    work_has (λ own x. own ≡ true → x.state.outstanding ≡ s.outstanding) s n draws o w t (record {
      closes = λ no. cc;
      sends = λ trees no. cc;
      transacts = λ id operations is. record { sends = λ trees no. cc; commits = λ results database is'. (λ yes. refl, λ no. cc); waits = λ timeout is' no. cc };
      cancels = λ id is no. cc;
      locks = λ call id name is no. cc;
      watches = λ id result monitors is no. cc;
    }) h kept

-- so nothing is tried after it
pub take-none : (s : State) (c : Choice) (n : ℕ) (message : Message) → s.outstanding ≡ []
    → ends (takes_and_settles s c n message) ≡ when (none_listed (listed 1 c.outcomes).others) (works s n c.draws (listed 1 c.outcomes).outcome (work_of s n message))
take-none s c n message none = by (works s n c.draws own.outcome (work_of s n message)) refl
  where
    own : Listed
    own = listed 1 c.outcomes

    never : (b : Bool) → None ≡ when {A = Stepped} b None
    never true = refl
    never false = refl

    alone : (t : Stepped) (b : Bool) → (b ≡ true → t.state.outstanding ≡ []) → ends (then_settles b (record { stepped = t; others = own.others })) ≡ when (none_listed own.others) (Some t)
    alone t false waits = refl
    alone t true waits =
        ap (λ r. ends (option_map (λ p. (passes_after t.sent p).tried) r)) (settle_nothing t.state 2 own.others (waits refl))
        ∙ ap (λ (sent : List Sent). when (none_listed own.others) (Some (record { state = t.state; sent = sent }))) (append-nil t.sent)

    by : (r : Option Stepped) → works s n c.draws own.outcome (work_of s n message) ≡ r → ends (option_and_then (then_settles (is_kept own.outcome)) (option_map (λ t. record { stepped = t; others = own.others }) r)) ≡ when (none_listed own.others) r
    by None is = never (none_listed own.others)
    by (Some t) is = alone t (is_kept own.outcome) (λ kept. kept_leaves s n c.draws own.outcome (work_of s n message) t is kept ∙ none)

-- and a Tick sets the moment alone
pub tick-none : (s : State) (attempts : List Attempt) → s.outstanding ≡ [] → ends (option_map (λ p. p.tried) (settle s 1 attempts)) ≡ when (none_listed attempts) (Some (record { state = s; sent = [] }))
tick-none s attempts none = ap (λ r. ends (option_map (λ p. p.tried) r)) (settle_nothing s 1 attempts none)
