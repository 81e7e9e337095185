-- The sessions of the machine's state, by those of the code and by what they watch.
use Rattle.std.proofs.Common.{◌≡◌, ℕ, List, [], ◌∷◌, ◌++◌, map, refl, sym, ap, ◌∙◌, cond, eqb, Bool, true, false, Some, length, suc}
use Rattle.std.specs.Prelude.{not, ◌||◌, unwrap_or, option_map}
use Rattle.std.specs.List.{filter, find, list_any}
use Rattle.std.proofs.lemmas.Bool.{eqb-true, eq-eqb, false≢true, or_parts}
use Rattle.ov_sessions.specs.Sessions.{IsLeft, has_serial, without_serial}
use Rattle.ov_watch.specs.Watching.{Watching, monitors_at, WatchesWith, SameWatching}
use Rattle.ov_sessions.specs.declared.session.Session.{Session}
use Rattle.ov_specs.specs.machine.Machine as machine
use Rattle.ov_specs.specs.machine.Machine.{State, session_watching}
use Rattle.ov_specs.specs.monitors.Monitors.{Monitor}
use Rattle.ov_live.specs.States.{machine_sessions, still_open}

-- ---- which are open

-- a session is open if its serial is among those of the code
pub any-serial : (w : Watching) (n : ℕ) (sessions : List Session) → list_any (λ (m : machine.Session). eqb m.serial n) (machine_sessions w sessions) ≡ has_serial n sessions
any-serial w n [] = refl
any-serial w n (m ∷ sessions) = ap (λ b. eqb m.serial n || b) (any-serial w n sessions)

pub filter-same : {A : Type 0} (p q : A → Bool) → ((a : A) → p a ≡ q a) → (xs : List A) → filter p xs ≡ filter q xs
filter-same p q same [] = refl
filter-same p q same (a ∷ xs) = ap (λ b. cond b (a ∷ filter p xs) (filter p xs)) (same a) ∙ ap (λ rest. cond (q a) (a ∷ rest) rest) (filter-same p q same xs)

-- those that are left are the ones that are still open
pub left-open : (s : State) (w : Watching) (old new : List Session) → s.sessions ≡ machine_sessions w new → IsLeft old new → new ≡ still_open s old
left-open s w old new is left =
    left ∙ filter-same (λ n. has_serial n.serial new) (λ n. machine.is_open s n.serial)
    (λ n. sym (ap (λ (ms : List machine.Session). list_any (λ (m : machine.Session). eqb m.serial n.serial) ms) is ∙ any-serial w n.serial new)) old

-- ---- what they watch

-- the same
pub sessions-same : (a b : Watching) → SameWatching a b → (sessions : List Session) → machine_sessions b sessions ≡ machine_sessions a sessions
sessions-same a b same [] = refl
sessions-same a b same (m ∷ sessions) =
    ap (λ (ms : List Monitor). record { serial = m.serial; monitors = ms } ∷ machine_sessions b sessions) (same m.serial)
    ∙ ap (λ (rest : List machine.Session). record { serial = m.serial; monitors = monitors_at m.serial a } ∷ rest) (sessions-same a b same sessions)

-- one of them watches something else
pub sessions-watch : (n : ℕ) (monitors : List Monitor) (a b : Watching) → WatchesWith n monitors a b → (sessions : List Session) → machine_sessions b sessions ≡ map (session_watching n monitors) (machine_sessions a sessions)
sessions-watch n monitors a b watches [] = refl
sessions-watch n monitors a b watches (m ∷ sessions) =
    ap (λ (ms : List Monitor). record { serial = m.serial; monitors = ms } ∷ machine_sessions b sessions) (watches m.serial)
    ∙ ap (λ (rest : List machine.Session). session_watching n monitors (record { serial = m.serial; monitors = monitors_at m.serial a }) ∷ rest) (sessions-watch n monitors a b watches sessions)

-- what an open one watches
pub monitors-of : (n : ℕ) (w : Watching) (sessions : List Session) → has_serial n sessions ≡ true
    → unwrap_or (option_map (λ (m : machine.Session). m.monitors) (find (λ (m : machine.Session). eqb m.serial n) (machine_sessions w sessions))) [] ≡ monitors_at n w
monitors-of n w [] there = absurd (false≢true there)
monitors-of n w (m ∷ sessions) there = by (eqb m.serial n) refl (monitors-of n w sessions) there
  where
    rest : List machine.Session
    rest = machine_sessions w sessions

    by : (b : Bool) → eqb m.serial n ≡ b
        → (has_serial n sessions ≡ true → unwrap_or (option_map (λ (m : machine.Session). m.monitors) (find (λ (m : machine.Session). eqb m.serial n) rest)) [] ≡ monitors_at n w)
        → (b || has_serial n sessions) ≡ true
        → unwrap_or (option_map (λ (m : machine.Session). m.monitors) (cond b (Some (record { serial = m.serial; monitors = monitors_at m.serial w })) (find (λ (m : machine.Session). eqb m.serial n) rest))) [] ≡ monitors_at n w
    by true is others h = ap (λ k. monitors_at k w) (eqb-true m.serial n is)
    by false is others h = others h

-- ---- one more, and one fewer

-- one that is opened watches nothing
pub sessions-opened : (session : Session) (next : ℕ) (a b : Watching) → session.serial ≡ next → WatchesWith session.serial [] a b → (sessions : List Session) → has_serial session.serial sessions ≡ false
    → machine_sessions b (sessions ++ session ∷ []) ≡ machine_sessions a sessions ++ record { serial = next; monitors = [] } ∷ []
sessions-opened session next a b serial watches [] fresh =
    ap (λ (ms : List Monitor). record { serial = session.serial; monitors = ms } ∷ []) (watches session.serial ∙ ap (λ c. cond c [] (monitors_at session.serial a)) (eq-eqb session.serial session.serial refl))
    ∙ ap (λ n. record { serial = n; monitors = [] } ∷ []) serial
sessions-opened session next a b serial watches (m ∷ sessions) fresh =
    let parts = or_parts (eqb m.serial session.serial) (has_serial session.serial sessions) fresh in
    ap (λ (ms : List Monitor). record { serial = m.serial; monitors = ms } ∷ machine_sessions b (sessions ++ session ∷ [])) (watches m.serial ∙ ap (λ c. cond c [] (monitors_at m.serial a)) parts.0)
    ∙ ap (λ (rest : List machine.Session). record { serial = m.serial; monitors = monitors_at m.serial a } ∷ rest) (sessions-opened session next a b serial watches sessions parts.1)

-- one that is closed is left out
pub sessions-without : (n : ℕ) (a b : Watching) → WatchesWith n [] a b → (sessions : List Session) → machine_sessions b (without_serial n sessions) ≡ filter (λ (m : machine.Session). not (eqb m.serial n)) (machine_sessions a sessions)
sessions-without n a b watches [] = refl
sessions-without n a b watches (m ∷ sessions) = by (eqb m.serial n) (watches m.serial) (sessions-without n a b watches sessions)
  where
    by : (c : Bool) → monitors_at m.serial b ≡ cond c [] (monitors_at m.serial a) → machine_sessions b (without_serial n sessions) ≡ filter (λ (m : machine.Session). not (eqb m.serial n)) (machine_sessions a sessions)
        → machine_sessions b (cond (not c) (m ∷ without_serial n sessions) (without_serial n sessions))
        ≡ cond (not c) (record { serial = m.serial; monitors = monitors_at m.serial a } ∷ filter (λ (m : machine.Session). not (eqb m.serial n)) (machine_sessions a sessions)) (filter (λ (m : machine.Session). not (eqb m.serial n)) (machine_sessions a sessions))
    by true is rest = rest
    by false is rest = rw (is, rest) refl

-- as many sessions are open
pub length-sessions : (w : Watching) (sessions : List Session) → length (machine_sessions w sessions) ≡ length sessions
length-sessions w [] = refl
length-sessions w (m ∷ sessions) = ap suc (length-sessions w sessions)
