-- The databases of histories from an opening, of their fronts, and of their replies.
use Rattle.std.proofs.Common.{◌≡◌, ℕ, ◌+◌, ◌-◌, List, [], ◌∷◌, ◌++◌, length, false, Some, None, ◌⊎◌, inl, inr, refl, sym, ap, subst, ◌∙◌, append_assoc, arith}
use Rattle.std.specs.List.{AllByRecursion}
use Rattle.std.proofs.lemmas.List.{append-nil}
use Rattle.serde_json.specs.Data.{Data, array, Items}
use Rattle.ov_specs.specs.locks.Queues.{owns}
use Rattle.ov_specs.specs.machine.History.{run}
use Rattle.ov_specs.specs.machine.Machine.{State, Left, Entry, Take, Transact, work_of, arrived, Outcome, Committed, Failed, Outstanding, Sent, Stepped, listed, step, results_to, opening}
use Rattle.ov_specs.specs.operations.Transaction.{has_error}
use Rattle.ov_specs.specs.rows.Database.{Database}
use Rattle.ov_specs.specs.schema.SchemaTypes.{Schema}
use Rattle.ov_specs.specs.wire.Frame.{reply_tree}
use Rattle.ov_specs.specs.wire.Message.{Message}
use Rattle.ov_specs.proofs.laws.Histories.{Leads, leads_none, run_parts, run_none}
use Rattle.ov_laws.specs.Databases.{if_suits, kept_by_event, at_moment_of, kept_by, databases, IsLastOf, commits_in}
use Rattle.ov_laws.specs.Making.{Arrival, arrival_of, TakesTransaction, IsTaken, Makes, RepliesTo, takes_another}
use Rattle.ov_laws.proofs.Attempts.{changed_succeeds}
use Rattle.ov_laws.proofs.Counting.{commits, kept_as_listed}
use Rattle.ov_laws.proofs.Keeping.{Rules, start_at, Goes, Entering, listed-some, step_goes, run_goes}
use Rattle.ov_laws.proofs.Paths.{path-last, path-next, after_all, after_all-is, all-at, all-so}
use Rattle.ov_laws.proofs.Telling.{Tells}

-- ---- from any state

-- nothing is asked of those that wait, nor of what is made
abbrev any_taken : List Entry → Arrival → Type 0
any_taken done arrival = Unit {0}

abbrev any_made : Outcome → ℕ → Database → Database → Type 0
any_made outcome n before after = Unit {0}

any_waiting : (os : List Outstanding) → AllByRecursion (λ o. any_taken [] (arrival_of o)) os
any_waiting [] = tt
any_waiting (o ∷ os) = (tt, any_waiting os)

goes_from : (s : State) (h : List Entry) (t : Stepped) → run s h ≡ Some t → Goes (record { schema = s.schema; IsTaken = any_taken h; Made = any_made }) (start_at 0 s) (kept_by s h) t.state
goes_from s h t r =
    run_goes s.schema s h any_taken any_made
    (λ done e later u n is leads there waiting count. record {
      there = there;
      waiting = waiting;
      new = λ session message id operations takes asks. tt;
      makes = λ made trial outcome results after listed tries taken own completes changes. tt;
      replies = λ made trial results after ds former next listed tries taken completes counted stands kept. tt;
      grows = λ ds more session id results told. told;
    })
    h [] 0 s t refl (leads_none s) refl (any_waiting s.outstanding) refl r

-- the last one is the state's
pub last_is : (s : State) (h : List Entry) (t : Stepped) → run s h ≡ Some t → IsLastOf t.state.database (databases s h)
last_is s h t r =
    let (earlier, is, long) = path-last (any_made Committed) 0 s.database (kept_by s h) t.state.database (goes_from s h t r).path in
    (earlier, is)

-- those of a front are the first
kept-front : (s : State) (front back : List Entry) (mid : Stepped) → run s front ≡ Some mid → kept_by s (front ++ back) ≡ kept_by s front ++ kept_by mid.state back
kept-front s [] back mid r = ap (λ (v : State). kept_by v back) (run_none s mid r)
kept-front s (e ∷ front) back mid r =
    let parts = run_parts s e front mid r in
    let own : List Database = kept_by_event (at_moment_of e s) e.choice e.event in
    ap (λ o. if_suits o (λ (v : Stepped). own ++ kept_by v.state (front ++ back))) parts.stepped
    ∙ (ap (λ l. own ++ l) (kept-front parts.first.state front back parts.rest parts.runs ∙ ap (λ (v : State). kept_by parts.first.state front ++ kept_by v back) parts.state)
    ∙ (sym (append_assoc own (kept_by parts.first.state front) (kept_by mid.state back))
    ∙ ap (λ l. l ++ kept_by mid.state back) (sym (ap (λ o. if_suits o (λ (v : Stepped). own ++ kept_by v.state front)) parts.stepped))))

pub databases-front : (s : State) (front back : List Entry) (mid : Stepped) → run s front ≡ Some mid → databases s (front ++ back) ≡ databases s front ++ kept_by mid.state back
databases-front s front back mid r = ap (λ l. s.database ∷ l) (kept-front s front back mid r)

-- what a crash leaves
pub left_is : (s : State) (front : List Entry) (mid : Stepped) (d : Database) → run s front ≡ Some mid → Left mid.state d → IsLastOf d (databases s front) ⊎ (mid.state.sealed ≡ Some d)
left_is s front mid d r (inl same) = inl (subst (λ v. IsLastOf v (databases s front)) (sym same) (last_is s front mid r))
left_is s front mid d r (inr sealed) = inr sealed

-- after a commit that failed none is kept
pub sealed_stays : (s : State) (back : List Entry) (t : Stepped) (d : Database) → run s back ≡ Some t → s.sealed ≡ Some d → (t.state.sealed ≡ Some d) × (kept_by s back ≡ [])
sealed_stays s back t d r sealed = (goes_from s back t r).stays d sealed

-- ---- from an opening

module _ (schema : Schema) (database : Database) where
  abbrev first : State
  first = opening schema database

  -- what the entries took, they take with one more
  still_taken : (done : List Entry) (e : Entry) (arrival : Arrival) → TakesTransaction first done arrival → TakesTransaction first (done ++ e ∷ []) arrival
  still_taken done e arrival k = record {
    earlier = k.earlier;
    entry = k.entry;
    later = k.later ++ e ∷ [];
    stands = ap (λ l. l ++ e ∷ []) k.stands ∙ append_assoc k.earlier (k.entry ∷ k.later) (e ∷ []);
    before = k.before;
    leads = k.leads;
    message = k.message;
    takes = k.takes;
    asks = k.asks;
    drawn = k.drawn;
    arrives = k.arrives;
  }

  all_taken : (done : List Entry) (e : Entry) (os : List Outstanding) → AllByRecursion (IsTaken first done) os → AllByRecursion (IsTaken first (done ++ e ∷ [])) os
  all_taken done e os all = all-so (IsTaken first done) (IsTaken first (done ++ e ∷ [])) (λ o. still_taken done e (arrival_of o)) os all

  -- and what the next one asks for, it takes
  newly_taken : (done : List Entry) (e : Entry) (s : State) → Leads first done s → (session : ℕ) (message : Message) (id : Data) (operations : Items) → e.event ≡ Take session message → work_of (at_moment_of e s) session message ≡ Transact id operations
      → IsTaken first (done ++ e ∷ []) (arrived (at_moment_of e s) session id e.choice.draws operations)
  newly_taken done e s leads session message id operations takes asks = record {
    earlier = done;
    entry = e;
    later = [];
    stands = refl;
    before = record { state = s; sent = leads.0 };
    leads = leads.1;
    message = message;
    takes = takes;
    asks = asks;
    drawn = refl;
    arrives = refl;
  }

  goes : (h : List Entry) (t : Stepped) → run first h ≡ Some t → Goes (record { schema = schema; IsTaken = TakesTransaction first h; Made = Makes first h }) (start_at 0 first) (kept_by first h) t.state
  goes h t r =
      run_goes schema first h (TakesTransaction first) (Makes first h)
      (λ done e later s n is leads there waiting count. record {
        there = there;
        waiting = all_taken done e s.outstanding waiting;
        new = newly_taken done e s leads;
        makes = λ made trial outcome results after listed_is tries taken own completes changes.
            let u : State = trial.state in
            let o : Outstanding = trial.tried in
            record {
              earlier = done;
              entry = e;
              later = later;
              stands = is;
              mid = record { state = s; sent = leads.0 };
              leads = leads.1;
              trial = trial;
              tries = tries;
              taken = taken;
              made = made;
              listed = listed_is;
              others = (listed trial.number trial.left).others;
              answered = listed-some trial.number trial.left outcome own;
              counted = ap (λ k. k + commits made) (sym count);
              database = refl;
              results = results;
              completes = completes;
              succeeds = changed_succeeds schema u.database (owns u.queues o.session) o.draws (u.moment - o.arrival) o.operations results after completes changes;
              changes = changes;
            };
        replies = λ made trial results after ds former next listed_is tries taken completes counted stands kept. tt;
        grows = λ ds more session id results told. told;
      })
      h [] 0 first t refl (leads_none first) refl tt refl r

  pub next_is_made : (h : List Entry) (t : Stepped) (earlier later : List Database) (one next : Database) → run first h ≡ Some t → databases first h ≡ earlier ++ one ∷ next ∷ later → Makes first h Committed (length earlier) one next
  next_is_made h t earlier later one next r is =
      let counted : after_all 0 earlier ≡ length earlier = omega (arith, after_all-is 0 earlier) in
      subst (λ n. Makes first h Committed n one next) counted (path-next (Makes first h Committed) 0 database (kept_by first h) t.state.database (goes h t r).path earlier later one next is)

  pub failed_is_made : (h : List Entry) (t : Stepped) (d : Database) → run first h ≡ Some t → t.state.sealed ≡ Some d → Makes first h Failed (length (commits_in h)) t.state.database d
  failed_is_made h t d r sealed =
      let counted : after_all 0 (kept_by first h) ≡ length (commits_in h) = omega (arith, after_all-is 0 (kept_by first h), kept_as_listed first h t r) in
      subst (λ n. Makes first h Failed n t.state.database d) counted ((goes h t r).failed (λ v none. absurd (no v none)) d sealed)
    where
      no : (v : Database) → None ≡ Some v → ⊥
      no v e = cc

  pub reply_tells : (h : List Entry) (t u : Stepped) (e : Entry) (n : ℕ) (id : Data) (results : Items) (front back : List Sent) → run first h ≡ Some t → step t.state e ≡ Some u → takes_another (at_moment_of e t.state) e.event ≡ false
      → u.sent ≡ front ++ (results_to n id results ++ back) → has_error results ≡ false → RepliesTo first h t.state e (databases t.state (e ∷ [])) (record { session = n; id = id; results = results })
  reply_tells h t u e n id results front back r stepped told sent fine =
      let so = goes h t r in
      let own : List Database = kept_by_event (at_moment_of e t.state) e.choice e.event in
      let rules : Rules = record { schema = schema; IsTaken = TakesTransaction first (h ++ e ∷ []); Made = any_made } in
      let ok : Entering rules T 0 (at_moment_of e t.state) e.choice e.event =
      record {
        there = so.schema_is;
        waiting = all_taken h e t.state.outstanding so.waiting;
        new = newly_taken h e t.state (t.sent, r);
        makes = λ made trial outcome results' after listed_is tries taken own' completes changes. tt;
        replies = λ made trial results' after ds former next listed_is tries taken completes counted stands kept. record {
          trial = trial;
          tries = tries;
          taken = taken;
          of_session = refl;
          of_id = refl;
          made = made;
          listed = listed_is;
          after = after;
          completes = completes;
          former = former;
          next = next;
          counted = counted;
          stands = stands;
          kept = kept;
        };
        grows = grows;
      } in
      let all = (step_goes rules T 0 t.state e u ok stepped).1 told in
      let its : Tells T (t.state.database ∷ own) (record { session = n; tree = reply_tree id (array results) }) =
      all-at (Tells T (t.state.database ∷ own)) front (record { session = n; tree = reply_tree id (array results) }) back (subst (AllByRecursion (Tells T (t.state.database ∷ own))) sent all) in
      subst (λ l. T (t.state.database ∷ l) n id results) (sym (ap (λ o. if_suits o (λ (v : Stepped). own ++ kept_by v.state [])) stepped ∙ append-nil own))
      (its id results refl fine)
    where
      T : List Database → ℕ → Data → Items → Type 0
      T ds session id' results' = RepliesTo first h t.state e ds (record { session = session; id = id'; results = results' })

      grows : (ds more : List Database) (session : ℕ) (id' : Data) (results' : Items) → T ds session id' results' → T (ds ++ more) session id' results'
      grows ds more session id' results' k = record {
        trial = k.trial;
        tries = k.tries;
        taken = k.taken;
        of_session = k.of_session;
        of_id = k.of_id;
        made = k.made;
        listed = k.listed;
        after = k.after;
        completes = k.completes;
        former = k.former;
        next = k.next ++ more;
        counted = k.counted;
        stands = ap (λ l. l ++ more) k.stands ∙ append_assoc k.former (k.trial.state.database ∷ k.next) more;
        kept = elim k.kept [
          | inl same ↦ inl same
          | inr (rest, is') ↦ inr (rest ++ more, ap (λ l. l ++ more) is')
        ];
      }
