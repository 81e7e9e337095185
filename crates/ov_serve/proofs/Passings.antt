-- Where time passes among entries.
use Rattle.std.proofs.Common.{◌≡◌, ◌≤◌, ℕ, List, [], ◌∷◌, ◌++◌, Bool, true, false, Option, Some, None, refl, sym, ap, subst, ◌∙◌, arith, inl, inr}
use Rattle.std.specs.Prelude.{max, option_map, option_and_then}
use Rattle.std.proofs.lemmas.Option.{same_Some}
use Rattle.std.proofs.lemmas.Bool.{cases_Bool, MatchBool-at_true, MatchBool-at_false, le-leb, leb-true}
use Rattle.ov_specs.specs.wire.Message.{Message}
use Rattle.ov_specs.specs.machine.Machine.{State, Entry, Take, Close, Tick, Cause, Memory, Damaged, Stepped, is_open, due}
use Rattle.ov_specs.specs.machine.History.{run, then_sends}
use Rattle.ov_specs.specs.machine.Streams.{IsEntryAt, Feeds, delivered}
use Rattle.ov_specs.proofs.laws.Histories.{Leads}
use Rattle.ov_core.specs.Passing.{has_come, is_due}
use Rattle.ov_serve.specs.Serving.{PassesWhereDue}

-- time passes nowhere among the entries
abbrev NonePasses : List Entry → Type 0
NonePasses [] = Unit {0}
NonePasses (e ∷ entries) = (e.event ≡ Tick → ⊥) × NonePasses entries

none_passes : (entries : List Entry) → NonePasses entries → (s : State) → PassesWhereDue s entries
none_passes [] h s = tt
none_passes (e ∷ entries) h s = (λ is. absurd (h.0 is), λ t stepped. none_passes entries h.1 t.state)

-- nor does a message or a closing
not_by_take : (e : Entry) (n : ℕ) (message : Message) → e.event ≡ Take n message → e.event ≡ Tick → ⊥
not_by_take e n message is tick = let no : Take n message ≡ Tick = sym is ∙ tick in cc

not_by_close : (e : Entry) (n : ℕ) (cause : Cause) → e.event ≡ Close n cause → e.event ≡ Tick → ⊥
not_by_close e n cause is tick = let no : Close n cause ≡ Tick = sym is ∙ tick in cc

-- so none does among those of a piece
feeds_pass : (at : ℕ) (s : State) (n : ℕ) (messages : List Message) (damaged : Bool) (entries : List Entry) (new : State) → Feeds (delivered at n) s messages damaged entries new → NonePasses entries
feeds_pass at s n [] false [] new f = tt
feeds_pass at s n [] true [] new f = absurd f
feeds_pass at s n [] false (e ∷ []) new (t, inl enters, same) = (not_by_close e n Memory enters.event, tt)
feeds_pass at s n [] false (e ∷ []) new (t, inr (bad, enters), same) = (not_by_close e n Damaged enters.event, tt)
feeds_pass at s n [] true (e ∷ []) new (t, inl enters, same) = (not_by_close e n Memory enters.event, tt)
feeds_pass at s n [] true (e ∷ []) new (t, inr (bad, enters), same) = (not_by_close e n Damaged enters.event, tt)
feeds_pass at s n [] false (e ∷ f ∷ entries) new h = absurd h
feeds_pass at s n [] true (e ∷ f ∷ entries) new h = absurd h
feeds_pass at s n (message ∷ messages) damaged [] new h = absurd h
feeds_pass at s n (message ∷ messages) damaged (e ∷ entries) new (t, inl (enters, no_more, same)) = (not_by_close e n Memory enters.event, subst NonePasses (sym no_more) tt)
feeds_pass at s n (message ∷ messages) damaged (e ∷ entries) new (t, inr (enters, on)) = (
  not_by_take e n message enters.event,
  elim (cases_Bool (is_open t.state n)) [
    | inl there ↦ feeds_pass at t.state n messages damaged entries new (MatchBool-at_true (Feeds (delivered at n) t.state messages damaged entries new) ((entries ≡ []) × (new ≡ t.state)) there on)
    | inr away ↦ subst NonePasses (sym (MatchBool-at_false (Feeds (delivered at n) t.state messages damaged entries new) ((entries ≡ []) × (new ≡ t.state)) away on).0) tt
  ],
)

pub fed_passes : (at : ℕ) (s : State) (n : ℕ) (messages : List Message) (damaged : Bool) (entries : List Entry) (new : State) → Feeds (delivered at n) s messages damaged entries new → PassesWhereDue s entries
fed_passes at s n messages damaged entries new f = none_passes entries (feeds_pass at s n messages damaged entries new f) s

-- what has come by one moment has come by a later one
come_later : (at later : ℕ) (o : Option ℕ) → at ≤ later → has_come at o ≡ true → has_come later o ≡ true
come_later at later None h come = come
come_later at later (Some moment) h come = le-leb moment later (omega (arith, h, leb-true moment at come))

-- the moment of an entry is not below what it was asked for
later_of : (at b m : ℕ) → m ≡ max at b → at ≤ m
later_of at b m is = omega (arith, is)

-- time passed because a transaction is due
pub tick_passes : (at : ℕ) (s : State) (e : Entry) (t : Stepped) → is_due at s ≡ true → IsEntryAt at s Tick e t → PassesWhereDue s (e ∷ [])
tick_passes at s e t come enters = (λ is. come_later at e.choice.moment (due s) (later_of at s.moment e.choice.moment enters.moment) come, λ u stepped. tt)

-- one part after another
passes_after : (s : State) (h k : List Entry) → PassesWhereDue s h → ((t : Stepped) → run s h ≡ Some t → PassesWhereDue t.state k) → PassesWhereDue s (h ++ k)
passes_after s [] k first then = then (record { state = s; sent = [] }) refl
passes_after s (e ∷ h) k first then = (
  first.0,
  λ t stepped. passes_after t.state h k (first.1 t stepped) (λ u r.
      then (then_sends t.sent u) (ap (option_and_then (λ (v : Stepped). option_map (then_sends v.sent) (run v.state h))) stepped ∙ ap (option_map (then_sends t.sent)) r)),
)

-- from where the first leads
pub passes_on : (s : State) (h k : List Entry) (m : State) → Leads s h m → PassesWhereDue s h → PassesWhereDue m k → PassesWhereDue s (h ++ k)
passes_on s h k m (sent, leads) first then =
    passes_after s h k first (λ t r. subst (λ (v : State). PassesWhereDue v k) (ap (λ (v : Stepped). v.state) (same_Some (record { state = m; sent = sent }) t (sym leads ∙ r))) then)
