-- What a session begins with.
use Rattle.std.proofs.Common.{◌≡◌, ℕ, ◌≤◌, [], ◌∷◌, length, true, refl, sym, ◌∙◌, append-nil}
use Rattle.std.proofs.Math.Nat.{zero-max}
use Rattle.std.proofs.lemmas.List.Elements.{All-nil}
use Rattle.std.proofs.lemmas.Bool.{eq-eqb}
use Rattle.ov_specs.specs.machine.Machine as machine
use Rattle.ov_specs.specs.machine.Machine.{is_open}
use Rattle.ov_specs.specs.values.Uuid.{Uuid}
use Rattle.ov_specs.specs.machine.Streams as streams
use Rattle.ov_specs.specs.machine.Streams.{Opens, no_streams, Expands, fed_state}
use Rattle.ov_specs.proofs.laws.Expanding.{one_event}
use Rattle.ov_specs.proofs.laws.Histories.{leads_none, leads_more, closed_by_more}
use Rattle.ov_specs.proofs.laws.Turns.{turn_open}
use Rattle.ov_cut.specs.CutterState.{CutterState, HasCut}
use Rattle.ov_cut.proofs.Pieces.{fed_none}
use Rattle.ov_sessions.specs.declared.session.Session.{Session}
use Rattle.ov_history.specs.declared.event.Stepped.TheVariants as answer
use Rattle.ov_core.specs.Following.{CoreState}
use Rattle.ov_core.specs.Stepping.{IsEntered}
use Rattle.ov_serve.specs.Serving.{ServerState, Piece, IsSized}
use Rattle.ov_serve.specs.Progress.{ServedAndFed}
use Rattle.ov_serve.proofs.Closings.{stands_open}
use Rattle.ov_serve.proofs.Goings.{goes_by_entries}
use Rattle.ov_specs.proofs.laws.Truths.{or_truth}

-- a session that was opened
pub serving_opened : {K D C : Type 0} (draws : D → Uuid → D → Type 0) (tells : C → ℕ → C → Type 0) (session : Session) (old : ServerState K D C) (new : CoreState K D) (cutter : CutterState) → HasCut [] [] cutter
    → IsEntered draws old.core.state.moment machine.Open old.core (answer.Opened session) new → ServedAndFed tells session.serial old (record old { core = new }) cutter
serving_opened draws tells session old new cutter cuts entered =
    let t : machine.Stepped = record { state = new.state; sent = entered.moves.sent } in
    let enters : streams.IsEntryAt 0 old.core.state machine.Open entered.entry t = record { event = entered.tells.0; moment = entered.moment ∙ sym (zero-max old.core.state.moment); step = entered.moves.stepped } in
    let expands : Expands 0 (fed_state old.core.state no_streams) Opens (entered.entry ∷ []) (fed_state new.state no_streams) = (entered.entry, t, refl, enters, refl, refl) in
    let turn = turn_open session.serial old.core.state entered.entry t entered.moves.stepped entered.tells.0 in
    let there : is_open new.state session.serial ≡ true = turn.open_is ∙ rw (eq-eqb old.core.state.next session.serial (sym entered.tells.1)) (or_truth (is_open old.core.state session.serial)) in
    record {
      done = record {
        entries = entered.entry ∷ [];
        frames = [];
        pieces = [];
        streams = no_streams;
        extends = goes_by_entries session.serial old.core new (entered.entry ∷ []) entered.moves.follows;
        read = sym (append-nil old.reader.read);
        written = sym (append-nil old.writer.written);
        expands = one_event 0 (fed_state old.core.state no_streams) Opens (entered.entry ∷ []) (fed_state new.state no_streams) expands;
        stream = refl;
        ticks = (λ is. let no : machine.Open ≡ machine.Tick = sym entered.tells.0 ∙ is in cc, λ u stepped. tt);
        sizes = All-nil (λ (p : Piece). IsSized p.bytes);
        moments = refl;
        serial = entered.tells.1;
        stands = stands_open session.serial old.core.state (entered.entry ∷ []) new.state (leads_more old.core.state [] old.core.state entered.entry t (leads_none old.core.state) entered.moves.stepped) there
            (closed_by_more old.core.state [] old.core.state entered.entry t session.serial (leads_none old.core.state) entered.moves.stepped ∙ turn.cause_is);
      };
      fed = λ _. fed_none cutter cuts;
    }
