-- How a piece of an open session, and the time that passes after it, change a server.
use Rattle.std.proofs.Common.{◌≡◌, ℕ, List, [], ◌∷◌, ◌++◌, Bool, true, false, refl, sym, subst, append_assoc, max}
use Rattle.ov_specs.specs.wire.Message.{Message, asked}
use Rattle.ov_specs.specs.machine.Machine as machine
use Rattle.ov_specs.specs.machine.Machine.{State, is_open}
use Rattle.ov_specs.specs.machine.Streams.{Feed, Passes, Streams, with_fed, Feeds, Expands, ExpandsTimed, delivered, fed_state}
use Rattle.ov_specs.specs.values.Uuid.{Uuid}
use Rattle.ov_specs.proofs.laws.Expanding.{one_after_another, one_event}
use Rattle.ov_cut.specs.CutterState.{CutterState}
use Rattle.ov_cut.specs.Reading.{IsFed}
use Rattle.ov_history.specs.declared.event.Stepped.TheVariants as answer
use Rattle.ov_core.specs.Following.{CoreState, Extends}
use Rattle.ov_core.specs.Stepping.{IsEntered}
use Rattle.ov_streams.specs.Feeding.{FedPiece, EntersPiece, fed_piece}
use Rattle.ov_streams.proofs.Entering.{enters_more}
use Rattle.ov_core.specs.Passing.{is_due, TicksIf}
use Rattle.ov_serve.specs.Serving.{Piece, piece_events, PassesWhereDue}
use Rattle.ov_serve.specs.Progress.{StandsAfter, PassesDue, PassesIf}
use Rattle.ov_serve.proofs.Closings.{not_closed, feeds_stand, tick_stands}
use Rattle.ov_serve.proofs.Passings.{fed_passes, tick_passes, passes_on}

-- the streams of a piece that an open session is fed
piece_expands : (at n : ℕ) (s new : State) (before : Streams) (stream piece : List ℕ) (messages : List Message) (entries : List machine.Entry) → is_open s n ≡ true → before n ≡ stream
    → (asked (stream ++ piece)).messages ≡ (asked stream).messages ++ messages → Feeds (delivered at n) s messages (asked (stream ++ piece)).damaged entries new
    → Expands at (fed_state s before) (Feed n piece) entries (fed_state new (with_fed before n piece))
piece_expands at n s new before stream piece messages entries there is more feeds = rw there (messages, rw is more, rw is feeds, refl)

-- a Tick if a transaction is due
pub passed_due : {K D : Type 0} (draws : D → Uuid → D → Type 0) (at : ℕ) (old new : CoreState K D) → is_due at old.state ≡ true → IsEntered draws (max at old.state.moment) machine.Tick old answer.Done new → PassesDue at old new
passed_due draws at old new due e = record {
  is_due = due;
  entry = e.entry;
  step = record { state = new.state; sent = e.moves.sent };
  adds = record { state = refl; enters = e.moves.follows };
  is = record { event = e.tells; moment = e.moment; step = e.moves.stepped };
}

-- a Tick there, or nothing
pub passed_if : {K D : Type 0} (draws : D → Uuid → D → Type 0) (ticks : Bool) (at : ℕ) (old new : CoreState K D) → ticks ≡ is_due at old.state → TicksIf draws ticks at old new → PassesIf ticks at old new
passed_if draws true at old new due entered = passed_due draws at old new (sym due) entered
passed_if draws false at old new due same = same

-- the piece, with whether time passes after it
abbrev pub piece_of : ℕ → List ℕ → Bool → Piece
piece_of at bytes ticks = record { moment = at; bytes = bytes; ticks = ticks }

-- what led to a piece: the state before the session, the entries since, and the streams that were fed
pub record Past : Type 0 where
  pub before : State
  pub entries : List machine.Entry
  pub streams : Streams

-- these
abbrev pub led_to : State → List machine.Entry → Streams → Past
led_to before entries streams = record { before = before; entries = entries; streams = streams }

-- What the piece makes of the core: it came as p, after what led to it.
pub record PieceMakes {K D : Type 0} (led : Past) (piece : FedPiece) (p : Piece) (a b : CoreState K D) (cutter : CutterState) : Type 0 where
  pub entries : List machine.Entry
  pub enters : Extends a entries b
  pub expands : ExpandsTimed (fed_state a.state led.streams) (piece_events piece.session p) entries (fed_state b.state (with_fed led.streams piece.session p.bytes))
  pub passes : PassesWhereDue led.before (led.entries ++ entries)
  pub stands : StandsAfter piece.session led.before (led.entries ++ entries) b.state
  pub fed : is_open b.state piece.session ≡ true → IsFed (piece.stream ++ p.bytes) cutter

module _ {K D : Type 0} (at n : ℕ) (before : State) (h : List machine.Entry) (streams : Streams) (stream piece : List ℕ) (a mid : CoreState K D) (cutter : CutterState)
    (there : is_open a.state n ≡ true) (is : streams n ≡ stream) (after : StandsAfter n before h a.state) (first : PassesWhereDue before h) (brings : EntersPiece at (fed_piece n stream piece) a mid cutter) where
  -- the piece alone
  fed_expands : ExpandsTimed (fed_state a.state streams) ((at, Feed n piece) ∷ []) brings.entries (fed_state mid.state (with_fed streams n piece))
  fed_expands =
      one_event at (fed_state a.state streams) (Feed n piece) brings.entries (fed_state mid.state (with_fed streams n piece))
      (piece_expands at n a.state mid.state streams stream piece brings.messages brings.entries there is brings.more brings.feeds)

  fed_stands : StandsAfter n before (h ++ brings.entries) mid.state
  fed_stands =
      feeds_stand at n before a.state h brings.messages (asked (stream ++ piece)).damaged brings.entries mid.state (after.sent, after.leads) there (not_closed n before h a.state after there) brings.feeds

  piece_passes : PassesWhereDue before (h ++ brings.entries)
  piece_passes =
      passes_on before h brings.entries a.state (after.sent, after.leads) first
      (fed_passes at a.state n brings.messages (asked (stream ++ piece)).damaged brings.entries mid.state brings.feeds)

  fed_alone : PieceMakes (led_to before h streams) (fed_piece n stream piece) (piece_of at piece false) a mid cutter
  fed_alone = record { entries = brings.entries; enters = brings.enters; expands = fed_expands; passes = piece_passes; stands = fed_stands; fed = brings.goes_on }

  -- and then time passes
  fed_and_passed : (b : CoreState K D) → is_open mid.state n ≡ true → PassesDue at mid b → PieceMakes (led_to before h streams) (fed_piece n stream piece) (piece_of at piece true) a b cutter
  fed_and_passed b still k =
      let fed' : Streams = with_fed streams n piece in
      record {
        entries = brings.entries ++ k.entry ∷ [];
        enters = enters_more a mid b brings.entries (k.entry ∷ []) brings.enters k.adds.enters;
        expands =
            one_after_another (fed_state a.state streams) ((at, Feed n piece) ∷ []) brings.entries (fed_state mid.state fed') ((at, Passes at) ∷ []) (k.entry ∷ []) (fed_state b.state fed') fed_expands
            (one_event at (fed_state mid.state fed') (Passes at) (k.entry ∷ []) (fed_state b.state fed') (k.entry, k.step, refl, k.is, sym k.adds.state, refl));
        passes =
            subst (λ (l : List machine.Entry). PassesWhereDue before l) (append_assoc h brings.entries (k.entry ∷ []))
            (passes_on before (h ++ brings.entries) (k.entry ∷ []) mid.state (fed_stands.sent, fed_stands.leads) piece_passes (tick_passes at mid.state k.entry k.step k.is_due k.is));
        stands =
            subst (λ (l : List machine.Entry). StandsAfter n before l b.state) (append_assoc h brings.entries (k.entry ∷ []))
            (subst (λ (v : State). StandsAfter n before ((h ++ brings.entries) ++ k.entry ∷ []) v) k.adds.state
            (tick_stands at n before mid.state (h ++ brings.entries) k.entry k.step (fed_stands.sent, fed_stands.leads) still (not_closed n before (h ++ brings.entries) mid.state fed_stands still) k.is));
        fed = λ open'. brings.goes_on still;
      }

  pub makes : (b : CoreState K D) (ticks : Bool) → PassesIf ticks at mid b → (ticks ≡ true → is_open mid.state n ≡ true) → PieceMakes (led_to before h streams) (fed_piece n stream piece) (piece_of at piece ticks) a b cutter
  makes b true passes still = fed_and_passed b (still refl) passes
  makes b false passes still = subst (λ (v : CoreState K D). PieceMakes (led_to before h streams) (fed_piece n stream piece) (piece_of at piece false) a v cutter) (sym passes) fed_alone
