-- What a worker's thread did with what it was handed.
use Rattle.std.specs.Prelude.{◌≡◌, ◌⊎◌, List, [], ◌∷◌, ◌++◌, Bool, true, false, Option, Some, None, not, MatchOption}
use Rattle.std.specs.declared.alloc.Global.{Global}
use Rattle.rtrb.specs.Ring.{sent, received, SameConsumer}
use Rattle.rtrb.specs.declared.AnyItems.{AnyItems}
use Rattle.rtrb.specs.declared.consumer.Consumer.{Consumer}
use Rattle.ov_ends.specs.States.{SourceState, SinkState}
use Rattle.ov_order.specs.declared.items.Sent.{Sent}
use Rattle.ov_workers.specs.Reading.{BringsItems}
use Rattle.ov_workers.specs.Writing.{Writes}
use Rattle.ov_workers.specs.Inlet.{SameInlet}
use Rattle.ov_workers.specs.declared.inlet.Inlet.{Inlet}
use Rattle.ov_workers.specs.declared.link.Link.{Link}
use Rattle.ov_workers.specs.LinkStates.{LinkState}
use Rattle.ov_workers.specs.Accepting.{GivesAll}
use Rattle.ov_threads.specs.declared.reading.ReadLeft.{ReadLeft}
use Rattle.ov_threads.specs.declared.writing.WriteLeft.{WriteLeft}

-- an end of a link after the work: it is there if it is kept, and was dropped otherwise
abbrev pub kept_if : {T : Type 0} → Bool → T → Option T
kept_if true x = Some x
kept_if false x = None

-- This is what is left after the reader was read to its end, by this inlet; the reader is there only if it is kept.
abbrev pub ReadsLink : {S L : Type 0} → (S → SourceState) → Bool → Inlet L → S → ReadLeft S L → Type 0
ReadsLink source keeps inlet reader left = SameInlet inlet left.inlet × BringsItems left.cause (source reader) (source left.last.value) (sent left.inlet.ring) × (left.reader ≡ kept_if keeps left.last.value)

-- The thread was handed nothing, and read nothing; or it was handed a reader, and read it to its end.
abbrev pub ReadsHanded : {S L : Type 0} → (S → SourceState) → Bool → Inlet L → List (Option S) → Option (ReadLeft S L) → Type 0
ReadsHanded {S} source keeps inlet handed done = MatchOption done (handed ≡ None ∷ []) (λ left. (reader : S) × (handed ≡ Some reader ∷ []) × ReadsLink source keeps inlet reader left)

-- This is what is left after the frames of the ring were written to the writer, up to the end mark; the writer is there only
-- if it is kept.
abbrev pub WritesLink : {W : Type 0} → (W → SinkState) → Bool → Consumer Sent Global AnyItems → W → WriteLeft W → Type 0
WritesLink sink keeps ring writer left = SameConsumer ring left.ring × Writes (not left.failed) (sink writer) (sink left.last.value) (received left.ring) × (left.writer ≡ kept_if keeps left.last.value)

-- The thread was handed nothing, and wrote nothing; or it was handed a writer, and wrote to it up to the end mark.
abbrev pub WritesHanded : {W : Type 0} → (W → SinkState) → Bool → Consumer Sent Global AnyItems → List (Option W) → Option (WriteLeft W) → Type 0
WritesHanded {W} sink keeps ring handed done = MatchOption done (handed ≡ None ∷ []) (λ left. (writer : W) × (handed ≡ Some writer ∷ []) × WritesLink sink keeps ring writer left)

-- The worker was handed no listener, and brought nothing; or it brought all that the listener gave that it was handed.
abbrev pub BringsLinks : {S W T : Type 0} → (S → W → LinkState) → (T → Option (Link S W) → T → Type 0) → List (Option T) → List (Link S W) → Type 0
BringsLinks {T = T} ends gives handed links =
    ((handed ≡ None ∷ []) × (links ≡ []))
    ⊎ ((listener : T) × (handed ≡ Some listener ∷ []) × (last : T) × GivesAll ends gives listener links last)

-- The listener gave links until there were no more, and these are the first of them.
pub record HaveCome {S W T : Type 0} (ends : S → W → LinkState) (gives : T → Option (Link S W) → T → Type 0) (listener : T) (come : List (Link S W)) : Type 0 where
  pub links : List (Link S W)
  pub last : T
  pub gave : GivesAll ends gives listener links last
  pub rest : List (Link S W)
  pub first : come ++ rest ≡ links
