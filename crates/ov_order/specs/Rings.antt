-- A ring between a worker and the desk.
use Rattle.std.specs.Prelude.{◌≡◌, ℕ, []}
use Rattle.rtrb.specs.Ring.{sent, known_free, producer_capacity, received, known_items, consumer_capacity, IsPair}
use Rattle.rtrb.specs.declared.producer.Producer.{Producer}
use Rattle.rtrb.specs.declared.consumer.Consumer.{Consumer}

-- both ends of a ring with room for this many items, through which nothing went
pub record IsNewRing {T A P : Type 0} (capacity : ℕ) (producer : Producer T A P) (consumer : Consumer T A P) : Type 0 where
  pub pair : IsPair producer consumer
  pub sends : (producer_capacity producer ≡ capacity) × (known_free producer ≡ capacity)
  pub receives : consumer_capacity consumer ≡ capacity
  pub unsent : sent producer ≡ []
  pub unreceived : (received consumer ≡ []) × (known_items consumer ≡ [])
