-- What a load reads.
use Rattle.std.specs.Prelude.{◌≡◌, IsTrue}
use Rattle.sqlite.specs.State.{State}
use Rattle.ov_keeper.specs.declared.keeper.Loaded.{Loaded}
use Rattle.ov_sqlite.specs.Reading.{IsHeldBy}

-- the connection is open and everything is committed, and this is what its tables hold
pub record HoldsLoaded (s : State) (loaded : Loaded) : Type 0 where
  pub is_open : IsTrue s.is_open
  pub tables : IsHeldBy s.now loaded
  pub settled : s.now ≡ s.committed
