-- What comes of a new database in memory.
use Rattle.std.specs.Prelude.{◌≡◌, ◌↔◌, ℕ, List, Result, Ok, Err}
use Rattle.std.specs.FinMap.{empty}
use Rattle.ov_specs.specs.rows.Cells.{Stored, InCells}
use Rattle.ov_keeper.specs.declared.keeper.Keeper.{Ghosts}
use Rattle.ov_db.specs.declared.fault.RefusedOpen.{RefusedOpen}
use Rattle.ov_listen.specs.Pipes.{PipesState}
use Rattle.ov_listen.specs.declared.endpoint.Ended.{Ended}
use Rattle.ov_listen.specs.declared.endpoint.Offer.{Offer}
use Rattle.ov_listen.specs.declared.memory.Service.{Service}
use Rattle.ov_listen.specs.Environment.{Environment}
use Rattle.ov_listen.specs.Offers.{ServesOffer, RefusesOffer}

-- it holds just this text of a schema and no row, in format 2, and its device has not failed
pub record IsNewKeeper {K : Type 0} (k : Ghosts K) (text : List ℕ) (keeper : K) : Type 0 where
  pub found : (contents : Stored) → k.leaves keeper contents ↔ (contents ≡ record { schema = text; lines = InCells empty })
  pub fresh : k.failed keeper ≡ 0

-- what a service offers of the database that a keeper holds: all but the text
abbrev pub offer_of : {D : Type 0} → Service D → Offer D
offer_of service = record { schema = service.schema; draws = service.draws; endpoint = service.endpoint }

module _ {K D C : Type 0} (e : Environment K D C) where
  -- A core was opened over a new keeper and served its sessions; or none was opened, and nothing is read or written.
  abbrev pub EndsMemory : Service D → PipesState C → Result (Ended K D) (RefusedOpen K) → PipesState C → Type 0
  EndsMemory service from (Ok ended) to = (keeper : K) × IsNewKeeper e.keeper service.text keeper × ServesOffer e keeper (offer_of service) from ended to
  EndsMemory service from (Err refused) to = (keeper : K) × IsNewKeeper e.keeper service.text keeper × RefusesOffer e keeper (offer_of service) refused × (to ≡ from)
