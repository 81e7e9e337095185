-- What comes of a keeper when sessions of its database are served.
use Rattle.std.specs.Prelude.{◌≡◌, ℕ, List, []}
use Rattle.ov_specs.specs.rows.Cells.{Stored}
use Rattle.ov_db.specs.Committing.{MayFindRows}
use Rattle.ov_db.specs.declared.fault.RefusedOpen.{RefusedOpen}
use Rattle.ov_core.specs.Following.{CoreState, with_clock}
use Rattle.ov_core.specs.Leaving.{LeavesItsOwn}
use Rattle.ov_core.specs.Opening.{OpensCore, RefusesCore}
use Rattle.ov_serve.specs.Serving.{ServerState}
use Rattle.ov_words.specs.declared.ending.Ending.{Ending}
use Rattle.ov_listen.specs.Pipes.{PipesState}
use Rattle.ov_listen.specs.Session.{EndsSession, server_over}
use Rattle.ov_listen.specs.declared.endpoint.Ended.{Ended}
use Rattle.ov_listen.specs.declared.endpoint.Offer.{Offer}
use Rattle.ov_listen.specs.declared.endpoint.Endpoint.{Endpoint}
use Rattle.ov_listen.specs.declared.endpoint.Endpoint.TheVariants.{Pipes, Address}
use Rattle.ov_listen.specs.Connections.{ClientEnd, EndsAddress}
use Rattle.ov_listen.specs.Environment.{Environment}

module _ {K D C : Type 0} (tells : C → ℕ → C → Type 0) where
  -- One session was served over the pipes, and no connection remains; or those of the connections at the address, of which this
  -- remains, and nothing was read from the pipes or written to them.
  abbrev pub EndsAt : Endpoint → ServerState K D C → Ending → ServerState K D C → List ClientEnd → Type 0
  EndsAt Pipes old told new remains = EndsSession tells old told new × (remains ≡ [])
  EndsAt (Address address count) old told new remains =
      EndsAddress tells (with_clock old.core old.clock) count told (with_clock new.core new.clock) remains × (new.reader ≡ old.reader) × (new.writer ≡ old.writer)

module _ {K D C : Type 0} (e : Environment K D C) where
  -- A core was opened over the keeper, and its sessions came to that. If the keeper is honest at the end, it was when the core
  -- was opened; a crash then leaves something, which is what is stored of the core's database, and an open finds it.
  pub record ServesOffer (keeper : K) (offer : Offer D) (from : PipesState C) (ended : Ended K D) (to : PipesState C) : Type 0 where
    pub first : CoreState K D
    pub opens : OpensCore e.keeper e.draws keeper offer.schema offer.draws first
    pub ends : EndsAt e.tells offer.endpoint (server_over first from) ended.ending (server_over ended.core to) ended.ends.items
    pub honest : e.keeper.is_honest ended.core.keeper → e.keeper.is_honest first.keeper
    pub leaves : e.keeper.is_honest ended.core.keeper → (held : Stored) → e.keeper.leaves ended.core.keeper held → LeavesItsOwn ended.core.state held
    pub some : e.keeper.is_honest ended.core.keeper → ∥ ((held : Stored) × e.keeper.leaves ended.core.keeper held) ∥₁
    pub finds : e.keeper.is_honest ended.core.keeper → MayFindRows (e.keeper.leaves ended.core.keeper) ended.core.state.schema ended.core.state.database ended.core.state.sealed

  -- no core was opened over the keeper
  abbrev pub RefusesOffer : K → Offer D → RefusedOpen K → Type 0
  RefusesOffer keeper offer refused = RefusesCore e.keeper e.draws keeper offer.schema offer.draws refused
