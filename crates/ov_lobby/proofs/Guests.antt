-- What a lobby comes to, once each session has left.
use Rattle.std.proofs.Common.{◌≡◌, inl, inr, ℕ, List, [], ◌++◌, refl, ap, subst, ◌∙◌, Option, arith}
use Rattle.ov_specs.specs.machine.Machine.{Entry}
use Rattle.ov_core.specs.Following.{with_clock}
use Rattle.ov_lanes.specs.Moments.{Tells}
use Rattle.ov_lanes.specs.Lanes.{AreOver, Serves}
use Rattle.ov_lanes.specs.declared.desk.Desk.{Desk}
use Rattle.ov_threads.specs.Handing.{HaveCome}
use Rattle.ov_workers.specs.Accepting.{arrived}
use Rattle.ov_workers.specs.LinkStates.{LinkState}
use Rattle.ov_workers.specs.declared.link.Link.{Link}
use Rattle.ov_hall.specs.Guests.{IsGuest, HaveLeft, AreHosted, HostsBy}
use Rattle.ov_hall.specs.Lists.{AreAmong}
use Rattle.ov_hall.specs.Serving.{ServesBy}
use Rattle.ov_hall.specs.declared.hall.Hall.{Hall}
use Rattle.ov_hall.proofs.Guests.{Hosted, guest_of}
use Rattle.ov_hall.proofs.Listed.{among_after, from_each}
use Rattle.ov_hall.proofs.Running.{shut_over, time_of}
use Rattle.ov_lobby.specs.Serving.{ServesLobby, ServesGuests}

module _ {K D C : Type 0} (tells : C → ℕ → C → Type 0) (a b : Desk K D) (clock clock' : C) (s : Serves a.core a.core a.lanes.items) (none : s.since.entries ≡ []) where
  -- with these moments
  abbrev lobby_by : (moments : List ℕ) → Tells tells clock moments clock' → ServesBy moments s b → AreOver b.lanes.items → ServesLobby tells (with_clock a.core clock) (with_clock b.core clock')
  lobby_by moments told x over = let t = x.after in record {
    since = t.since;
    closed = shut_over a.core b t over;
    earlier = t.earlier;
    time = time_of tells (with_clock a.core clock) (with_clock b.core clock') a.core.state [] x.more t.since.entries moments (x.adds ∙ ap (λ (l : List Entry). l ++ x.more) none) (λ reported. refl) told x.timed;
  }

module _ {K D S W L C : Type 0} (ends : S → W → LinkState) (tells : C → ℕ → C → Type 0) where
  -- of these links
  pub serves_guests : {T : Type 0} (gives : T → Option (Link S W) → T → Type 0) (listener : T) (a b : Hall K D S W L) (clock clock' : C) (s : Serves a.desk.core a.desk.core a.desk.lanes.items) → s.since.entries ≡ []
      → HostsBy ends tells a clock b clock' → AreOver b.desk.lanes.items → HaveLeft ends b.desk.lanes.items b.workers.items → HaveCome ends gives listener (arrived b.accepted)
      → ServesGuests ends tells gives listener (with_clock a.desk.core clock) (with_clock b.desk.core clock')
  serves_guests gives listener a b clock clock' s none by over left come =
      let x = by.hosts a.desk.core s in let t = x.0.after in let ls = b.desk.lanes.items in let ws = b.workers.items in
      let hosted : AreHosted ends b t = x.1 (record { guests = []; among = tt; many = omega arith; each = tt }) in
      let among : AreAmong hosted.guests come.links = subst (λ (l : List (Link S W)). AreAmong hosted.guests l) come.first (among_after hosted.guests (arrived b.accepted) come.rest hosted.among) in
      record {
        lobby = lobby_by tells a.desk b.desk clock clock' s none by.moments by.reported x.0 over;
        links = come.links;
        last = come.last;
        gave = come.gave;
        guests = hosted.guests;
        among = among;
        many = hosted.many;
        each = from_each (λ (n : ℕ) (link : Link S W). Hosted ends ls ws t.since n link) (λ (n : ℕ) (link : Link S W). IsGuest ends t.since n link) a.desk.core.state.next hosted.guests
            (λ n link low is. elim is [
              | inl (i, l, w, at, works, serial, has) ↦ (guest_of ends ls t n i l w link at serial has (left i l w at works)).0
              | inr (guest, away) ↦ guest
            ])
            hosted.each;
      }
