use Rattle.std.proofs.Common.{◌≡◌, ℕ, ◌+◌, List, [], ◌∷◌, ◌++◌, map, length, set, sym, ap, ◌∙◌, refl, arith}
use Rattle.std.proofs.lemmas.List.{map-append, length-append, length-map, length-set}
use Rattle.std.proofs.lemmas.List.Elements.{All-from_recursion}
use Rattle.std.specs.Prelude.{Some}
use Rattle.ov_sessions.specs.Sessions.{session_at}
use Rattle.ov_sessions.specs.declared.session.Session.{Session}
use Rattle.ov_sessions.proofs.Keying.{insert_last, held_more, below_more, key_is_free, key_set, taken_more, room_for_one, none_beyond}
use Rattle.ov_sessions.proofs.sessions.Sessions.open.Goals as goal

pub unreachable-requires : goal.unreachable-requires
unreachable-requires c =
    let old = c.self.inside.keys.entries in
    let few = room_for_one (length (map session_at old)) c.self.inside.next (rw (← c.self.view_is) at c.requires) in
    let full = rw c.as_slice.ensures.value at c.in_default.ensures in
    omega (arith, few, full, c.self.invariant.room, c.self.invariant.many, length-map old session_at)

pub invariant_of-self-2 : goal.invariant_of-self-2
invariant_of-self-2 c =
    let serials = c.self.inside.serials.items in
    let old = c.self.inside.keys.entries in
    let serial = c.self.inside.next in
    let key = c.in-Some.key in
    let (within, free) = rw c.as_slice.ensures.value at c.in-Some.ensures in
    let last : c.insert.new.self.entries ≡ old ++ (serial, key) ∷ [] = c.in_ok-insert.ensures.entries ∙ insert_last serial key old c.self.invariant.below in
    rw last (record {
      room = length-set serials key (Some serial) ∙ c.self.invariant.room;
      many = taken_more serials key serial within free ∙ (ap (λ (n : ℕ). n + 1) c.self.invariant.many ∙ sym (length-append old ((serial, key) ∷ [])));
      held = held_more serials (set serials key (Some serial)) serial key old free (key_set serials key (Some serial) within) c.self.invariant.held;
      below = below_more serial key old c.self.invariant.below;
    })

pub returns-clause-opened : goal.returns-clause-opened
returns-clause-opened c =
    let serials = c.self.inside.serials.items in
    let old = c.self.inside.keys.entries in
    let serial = c.self.inside.next in
    let key = c.in-Some.key in
    let (within, free) = rw c.as_slice.ensures.value at c.in-Some.ensures in
    let last : c.insert.new.self.entries ≡ old ++ (serial, key) ∷ [] = c.in_ok-insert.ensures.entries ∙ insert_last serial key old c.self.invariant.below in
    rw (← c.self.view_is) (record {
      sessions = ap (λ (sessions : List Session). record { open_sessions = sessions; next = serial + 1 }) (ap (map session_at) last ∙ map-append session_at old ((serial, key) ∷ []));
      serial = refl;
      key = omega (arith, within, c.self.invariant.room);
      free = All-from_recursion _ _ (key_is_free serials key old free c.self.invariant.held);
      fresh = none_beyond serial old c.self.invariant.below;
    })
