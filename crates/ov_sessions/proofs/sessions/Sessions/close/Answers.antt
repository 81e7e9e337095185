use Rattle.std.proofs.Common.{◌≡◌, ◌<◌, List, map, set, sym, ap, ◌∙◌, Some, None, arith}
use Rattle.std.proofs.lemmas.List.{length-set}
use Rattle.std.specs.Map.{lookup}
use Rattle.std.specs.BTreeMap.{is_at}
use Rattle.std.specs.Ordering.{nat_cmp}
use Rattle.ov_sessions.specs.declared.session.Session.{Session}
use Rattle.ov_sessions.proofs.Keying.{left_out, none_left_out, all_left, held_less, held_at, key_set, key_within, taken_less}
use Rattle.ov_sessions.specs.Sessions.{session_at, serial_at}
use Rattle.ov_sessions.proofs.sessions.Sessions.close.Goals as goal

pub index_mut-requires : goal.index_mut-requires
index_mut-requires c =
    let found : lookup (is_at (nat_cmp c.args.serial)) c.self.inside.keys.entries ≡ Some c.in-Some.key = sym c.remove.ensures.value ∙ c.in-Some.is in
    omega (arith, key_within c.self.inside.serials.items c.in-Some.key c.args.serial (held_at c.self.inside.serials.items c.args.serial c.in-Some.key c.self.inside.keys.entries found c.self.invariant.held))

pub invariant_of-self : goal.invariant_of-self
invariant_of-self c =
    let tied = c.self.invariant in
    let serials = c.self.inside.serials.items in
    let keys = c.self.inside.keys.entries in
    let key = c.in-Some.key in
    let found : lookup (is_at (nat_cmp c.args.serial)) keys ≡ Some key = sym c.remove.ensures.value ∙ c.in-Some.is in
    let at = held_at serials c.args.serial key keys found tied.held in
    let within = key_within serials key c.args.serial at in
    let none = c.remove.ensures.updates.1 in
    let less = rw c.in-Some.is at c.remove.ensures.len in
    let held = all_left (λ e. serial_at serials e.1 ≡ Some e.0) (is_at (nat_cmp c.args.serial)) keys tied.held in
    let below = all_left (λ e. e.0 < c.self.inside.next) (is_at (nat_cmp c.args.serial)) keys tied.below in
    record {
      room = length-set serials key None ∙ tied.room;
      many = omega (arith, taken_less serials key c.args.serial within at, tied.many, less);
      held = held_less serials (set serials key None) c.args.serial key c.remove.new.self.entries at (key_set serials key None within) none (rw (← c.remove.ensures.entries) at held);
      below = rw (← c.remove.ensures.entries) at below;
    }

pub returns-in-Some : goal.returns-in-Some
returns-in-Some c =
    let none = c.remove.ensures.updates.1 in
    let keys = c.self.inside.keys.entries in
    let left = ap (map session_at) c.remove.ensures.entries ∙ left_out c.args.serial keys (rw c.remove.ensures.entries at none) in
    rw (← c.self.view_is) (ap (λ (sessions : List Session). record { open_sessions = sessions; next = c.self.inside.next }) left)

pub returns-in_default : goal.returns-in_default
returns-in_default c =
    let keys = c.self.inside.keys.entries in
    let none : lookup (is_at (nat_cmp c.args.serial)) keys ≡ None = sym c.remove.ensures.value ∙ c.in_default.is in
    let same = ap (map session_at) (rw c.in_default.is at c.remove.ensures.unchanged) in
    rw (← c.self.view_is) (ap (λ (sessions : List Session). record { open_sessions = sessions; next = c.self.inside.next }) (same ∙ none_left_out c.args.serial keys none))
