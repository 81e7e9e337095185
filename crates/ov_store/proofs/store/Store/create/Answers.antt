use Rattle.std.proofs.Common.{◌≡◌, ◌≤◌, ℕ, inl, inr, refl, sym, ap, subst, arith, IsTrue, false}
use Rattle.sqlite.specs.Held.{state}
use Rattle.ov_specs.specs.rows.Cells.{Stored, format_of}
use Rattle.ov_keeper.specs.Keeping.{IsCommitFault}
use Rattle.ov_tables.specs.Tables.{HasFreeNames}
use Rattle.ov_tables.specs.Making.{MayMake}
use Rattle.ov_store.proofs.FoundLemmas.{new_found, new_beside}
use Rattle.ov_store.proofs.FormatLemmas.{text_stored}
use Rattle.ov_tables.proofs.KeepLemmas.{nothing_now, survives_as}
use Rattle.ov_store.proofs.store.Store.create.Goals as goal

pub returns-in-Ok-clause-ok : goal.returns-in-Ok-clause-ok
returns-in-Ok-clause-ok g c clean contents found =
    let old = state g.S.Store c.args.connection in
    let room : HasFreeNames c.args.connection.schema = subst HasFreeNames c.schema.ensures.value (c.has_room.ensures.0 c.if-not-has_room.false) in
    let may : MayMake old = λ up. (room, (c.schema.ensures.live up).0) in
    new_found g.S.Store g.met.S.Store.settled g.met.S.Store.stays c.args.schema old c.make_new.new.conn (c.in-Ok.ensures.ok clean may) contents found

pub returns-in-Ok-clause-of_format : goal.returns-in-Ok-clause-of_format
returns-in-Ok-clause-of_format g c clean contents found =
    let old = state g.S.Store c.args.connection in
    let room : HasFreeNames c.args.connection.schema = subst HasFreeNames c.schema.ensures.value (c.has_room.ensures.0 c.if-not-has_room.false) in
    let may : MayMake old = λ up. (room, (c.schema.ensures.live up).0) in
    ap (λ (s : Stored). format_of s.lines) (new_found g.S.Store g.met.S.Store.settled g.met.S.Store.stays c.args.schema old c.make_new.new.conn (c.in-Ok.ensures.ok clean may) contents found)

pub returns-in-Ok-clause-beside : goal.returns-in-Ok-clause-beside
returns-in-Ok-clause-beside g c clean =
    let old = state g.S.Store c.args.connection in
    let room : HasFreeNames c.args.connection.schema = subst HasFreeNames c.schema.ensures.value (c.has_room.ensures.0 c.if-not-has_room.false) in
    let may : MayMake old = λ up. (room, (c.schema.ensures.live up).0) in
    (c.in-Ok.ensures.ok clean may).schema

pub returns-in-Ok-clause-others : goal.returns-in-Ok-clause-others
returns-in-Ok-clause-others g c clean =
    let old = state g.S.Store c.args.connection in
    let room : HasFreeNames c.args.connection.schema = subst HasFreeNames c.schema.ensures.value (c.has_room.ensures.0 c.if-not-has_room.false) in
    let may : MayMake old = λ up. (room, (c.schema.ensures.live up).0) in
    new_beside g.S.Store g.met.S.Store.settled g.met.S.Store.stays c.args.schema c.args.connection c.make_new.new.conn (c.in-Ok.ensures.ok clean may)

pub returns-clause-left : goal.returns-clause-left
returns-clause-left g c =
    let old = state g.S.Store c.args.connection in
    let room : HasFreeNames c.args.connection.schema = subst HasFreeNames c.schema.ensures.value (c.has_room.ensures.0 c.if-not-has_room.false) in
    let may : MayMake old = λ up. (room, (c.schema.ensures.live up).0) in
    c.in-Err.ensures.left may

pub returns-in-Ok-clause-honest : goal.returns-in-Ok-clause-honest
returns-in-Ok-clause-honest g c clean = c.make_new.ensures.honest clean

pub returns-in-Ok-clause-room : goal.returns-in-Ok-clause-room
returns-in-Ok-clause-room g c = subst HasFreeNames c.schema.ensures.value (c.has_room.ensures.0 c.if-not-has_room.false)

pub invariant_of-result : goal.invariant_of-result
invariant_of-result g c =
    let room : HasFreeNames c.args.connection.schema = subst HasFreeNames c.schema.ensures.value (c.has_room.ensures.0 c.if-not-has_room.false) in
    let may : MayMake (state g.S.Store c.args.connection) = λ up. (room, (c.schema.ensures.live up).0) in
    let new = c.make_new.new.conn in
    record {
      mode = c.make_new.ensures.mode;
      known = inr refl;
      stored = λ clean up. text_stored 2 c.args.schema (state g.S.Store new).now (inr (refl, (c.in-Ok.ensures.ok clean may).stored));
      found = λ clean s here.
          let is = new_found g.S.Store g.met.S.Store.settled g.met.S.Store.stays c.args.schema (state g.S.Store c.args.connection) new (c.in-Ok.ensures.ok clean may) s here in
          subst (λ (n : ℕ). 2 ≤ n) (sym (ap (λ (t : Stored). format_of t.lines) is)) (omega arith);
      read_is = tt;
    }

pub returns-clause-honest : goal.returns-clause-honest
returns-clause-honest g c = tt

pub returns-clause-ours : goal.returns-clause-ours
returns-clause-ours g c =
    let room : HasFreeNames c.args.connection.schema = subst HasFreeNames c.schema.ensures.value (c.has_room.ensures.0 c.if-not-has_room.false) in
    (λ is. absurd (subst IsCommitFault is c.in-Err.ensures.kinds), λ none. absurd (none room))

pub returns-clause-format : goal.returns-clause-format
returns-clause-format g c = λ is. subst IsCommitFault is c.in-Err.ensures.kinds

pub returns-clause-same : goal.returns-clause-same
returns-clause-same g c clean = c.in-Err.ensures.same clean

pub returns-then-not-has_room-clause-ours : goal.returns-then-not-has_room-clause-ours
returns-then-not-has_room-clause-ours g c =
    (λ is room. let yes : IsTrue c.has_room.result = c.has_room.ensures.1 (subst HasFreeNames (sym c.schema.ensures.value) room) in let no : c.has_room.result ≡ false = c.if-not-has_room.true in absurd cc, λ none. refl)

pub returns-then-not-has_room-clause-same : goal.returns-then-not-has_room-clause-same
returns-then-not-has_room-clause-same g c clean = record { was_open = λ up. up; now = λ up. refl }

pub returns-then-not-has_room-clause-left : goal.returns-then-not-has_room-clause-left
returns-then-not-has_room-clause-left g c =
    let old = state g.S.Store c.args.connection in
    survives_as old old (λ _. ⊥) _ (nothing_now old) (λ clean db h. inl h)
