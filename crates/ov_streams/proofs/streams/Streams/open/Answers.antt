use Rattle.std.proofs.Common.{◌≡◌, Some, sym, ◌∙◌}
use Rattle.std.proofs.lemmas.Result.{err_from_is_err_and}
use Rattle.ov_streams.proofs.Suiting.{opened, not_opened, updates_cutter, full_by_serial, full_by_places, not_full, left_is, over, serves_none}
use Rattle.ov_streams.proofs.streams.Streams.open.Goals as goal

pub returns-in_default-clause-serves : goal.returns-in_default-clause-serves
returns-in_default-clause-serves g c = rw (← c.self.view_is) (serves_none _, full_by_serial c.self.inside.core.state (sym c.next_serial.ensures ∙ c.in_default.is))

pub returns-then-free_places-eq0-clause-serves : goal.returns-then-free_places-eq0-clause-serves
returns-then-free_places-eq0-clause-serves g c = rw (← c.self.view_is) (serves_none _, full_by_places c.self.inside.core.state (sym c.free_places.ensures ∙ c.if-free_places-eq0.true))

pub returns-in_default-insert-clause-serves : goal.returns-in_default-insert-clause-serves
returns-in_default-insert-clause-serves g c =
    rw (← c.self.view_is, c.in_default-insert.ensures.err)
    (serves_none _, not_full c.self.inside.core.state c.in-Some.serial (sym c.next_serial.ensures ∙ c.in-Some.is) (λ none. c.if-free_places-eq0.false (c.free_places.ensures ∙ none)))

pub returns-in_err-open_session-clause-serves : goal.returns-in_err-open_session-clause-serves
returns-in_err-open_session-clause-serves g c =
    let serial = c.in-Some.serial in
    let cutter = c.new.result in
    let old = over c.self.inside.core c.self.inside.cutters.entries in
    let cutters = c.insert.new.self.entries in
    let next : serial ≡ c.self.inside.core.state.next = left_is c.self.inside.core.state.next serial (sym c.next_serial.ensures ∙ c.in-Some.is) in
    let updates = rw next at (updates_cutter serial (Some cutter) c.self.inside.cutters.entries cutters c.in-Ok.ensures.updates.0) in
    let p = err_from_is_err_and c.from_residual.result c.from_residual.ensures.1 in
    rw (← c.self.view_is, p.1, p.2, c.in_err-open_session.ensures.refused.0) (not_opened cutter old cutters updates c.new.ensures, c.in_err-open_session.ensures.refused.1)

pub returns-clause-serves : goal.returns-clause-serves
returns-clause-serves g c =
    let serial = c.in-Some.serial in
    let cutter = c.new.result in
    let old = over c.self.inside.core c.self.inside.cutters.entries in
    let cutters = c.insert.new.self.entries in
    let next : serial ≡ c.self.inside.core.state.next = left_is c.self.inside.core.state.next serial (sym c.next_serial.ensures ∙ c.in-Some.is) in
    let updates = rw next at (updates_cutter serial (Some cutter) c.self.inside.cutters.entries cutters c.in-Ok.ensures.updates.0) in
    rw (← c.self.view_is) (opened cutter old cutters updates c.new.ensures _ _ _ c.in_ok-open_session.ensures.opened)
