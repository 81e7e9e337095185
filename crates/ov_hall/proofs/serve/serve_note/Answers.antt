use Rattle.std.proofs.Common.{rules, ◌≡◌, [], true, refl, sym, ap, subst, ◌∙◌, append-nil}
use Rattle.std.proofs.lemmas.Bool.{false≢true}
use Rattle.std.specs.Prelude.{option_to_list}
use Rattle.ov_core.specs.Following.{CoreState}
use Rattle.ov_lanes.specs.Lanes.{AreFlushed}
use Rattle.ov_lanes.proofs.Courses.{passes}
use Rattle.ov_lanes.proofs.PlaceLaws.{goes_passed}
use Rattle.ov_lanes.proofs.Steady.{passes_next}
use Rattle.ov_hall.specs.Guests.{HostsOn, TakesNotes, session_notes}
use Rattle.ov_workers.specs.LinkStates.{ends_of}
use Rattle.ov_hall.specs.Seats.{AreSeats}
use Rattle.ov_hall.specs.Serving.{KeepsHall}
use Rattle.ov_hall.proofs.Guests.{leaves_none, flushed_there, session_tended, session_puts, hosts_steady, hosts_none, hosts_along}
use Rattle.ov_hall.proofs.Noting.{notes_none, notes_left, notes_puts, notes_then, noted_of}
use Rattle.ov_hall.proofs.Seats.{seats_stay}
use Rattle.ov_hall.proofs.Running.{hall_along, hall_passed, hall_same, hall_puts, hall_tended, puts_same_all}
use Rattle.ov_hall.proofs.serve.serve_note.Goals.{in-Some, in-None, then-not-is_flushed, else-not-is_flushed}
use Rattle.ov_hall.proofs.serve.serve_note.Goals as goal

pub returns-clause-hosts : goal.returns-clause-hosts
returns-clause-hosts g c =
    let ends = ends_of g.S.Source g.W.Sink in let draws = g.D.Draws.draws in let m = c.now-moment.result in
    let o = c.args.hall.now in let ls = o.desk.lanes.items in let ws = o.workers.items in let core = c.pass_where_due.new.self in let p = record o { desk = record o.desk { core = core } } in
    let a = c.match-note.hall in let b = c.if-not-is_flushed.hall in let d = c.tend.new.self in
    let passed : HostsOn ends m o p = hosts_steady ends m o p refl
    (goes_passed m ls (λ start since. passes m since draws core c.pass_where_due.result c.pass_where_due.ensures.passes c.pass_where_due.ensures.due c.pass_where_due.ensures.refused))
    (session_tended ends ls ls ws ws (leaves_none ends ls ws)) (passes_next o.desk.core core draws m c.pass_where_due.result c.pass_where_due.ensures.passes c.pass_where_due.ensures.refused) in
    let taken : HostsOn ends m p a = elim c.match-note.branch [
      | in-Some w ↦ subst (λ h. HostsOn ends m p h) (sym w.hall-is) w.take_noted-is_flushed.ensures.hosts
      | in-None w ↦ subst (λ h. HostsOn ends m p h) (sym w.hall-is) (hosts_none ends m p)
    ] in
    let flushed : HostsOn ends m a b = elim c.if-not-is_flushed.branch [
      | then-not-is_flushed w ↦
          let f = w.flush.ensures.flushes in let e = w.flush.new.self in
          subst (λ h. HostsOn ends m a h) (sym w.hall-is) (hosts_steady ends m a (record a { desk = e }) refl (f.goes m) (session_puts ends a.desk.lanes.items e.lanes.items a.workers.items f.rings) f.steady.next)
      | else-not-is_flushed w ↦ subst (λ h. HostsOn ends m a h) (sym w.hall-is) (hosts_none ends m a)
    ] in
    let t = c.tend.ensures.tends in
    let tended = hosts_steady ends m b d t.same.1 (t.goes m) (session_tended ends b.desk.lanes.items d.desk.lanes.items b.workers.items d.workers.items t.leaves) (ap (λ (k : CoreState _ _). k.state.next) t.core) in
    (m, c.now-moment.ensures, hosts_along ends m o p d passed (hosts_along ends m p a d taken (hosts_along ends m a b d flushed tended)))

pub returns-clause-noted : goal.returns-clause-noted
returns-clause-noted g c apart =
    let ends = ends_of g.S.Source g.W.Sink in let o = c.args.hall.now in let notes = session_notes o c.args.note in
    let ls = o.desk.lanes.items in let ms = c.match-note.hall.desk.lanes.items in let ns = c.if-not-is_flushed.hall.desk.lanes.items in
    let taken : TakesNotes ends notes ls ms = elim c.match-note.branch [
      | in-Some w ↦
          let t = w.take_noted-is_flushed in let ks = t.new.hall.desk.lanes.items in
          subst (λ h. TakesNotes ends notes ls h.desk.lanes.items) (sym w.hall-is)
          (subst (λ n. TakesNotes ends (session_notes o n) ls ks) (sym w.in-Some.is) (noted_of ends o w.in-Some.note t.result t.new.hall c.requires.seats t.ensures.noted apart))
      | in-None w ↦
          subst (λ h. TakesNotes ends notes ls h.desk.lanes.items) (sym w.hall-is)
          (subst (λ n. TakesNotes ends (session_notes o n) ls ls) (sym w.in-None.is) (notes_none ends ls))
    ] in
    let flushed : TakesNotes ends [] ms ns = elim c.if-not-is_flushed.branch [
      | then-not-is_flushed w ↦ subst (λ h. TakesNotes ends [] ms h.desk.lanes.items) (sym w.hall-is) (notes_puts ends ms w.flush.new.self.lanes.items w.flush.ensures.flushes.rings)
      | else-not-is_flushed w ↦ subst (λ h. TakesNotes ends [] ms h.desk.lanes.items) (sym w.hall-is) (notes_none ends ms)
    ] in
    let seated : AreSeats c.match-note.hall = elim c.match-note.branch [
      | in-Some w ↦ subst (λ h. AreSeats h) (sym w.hall-is) w.take_noted-is_flushed.ensures.seats
      | in-None w ↦ subst (λ h. AreSeats h) (sym w.hall-is) c.requires.seats
    ] in
    let seats : AreSeats c.if-not-is_flushed.hall = elim c.if-not-is_flushed.branch [
      | then-not-is_flushed w ↦
          let a = c.match-note.hall in let es = w.flush.new.self.lanes.items in
          subst (λ h. AreSeats h) (sym w.hall-is) (seats_stay a.keeps ms es a.workers.items (puts_same_all ms es w.flush.ensures.flushes.rings) seated)
      | else-not-is_flushed w ↦ subst (λ h. AreSeats h) (sym w.hall-is) seated
    ] in
    let b = c.if-not-is_flushed.hall in let d = c.tend.new.self in let ks = d.desk.lanes.items in
    notes_then ends notes ls ns ks (notes_then ends notes ls ms ns taken flushed) (notes_left ends b.keeps ns ks b.workers.items d.workers.items seats c.tend.ensures.tends.leaves)

pub returns-clause-flushed : goal.returns-clause-flushed
returns-clause-flushed g c =
    let b = c.if-not-is_flushed.hall.desk in
    let flushed : AreFlushed b = elim c.if-not-is_flushed.branch [
      | then-not-is_flushed w ↦ subst (λ h. AreFlushed h.desk) (sym w.hall-is) w.flush.ensures.flushed
      | else-not-is_flushed w ↦
          let is : c.match-note.is_flushed ≡ true = (let no = w.if-not-is_flushed.false in search rules) in
          elim c.match-note.branch [
            | in-Some v ↦
                subst (λ h. AreFlushed h.desk) (sym v.hall-is ∙ sym w.hall-is) (v.take_noted-is_flushed.ensures.flushed (sym v.is_flushed-is ∙ is))
            | in-None v ↦ absurd (false≢true (sym v.is_flushed-is ∙ is))
          ]
    ] in
    flushed_there b c.tend.new.self.desk c.tend.ensures.tends.core c.tend.ensures.tends.there flushed

pub returns-clause-kept : goal.returns-clause-kept
returns-clause-kept g c =
    let o = c.args.hall.now in let core = c.pass_where_due.new.self in let p = record o { desk = record o.desk { core = core } } in
    let a = c.match-note.hall in let b = c.if-not-is_flushed.hall in let d = c.tend.new.self in
    let note = option_to_list c.args.note in
    let passed : KeepsHall [] o p =
    hall_passed o core (passes_next o.desk.core core g.D.Draws.draws c.now-moment.result c.pass_where_due.result c.pass_where_due.ensures.passes c.pass_where_due.ensures.refused) in
    let taken : KeepsHall note p a = elim c.match-note.branch [
      | in-Some w ↦
          subst (λ h. KeepsHall note p h) (sym w.hall-is) (subst (λ n. KeepsHall n p w.take_noted-is_flushed.new.hall) (ap option_to_list (sym w.in-Some.is)) w.take_noted-is_flushed.ensures.kept)
      | in-None w ↦ subst (λ h. KeepsHall note p h) (sym w.hall-is) (subst (λ n. KeepsHall n p p) (ap option_to_list (sym w.in-None.is)) (hall_same p))
    ] in
    let flushed : KeepsHall [] a b = elim c.if-not-is_flushed.branch [
      | then-not-is_flushed w ↦ subst (λ h. KeepsHall [] a h) (sym w.hall-is) (hall_puts a w.flush.new.self w.flush.ensures.flushes.rings w.flush.ensures.flushes.steady.next)
      | else-not-is_flushed w ↦ subst (λ h. KeepsHall [] a h) (sym w.hall-is) (hall_same a)
    ] in
    let tended = hall_tended b d c.tend.ensures.tends.same c.tend.ensures.tends.core c.tend.ensures.kept in
    subst (λ n. KeepsHall n o d) (append-nil note) (hall_along note [] o a d (hall_along [] note o p a passed taken) (hall_along [] [] a b d flushed tended))

pub returns-clause-seats : goal.returns-clause-seats
returns-clause-seats g c = c.tend.ensures.tends.seats

pub returns-clause-honest : goal.returns-clause-honest
returns-clause-honest g c honest =
    let b = c.if-not-is_flushed.hall in
    let tended : g.K.Keeper.is_honest b.desk.core.keeper = subst (λ core. g.K.Keeper.is_honest core.keeper) c.tend.ensures.tends.core honest in
    let flushed : g.K.Keeper.is_honest c.match-note.hall.desk.core.keeper = elim c.if-not-is_flushed.branch [
      | then-not-is_flushed w ↦ w.flush.ensures.flushes.steady.honest (subst (λ h. g.K.Keeper.is_honest h.desk.core.keeper) w.hall-is tended)
      | else-not-is_flushed w ↦ subst (λ h. g.K.Keeper.is_honest h.desk.core.keeper) w.hall-is tended
    ] in
    let taken : g.K.Keeper.is_honest c.pass_where_due.new.self.keeper = elim c.match-note.branch [
      | in-Some w ↦ w.take_noted-is_flushed.ensures.honest (subst (λ h. g.K.Keeper.is_honest h.desk.core.keeper) w.hall-is flushed)
      | in-None w ↦ subst (λ h. g.K.Keeper.is_honest h.desk.core.keeper) w.hall-is flushed
    ] in
    c.pass_where_due.ensures.honest taken
