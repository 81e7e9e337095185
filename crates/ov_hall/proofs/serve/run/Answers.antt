use Rattle.std.proofs.Common.{◌≡◌, ◌++◌, ◌∷◌, [], refl, sym, append-nil}
use Rattle.std.specs.Prelude.{option_to_list}
use Rattle.ov_workers.specs.LinkStates.{ends_of}
use Rattle.ov_hall.proofs.Guests.{hosts_first, hosts_more}
use Rattle.ov_hall.proofs.Noting.{each_more, taken_more}
use Rattle.ov_hall.proofs.Running.{hall_along, hall_same, noted_more, briefly}
use Rattle.ov_hall.proofs.serve.run.Goals as goal

pub loop-init : goal.loop-init
loop-init g c = record {
  hosts = hosts_first (ends_of g.S.Source g.W.Sink) g.C.Clock.tells c.args.hall.now c.args.clock.now;
  noted = ([], sym (append-nil c.args.taken.now.serials), refl);
  kept = ([], sym (append-nil c.args.taken.now.serials), hall_same c.args.hall.now);
  honest = λ honest. honest;
  seats = c.requires.seats;
}

pub loop-preserved : goal.loop-preserved
loop-preserved g c =
    let was = c.loop.invariant in let note = option_to_list c.next_note-note.result in
    let a = c.args.hall.now in let b = c.loop.hall in let h = c.serve_note.new.hall in
    let first = c.args.taken.now.serials in let before = c.loop.taken.serials in let after = c.next_note-note.new.taken.serials in
    let served = c.serve_note.ensures.hosts in
    let told : after ≡ before ++ note = briefly before after c.next_note-note.result c.next_note-note.ensures in
    record {
      hosts = hosts_more (ends_of g.S.Source g.W.Sink) g.C.Clock.tells a b h c.args.clock.now c.loop.clock c.serve_note.new.clock served.0 was.hosts served.1 served.2;
      noted = (
        was.noted.0 ++ c.next_note-note.result ∷ [],
        taken_more first before after was.noted.0 c.next_note-note.result was.noted.1 told,
        each_more (ends_of g.S.Source g.W.Sink) was.noted.0 c.next_note-note.result a b h was.noted.2 c.serve_note.ensures.noted,
      );
      kept = (was.kept.0 ++ note, noted_more first before after was.kept.0 c.next_note-note.result was.kept.1 told, hall_along was.kept.0 note a b h was.kept.2 c.serve_note.ensures.kept);
      honest = λ honest. was.honest (c.serve_note.ensures.honest honest);
      seats = c.serve_note.ensures.seats;
    }
