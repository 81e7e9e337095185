use Rattle.std.proofs.Common.{◌≡◌, length, take, rules, arith}
use Rattle.rtrb.specs.Ring.{sent}
use Rattle.ov_ends.specs.States.{SourceState, source_of}
use Rattle.ov_workers.proofs.Streams.{read_none, then_failed, then_ended, then_read, then_over}
use Rattle.ov_workers.proofs.reader.read_messages.Goals as goal

pub loop-init : goal.loop-init
loop-init g c = record {
  inlet = search rules;
  read = read_none (source_of g.S.Source c.args.reader.now) c.new-cutter.result (sent c.args.inlet.now.ring) c.new-cutter.ensures c.requires.fresh;
}

pub returns-in-Some-eq0-clause-brought : goal.returns-in-Some-eq0-clause-brought
returns-in-Some-eq0-clause-brought g c =
    let old : SourceState = source_of g.S.Source c.args.reader.now in
    let mid : SourceState = source_of g.S.Source c.loop.reader in
    let new : SourceState = source_of g.S.Source c.read.new.self in
    let none : c.in-Some-eq0.field-0 ≡ 0 = first_of (omega arith, search rules, cc) in
    let wide : length c.read.new.piece ≡ 4096 = search rules in
    then_ended old mid new c.loop.cutter (sent c.loop.inlet.ring) c.loop.invariant.read c.read.ensures.input c.read.new.piece c.in-Some-eq0.field-0 (length c.read.new.piece) none wide
    c.in-Some-eq0.ensures.trace c.in-Some-eq0.ensures.good c.in-Some-eq0.ensures.end c.in-Some-eq0.ensures.all

pub returns-in-None-read-clause-brought : goal.returns-in-None-read-clause-brought
returns-in-None-read-clause-brought g c =
    let old : SourceState = source_of g.S.Source c.args.reader.now in
    let mid : SourceState = source_of g.S.Source c.loop.reader in
    let new : SourceState = source_of g.S.Source c.read.new.self in
    then_failed old mid new c.loop.cutter (sent c.loop.inlet.ring) c.loop.invariant.read c.read.ensures.input c.in-None-read.ensures.none.0 c.in-None-read.ensures.none.2

pub returns-in-Some-bring_piece-clause-brought : goal.returns-in-Some-bring_piece-clause-brought
returns-in-Some-bring_piece-clause-brought g c =
    let old : SourceState = source_of g.S.Source c.args.reader.now in
    let mid : SourceState = source_of g.S.Source c.loop.reader in
    let new : SourceState = source_of g.S.Source c.read.new.self in
    let so_far = c.loop.invariant.read in
    let piece = take c.in-Some-read.n c.read.new.piece in
    rw c.from.ensures (then_over old mid new c.loop.cutter (sent c.loop.inlet.ring) so_far c.read.ensures.input piece c.in-Some-read.ensures.trace c.in-Some-read.ensures.good
    c.bring_piece.new.cutter (sent c.bring_piece.new.inlet.ring) c.in-Some-bring_piece.fault (c.in-Some-bring_piece.ensures.brought so_far.stream so_far.brought))

pub loop-preserved : goal.loop-preserved
loop-preserved g c =
    let old : SourceState = source_of g.S.Source c.args.reader.now in
    let mid : SourceState = source_of g.S.Source c.loop.reader in
    let new : SourceState = source_of g.S.Source c.read.new.self in
    let so_far = c.loop.invariant.read in
    let piece = take c.in-Some-read.n c.read.new.piece in
    record {
      inlet = search rules;
      read = then_read old mid new c.loop.cutter (sent c.loop.inlet.ring) so_far c.read.ensures.input piece c.in-Some-read.ensures.trace c.in-Some-read.ensures.good
          c.bring_piece.new.cutter (sent c.bring_piece.new.inlet.ring) (c.in_default.ensures.brought so_far.stream so_far.brought);
    }
