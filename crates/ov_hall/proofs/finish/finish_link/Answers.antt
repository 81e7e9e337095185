use Rattle.std.proofs.Common.{true, refl, subst}
use Rattle.ov_hall.specs.Ending.{CourseEnds}
use Rattle.ov_workers.specs.LinkStates.{ends_of}
use Rattle.ov_hall.proofs.Seats.{kept_not_none, kept_is}
use Rattle.ov_hall.proofs.finish.finish_link.Goals as goal

pub unreachable-requires : goal.unreachable-requires
unreachable-requires g c =
    let left = c.join_workers-reader.result in
    kept_not_none true left.reader left.reader left.last_reader.value refl (c.join_workers-reader.ensures.keep true c.requires.workers).0 refl c.in_default.is

pub unreachable-requires-in_default-writer : goal.unreachable-requires-in_default-writer
unreachable-requires-in_default-writer g c =
    let left = c.join_workers-reader.result in
    kept_not_none true left.writer left.writer left.last_writer.value refl (c.join_workers-reader.ensures.keep true c.requires.workers).1 refl c.in_default-writer.is

pub returns : goal.returns
returns g c k link = (
  refl,
  λ course f.
      let left = c.join_workers-reader.result in let keep = c.join_workers-reader.ensures.keep true c.requires.workers in
      let ends = ends_of g.S.Source g.W.Sink in
      let a = kept_is true left.reader left.reader left.last_reader.value c.in-Some.reader refl keep.0 refl c.in-Some.is in
      let b = kept_is true left.writer left.writer left.last_writer.value c.in-Some-writer.writer refl keep.1 refl c.in-Some-writer.is in
      subst (λ x. CourseEnds course left.cause (ends k.reader k.writer) (ends x c.in-Some-writer.writer)) a
      (subst (λ y. CourseEnds course left.cause (ends k.reader k.writer) (ends left.last_reader.value y)) b (c.join_workers-reader.ensures.ends k link course f)),
)
