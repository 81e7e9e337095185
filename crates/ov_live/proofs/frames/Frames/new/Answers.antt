use Rattle.ov_live.proofs.frames.Frames.new.Goals as goal

pub returns : goal.returns
returns c =
    let results = c.args.replies.kept in
    record {
      kept = c.in_ok-kept.ensures;
      exhausted = c.in_ok-exhausted.ensures c.args.id.now results c.in_ok-kept.ensures c.is_empty-is_first.ensures;
      failed = c.in_ok-failed.ensures c.args.id.now results c.in_ok-kept.ensures c.is_empty-is_first.ensures;
    }
