use Rattle.std.proofs.Common.{subst}
use Rattle.sqlite.specs.Closing.{IsCopied}
use Rattle.sqlite.specs.Files.{file_state}
use Rattle.ov_files.proofs.close.close_files.Goals as goal

pub returns-in-Ok-clause-whole : goal.returns-in-Ok-clause-whole
returns-in-Ok-clause-whole g c clean =
    let it = subst (λ conn. IsCopied conn c.in-Ok.files) c.close.ensures.same (c.in-Ok.ensures.copied clean) in
    record { db = (file_state c.args.store.connection).committed.trees; contents = c.close.ensures.found it.was_open; seen = it.seen.alone; left = λ image h. (it.left image h).alone }
