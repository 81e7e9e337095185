use Rattle.std.proofs.Common.{◌≡◌, inl, inr, true, false}
use Rattle.std.specs.declared.fs.attrs.Metadata.{Metadata}
use Rattle.ov_files.specs.Calls.{Stat}
use Rattle.ov_store.proofs.AnswerLemmas.{value_told, error_told}
use Rattle.ov_files.proofs.copies.size_of.Goals as goal

pub returns-then-is_file-clause-size : goal.returns-then-is_file-clause-size
returns-then-is_file-clause-size c = (c.in-Ok.found, value_told (Stat c.args.path.now) (λ (m : Metadata). m) c.metadata.result c.in-Ok.found c.in-Ok.is, c.is_file.ensures.0 c.if-is_file.true, c.len.ensures)

pub returns-else-is_file-clause-failed : goal.returns-else-is_file-clause-failed
returns-else-is_file-clause-failed c =
    inr (c.in-Ok.found, value_told (Stat c.args.path.now) (λ (m : Metadata). m) c.metadata.result c.in-Ok.found c.in-Ok.is, λ is. (let yes : c.is_file.result ≡ true = c.is_file.ensures.1 is in let no : c.is_file.result ≡ false = c.if-is_file.false in absurd cc), c.from.ensures)

pub returns-in-Err-clause-failed : goal.returns-in-Err-clause-failed
returns-in-Err-clause-failed c = inl (error_told _ (Stat c.args.path.now) c.metadata.result c.in-Err.error c.in-Err.is)
