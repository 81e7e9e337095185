use Rattle.ov_files.specs.Calls.{Connecting}
use Rattle.ov_store.proofs.AnswerLemmas.{paired_told}
use Rattle.ov_files.proofs.file.connect.Goals as goal

pub returns-clause-cause : goal.returns-clause-cause
returns-clause-cause g c =
    let it = c.in-Err.ensures in
    record {
      error = c.in-Err.error;
      answer = paired_told (Connecting _) c.open_files_with.result c.in-Err.error c.in-Err.field-0-1 c.in-Err.is;
      named = it.named;
      is = c.fault_of_open.ensures;
      left = c.in-Err.field-0-1;
      cause = it.cause;
    }
