use Rattle.std.proofs.Common.{refl}
use Rattle.std.proofs.lemmas.Result.{IfOk-weaker}
use Rattle.ov_store.specs.Answers.{Testing}
use Rattle.ov_store.proofs.AnswerLemmas.{refusals_told}
use Rattle.ov_store.proofs.load.read_tables.Goals as goal

pub returns-clause-ok : goal.returns-clause-ok
returns-clause-ok g c clean may =
    IfOk-weaker c.read_all.result _ _ (λ loaded it. record {
      is_open = it.0;
      tables = it.1;
      settled = c.is_autocommit-before.ensures.settled (rw (c.is_autocommit-before.ensures.value, c.requires) refl) it.0;
    }) (c.read_all.ensures.reads.ok clean may)

pub returns-clause-told : goal.returns-clause-told
returns-clause-told g c = refusals_told Testing c.read_all.result

pub returns-clause-format : goal.returns-clause-format
returns-clause-format g c clean has err text = (c.read_all.ensures.reads.format clean (λ _. has) err).1 text
