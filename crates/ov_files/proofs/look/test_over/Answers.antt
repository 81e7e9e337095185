use Rattle.std.proofs.Common.{◌≡◌, ◌≢◌, subst, IfErr}
use Rattle.sqlite.specs.Schema.{Schema}
use Rattle.ov_keeper.specs.declared.fault.KeepFault.TheVariants.{NotOurs}
use Rattle.ov_tables.specs.Tables.{no_schema, HasOurTables}
use Rattle.ov_files.proofs.look.test_over.Goals as goal

pub returns-clause-foreign : goal.returns-clause-foreign
returns-clause-foreign g c =
    subst (λ (it : Schema). IfErr c.test_schema.result (λ fault. (fault ≡ NotOurs) × (it ≢ no_schema) × (¬ HasOurTables it))) c.schema.ensures.value c.test_schema.ensures.foreign
