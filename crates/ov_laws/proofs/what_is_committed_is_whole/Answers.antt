use Rattle.ov_specs.proofs.laws.Committing.{committed_suits, committed_whole, whole_committed}
use Rattle.ov_specs.proofs.laws.MixedPairs.{accepted_is_not_mixed}
use Rattle.ov_laws.proofs.what_is_committed_is_whole.Goals as goal

pub returns-clause-whole : goal.returns-clause-whole
returns-clause-whole c tree schema before rows database version is = committed_whole schema before version rows database (accepted_is_not_mixed tree schema is)

pub returns-clause-suits : goal.returns-clause-suits
returns-clause-suits c schema before rows database version = committed_suits schema before version rows database

pub returns-clause-stays : goal.returns-clause-stays
returns-clause-stays c schema before rows version = whole_committed schema before version rows
