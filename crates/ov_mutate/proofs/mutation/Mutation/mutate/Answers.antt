use Rattle.std.proofs.Common.{rules}
use Rattle.ov_specs.specs.operations.Mutators.{mutated}
use Rattle.ov_mutate.specs.Faults.{IsMutated}
use Rattle.ov_mutate.proofs.KindLemmas.{made_is_of}
use Rattle.ov_mutate.proofs.mutation.Mutation.mutate.Goals as goal

pub returns-clause-kinds : goal.returns-clause-kinds
returns-clause-kinds c =
    let m = c.args.self.now in
    let value : IsMutated (λ d. d) (mutated m.type_of m.change c.args.datum.now) c.apply.result = search rules in
    made_is_of m.type_of m.change c.args.datum.now c.apply.result value
