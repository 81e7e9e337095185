use Rattle.std.proofs.Common.{sym, subst, ◌∙◌}
use Rattle.std.proofs.lemmas.Result.{IfOk-weaker}
use Rattle.ov_specs.specs.rows.Suits.{Suits}
use Rattle.ov_specs.proofs.laws.Committing.{committed_whole}
use Rattle.ov_specs.proofs.laws.MixedPairs.{accepted_is_not_mixed}
use Rattle.ov_conversion.proofs.Suiting.{carried_suits}
use Rattle.ov_conversion.proofs.converted.converted_rows.Goals as goal

pub committed-requires-clause-former : goal.committed-requires-clause-former
committed-requires-clause-former c = λ key row is. (c.requires.suits key row is).version

pub committed-requires-clause-suits : goal.committed-requires-clause-suits
committed-requires-clause-suits c =
    subst (Suits c.args.new.now) (sym c.in_ok-rows.ensures)
    (carried_suits c.args.old.now c.args.new.now c.args.version c.args.before.now c.has_sixteen_bytes.ensures c.requires.suits c.requires.same_types
    (sym c.in_ok-gets_unfit_default.ensures ∙ c.if-branch.false))

pub returns-clause-whole : goal.returns-clause-whole
returns-clause-whole c =
    let new = c.args.new.now in
    IfOk-weaker c.committed.result _ _ (λ rows h.
    committed_whole new c.args.before.now c.args.version c.in_ok-rows.rows rows (accepted_is_not_mixed new.tree new c.shows_accepted.ensures.is) h) c.committed.ensures.ok
