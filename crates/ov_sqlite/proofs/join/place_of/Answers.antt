use Rattle.std.proofs.Common.{◌≡◌, true, false, rules, tests}
use Rattle.std.proofs.lemmas.Iterator.{IsFirst-from_position, YieldsList-from_slice}
use Rattle.ov_specs.specs.rows.Lines.{LineKey}
use Rattle.ov_specs.specs.rows.Database.{same_key}
use Rattle.ov_sqlite.specs.Joining.{line_parts}
use Rattle.ov_sqlite.proofs.JoinLemmas.{first_place}
use Rattle.ov_sqlite.proofs.join.place_of.Goals as goal

pub returns : goal.returns
returns c =
    let key : LineKey = (c.args.table.now, c.args.id) in
    first_place (λ l. same_key (line_parts l).0 key) c.args.lines.now c.position.result
    (IsFirst-from_position _ _ _ (λ l. same_key (line_parts l).0 key ≡ true) (λ l. same_key (line_parts l).0 key ≡ false) c.position.ensures.ran (YieldsList-from_slice c.args.lines.now cc) (λ x q k. search (rules, tests)) (λ x q k. search (rules, tests)))
