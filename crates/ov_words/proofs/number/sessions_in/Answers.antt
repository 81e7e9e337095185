use Rattle.std.proofs.Common.{◌≢◌, ℕ, get_or, arith, Ok, Err}
use Rattle.std.proofs.lemmas.Bool.Decides.{nat_tests}
use Rattle.ov_words.proofs.NumberLemmas.{parsed, sessions_in-fits, sessions_in-none}
use Rattle.ov_words.proofs.number.sessions_in.Goals as goal

pub returns-in_default : goal.returns-in_default
returns-in_default c =
    let plain : get_or c.args.digits.now 0 0 ≢ 43 = grind (arith, nat_tests) in
    sessions_in-none c.args.digits.now (parsed c.args.digits.now (Err c.in_default.field-0) c.in_default.ensures.value.0 plain)

pub returns-then-count-le-MOST_SESSIONS : goal.returns-then-count-le-MOST_SESSIONS
returns-then-count-le-MOST_SESSIONS c =
    let plain : get_or c.args.digits.now 0 0 ≢ 43 = grind (arith, nat_tests) in
    let is = parsed {E = ℕ} c.args.digits.now (Ok c.in-Ok.count) c.in-Ok.ensures.value.0 plain in
    sessions_in-fits c.args.digits.now c.in-Ok.count is.0.0 is.1 (omega arith) (omega arith)
