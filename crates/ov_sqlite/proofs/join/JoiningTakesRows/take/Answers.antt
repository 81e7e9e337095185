use Rattle.std.proofs.Common.{rules, ◌≡◌, refl, ap, subst, true, Some, IfSome, ◌<ℤ◌, to_z, of_z, w64}
use Rattle.ov_sqlite.proofs.JoinLemmas.{joining_more, joining_refused}
use Rattle.ov_sqlite.proofs.join.JoiningTakesRows.take.Goals as goal

pub returns-in_default-2 : goal.returns-in_default-2
returns-in_default-2 c first rows was =
    let missing = rw c.in_default-2.is at c.in_ok-place.ensures.none in
    joining_refused first c.args.self.now (record c.args.self.now { lines = c.put_cell.new.lines; is_malformed = true }) rows c.args.row.now was missing

pub returns : goal.returns
returns c first rows was =
    let n = c.in-Some.number in
    let same : to_z w64 (of_z w64 n) ≡ n = search rules in
    let above : IfSome c.args.self.now.number (λ m. m <ℤ n) = subst (λ k. IfSome c.args.self.now.number (λ m. m <ℤ k)) same (c.is_above.ensures c.if-not-is_above.false) in
    let put = rw c.in-Some-2.is at c.in_ok-place.ensures.put in
    let is = rw c.in-Some-2.is at c.in_ok-place.ensures.is_cell in
    joining_more first c.args.self.now _ rows c.args.row.now n c.in-Some-2.place was c.in-Some.ensures above (ap (λ k. Some k) same) refl is put.0 put.1 put.2
