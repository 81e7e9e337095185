use Rattle.std.proofs.Common.{sym, subst, arith}
use Rattle.sqlite.specs.State.{HasCleanDisk}
use Rattle.sqlite.specs.Held.{state}
use Rattle.ov_store.specs.StoreState.{MayFind}
use Rattle.ov_store.proofs.FoundLemmas.{found_is, survives_found}
use Rattle.ov_files.proofs.crash.reopen_after_crash.Goals as goal

pub returns-in-Ok-open-clause-found : goal.returns-in-Ok-open-clause-found
returns-in-Ok-open-clause-found g c clean contents found =
    let again = c.in-Ok.connection in
    let survives = c.in-Ok-open.ensures.survives in
    let early : HasCleanDisk (state g.S.Store again) = omega (arith, survives.clean) in
    let here = survives_found g.S.Store g.met.S.Store.settled g.met.S.Store.stays again c.in-Ok-open.again.connection clean survives contents found in
    let opens = c.in-Ok.ensures.opens early in
    let is = found_is g.S.Store g.met.S.Store.settled g.met.S.Store.stays again opens.is_open opens.clean contents here in
    subst (MayFind g.S.Store c.args.store.connection) (sym is) (c.in-Ok.ensures.found early)

pub returns-in-Err-open-clause-refused : goal.returns-in-Err-open-clause-refused
returns-in-Err-open-clause-refused g c =
    let it = c.in-Err-open.ensures in
    record {
      again = c.in-Ok.connection;
      opened = λ clean. (c.in-Ok.ensures.opens clean, c.in-Ok.ensures.found clean);
      ours = it.ours;
      foreign = it.foreign;
      format = λ is clean. it.format clean is;
    }
