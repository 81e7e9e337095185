use Rattle.std.proofs.Common.{inl, inr, arith}
use Rattle.std.proofs.lemmas.Result.{IfOk-weaker, IfErr-weaker}
use Rattle.sqlite.specs.Held.{state}
use Rattle.ov_store.proofs.ResultLemmas.{ok_pair, err_pair}
use Rattle.ov_store.proofs.FoundLemmas.{found_is, survives_found}
use Rattle.ov_tables.proofs.KeepLemmas.{survives_as}
use Rattle.ov_store.proofs.over.open.Goals as goal

pub returns-clause-store : goal.returns-clause-store
returns-clause-store g c =
    let r = c.open.result in
    let it = c.open.ensures in
    let old = c.args.connection in
    IfOk-weaker r _ _ (λ s h. record {
      tables = h.0;
      honest = λ clean. let sure = h.1.1.clean in omega (arith, sure, clean);
      format = h.1.0;
      holds = λ clean opens contents found.
          let here = survives_found g.S.Store g.met.S.Store.settled g.met.S.Store.stays old s.connection clean h.1.1 contents found in
          found_is g.S.Store g.met.S.Store.settled g.met.S.Store.stays old opens.is_open opens.clean contents here;
    }) (ok_pair r _ _ it.tables (ok_pair r _ _ it.ok it.survives))

pub returns-clause-refused : goal.returns-clause-refused
returns-clause-refused g c =
    let r = c.open.result in
    let it = c.open.ensures in
    let some = c.requires.some in
    let old = state g.S.Store c.args.connection in
    IfErr-weaker r _ _ (λ e h text. record {
      ours = λ is. (some, h.0.0.0 is);
      foreign = λ _ none. h.0.0.1 none;
      told = elim h.1.0.0 [ inl it ↦ inl (it.0, some, it.1) | inr tested ↦ inr (inr tested) ];
      tables = h.0.1;
      format = λ is clean. h.1.0.1 clean is;
      same = h.1.1.0;
      crash = survives_as old (state g.S.Store e.connection) _ _ h.1.1.1 (λ clean db found. elim (h.1.1.1.crash clean db found) [ inl was ↦ inl was | inr none ↦ absurd none ]);
    }) (err_pair r _ _ (err_pair r _ _ (err_pair r _ _ it.ours it.foreign) it.format_tables) (err_pair r _ _ (err_pair r _ _ it.told it.format) (err_pair r _ _ it.same_refused it.survives_refused)))
