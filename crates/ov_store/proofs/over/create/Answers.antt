use Rattle.std.proofs.Common.{inl, inr}
use Rattle.std.proofs.lemmas.Result.{IfOk-weaker, IfErr-weaker}
use Rattle.sqlite.specs.Held.{state}
use Rattle.ov_store.proofs.ResultLemmas.{ok_pair, err_pair}
use Rattle.ov_tables.proofs.RoomLemmas.{room_of_blank}
use Rattle.ov_tables.proofs.KeepLemmas.{survives_as}
use Rattle.ov_store.proofs.over.create.Goals as goal

pub returns-clause-store : goal.returns-clause-store
returns-clause-store g c =
    let r = c.create.result in
    let it = c.create.ensures in
    IfOk-weaker r _ _ (λ s h. record { blank = c.requires.blank; honest = h.0; holds = h.1 }) (ok_pair r _ _ it.honest it.ok)

pub returns-clause-refused : goal.returns-clause-refused
returns-clause-refused g c =
    let r = c.create.result in
    let it = c.create.ensures in
    let blank = c.requires.blank in
    let old = state g.S.Store c.args.connection in
    IfErr-weaker r _ _ (λ e h. record {
      ours = λ is. absurd (h.0.0.0 is (room_of_blank c.args.connection.schema blank));
      foreign = λ some none. absurd (some blank);
      told = elim h.1.0.0 [ inl is ↦ absurd (h.0.0.0 is (room_of_blank c.args.connection.schema blank)) | inr made ↦ inr (inl (blank, made)) ];
      tables = λ is. absurd (h.0.1 is);
      format = λ is. absurd (h.0.1 is);
      same = h.1.0.1;
      crash = survives_as old (state g.S.Store e.connection) _ _ h.1.1 (λ clean db found. elim (h.1.1.crash clean db found) [ inl was ↦ inl was | inr made ↦ inr (made.0, blank, made.1.file) ]);
    }) (err_pair r _ _ (err_pair r _ _ it.ours it.format) (err_pair r _ _ (err_pair r _ _ it.told it.same) it.left))
