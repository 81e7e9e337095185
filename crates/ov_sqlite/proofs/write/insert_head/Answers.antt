use Rattle.std.proofs.Common.{◌≡◌, ℕ, List, length, IsUtf8, subst, ◌∙◌}
use Rattle.sqlite.specs.Held.{state}
use Rattle.ov_sqlite.proofs.RunLemmas.{refused_as}
use Rattle.ov_sqlite.proofs.ChangeLemmas.{head_inserted}
use Rattle.ov_sqlite.proofs.WritingLemmas.{writes_by}
use Rattle.ov_sqlite.proofs.write.insert_head.Goals as goal

pub returns-clause-writes : goal.returns-clause-writes
returns-clause-writes g c =
    let old = state g.S.Store c.args.tx.now.conn.now in
    let new = state g.S.Store c.execute.new.self.conn.now in
    let line = c.args.line.now in
    let named = subst IsUtf8 (c.as_bytes.ensures.value ∙ c.as_str.ensures) c.as_bytes.ensures.utf8 in
    let id_sixteen = subst (λ (bytes : List ℕ). length bytes ≡ 16) c.id_bytes.ensures.bytes c.id_bytes.ensures.sixteen in
    let ver_sixteen = subst (λ (bytes : List ℕ). length bytes ≡ 16) c.id_bytes-2.ensures.bytes c.id_bytes-2.ensures.sixteen in
    record {
      tables = writes_by _ _ _ _ c.execute.ensures.same_reference c.in_ok-execute.ensures.runs c.execute.ensures.survives
          (λ text may ran. head_inserted text old new (may ran.1.was_open) ran.1.mode ran.1.was_open ran.1.committed_is line.table line.id named id_sixteen c.in_ok-execute.field-0 line.version ver_sixteen
          (rw (c.as_bytes.ensures.value, c.as_str.ensures, c.id_bytes.ensures.bytes, c.id_bytes-2.ensures.bytes) at ran.0));
      opened = λ clean mode. (c.in_ok-execute.ensures.runs clean mode).1.was_open;
    }

pub returns-in_err-execute-clause-refused : goal.returns-in_err-execute-clause-refused
returns-in_err-execute-clause-refused g c clean mode =
    refused_as _ _ _ _ _ (c.in_err-execute.ensures.runs clean mode) c.from_residual.result c.from_residual.ensures.1
