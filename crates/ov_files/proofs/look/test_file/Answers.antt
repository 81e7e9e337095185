use Rattle.std.proofs.Common.{◌≡◌, inl, inr, true, false, subst, ℕ, List}
use Rattle.std.proofs.lemmas.Result.{IfErr-weaker}
use Rattle.ov_tables.proofs.KeepLemmas.{on_ok}
use Rattle.std.specs.Path.{path_buf_bytes}
use Rattle.ov_files.specs.Calls.{RealPath}
use Rattle.ov_files.specs.Looking.{MayBeOpenedAt, IsRefusedAt}
use Rattle.ov_store.proofs.AnswerLemmas.{value_told, error_told}
use Rattle.ov_files.proofs.look.test_file.Goals as goal

pub returns-in-Ok-clause-passes : goal.returns-in-Ok-clause-passes
returns-in-Ok-clause-passes c = on_ok c.test_real.result c.test_real.ensures.passes (λ may. inr (_, value_told (RealPath c.args.path.now) path_buf_bytes c.canonicalize.result c.in-Ok.real c.in-Ok.is, subst (λ (p : List ℕ). MayBeOpenedAt p) c.as_str.ensures may))

pub returns-in-Ok-clause-refused : goal.returns-in-Ok-clause-refused
returns-in-Ok-clause-refused c = IfErr-weaker c.test_real.result _ _ (λ fault h. inr (_, value_told (RealPath c.args.path.now) path_buf_bytes c.canonicalize.result c.in-Ok.real c.in-Ok.is, subst (λ (p : List ℕ). IsRefusedAt p fault) c.as_str.ensures h)) c.test_real.ensures.refused

pub returns-then-is_absent-clause-passes : goal.returns-then-is_absent-clause-passes
returns-then-is_absent-clause-passes c = inl (c.in-Err.error, error_told _ (RealPath c.args.path.now) c.canonicalize.result c.in-Err.error c.in-Err.is, c.is_absent.ensures.0 c.if-is_absent.true)

pub returns-else-is_absent-clause-refused : goal.returns-else-is_absent-clause-refused
returns-else-is_absent-clause-refused c =
    inl (
      c.in-Err.error,
      error_told _ (RealPath c.args.path.now) c.canonicalize.result c.in-Err.error c.in-Err.is,
      λ is. (let yes : c.is_absent.result ≡ true = c.is_absent.ensures.1 is in let no : c.is_absent.result ≡ false = c.if-is_absent.false in absurd cc),
      c.fault_of_system.ensures,
    )
