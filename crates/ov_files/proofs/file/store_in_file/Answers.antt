use Rattle.std.proofs.Common.{inl, inr}
use Rattle.std.proofs.lemmas.Result.{IfOk-weaker, err_from_is_err_and}
use Rattle.sqlite_wal.specs.Files.{image_at}
use Rattle.sqlite.specs.Files.{over_files}
use Rattle.ov_files.proofs.FileLemmas.{found_in, path_refused}
use Rattle.ov_files.proofs.file.store_in_file.Goals as goal

pub returns-clause-found : goal.returns-clause-found
returns-clause-found g c =
    let connection = c.in_ok-connection.connection in
    let it = c.in_ok-connection.ensures in
    IfOk-weaker c.store_over_files.result _ _ (λ s store. found_in over_files (image_at g.S.Start) c.args.schema connection s it.opened it.found store) c.store_over_files.ensures.store

pub returns-clause-cause : goal.returns-clause-cause
returns-clause-cause g c =
    let it = c.in_ok-connection.ensures in
    path_refused c.args.path.now (image_at g.S.Start) c.args.schema c.in_ok-connection.connection c.store_over_files.result it.new it.opened it.found c.store_over_files.ensures.refused

pub returns-in_err-connection-clause-cause : goal.returns-in_err-connection-clause-cause
returns-in_err-connection-clause-cause g c =
    let p = err_from_is_err_and c.from_residual-in_err-connection.result c.from_residual-in_err-connection.ensures.1 in
    rw (p.1, p.2) (inl (inr c.in_err-connection.ensures.cause))

pub returns-in_err-test_file-clause-cause : goal.returns-in_err-test_file-clause-cause
returns-in_err-test_file-clause-cause g c =
    let p = err_from_is_err_and c.from_residual.result c.from_residual.ensures.1 in
    rw (p.1, p.2) (inl (inl c.in_err-test_file.ensures.refused))
