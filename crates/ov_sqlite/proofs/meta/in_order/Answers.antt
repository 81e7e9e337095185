use Rattle.ov_sqlite.proofs.meta.in_order.Goals as goal

pub returns-in_err-format : goal.returns-in_err-format
returns-in_err-format c = rw c.from_residual.ensures (λ n text f s. c.in_err-format.ensures n f)

pub returns-in_err-schema : goal.returns-in_err-schema
returns-in_err-schema c = rw c.from_residual-in_err-schema.ensures (λ n text f s. c.in_err-schema.ensures text s)
