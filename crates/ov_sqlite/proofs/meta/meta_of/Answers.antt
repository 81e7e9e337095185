use Rattle.std.proofs.Common.{ℕ, ◌≡◌, List, [], ◌∷◌, length, Option, Some, None, MatchOption, inr, arith}
use Rattle.ov_tables.specs.Format.{IsFormatRow, IsSchemaRow, IsMeta}
use Rattle.ov_sqlite.specs.declared.meta.Meta.{Meta}
use Rattle.ov_sqlite.proofs.PairLemmas.{two_rows, not_meta}
use Rattle.ov_sqlite.proofs.meta.meta_of.Goals as goal

pub returns-in-None : goal.returns-in-None
returns-in-None c = go c.in_order-in-None.result c.in_order-in-None.ensures
  where
    two : length c.args.rows.now ≡ 2
    two = omega (arith, c.in-len2.len_at_least, c.in-len2.len_below)

    are : c.args.rows.now ≡ c.first-item.result ∷ c.second-item.result ∷ []
    are = two_rows c.args.rows.now c.first-item.result c.second-item.result two c.first-item.is c.second-item.is

    go : (o : Option Meta)
        → MatchOption o ((n : ℕ) → (text : List ℕ) → IsFormatRow n c.second-item.result → ¬ IsSchemaRow text c.first-item.result) (λ meta. IsFormatRow meta.format c.second-item.result × IsSchemaRow meta.schema.now c.first-item.result)
        → MatchOption o ((n : ℕ) → (text : List ℕ) → ¬ IsMeta n text c.args.rows.now) (λ meta. IsMeta meta.format meta.schema.now c.args.rows.now)
    go None none = λ n text. not_meta n text c.args.rows.now c.first-item.result c.second-item.result are (c.in-None.ensures n text) (none n text)
    go (Some meta) some = record { first = c.first-item.result; second = c.second-item.result; all = are; are = inr (some.1, some.0) }
