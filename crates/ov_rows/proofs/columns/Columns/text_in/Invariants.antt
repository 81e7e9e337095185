use Rattle.std.proofs.Common.{◌≡◌, ◌++◌, [], flat_map}
use Rattle.ov_rows.specs.Body.{column_tokens}
use Rattle.ov_rows.proofs.Names.{paired}
use Rattle.ov_rows.proofs.columns.Columns.text_in.Given as goal

abbrev pub invariant-loop-name : goal.invariant-loop-name
invariant-loop-name l = record {
  before : l.out.before ≡ [];
  put_so_far : l.out.tokens ++ flat_map column_tokens (paired l.name-iterator.a.rest.now l.name-iterator.b)
      ≡ l.initial.out.tokens ++ flat_map column_tokens (paired l.initial.name-iterator.a.rest.now l.initial.name-iterator.b);
}
