use Rattle.std.proofs.Common.{◌≡◌, inl, inr, codes, ◌∙◌, sym, true, false}
use Rattle.std.proofs.lemmas.Slice.Eq.{bytes_eq-Decides}
use Rattle.std.proofs.lemmas.Str.Pattern.{starts_text}
use Rattle.ov_files.proofs.pair.is_reserved.Goals as goal

pub returns-then-eq : goal.returns-then-eq
returns-then-eq c = (λ _. inl ((bytes_eq-Decides c.args.path.now (codes ":memory:")).0 (sym c.eq.ensures ∙ c.if-eq.true)), λ _. c.if-eq.true)

pub returns-else-eq : goal.returns-else-eq
returns-else-eq c =
    let same = starts_text c.starts_with.result (codes "file:") c.args.path.now c.starts_with.ensures.cases in (
      λ yes. inr (sym same ∙ yes),
      λ reserved. elim reserved [
        | inl is ↦ let yes : c.eq.result ≡ true = c.eq.ensures ∙ (bytes_eq-Decides c.args.path.now (codes ":memory:")).1 is in let no : c.eq.result ≡ false = c.if-eq.false in absurd cc
        | inr has ↦ same ∙ has
      ],
    )
