use Rattle.std.proofs.Common.{◌≡◌, ◌∙◌, ◌++◌, ap, subst}
use Rattle.std.specs.Prelude.{IfErr}
use Rattle.std.proofs.lemmas.Option.{IfSome_then}
use Rattle.std.proofs.lemmas.Result.{IfErr-weaker}
use Rattle.ov_schema_text.specs.Texts.{RefusesFile}
use Rattle.ov_schema_text.proofs.TextLemmas.{file_refused}
use Rattle.ov_schema_text.proofs.text.schema_from.Goals as goal

pub returns-in-Ok-clause-refused : goal.returns-in-Ok-clause-refused
returns-in-Ok-clause-refused g c =
    IfSome_then (g.R.Read.remaining c.args.reader) c.in-Ok.ensures.bytes (λ xs is.
    let text : c.as_slice.result.now ≡ xs = c.as_slice.ensures.value ∙ is ∙ ap (λ front. front ++ xs) c.new-bytes.ensures.items in
    subst (λ text. IfErr c.schema_of.result (RefusesFile text)) text (IfErr-weaker c.schema_of.result _ _ (file_refused c.as_slice.result.now) c.schema_of.ensures.refused))
