-- What a tree's members are judged to be.
use Rattle.std.proofs.Common.{◌≡◌, false, if◌then◌else◌, Option, Some, None, Ok, Err, option_map, refl, sym, ap, subst, ◌∙◌}
use Rattle.serde_json.specs.Data.{Data}
use Rattle.ov_specs.specs.wire.Tree.{has_real}
use Rattle.ov_specs.specs.schema.SchemaShape.{SchemaShape, schema_shape}
use Rattle.ov_specs.specs.schema.SchemaTypes.{Schema}
use Rattle.ov_specs.specs.schema.Schema.{SchemaRefusal, RealNotSupported, refusal_of_shape, accepted_schema, refused_or, judged, accepted}
use Rattle.ov_schema_text.specs.Refusals.{IsRefusalOf}
use Rattle.std.proofs.lemmas.Option.{same_Some}

-- a tree without reals is judged by its members
pub accepted-plain : (d : Data) → has_real d ≡ false → accepted d ≡ judged d (schema_shape d)
accepted-plain d plain = ap (λ b. if b then Err RealNotSupported else judged d (schema_shape d)) plain

told : (schema : Schema) (q r : Option SchemaRefusal) → Some r ≡ option_map Some q → IsRefusalOf r (refused_or schema q)
told schema None r e = let no : ⊥ = cc in absurd no
told schema (Some refusal) r e = subst (λ x. IsRefusalOf x (Err refusal)) (sym (same_Some r (Some refusal) e)) refl

not_refused : (schema : Schema) (q : Option SchemaRefusal) → None ≡ option_map Some q → refused_or schema q ≡ Ok schema
not_refused schema None e = refl
not_refused schema (Some refusal) e = cc

module _ (d : Data) (shape : Option SchemaShape) (s : SchemaShape) (read : Some s ≡ shape) where
  pub judged-refused : (r : Option SchemaRefusal) → Some r ≡ option_map Some (refusal_of_shape s) → IsRefusalOf r (judged d shape)
  judged-refused r e = subst (λ o. IsRefusalOf r (judged d o)) read (told (accepted_schema d s) (refusal_of_shape s) r e)

  pub judged-built : (schema : Schema) → None ≡ option_map Some (refusal_of_shape s) → schema ≡ accepted_schema d s → judged d shape ≡ Ok schema
  judged-built schema e built = ap (judged d) (sym read) ∙ not_refused (accepted_schema d s) (refusal_of_shape s) e ∙ ap Ok (sym built)
