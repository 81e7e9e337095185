use Rattle.std.proofs.Common.{◌≡◌, ◌∙◌, ℕ, List, Bool, true, false, cond, Option, Some, None, codes, option_and_then, ap, sym, refl}
use Rattle.std.specs.Prelude.{Ok, Err}
use Rattle.std.proofs.lemmas.Option.{same_Some}
use Rattle.serde_json.specs.Data.{Data}
use Rattle.serde_json.specs.Find.{get, as_str}
use Rattle.serde_json.proofs.OnLiterals.{serde_json_on_literals}
use Rattle.ov_specs.specs.schema.Schema.{SchemaRefusal, RealNotSupported, accepted, judged, refused_or, accepted_schema, refusal_of_shape}
use Rattle.ov_specs.specs.schema.SchemaShape.{SchemaShape, TableShape, where_read, optional, named_parts, table_shape, schema_shape}
use Rattle.ov_specs.specs.schema.SchemaTypes.{Schema}
use Rattle.ov_specs.specs.wire.Tree.{has_real}
use Rattle.std.specs.Str.{is_utf8}
use Rattle.std.proofs.lemmas.Result.{IfOk-weaker}
use Rattle.serde_json.specs.Read.{read}
use Rattle.ov_schema_text.specs.Texts.{IsSchemaText}
use Rattle.ov_server.specs.declared.database.TheConstants.{SCHEMA}
use Rattle.ov_server.proofs.database.built_in_schema.Goals as goal

-- the name that a tree gives
abbrev name_at : Data → Option (List ℕ)
name_at d = option_and_then as_str (get (codes "name") d)

-- the members that a schema has
abbrev shape_of : List ℕ → Option (List ℕ) → List (List ℕ × TableShape) → SchemaShape
shape_of name version tables = record { name = name; version = version; tables = tables }

-- the members have that name
shape_name : (n : Option (List ℕ)) (v c : Option (Option (List ℕ))) (t : Option (List (List ℕ × TableShape))) (shape : SchemaShape)
    → where_read n (λ name. where_read v (λ version. where_read c (λ cksum. where_read t (λ tables. Some (shape_of name version tables))))) ≡ Some shape → n ≡ Some shape.name
shape_name None v c t shape h = cc
shape_name (Some n) None c t shape h = cc
shape_name (Some n) (Some v) None t shape h = cc
shape_name (Some n) (Some v) (Some c) None shape h = cc
shape_name (Some n) (Some v) (Some c) (Some t) shape h = ap (λ (s : SchemaShape). Some s.name) (same_Some (shape_of n v t) shape h)

-- a schema that is not refused is the one of the members
not_refused : (built s : Schema) (o : Option SchemaRefusal) → refused_or built o ≡ Ok s → built.name ≡ s.name
not_refused built s None h = cc
not_refused built s (Some refusal) h = cc

-- and so has the schema that is accepted
accepted_name : (d : Data) (s : Schema) → accepted d ≡ Ok s → name_at d ≡ Some s.name
accepted_name d s h = by_real (has_real d) h
  where
    by_shape : (o : Option SchemaShape) → schema_shape d ≡ o → judged d o ≡ Ok s → name_at d ≡ Some s.name
    by_shape None is h = cc
    by_shape (Some shape) is h = shape_name (name_at d) (optional as_str (get (codes "version") d)) (optional as_str (get (codes "cksum") d)) (option_and_then (named_parts table_shape) (get (codes "tables") d)) shape is ∙ ap Some (not_refused (accepted_schema d shape) s (refusal_of_shape shape) h)

    by_real : (b : Bool) → cond b (Err RealNotSupported) (judged d (schema_shape d)) ≡ Ok s → name_at d ≡ Some s.name
    by_real true h = cc
    by_real false h = by_shape (schema_shape d) refl h

-- what is JSON in UTF-8 is JSON
read_by : (b : Bool) (o : Option Data) (d : Data) → cond b o None ≡ Some d → o ≡ Some d
read_by true o d h = h
read_by false o d h = cc

-- the text is read and its name computed
pub returns : goal.returns
unfolding serde_json_on_literals
returns c =
    let parts : (s : Schema) → IsSchemaText c.as_bytes.result.now s → read SCHEMA.now ≡ Some s.tree =
    λ s h. ap read (sym c.as_bytes.ensures.value) ∙ read_by (is_utf8 c.as_bytes.result.now) (read c.as_bytes.result.now) s.tree h.tree in
    IfOk-weaker c.schema_of.result _ _ (λ s h.
    let named : name_at s.tree ≡ Some (codes "Net") = ap (option_and_then name_at) (sym (parts s h)) in
    record { name = same_Some s.name (codes "Net") (sym (accepted_name s.tree s h.accepted) ∙ named); tree = parts s h }) c.schema_of.ensures.schema
