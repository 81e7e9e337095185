-- Reading the members of an object, one after another.
use Rattle.std.proofs.Common.{◌≡◌, ℕ, List, [], ◌∷◌, ◌++◌, Option, Some, None, option_map, option_and_then, String, Global, refl, sym, ap, ◌∙◌, append_assoc}
use Rattle.std.specs.String.{string_bytes}
use Rattle.serde_json.specs.Data.{Data}
use Rattle.serde_json.specs.View.{view, members_view}
use Rattle.serde_json.specs.declared.value.Value.{Value}
use Rattle.ov_specs.specs.schema.SchemaShape.{each_member}
use Rattle.ov_atoms.proofs.Lists.{after}

after-cons : {A : Type 0} (done : List A) (a : A) (rest : Option (List A)) → after done (option_map (λ xs. a ∷ xs) rest) ≡ after (done ++ a ∷ []) rest
after-cons done a None = refl
after-cons done a (Some rest) = ap Some (sym (append_assoc done (a ∷ []) rest))

module _ {A : Type 0} (reader : Data → Option A) where
  -- the next member reads
  pub after-member : (done : List (List ℕ × A)) (left rest : List (String Global × Value)) (name : String Global) (tree : Value) (a : A) → left ≡ (name, tree) ∷ rest → Some a ≡ reader (view tree)
      → after done (each_member reader (members_view left)) ≡ after (done ++ (string_bytes name, a) ∷ []) (each_member reader (members_view rest))
  after-member done left rest name tree a is reads =
      ap (λ ms. after done (each_member reader (members_view ms))) is
      ∙ ap (λ o. after done (option_and_then (λ x. option_map (λ xs. (string_bytes name, x) ∷ xs) (each_member reader (members_view rest))) o)) (sym reads)
      ∙ after-cons done (string_bytes name, a) (each_member reader (members_view rest))

  -- the next member does not read
  pub after-no_member : (done : List (List ℕ × A)) (left rest : List (String Global × Value)) (name : String Global) (tree : Value) → left ≡ (name, tree) ∷ rest → None ≡ reader (view tree)
      → after done (each_member reader (members_view left)) ≡ None
  after-no_member done left rest name tree is unread =
      ap (λ ms. after done (each_member reader (members_view ms))) is
      ∙ ap (λ o. after done (option_and_then (λ x. option_map (λ xs. (string_bytes name, x) ∷ xs) (each_member reader (members_view rest))) o)) (sym unread)
