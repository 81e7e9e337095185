-- The tokens of a value's written form, piece by piece.
use Rattle.std.proofs.Common.{◌≡◌, ℕ, List, [], ◌∷◌, ◌++◌, map, flat_map, length, refl, sym, ap, ◌∙◌, codes}
use Rattle.std.proofs.lemmas.List.{append_assoc, length-map}
use Rattle.json.specs.Token.{Token, begin_array, end_array, string}
use Rattle.json.specs.Tree.{items_tokens}
use Rattle.serde_json.specs.Data.{Data}
use Rattle.serde_json.specs.Written.{items_outline}
use Rattle.serde_json.specs.View.{items_of}
use Rattle.ov_specs.specs.values.Value as value
use Rattle.ov_specs.specs.values.Writing.{atom_tree, pair_tree, set_tree, map_tree}
use Rattle.ov_atoms.specs.declared.atom.Atom.{Atom}
use Rattle.ov_atoms.specs.Tokens.{tokens_of}
use Rattle.ov_atoms.specs.Views.{atoms_view, pairs_view}

-- the tokens of an array's items, with its end
items-each : {A : Type 0} (form : A → Data) (xs : List A) → items_tokens (items_outline (items_of (map form xs))) ≡ flat_map (λ x. tokens_of (form x)) xs ++ end_array ∷ []
items-each form [] = refl
items-each form (x ∷ xs) = ap (λ ts. tokens_of (form x) ++ ts) (items-each form xs) ∙ sym (append_assoc (tokens_of (form x)) (flat_map (λ y. tokens_of (form y)) xs) (end_array ∷ []))

-- a word, and the items after it
word-each : {A : Type 0} (form : A → Data) (word : List ℕ) (xs : List A)
    → begin_array ∷ string word ∷ begin_array ∷ (items_tokens (items_outline (items_of (map form xs))) ++ end_array ∷ [])
    ≡ begin_array ∷ string word ∷ begin_array ∷ (flat_map (λ x. tokens_of (form x)) xs ++ end_array ∷ end_array ∷ [])
word-each form word xs =
    ap (λ ts. begin_array ∷ string word ∷ begin_array ∷ ts)
    (ap (λ ts. ts ++ end_array ∷ []) (items-each form xs) ∙ append_assoc (flat_map (λ x. tokens_of (form x)) xs) (end_array ∷ []) (end_array ∷ []))

put-one-by-one : (old items : List Token) (word : List ℕ)
    → (((((old ++ begin_array ∷ []) ++ string word ∷ []) ++ begin_array ∷ []) ++ items) ++ end_array ∷ []) ++ end_array ∷ []
    ≡ old ++ (begin_array ∷ string word ∷ begin_array ∷ (items ++ end_array ∷ end_array ∷ []))
put-one-by-one [] items word = ap (λ ts. begin_array ∷ string word ∷ begin_array ∷ ts) (append_assoc items (end_array ∷ []) (end_array ∷ []))
put-one-by-one (t ∷ old) items word = ap (λ ts. t ∷ ts) (put-one-by-one old items word)

set_tokens : (xs : List value.Atom) → (length xs ≡ 1 → ⊥)
    → begin_array ∷ string (codes "set") ∷ begin_array ∷ (flat_map (λ a. tokens_of (atom_tree a)) xs ++ end_array ∷ end_array ∷ []) ≡ tokens_of (set_tree xs)
set_tokens [] other = refl
set_tokens (a ∷ []) other = absurd (other refl)
set_tokens (a ∷ b ∷ xs) other = sym (word-each atom_tree (codes "set") (a ∷ b ∷ xs))

pub set-put : (old : List Token) (atoms : List Atom) → (length atoms ≡ 1 → ⊥)
    → (((((old ++ begin_array ∷ []) ++ string (codes "set") ∷ []) ++ begin_array ∷ []) ++ flat_map (λ a. tokens_of (atom_tree a)) (atoms_view atoms)) ++ end_array ∷ []) ++ end_array ∷ []
    ≡ old ++ tokens_of (set_tree (atoms_view atoms))
set-put old atoms other =
    put-one-by-one old _ (codes "set") ∙ ap (λ ts. old ++ ts) (set_tokens (atoms_view atoms) (λ e. other (sym (length-map atoms _) ∙ e)))

pub map-put : (old : List Token) (pairs : List (Atom × Atom))
    → (((((old ++ begin_array ∷ []) ++ string (codes "map") ∷ []) ++ begin_array ∷ []) ++ flat_map (λ p. tokens_of (pair_tree p)) (pairs_view pairs)) ++ end_array ∷ []) ++ end_array ∷ []
    ≡ old ++ tokens_of (map_tree (pairs_view pairs))
map-put old pairs = put-one-by-one old _ (codes "map") ∙ ap (λ ts. old ++ ts) (sym (word-each pair_tree (codes "map") (pairs_view pairs)))
