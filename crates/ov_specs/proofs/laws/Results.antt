-- Several results, one after another: those so far stand in front of the others, and a fault is that of all.
use Rattle.std.proofs.Common.{◌≡◌, ◌<◌, ◌+◌, ℕ, suc, List, [], ◌∷◌, ◌++◌, length, get_or, drop, refl, sym, ap, ◌∙◌, append_assoc, append-nil}
use Rattle.std.specs.Prelude.{Result, Ok, Err}
use Rattle.std.proofs.lemmas.List.{drop_more}
use Rattle.serde_json.specs.Data.{Data}
use Rattle.serde_json.specs.View.{view, items_view}
use Rattle.serde_json.specs.declared.value.Value.{Value}
use Rattle.ov_specs.specs.values.Results.{result_map, result_and_then, each_or_fault}
use Rattle.ov_specs.specs.wire.Tree.{item_list}

-- these in front of the others, or the fault of the others
abbrev pub after_these : {A E : Type 0} → List A → Result (List A) E → Result (List A) E
after_these before (Ok others) = Ok (before ++ others)
after_these before (Err fault) = Err fault

-- a result in front of the others, or the first fault
abbrev pub first_of_all : {A E : Type 0} → Result A E → Result (List A) E → Result (List A) E
first_of_all first others = result_and_then (λ a. result_map (λ more. a ∷ more) others) first

-- what came out, or nothing
abbrev came : {A E : Type 0} → Result (List A) E → List A
came (Ok made) = made
came (Err fault) = []

module _ {A B E : Type 0} (result : A → Result B E) where
  -- one more comes out
  pub one_more : (before : List B) (a : A) (b : B) (rest : List A) → result a ≡ Ok b
      → after_these before (each_or_fault result (a ∷ rest)) ≡ after_these (before ++ b ∷ []) (each_or_fault result rest)
  one_more before a b rest is = ap (λ r. after_these before (first_of_all r (each_or_fault result rest))) is ∙ by (each_or_fault result rest)
    where
      by : (others : Result (List B) E) → after_these before (result_map (λ more. b ∷ more) others) ≡ after_these (before ++ b ∷ []) others
      by (Ok others) = ap Ok (sym (append_assoc before (b ∷ []) others))
      by (Err fault) = refl

  -- the next one has a fault
  pub one_fault : (before : List B) (a : A) (fault : E) (rest : List A) → result a ≡ Err fault → after_these before (each_or_fault result (a ∷ rest)) ≡ Err fault
  one_fault before a fault rest is = ap (λ r. after_these before (first_of_all r (each_or_fault result rest))) is

  -- after all of them there is none left
  pub none_left : (before : List B) (rest : List A) → rest ≡ [] → after_these before (each_or_fault result rest) ≡ Ok before
  none_left before rest none = ap (λ list. after_these before (each_or_fault result list)) none ∙ ap Ok (append-nil before)

  -- as many come out as there are elements
  pub each_length : (list : List A) (made : List B) → each_or_fault result list ≡ Ok made → length made ≡ length list
  each_length [] made is = ap (λ r. length (came r)) (sym is)
  each_length (a ∷ list) made is = by (result a) (each_or_fault result list) (each_length list) is
    where
      by : (first : Result B E) (others : Result (List B) E) → ((rest : List B) → others ≡ Ok rest → length rest ≡ length list) → first_of_all first others ≡ Ok made → length made ≡ suc (length list)
      by (Err fault) others many h = cc
      by (Ok b) (Err fault) many h = cc
      by (Ok b) (Ok others) many h = ap (λ r. length (came r)) (sym h) ∙ ap suc (many others refl)

-- ---- the elements from a place on

-- of a list that is seen as another one, element by element
module _ {V A B E : Type 0} (seen : List V → List A) (one : V → A) (begins : (v : V) (vs : List V) → seen (v ∷ vs) ≡ one v ∷ seen vs) (result : A → Result B E)
    (list : List V) (i : ℕ) (v : V) (within : i < length list) (at : v ≡ get_or list i v) where
  next : seen (drop i list) ≡ one v ∷ seen (drop (i + 1) list)
  next = ap seen (drop_more list i v within ∙ ap (λ x. x ∷ drop (i + 1) list) (sym at)) ∙ begins v (drop (i + 1) list)

  -- the one at this place comes out
  pub next_more : (before : List B) (b : B) → result (one v) ≡ Ok b
      → after_these before (each_or_fault result (seen (drop i list))) ≡ after_these (before ++ b ∷ []) (each_or_fault result (seen (drop (i + 1) list)))
  next_more before b is = ap (λ rest. after_these before (each_or_fault result rest)) next ∙ one_more result before (one v) b (seen (drop (i + 1) list)) is

  -- the one at this place has a fault
  pub next_fault : (before : List B) (fault : E) → result (one v) ≡ Err fault → after_these before (each_or_fault result (seen (drop i list))) ≡ Err fault
  next_fault before fault is = ap (λ rest. after_these before (each_or_fault result rest)) next ∙ one_fault result before (one v) fault (seen (drop (i + 1) list)) is

-- the items of an array, which are read from values
module _ {B E : Type 0} (read : Data → Result B E) (trees : List Value) (i : ℕ) (tree : Value) (within : i < length trees) (at : tree ≡ get_or trees i tree) where
  pub item_more : (before : List B) (b : B) → read (view tree) ≡ Ok b
      → after_these before (each_or_fault read (item_list (items_view (drop i trees)))) ≡ after_these (before ++ b ∷ []) (each_or_fault read (item_list (items_view (drop (i + 1) trees))))
  item_more = next_more (λ vs. item_list (items_view vs)) view (λ v vs. refl) read trees i tree within at

  pub item_fault : (before : List B) (fault : E) → read (view tree) ≡ Err fault → after_these before (each_or_fault read (item_list (items_view (drop i trees)))) ≡ Err fault
  item_fault = next_fault (λ vs. item_list (items_view vs)) view (λ v vs. refl) read trees i tree within at
