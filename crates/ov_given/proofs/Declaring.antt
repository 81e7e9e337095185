-- Where names are declared.
use Rattle.std.proofs.Common.{◌≡◌, ◌+◌, ◌<◌, ℕ, suc, List, ◌∷◌, length, get_or, drop, Bool, true, false, ◌&&◌, cond, if◌then◌else◌, Option, Some, None, ap, sym, refl, ◌∙◌, arith}
use Rattle.std.specs.Prelude.{option_map, is_some}
use Rattle.std.specs.Cmp.Lexicographic.{same_text}
use Rattle.std.specs.Option.{option_or}
use Rattle.std.specs.Str.{bytes_eq}
use Rattle.std.proofs.lemmas.List.{drop_more}
use Rattle.serde_json.specs.View.{view, items_view}
use Rattle.serde_json.specs.declared.value.Value.{Value}
use Rattle.ov_specs.specs.operations.NamedUuids.{declares, place_declared}
use Rattle.ov_specs.specs.values.Uuid.{is_id}

-- only an <id> is the same text as one
pub same_id : (name text : List ℕ) → is_id text ≡ true → (is_id name && bytes_eq name text) ≡ bytes_eq name text
same_id name text is = by (bytes_eq name text) refl
  where
    by : (b : Bool) → bytes_eq name text ≡ b → (is_id name && b) ≡ b
    by true same = ap (λ b. b && true) (ap is_id (same_text name text (sym same)) ∙ is)
    by false same = and_false (is_id name)
      where
        and_false : (b : Bool) → (b && false) ≡ false
        and_false true = refl
        and_false false = refl

pub other_id : (name text : List ℕ) → is_id text ≡ false → (is_id name && bytes_eq name text) ≡ false
other_id name text is = by (bytes_eq name text) refl
  where
    by : (b : Bool) → bytes_eq name text ≡ b → (is_id name && b) ≡ false
    by true same = ap (λ b. b && true) (ap is_id (same_text name text (sym same)) ∙ is)
    by false same = and_false (is_id name)
      where
        and_false : (b : Bool) → (b && false) ≡ false
        and_false true = refl
        and_false false = refl

-- one more operation
pub first-declared : (place : ℕ) (known later : Option ℕ) (b : Bool) → option_or (option_or known (if b then Some place else None)) (option_map (λ n. (place + 1) + n) later) ≡ option_or known (option_map (λ n. place + n) (if b then Some 0 else option_map suc later))
first-declared place (Some first) later b = refl
first-declared place None later true = let same : place ≡ place + 0 = omega arith in ap Some same
first-declared place None None false = refl
first-declared place None (Some n) false = let same : (place + 1) + n ≡ place + suc n = omega arith in ap Some same

pub first_alone : (o : Option ℕ) → option_or o None ≡ o
first_alone None = refl
first_alone (Some place) = refl

pub from_first : (o : Option ℕ) → option_map (λ n. 0 + n) o ≡ o
from_first None = refl
from_first (Some n) = let same : 0 + n ≡ n = omega arith in ap Some same

-- ---- the place that is kept for a name

-- two texts that are the same, one way round and the other
same_twice : (a b : List ℕ) → bytes_eq a b ≡ true → bytes_eq b a ≡ bytes_eq a b
same_twice a b h = let e = same_text a b (sym h) in λ i. bytes_eq (sym e i) (e i)

no : {b : Bool} → b ≡ true → b ≡ false → ⊥
no h k = cc

module _ (old : List ℕ → Option ℕ) (text name : List ℕ) (place : ℕ) where
  -- if there was none, it is new for this name alone
  pub kept-new : old text ≡ None → cond (bytes_eq text name) (Some place) (old name) ≡ option_or (old name) (if bytes_eq name text then Some place else None)
  kept-new none = by (bytes_eq text name) (bytes_eq name text) refl refl
    where
      by : (a b : Bool) → bytes_eq text name ≡ a → bytes_eq name text ≡ b → cond a (Some place) (old name) ≡ option_or (old name) (if b then Some place else None)
      by true true is turned = sym (ap (λ o. option_or o (Some place)) (ap old (sym (same_text text name (sym is))) ∙ none))
      by true false is turned = absurd (no (same_twice text name is ∙ is) turned)
      by false true is turned = absurd (no (same_twice name text turned ∙ turned) is)
      by false false is turned = sym (first_alone (old name))

  -- if there was one, nothing is new
  pub kept-old : is_some (old text) ≡ true → old name ≡ option_or (old name) (if bytes_eq name text then Some place else None)
  kept-old some = by (bytes_eq name text) refl
    where
      there : (o : Option ℕ) → is_some o ≡ true → o ≡ option_or o (Some place)
      there None h = cc
      there (Some x) h = refl

      by : (b : Bool) → bytes_eq name text ≡ b → old name ≡ option_or (old name) (if b then Some place else None)
      by true is = there (old name) (ap (λ n. is_some (old n)) (same_text name text (sym is)) ∙ some)
      by false is = sym (first_alone (old name))

-- ---- one more operation

pub declared-next : (name : List ℕ) (operations : List Value) (i : ℕ) (d : Value) → i < length operations → d ≡ get_or operations i d
    → place_declared name (items_view (drop i operations)) ≡ (if declares name (view d) then Some 0 else option_map suc (place_declared name (items_view (drop (i + 1) operations))))
declared-next name operations i d within at = ap (λ ds. place_declared name (items_view ds)) (drop_more operations i d within ∙ ap (λ x. x ∷ drop (i + 1) operations) (sym at))

pub none_there : (o : Option ℕ) → is_some o ≡ false → o ≡ None
none_there None h = refl
none_there (Some place) h = cc
