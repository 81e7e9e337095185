-- Monitors under the texts that their names are sent as.
use Rattle.std.proofs.Common.{◌≡◌, ℕ, suc, List, [], ◌∷◌, ◌++◌, map, filter, length, Bool, true, false, cond, not, ◌||◌, Some, None, is_some, refl, sym, ap, ◌∙◌, String, string_bytes, Global}
use Rattle.std.specs.Cmp.Lexicographic.{nat_list_eq_equiv}
use Rattle.std.specs.List.{AllByRecursion, find, list_any}
use Rattle.std.specs.Map.{lookup, remove_entry}
use Rattle.std.specs.Str.{bytes_eq}
use Rattle.serde_json.specs.Data.{Data}
use Rattle.ov_specs.specs.monitors.Monitors.{Monitor, is_named}
use Rattle.ov_specs.specs.wire.Frame.{frame}

abbrev pub Entry : Type 0
Entry = String Global × Monitor

abbrev pub is_key : Data → String Global → Bool
is_key id k = bytes_eq (frame id) (string_bytes k)

abbrev pub AreUnderNames : List Entry → Type 0
AreUnderNames es = AllByRecursion (λ e. string_bytes e.0 ≡ frame e.1.id) es

turned : (a b : List ℕ) → bytes_eq a b ≡ bytes_eq b a
turned a b = nat_list_eq_equiv.symm a b

key_is : (id : Data) (e : Entry) → string_bytes e.0 ≡ frame e.1.id → is_key id e.0 ≡ is_named id e.1
key_is id e h = ap (bytes_eq (frame id)) h ∙ turned (frame id) (frame e.1.id)

-- what a name finds
pub lookup-found : (id : Data) (es : List Entry) → AreUnderNames es → lookup (is_key id) es ≡ find (is_named id) (map (λ e. e.1) es)
lookup-found id [] h = refl
lookup-found id (e ∷ es) h = (λ i. cond (key_is id e h.0 i) (Some e.1) (lookup-found id es h.1 i))

pub lookup-any : (id : Data) (es : List Entry) → AreUnderNames es → is_some (lookup (is_key id) es) ≡ list_any (is_named id) (map (λ e. e.1) es)
lookup-any id [] h = refl
lookup-any id (e ∷ es) h = by (is_key id e.0) (is_named id e.1) (key_is id e h.0) (lookup-any id es h.1)
  where
    by : (a b : Bool) → a ≡ b → is_some (lookup (is_key id) es) ≡ list_any (is_named id) (map (λ e. e.1) es) → is_some (cond a (Some e.1) (lookup (is_key id) es)) ≡ (b || list_any (is_named id) (map (λ e. e.1) es))
    by true true same rest = refl
    by true false same rest = cc
    by false true same rest = cc
    by false false same rest = rest

-- ---- without one of them

abbrev others : Data → List Monitor → List Monitor
others id = filter (λ m. not (is_named id m))

pub removed-names : (id : Data) (es : List Entry) → AreUnderNames es → AreUnderNames (remove_entry (is_key id) es)
removed-names id [] h = h
removed-names id (e ∷ es) h = by (is_key id e.0) (removed-names id es h.1)
  where
    by : (a : Bool) → AreUnderNames (remove_entry (is_key id) es) → AreUnderNames (cond a es (e ∷ remove_entry (is_key id) es))
    by true rest = h.1
    by false rest = (h.0, rest)

-- the one that goes is none of the others
others-removed : (id : Data) (es : List Entry) → AreUnderNames es → others id (map (λ e. e.1) (remove_entry (is_key id) es)) ≡ others id (map (λ e. e.1) es)
others-removed id [] h = refl
others-removed id (e ∷ es) h = by (is_key id e.0) (is_named id e.1) (key_is id e h.0) refl (others-removed id es h.1)
  where
    rest : List Monitor
    rest = others id (map (λ e. e.1) es)

    by : (a b : Bool) → a ≡ b → is_named id e.1 ≡ b → others id (map (λ e. e.1) (remove_entry (is_key id) es)) ≡ rest
        → others id (map (λ e. e.1) (cond a es (e ∷ remove_entry (is_key id) es))) ≡ cond (not b) (e.1 ∷ rest) rest
    by true true same is same_rest = refl
    by true false same is same_rest = cc
    by false true same is same_rest = cc
    by false false same is same_rest =
        ap (λ c. cond (not c) (e.1 ∷ others id (map (λ e. e.1) (remove_entry (is_key id) es))) (others id (map (λ e. e.1) (remove_entry (is_key id) es)))) is ∙ ap (λ ms. e.1 ∷ ms) same_rest

-- if no monitor has the name, all are others
others-all : (id : Data) (es : List Entry) → AreUnderNames es → lookup (is_key id) es ≡ None → others id (map (λ e. e.1) es) ≡ map (λ e. e.1) es
others-all id [] h none = refl
others-all id (e ∷ es) h none = by (is_key id e.0) (is_named id e.1) (key_is id e h.0) none (others-all id es h.1)
  where
    by : (a b : Bool) → a ≡ b → cond a (Some e.1) (lookup (is_key id) es) ≡ None → (lookup (is_key id) es ≡ None → others id (map (λ e. e.1) es) ≡ map (λ e. e.1) es)
        → cond (not b) (e.1 ∷ others id (map (λ e. e.1) es)) (others id (map (λ e. e.1) es)) ≡ e.1 ∷ map (λ e. e.1) es
    by true b same none rest = cc
    by false true same none rest = cc
    by false false same none rest = ap (λ ms. e.1 ∷ ms) (rest none)

pub removed : (id : Data) (es : List Entry) → AreUnderNames es → lookup (is_key id) (remove_entry (is_key id) es) ≡ None → map (λ e. e.1) (remove_entry (is_key id) es) ≡ filter (λ m. not (is_named id m)) (map (λ e. e.1) es)
removed id es h none = sym (others-all id (remove_entry (is_key id) es) (removed-names id es h) none) ∙ others-removed id es h

-- ---- with one more

pub pushed-names : (es : List Entry) (e : Entry) → AreUnderNames es → string_bytes e.0 ≡ frame e.1.id → AreUnderNames (es ++ e ∷ [])
pushed-names [] e h is = (is, tt)
pushed-names (x ∷ xs) e h is = (h.0, pushed-names xs e h.1 is)

pub pushed : (es : List Entry) (e : Entry) → map (λ e. e.1) (es ++ e ∷ []) ≡ map (λ e. e.1) es ++ e.1 ∷ []
pushed [] e = refl
pushed (x ∷ xs) e = ap (λ ms. x.1 ∷ ms) (pushed xs e)

pub counted : (es : List Entry) → length (map (λ e. e.1) es) ≡ length es
counted [] = refl
counted (e ∷ es) = ap suc (counted es)
