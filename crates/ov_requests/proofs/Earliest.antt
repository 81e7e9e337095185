-- The earliest of some moments.
use Rattle.std.proofs.Common.{◌≡◌, ℕ, List, [], ◌∷◌, ◌++◌, refl, sym, ap, ◌∙◌, Option, Some, None, arith}
use Rattle.std.specs.List.{filter_map, cons_option}
use Rattle.std.proofs.lemmas.List.Elements.{filter_map-append}
use Rattle.ov_specs.specs.machine.Machine.{Outstanding, least, least_with, timeout_of}
use Rattle.ov_requests.specs.Waiting.{earlier}

earlier-earlier : (a b c : Option ℕ) → earlier (earlier a b) c ≡ earlier a (earlier b c)
earlier-earlier None b c = refl
earlier-earlier (Some n) None c = refl
earlier-earlier (Some n) (Some m) None = refl
earlier-earlier (Some n) (Some m) (Some k) = ap (λ (i : ℕ). Some i) (omega arith)

least-append : (xs ys : List ℕ) → least (xs ++ ys) ≡ earlier (least xs) (least ys)
least-append [] ys = refl
least-append (x ∷ xs) ys = ap (earlier (Some x)) (least-append xs ys) ∙ by (least xs)
  where
    by : (o : Option ℕ) → earlier (Some x) (earlier o (least ys)) ≡ earlier (Some (least_with x o)) (least ys)
    by o = earlier-step o (least ys)
      where
        earlier-step : (o p : Option ℕ) → earlier (Some x) (earlier o p) ≡ earlier (Some (least_with x o)) p
        earlier-step None p = refl
        earlier-step (Some m) None = refl
        earlier-step (Some m) (Some k) = ap (λ (i : ℕ). Some i) (omega arith)

-- the earliest of these and those
pub earliest-append : (xs ys : List Outstanding) → least (filter_map timeout_of (xs ++ ys)) ≡ earlier (least (filter_map timeout_of xs)) (least (filter_map timeout_of ys))
earliest-append xs ys = ap least (filter_map-append timeout_of xs ys) ∙ least-append (filter_map timeout_of xs) (filter_map timeout_of ys)

alone : (x : Outstanding) → least (filter_map timeout_of (x ∷ [])) ≡ timeout_of x
alone x = by (timeout_of x)
  where
    by : (o : Option ℕ) → least (cons_option o []) ≡ o
    by None = refl
    by (Some n) = refl

-- none is earlier than a moment
pub earliest_none : (due : Option ℕ) → due ≡ earlier due None
earliest_none None = refl
earliest_none (Some n) = refl

-- and with one more
pub earliest_next : (due : Option ℕ) (xs : List Outstanding) (x : Outstanding) → earlier (earlier due (least (filter_map timeout_of xs))) (timeout_of x) ≡ earlier due (least (filter_map timeout_of (xs ++ x ∷ [])))
earliest_next due xs x = earlier-earlier due (least (filter_map timeout_of xs)) (timeout_of x) ∙ ap (earlier due) (ap (earlier (least (filter_map timeout_of xs))) (sym (alone x)) ∙ sym (earliest-append xs (x ∷ [])))
