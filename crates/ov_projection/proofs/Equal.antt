-- Lists that are walked element by element.
use Rattle.std.proofs.Common.{◌≡◌, ℕ, ◌+◌, ◌-◌, ◌<◌, arith, length-drop, List, [], ◌∷◌, ◌++◌, map, length, get_or, take, drop, Bool, ◌&&◌, refl, sym, ap, ◌∙◌}
use Rattle.std.proofs.lemmas.List.{drop_more, take_more, take_all}
use Rattle.std.specs.Cmp.Lexicographic.{pointwise}

-- the elements at i, and then those after them
pub pointwise-at : {A : Type 0} (E : A → A → Bool) (xs ys : List A) (i : ℕ) (x y : A) → i < length xs → i < length ys → x ≡ get_or xs i x → y ≡ get_or ys i y
    → pointwise E (drop i xs) (drop i ys) ≡ (E x y && pointwise E (drop (i + 1) xs) (drop (i + 1) ys))
pointwise-at E xs ys i x y h k e f =
    ap (λ zs. pointwise E zs (drop i ys)) (drop_more xs i x h ∙ ap (λ z. z ∷ drop (i + 1) xs) (sym e))
    ∙ ap (pointwise E (x ∷ drop (i + 1) xs)) (drop_more ys i y k ∙ ap (λ z. z ∷ drop (i + 1) ys) (sym f))

-- the element at i, and then those after it
pub drop-at : {A : Type 0} (xs : List A) (i : ℕ) (x : A) → i < length xs → x ≡ get_or xs i x → drop i xs ≡ x ∷ drop (i + 1) xs
drop-at xs i x h e = drop_more xs i x h ∙ ap (λ y. y ∷ drop (i + 1) xs) (sym e)

pub map-push : {A B : Type 0} (f : A → B) (xs : List A) (x : A) → map f (xs ++ x ∷ []) ≡ map f xs ++ f x ∷ []
map-push f [] x = refl
map-push f (y ∷ xs) x = ap (λ ys. f y ∷ ys) (map-push f xs x)

-- one more element on either side
pub map-take : {A B C : Type 0} (f : A → C) (g : B → C) (xs : List A) (a : A) (bs : List B) (i : ℕ) (b : B) → i < length bs → b ≡ get_or bs i b → map f xs ≡ map g (take i bs) → f a ≡ g b
    → map f (xs ++ a ∷ []) ≡ map g (take (i + 1) bs)
map-take f g xs a bs i b h e all one =
    map-push f xs a ∙ ap (λ cs. cs ++ f a ∷ []) all ∙ ap (λ c. map g (take i bs) ++ c ∷ []) one
    ∙ sym (ap (map g) (take_more bs i b h ∙ ap (λ y. take i bs ++ y ∷ []) (sym e)) ∙ map-push g (take i bs) b)

-- what stands from a place on, as a slice of all that remains
pub slice-rest : {A : Type 0} (xs : List A) (i : ℕ) → take (length xs - i) (drop i xs) ≡ drop i xs
slice-rest xs i = let many = length-drop i xs in take_all (length xs - i) (drop i xs) (omega (arith, many))
