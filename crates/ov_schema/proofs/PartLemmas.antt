-- Versions, part by part.
use Rattle.std.proofs.Common.{◌≡◌, ℕ, suc, ◌==◌, ◌≤◌, ◌<◌, List, [], ◌∷◌, length, take, Bool, true, false, cond, Option, Some, Ordering, refl, sym, ap, ◌∙◌, arith}
use Rattle.std.proofs.lemmas.Option.{same_Some}
use Rattle.std.specs.declared.cmp.Ordering.TheVariants.{Less, Greater}
use Rattle.std.specs.Cmp.Lexicographic.{slice_cmp}
use Rattle.std.specs.Ordering.{ordering_then}
use Rattle.ov_specs.specs.schema.Newer.{part_cmp, version_cmp}
use Rattle.ov_specs.specs.schema.Schema.{before_parts, split_at_dots}
use Rattle.ov_schema.specs.Parts.{part_length, first_part, rest_of, parts_after}

pub split-parts : (text : List ℕ) → split_at_dots text ≡ first_part text ∷ parts_after (rest_of text)
split-parts [] = refl
split-parts (c ∷ cs) = by (c == 46) (split-parts cs)
  where
    by : (b : Bool) → split_at_dots cs ≡ first_part cs ∷ parts_after (rest_of cs)
        → cond b ([] ∷ split_at_dots cs) (before_parts c (split_at_dots cs)) ≡ take (cond b 0 (suc (part_length cs))) (c ∷ cs) ∷ parts_after (cond b (Some cs) (rest_of cs))
    by true is = refl
    by false is = ap (before_parts c) is

pub version_cmp-parts : (a b : List ℕ) → version_cmp a b ≡ ordering_then (part_cmp (first_part a) (first_part b)) (slice_cmp part_cmp (parts_after (rest_of a)) (parts_after (rest_of b)))
version_cmp-parts a b = λ i. slice_cmp part_cmp (split-parts a i) (split-parts b i)

-- what the first parts say, and where they are equal, what follows them
abbrev pub rests_cmp : List ℕ → List ℕ → Ordering
rests_cmp a b = slice_cmp part_cmp (parts_after (rest_of a)) (parts_after (rest_of b))

pub version_cmp-by : (a b p q : List ℕ) → p ≡ first_part a → q ≡ first_part b → (o : Ordering) → o ≡ part_cmp p q → version_cmp a b ≡ ordering_then o (rests_cmp a b)
version_cmp-by a b p q is_p is_q o is =
    version_cmp-parts a b ∙ (λ i. ordering_then (part_cmp (sym is_p i) (sym is_q i)) (rests_cmp a b)) ∙ ap (λ x. ordering_then x (rests_cmp a b)) (sym is)

pub rests_cmp-by : (a b : List ℕ) (o p : Option (List ℕ)) → o ≡ rest_of a → p ≡ rest_of b → slice_cmp part_cmp (parts_after o) (parts_after p) ≡ rests_cmp a b
rests_cmp-by a b o p is_o is_p = λ i. slice_cmp part_cmp (parts_after (is_o i)) (parts_after (is_p i))

pub more-parts : (text : List ℕ) → slice_cmp part_cmp (split_at_dots text) [] ≡ Greater
more-parts text = ap (λ parts. slice_cmp part_cmp parts []) (split-parts text)

pub fewer-parts : (text : List ℕ) → slice_cmp part_cmp [] (split_at_dots text) ≡ Less
fewer-parts text = ap (λ parts. slice_cmp part_cmp [] parts) (split-parts text)

pub part_length-fits : (text : List ℕ) → part_length text ≤ length text
part_length-fits [] = omega arith
part_length-fits (c ∷ cs) = by (c == 46) (part_length-fits cs)
  where
    by : (b : Bool) → part_length cs ≤ length cs → cond b 0 (suc (part_length cs)) ≤ suc (length cs)
    by true h = omega arith
    by false h = omega arith

-- what follows a dot is shorter than the whole
pub rest_of-shorter : (text rest : List ℕ) → rest_of text ≡ Some rest → length rest < length text
rest_of-shorter [] rest is = cc
rest_of-shorter (c ∷ cs) rest is = by (c == 46) is (rest_of-shorter cs rest)
  where
    by : (b : Bool) → cond b (Some cs) (rest_of cs) ≡ Some rest → (rest_of cs ≡ Some rest → length rest < length cs) → length rest < suc (length cs)
    by true h later =
        let same : cs ≡ rest = same_Some cs rest h in
        let lengths : length cs ≡ length rest = ap length same in
        omega arith
    by false h later = let less = later h in omega arith
