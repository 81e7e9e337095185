-- Rows whose numbers ascend.
use Rattle.std.proofs.Common.{◌≡◌, ◌≢◌, ℕ, ℤ, List, [], ◌∷◌, ◌++◌, take, length, get_or, ◌+◌, ◌<◌, refl, sym, ap, subst, ◌∙◌, add-one, Option, Some, None, IfSome, ◌<ℤ◌}
use Rattle.std.specs.List.{AllByRecursion}
use Rattle.std.specs.Cmp.{int_chain}
use Rattle.std.specs.Int.Signed.{<ℤ_irrefl}
use Rattle.std.proofs.Math.Seq.{take-suc}
use Rattle.sqlite.specs.declared.types.Value.{Value}
use Rattle.sqlite.specs.declared.types.Value.TheVariants.{Null, Int, Real, Text, Blob}
use Rattle.sqlite.specs.Order.{Row, column}
use Rattle.sqlite_trees.proofs.ListLemmas.{all_weaker, all_both}
use Rattle.sqlite_trees.specs.Tree.{IsAscending}
use Rattle.ov_tables.specs.Holding.{IsNumbered}
use Rattle.ov_sqlite.specs.Joining.{AreNumbered}

pub all_push : {X : Type 0} (P : X → Type 0) (xs : List X) (x : X) → AllByRecursion P xs → P x → AllByRecursion P (xs ++ x ∷ [])
all_push P [] x all h = (h, tt)
all_push P (y ∷ xs) x all h = (all.0, all_push P xs x all.1 h)

-- what holds of all holds of the first of them, and of the last
pub all_first : {X : Type 0} (P : X → Type 0) (xs ys : List X) → AllByRecursion P (xs ++ ys) → AllByRecursion P xs
all_first P [] ys all = tt
all_first P (x ∷ xs) ys all = (all.0, all_first P xs ys all.1)

pub all_last : {X : Type 0} (P : X → Type 0) (xs : List X) (x : X) → AllByRecursion P (xs ++ x ∷ []) → P x
all_last P [] x all = all.0
all_last P (y ∷ xs) x all = all_last P xs x all.1

pub all_front : {X : Type 0} (P : X → Type 0) (xs : List X) (i : ℕ) (x : X) → i < length xs → x ≡ get_or xs i x → AllByRecursion P xs → P x
all_front P xs i x h e all = subst P (sym e) (at P xs i x h all)
  where
    at : {X : Type 0} (P : X → Type 0) (xs : List X) (i : ℕ) (d : X) → i < length xs → AllByRecursion P xs → P (get_or xs i d)
    at P xs i d h all = Rattle.std.proofs.lemmas.List.Elements.All-from_recursion P xs all i d h

-- one row more
pub taken_more : {X : Type 0} (xs : List X) (i : ℕ) (x : X) → i < length xs → x ≡ get_or xs i x → take (i + 1) xs ≡ take i xs ++ x ∷ []
taken_more xs i x h e = rw add-one (take-suc xs i x h ∙ ap (λ y. take i xs ++ y ∷ []) (sym e))

value_of_int : Value → ℤ
value_of_int Null = Rattle.std.proofs.Common.pos 0
value_of_int (Int n) = n
value_of_int (Real x) = Rattle.std.proofs.Common.pos 0
value_of_int (Text t) = Rattle.std.proofs.Common.pos 0
value_of_int (Blob b) = Rattle.std.proofs.Common.pos 0

pub push_numbered : (rows : List Row) (x : Row) (n : ℤ) → column x 0 ≡ Int n → AllByRecursion (λ r. column r 0 ≢ Int n) rows → IsNumbered (λ r. r) rows → IsNumbered (λ r. r) (rows ++ x ∷ [])
push_numbered rows x n is apart numbered =
    all_push _ rows x
    (all_both _ _ _ (λ r no ones. all_push _ rows x ones (λ e. absurd (no (sym e ∙ is)))) rows apart numbered)
    (all_push _ rows x (all_weaker _ _ (λ s no e. absurd (no (e ∙ is))) rows apart) (λ e. refl))

pub push_below : (rows : List Row) (x : Row) (last : Option ℤ) (n m : ℤ) → column x 0 ≡ Int n → IfSome last (λ k. k <ℤ n) → n <ℤ m
    → ((m : ℤ) → IfSome last (λ k. k <ℤ m) → AllByRecursion (λ r. column r 0 ≢ Int m) rows) → AllByRecursion (λ r. column r 0 ≢ Int m) (rows ++ x ∷ [])
unfolding value_of_int
push_below rows x last n m is above low below =
    all_push _ rows x (below m (further last above))
    (λ e. <ℤ_irrefl (subst (λ k. n <ℤ k) (sym (ap value_of_int (sym is ∙ e))) low))
  where
    further : (last : Option ℤ) → IfSome last (λ k. k <ℤ n) → IfSome last (λ k. k <ℤ m)
    further None h = h
    further (Some k) h = int_chain k n m h low

pub ascending_push : {X : Type 0} (R : X → X → Type 0) (xs : List X) (x : X) → IsAscending R xs → AllByRecursion (λ a. R a x) xs → IsAscending R (xs ++ x ∷ [])
ascending_push R [] x ascends all = (tt, tt)
ascending_push R (y ∷ xs) x ascends all = (all_push (R y) xs x ascends.0 all.0, ascending_push R xs x ascends.1 all.1)

pub push_distinct : (rows : List Row) (x : Row) (n : ℤ) → column x 0 ≡ Int n → AllByRecursion (λ r. column r 0 ≢ Int n) rows → AreNumbered rows → AreNumbered (rows ++ x ∷ [])
push_distinct rows x n is apart ascends = ascending_push _ rows x ascends (all_weaker _ _ (λ r no e. absurd (no (e ∙ is))) rows apart)
