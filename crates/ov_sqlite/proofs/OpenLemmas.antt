-- From the rows that are read to what the tables hold.
use Rattle.std.proofs.Common.{◌≡◌, List, Result, Err, ap}
use Rattle.std.specs.List.{AllByRecursion}
use Rattle.std.specs.List.Sorted.{IsPermutation}
use Rattle.std.proofs.lemmas.List.Sorted.{All-permutation}
use Rattle.std.proofs.lemmas.List.Elements.{All-from_recursion, recursion_from_All}

pub every_shuffled : {X : Type 0} (P : X → Type 0) (xs ys : List X) → IsPermutation xs ys → AllByRecursion P xs → AllByRecursion P ys
every_shuffled P xs ys same all = recursion_from_All P ys (All-permutation P xs ys same (All-from_recursion P xs all))

-- an error in a result of another type
pub err_of : {X Y E : Type 0} (f g : E) → ◌≡◌ {A = Result X E} (Err f) (Err g) → ◌≡◌ {A = Result Y E} (Err f) (Err g)
err_of f g e = let is : f ≡ g = cc in ap Err is
