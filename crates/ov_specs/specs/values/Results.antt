-- Results, which are a value or a fault, and options: of one thing, and of each element of a list.
use Rattle.std.specs.Prelude.{List, [], ◌∷◌, Option, Some, None, Result, Ok, Err}

-- ---- one result

-- the result with what is made of its value
abbrev pub result_map : {A B E : Type 0} → (A → B) → Result A E → Result B E
result_map make (Ok a) = Ok (make a)
result_map make (Err fault) = Err fault

-- the result with what is made of its fault
abbrev pub result_map_err : {A E F : Type 0} → (E → F) → Result A E → Result A F
result_map_err make (Ok a) = Ok a
result_map_err make (Err fault) = Err (make fault)

-- goes on with the value
abbrev pub result_and_then : {A B E : Type 0} → (A → Result B E) → Result A E → Result B E
result_and_then next (Ok a) = next a
result_and_then next (Err fault) = Err fault

-- ---- several

-- the value of each element, in order, or the fault of the first that has one
abbrev pub each_or_fault : {A B E : Type 0} → (A → Result B E) → List A → Result (List B) E
each_or_fault result [] = Ok []
each_or_fault result (a ∷ rest) =
    result_and_then (λ b. result_map (λ others. b ∷ others) (each_or_fault result rest)) (result a)

-- one more in front, if both are there
abbrev pub in_front : {A : Type 0} → Option A → Option (List A) → Option (List A)
in_front None rest = None
in_front (Some a) None = None
in_front (Some a) (Some rest) = Some (a ∷ rest)

-- what is given for each element, in order, if something is given for all
abbrev pub all_results : {A B : Type 0} → (A → Option B) → List A → Option (List B)
all_results give [] = Some []
all_results give (a ∷ rest) = in_front (give a) (all_results give rest)
