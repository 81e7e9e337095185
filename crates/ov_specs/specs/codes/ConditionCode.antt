-- How a model stores a condition.
use Rattle.std.specs.Prelude.{◌≡◌, refl, get_or, List, [], ◌∷◌, ℕ}
use Rattle.std.specs.Coded.{Coded, code_by, coded×, coded_ℕ, coded_list}
use Rattle.ov_specs.specs.values.Value.{Datum}
use Rattle.ov_specs.specs.codes.ValueCode.{datum_code}
use Rattle.ov_specs.specs.operations.Conditions.{Function, Less, LessOrEqual, Greater, GreaterOrEqual, Equal, NotEqual, Includes, Excludes, Condition}

-- a function as a number
abbrev function_to : Function → ℕ
function_to Less = 0
function_to LessOrEqual = 1
function_to Greater = 2
function_to GreaterOrEqual = 3
function_to Equal = 4
function_to NotEqual = 5
function_to Includes = 6
function_to Excludes = 7

-- the function of a number
abbrev function_from : ℕ → Function
function_from n = get_or (Less ∷ LessOrEqual ∷ Greater ∷ GreaterOrEqual ∷ Equal ∷ NotEqual ∷ Includes ∷ []) n Excludes

-- each function comes back
pub function_from-function_to : (f : Function) → function_from (function_to f) ≡ f
function_from-function_to Less = refl
function_from-function_to LessOrEqual = refl
function_from-function_to Greater = refl
function_from-function_to GreaterOrEqual = refl
function_from-function_to Equal = refl
function_from-function_to NotEqual = refl
function_from-function_to Includes = refl
function_from-function_to Excludes = refl

-- the code of a function
abbrev pub function_code : Coded Function
function_code = code_by ℕ coded_ℕ function_to function_from function_from-function_to

-- the code of a condition, as pairs of its parts
abbrev pub condition_code : Coded Condition
condition_code =
    code_by (List ℕ × (Function × Datum)) (coded× (coded_list coded_ℕ) (coded× function_code datum_code))
    (λ c. (c.column, (c.function, c.value)))
    (λ p. record { column = p.0; function = p.1.0; value = p.1.1 })
    (λ _. refl)
