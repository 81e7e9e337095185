-- How a model stores a mutation.
use Rattle.std.specs.Prelude.{◌≡◌, refl, get_or, ◌⊎◌, ℕ, ℤ, List, [], ◌∷◌}
use Rattle.std.specs.Coded.{Coded, code_by, coded×, coded⊎, coded_ℕ, coded_ℤ, coded_list}
use mathlib.Core.Logic.{inl, inr}
use Rattle.ov_specs.specs.values.Value.{Datum}
use Rattle.ov_specs.specs.schema.SchemaTypes.{ColumnType}
use Rattle.ov_specs.specs.codes.SchemaCode.{column_type_code}
use Rattle.ov_specs.specs.codes.ValueCode.{datum_code}
use Rattle.ov_specs.specs.operations.Mutators.{Operator, Plus, Minus, Times, Over, Modulo, Change, Compute, Insert, Delete, Mutation}

-- an operator as a number
abbrev operator_to : Operator → ℕ
operator_to Plus = 0
operator_to Minus = 1
operator_to Times = 2
operator_to Over = 3
operator_to Modulo = 4

-- and back
abbrev operator_from : ℕ → Operator
operator_from n = get_or (Plus ∷ Minus ∷ Times ∷ Over ∷ []) n Modulo

-- each operator comes back
pub operator_from-operator_to : (operator : Operator) → operator_from (operator_to operator) ≡ operator
operator_from-operator_to Plus = refl
operator_from-operator_to Minus = refl
operator_from-operator_to Times = refl
operator_from-operator_to Over = refl
operator_from-operator_to Modulo = refl

-- the code of an operator
abbrev operator_code : Coded Operator
operator_code = code_by ℕ coded_ℕ operator_to operator_from operator_from-operator_to

-- what is done, as one of three
abbrev change_to : Change → (Operator × ℤ) ⊎ (Datum ⊎ Datum)
change_to (Compute operator by) = inl (operator, by)
change_to (Insert elements) = inr (inl elements)
change_to (Delete elements) = inr (inr elements)

-- and back
abbrev change_from : (Operator × ℤ) ⊎ (Datum ⊎ Datum) → Change
change_from (inl p) = Compute p.0 p.1
change_from (inr (inl elements)) = Insert elements
change_from (inr (inr elements)) = Delete elements

-- each comes back
pub change_from-change_to : (change : Change) → change_from (change_to change) ≡ change
change_from-change_to (Compute operator by) = refl
change_from-change_to (Insert elements) = refl
change_from-change_to (Delete elements) = refl

-- the code of what is done
abbrev pub change_code : Coded Change
change_code =
    code_by ((Operator × ℤ) ⊎ (Datum ⊎ Datum))
    (coded⊎ (coded× operator_code coded_ℤ) (coded⊎ datum_code datum_code)) change_to change_from change_from-change_to

-- the code of a mutation, as pairs of its parts
abbrev pub mutation_code : Coded Mutation
mutation_code =
    code_by (List ℕ × (ColumnType × Change)) (coded× (coded_list coded_ℕ) (coded× column_type_code change_code))
    (λ m. (m.column, (m.type_of, m.change)))
    (λ p. record { column = p.0; type_of = p.1.0; change = p.1.1 })
    (λ _. refl)
