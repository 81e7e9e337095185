-- What all rows of a table share.
use Rattle.std.specs.Prelude.{ℕ, List, refl}
use Rattle.std.specs.Coded.{Coded, code_by, coded×, coded_ℕ, coded_list}
use Rattle.ov_specs.specs.codes.ValueCode.{datum_code}
use Rattle.ov_specs.specs.values.Value.{Datum}

-- the names of the columns of rows, and the default values at the same places
pub record Shape : Type 0 where
  pub names : List (List ℕ)
  pub defaults : List Datum

-- a shape as a pair
abbrev pub shape_code : Coded Shape
shape_code =
    code_by (List (List ℕ) × List Datum) (coded× (coded_list (coded_list coded_ℕ)) (coded_list datum_code))
    (λ s. (s.names, s.defaults)) (λ p. record { names = p.0; defaults = p.1 }) (λ _. refl)
