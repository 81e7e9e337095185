-- What each row that meets a condition has in a column that is to be equal to a value.
use Rattle.std.proofs.Common.{◌≡◌, ℕ, List, Bool, Bor, true, false, if◌then◌else◌, Option, Some, None, IfSome, option_copied, option_map, refl, sym, ap, ◌∙◌}
use Rattle.std.specs.Cmp.Lexicographic.{same_text}
use Rattle.std.specs.Option.{unwrap_or}
use Rattle.std.specs.Str.{bytes_eq}
use Rattle.ov_specs.specs.operations.Conditions.{Condition, Function, Less, LessOrEqual, Greater, GreaterOrEqual, Equal, NotEqual, Includes, Excludes, compares, entry_value}
use Rattle.ov_specs.specs.rows.Database.{same_datum}
use Rattle.ov_specs.specs.values.Value.{Datum}
use Rattle.ov_specs.proofs.laws.DatumOrder.{datum_cmp-IsAntisymmetric}
use Rattle.ov_specs.proofs.laws.Sameness.{datum-tied}
use Rattle.ov_specs.proofs.laws.Truths.{equal_is}
use Rattle.ov_conds.specs.EqualTo.{IsValueIn, equal_value, equals}

same-is : (a b : Datum) → same_datum a b ≡ true → a ≡ b
same-is a b h = datum_cmp-IsAntisymmetric a b (equal_is _ (sym (datum-tied a b) ∙ h))

asked : (d : Datum) (value : Datum) → Some d ≡ Some value → d ≡ value
asked d value e = cc

equal_value-is : (f : Function) (v value : Datum) (held : Option Datum) → equal_value f v ≡ Some value → unwrap_or (option_map (λ column. compares f column v) held) false ≡ true → held ≡ Some value
equal_value-is Less v value held is met = cc
equal_value-is LessOrEqual v value held is met = cc
equal_value-is Greater v value held is met = cc
equal_value-is GreaterOrEqual v value held is met = cc
equal_value-is NotEqual v value held is met = cc
equal_value-is Includes v value held is met = cc
equal_value-is Excludes v value held is met = cc
equal_value-is Equal v value None is met = cc
equal_value-is Equal v value (Some d) is met = ap Some (same-is d v met ∙ asked v value is)

equals-is : (column : List ℕ) (c : Condition) (value : Datum) → equals column c ≡ Some value → IsValueIn column value c
equals-is column c value is row met = by (bytes_eq c.column column) (λ same. ap (entry_value row) (sym (same_text c.column column (sym same)))) is
  where
    by : (b : Bool) → (b ≡ true → entry_value row column ≡ entry_value row c.column) → (if b then equal_value c.function c.value else None) ≡ Some value → entry_value row column ≡ Some value
    by true same is = same refl ∙ equal_value-is c.function c.value value (entry_value row c.column) is met
    by false same is = cc

-- what a column is to be equal to, borrowed, is the value that each row that meets the condition has there
pub equal_values : (column : List ℕ) (c : Condition) (o : Option (Bor Datum)) → option_copied o ≡ equals column c → IfSome o (λ value. IsValueIn column value.now c)
equal_values column c None is = tt
equal_values column c (Some value) is = equals-is column c value.now (sym is)
