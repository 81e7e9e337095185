-- What each row that meets a condition on its identifier has.
use Rattle.std.proofs.Common.{◌≡◌, [], ◌∷◌, Bool, true, false, if◌then◌else◌, Option, Some, None, IfSome, option_map, sym, ap, ◌∙◌, codes}
use Rattle.std.proofs.lemmas.Bool.{and_parts}
use Rattle.std.specs.Option.{unwrap_or}
use Rattle.std.specs.Str.{bytes_eq}
use Rattle.ov_specs.specs.operations.Conditions.{Condition, Function, Less, LessOrEqual, Greater, GreaterOrEqual, Equal, NotEqual, Includes, Excludes, compares}
use Rattle.ov_specs.specs.rows.Database.{one_uuid, same_atom}
use Rattle.ov_specs.specs.values.Uuid.{Uuid as Identifier}
use Rattle.ov_specs.specs.values.Value.{Integer, Boolean, Text, Uuid, Datum}
use Rattle.ov_specs.proofs.laws.Clashing.{same-is}
use Rattle.ov_conds.specs.Compared.{Elements, Atoms, Pairs, elements_of, are_same, uuid_of}
use Rattle.ov_conds.specs.OnlyId.{IsOnlyOf, equal_uuid, only_id}
use Rattle.ov_conds.proofs.CompareLemmas.{are_same-elements_of, elements_of-one_uuid}

same_uuid : (a b id : Identifier) → Uuid a ≡ Uuid b → Some b ≡ Some id → a ≡ id
same_uuid a b id e f = cc

are_same-lone : (id key : Identifier) (e : Elements) → uuid_of e ≡ Some id → are_same (Atoms (Uuid key ∷ [])) e ≡ true → key ≡ id
are_same-lone id key (Atoms []) is met = cc
are_same-lone id key (Atoms (Integer n ∷ [])) is met = cc
are_same-lone id key (Atoms (Boolean b ∷ [])) is met = cc
are_same-lone id key (Atoms (Text t ∷ [])) is met = cc
are_same-lone id key (Atoms (Uuid i ∷ [])) is met = same_uuid key i id (same-is (Uuid key) (Uuid i) (and_parts (same_atom (Uuid key) (Uuid i)) true met).0) is
are_same-lone id key (Atoms (Integer n ∷ b ∷ atoms)) is met = cc
are_same-lone id key (Atoms (Boolean c ∷ b ∷ atoms)) is met = cc
are_same-lone id key (Atoms (Text t ∷ b ∷ atoms)) is met = cc
are_same-lone id key (Atoms (Uuid i ∷ b ∷ atoms)) is met = cc
are_same-lone id key (Pairs pairs) is met = cc

equal_uuid-is : (f : Function) (v : Datum) (id key : Identifier) → equal_uuid f v ≡ Some id → compares f (one_uuid key) v ≡ true → key ≡ id
equal_uuid-is Less v id key is met = cc
equal_uuid-is LessOrEqual v id key is met = cc
equal_uuid-is Greater v id key is met = cc
equal_uuid-is GreaterOrEqual v id key is met = cc
equal_uuid-is NotEqual v id key is met = cc
equal_uuid-is Includes v id key is met = cc
equal_uuid-is Excludes v id key is met = cc
equal_uuid-is Equal v id key is met =
    are_same-lone id key (elements_of v) is (ap (λ e. are_same e (elements_of v)) (elements_of-one_uuid key) ∙ are_same-elements_of (one_uuid key) v ∙ met)

-- what `_uuid` is to be equal to is the identifier of each row that meets the condition
only_id-is : (c : Condition) (id : Identifier) → only_id c ≡ Some id → IsOnlyOf id c
only_id-is c id is row met = by (bytes_eq c.column (codes "_uuid")) _ is met
  where
    by : (b : Bool) (other : Option Datum) → (if b then equal_uuid c.function c.value else None) ≡ Some id
        → unwrap_or (option_map (λ column. compares c.function column c.value) (if b then Some (one_uuid row.0.1) else other)) false ≡ true → row.0.1 ≡ id
    by true other is met = equal_uuid-is c.function c.value id row.0.1 is met
    by false other is met = cc

pub only_ids : (c : Condition) (o : Option Identifier) → o ≡ only_id c → IfSome o (λ id. IsOnlyOf id c)
only_ids c None is = tt
only_ids c (Some id) is = only_id-is c id (sym is)
