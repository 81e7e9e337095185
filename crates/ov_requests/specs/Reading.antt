-- A transaction that has been read, as contracts see it.
use Rattle.std.specs.Prelude.{List, refl}
use Rattle.std.specs.Coded.{Coded, code_by, coded×, coded_ℕ, coded_list}
use Rattle.serde_json.specs.Data.{Items}
use Rattle.ov_specs.specs.codes.TreeCode.{items_code}
use Rattle.ov_specs.specs.values.Uuid.{Uuid}

-- the identifiers that were drawn for it, the version first, and its operations
pub record Txn : Type 0 where
  pub draws : List Uuid
  pub operations : Items

-- both as a pair
abbrev pub txn_code : Coded Txn
txn_code =
    code_by (List Uuid × Items) (coded× (coded_list (coded_list coded_ℕ)) items_code) (λ t. (t.draws, t.operations))
    (λ p. record { draws = p.0; operations = p.1 }) (λ _. refl)
