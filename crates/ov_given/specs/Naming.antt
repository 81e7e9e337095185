-- The rows that the inserts of a transaction make, and where their names are declared.
use Rattle.std.specs.Prelude.{◌≡◌, ℕ, List, refl, Option}
use Rattle.std.specs.BTreeMap.{BTreeMap, get_by}
use Rattle.std.specs.Cmp.Lexicographic.{slice_cmp}
use Rattle.std.specs.Coded.{Coded, code_by, coded×, coded_ℕ, coded_list}
use Rattle.std.specs.Ordering.{nat_cmp}
use Rattle.serde_json.specs.Data.{Items}
use Rattle.ov_specs.specs.codes.TreeCode.{items_code}
use Rattle.ov_specs.specs.operations.NamedUuids.{place_declared}
use Rattle.ov_specs.specs.values.Uuid.{Uuid}
use denote.Ref.{Bor}

-- the identifiers of the inserts, in order, and all operations
pub record Naming : Type 0 where
  pub ids : List Uuid
  pub operations : Items

-- both as a pair
abbrev pub naming_code : Coded Naming
naming_code =
    code_by (List Uuid × Items) (coded× (coded_list (coded_list coded_ℕ)) items_code) (λ n. (n.ids, n.operations))
    (λ p. record { ids = p.0; operations = p.1 }) (λ _. refl)

-- the place that a map has for a name
abbrev pub place_at : BTreeMap (Bor (List ℕ)) ℕ → List ℕ → Option ℕ
place_at places name = get_by (λ known. slice_cmp nat_cmp name known.now) places

-- for each name, the place of the first operation that declares it
abbrev pub AreNamePlaces : BTreeMap (Bor (List ℕ)) ℕ → Items → Type 0
AreNamePlaces places operations = (name : List ℕ) → place_at places name ≡ place_declared name operations
