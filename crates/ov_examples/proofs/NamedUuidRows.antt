-- Worked names of rows that a transaction inserts.
use Rattle.std.proofs.Common.{◌≡◌, ℕ, List, [], ◌∷◌, true, false, Option, Some, None, option_map, option_and_then, refl, codes}
use Rattle.serde_json.specs.Data.{Items}
use Rattle.serde_json.specs.Find.{as_array}
use Rattle.serde_json.specs.Read.{read}
use Rattle.serde_json.proofs.OnLiterals.{serde_json_on_literals}
use Rattle.uuid.specs.Text.{by_index}
use Rattle.ov_specs.specs.operations.InsertedIds.{inserted_ids}
use Rattle.ov_specs.specs.operations.NamedUuids.{place_declared, is_declared_before, id_at, uuids_named}
use Rattle.ov_specs.specs.values.Uuid.{Uuid}
use Rattle.ov_examples.proofs.NetRows.{numbered}

-- the operations of a text
abbrev operations : List ℕ → Option Items
operations text = option_and_then as_array (read text)

-- where the text's operations declare a name
abbrev place : List ℕ → List ℕ → Option ℕ
place name text = option_and_then (place_declared name) (operations text)

-- what it stands for in them, with draws from 2 on
abbrev stands_for : List ℕ → List ℕ → Option Uuid
stands_for name text = option_and_then (λ ds. uuids_named (inserted_ids (numbered 2 ∷ numbered 3 ∷ []) ds) ds name) (operations text)

-- ---- which operation declares a name

pub insert_declares : place (codes "p") (codes "[{\"op\":\"insert\",\"uuid-name\":\"q\"},{\"op\":\"insert\",\"uuid-name\":\"p\"}]") ≡ Some 1
unfolding serde_json_on_literals
insert_declares = refl

-- of two the first counts
pub first_declares : place (codes "p") (codes "[{\"op\":\"insert\",\"uuid-name\":\"p\"},{\"op\":\"insert\",\"uuid-name\":\"p\"}]") ≡ Some 0
unfolding serde_json_on_literals
first_declares = refl

-- the tree alone declares it: this one is refused, for it has no table and a row that is no object
pub refused_insert_declares : place (codes "p") (codes "[{\"op\":\"insert\",\"row\":7,\"uuid-name\":\"p\"}]") ≡ Some 0
unfolding serde_json_on_literals
refused_insert_declares = refl

pub other_operations_declare_nothing : place (codes "p") (codes "[{\"op\":\"update\",\"uuid-name\":\"p\"},{\"uuid-name\":\"p\"},\"p\"]") ≡ None
unfolding serde_json_on_literals
other_operations_declare_nothing = refl

pub names_are_ids : place (codes "1p") (codes "[{\"op\":\"insert\",\"uuid-name\":\"1p\"}]") ≡ None
unfolding serde_json_on_literals
names_are_ids = refl

pub names_are_texts : place (codes "p") (codes "[{\"op\":\"insert\",\"uuid-name\":[\"p\"]}]") ≡ None
unfolding serde_json_on_literals
names_are_texts = refl

pub not_declared_before_itself : option_map (is_declared_before (codes "p") 0) (operations (codes "[{\"op\":\"insert\",\"uuid-name\":\"p\"},{\"op\":\"abort\"}]")) ≡ Some false
unfolding serde_json_on_literals
not_declared_before_itself = refl

pub declared_before : option_map (is_declared_before (codes "p") 1) (operations (codes "[{\"op\":\"insert\",\"uuid-name\":\"p\"},{\"op\":\"abort\"}]")) ≡ Some true
unfolding serde_json_on_literals
declared_before = refl

-- ---- what a name stands for

-- also before the operation that declares it
pub declared_later : stands_for (codes "p") (codes "[{\"op\":\"insert\",\"row\":{\"ports\":[\"named-uuid\",\"p\"]}},{\"op\":\"insert\",\"uuid-name\":\"p\"}]") ≡ Some (numbered 3)
unfolding serde_json_on_literals
declared_later = refl

-- an identifier is drawn for inserts alone
pub only_inserts_draw : stands_for (codes "p") (codes "[{\"op\":\"select\"},{\"op\":\"insert\"},{\"op\":\"delete\"},{\"op\":\"insert\",\"uuid-name\":\"p\"}]") ≡ Some (numbered 3)
unfolding serde_json_on_literals
only_inserts_draw = refl

-- of two that declare it, it is the first
pub stands_for_first : stands_for (codes "p") (codes "[{\"op\":\"insert\",\"uuid-name\":\"p\"},{\"op\":\"insert\",\"uuid-name\":\"p\"}]") ≡ Some (numbered 2)
unfolding serde_json_on_literals
stands_for_first = refl

pub undeclared_stands_for_nothing : stands_for (codes "q") (codes "[{\"op\":\"insert\",\"uuid-name\":\"p\"}]") ≡ None
unfolding serde_json_on_literals
undeclared_stands_for_nothing = refl

-- a refused insert has drawn too
pub refused_insert_draws : option_map (λ ds. id_at (inserted_ids (numbered 2 ∷ numbered 3 ∷ []) ds) ds 1) (operations (codes "[{\"op\":\"insert\"},{\"op\":\"insert\"}]")) ≡ Some (numbered 3)
unfolding serde_json_on_literals
refused_insert_draws = refl

-- ---- a chosen identifier

-- the identifier 00000000-0000-4000-9000-0000000000AB
abbrev pub chosen : Uuid
chosen = 0 ∷ 0 ∷ 0 ∷ 0 ∷ 0 ∷ 0 ∷ 64 ∷ 0 ∷ 144 ∷ 0 ∷ 0 ∷ 0 ∷ 0 ∷ 0 ∷ 0 ∷ 171 ∷ []

pub stands_for_chosen : stands_for (codes "p") (codes "[{\"op\":\"insert\",\"uuid\":\"00000000-0000-4000-9000-0000000000ab\",\"uuid-name\":\"p\"}]") ≡ Some chosen
unfolding serde_json_on_literals by_index
stands_for_chosen = refl

-- also as ["uuid",text], in capitals, and before the operation that declares the name
pub stands_for_chosen_later : stands_for (codes "p") (codes "[{\"op\":\"insert\"},{\"op\":\"insert\",\"uuid\":[\"uuid\",\"00000000-0000-4000-9000-0000000000AB\"],\"uuid-name\":\"p\"}]") ≡ Some chosen
unfolding serde_json_on_literals by_index
stands_for_chosen_later = refl

-- the draw of an insert that chooses is made, and not used
pub draw_is_not_used : stands_for (codes "p") (codes "[{\"op\":\"insert\",\"uuid\":\"00000000-0000-4000-9000-0000000000ab\"},{\"op\":\"insert\",\"uuid-name\":\"p\"}]") ≡ Some (numbered 3)
unfolding serde_json_on_literals by_index
draw_is_not_used = refl

-- if "uuid" does not read, the name stands for the draw
pub unread_stands_for_draw : stands_for (codes "p") (codes "[{\"op\":\"insert\",\"uuid\":7,\"uuid-name\":\"p\"}]") ≡ Some (numbered 2)
unfolding serde_json_on_literals by_index
unread_stands_for_draw = refl
