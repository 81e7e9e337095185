-- The identifiers of inserts, operation by operation.
use Rattle.std.proofs.Common.{◌≡◌, ◌<◌, ◌+◌, ◌++◌, ℕ, List, [], ◌∷◌, length, get_or, drop, map, filter, zip, true, false, if◌then◌else◌, refl, sym, ap, ◌∙◌, append_assoc}
use Rattle.std.specs.Prelude.{unwrap_or}
use Rattle.std.proofs.lemmas.List.{drop_more}
use Rattle.serde_json.specs.Data.{Data, Items, item}
use Rattle.serde_json.specs.View.{view, items_view}
use Rattle.serde_json.specs.declared.value.Value.{Value}
use Rattle.ov_specs.specs.operations.Draws.{is_insert}
use Rattle.ov_specs.specs.operations.InsertedIds.{chosen_id, inserted_ids}
use Rattle.ov_specs.specs.values.Uuid.{Uuid}
use Rattle.ov_specs.specs.wire.Tree.{item_list}

-- the identifiers of these inserts
abbrev ids_of : List Data → List Uuid → List Uuid
ids_of inserts draws = map (λ p. unwrap_or (chosen_id p.0) p.1) (zip inserts draws)

abbrev inserts_in : Items → List Data
inserts_in operations = filter is_insert (item_list operations)

-- without a draw there is none
pub none_left : (operations : Items) → inserted_ids [] operations ≡ []
none_left operations = by (inserts_in operations)
  where
    by : (inserts : List Data) → ids_of inserts [] ≡ []
    by [] = refl
    by (d ∷ inserts) = refl

passed : (draws : List Uuid) (d : Data) (rest : Items) → is_insert d ≡ false → inserted_ids draws (item d rest) ≡ inserted_ids draws rest
passed draws d rest is = ap (λ b. ids_of (if b then d ∷ inserts_in rest else inserts_in rest) draws) is

taken : (draw : Uuid) (draws : List Uuid) (d : Data) (rest : Items) → is_insert d ≡ true → inserted_ids (draw ∷ draws) (item d rest) ≡ unwrap_or (chosen_id d) draw ∷ inserted_ids draws rest
taken draw draws d rest is = ap (λ b. ids_of (if b then d ∷ inserts_in rest else inserts_in rest) (draw ∷ draws)) is

module _ (operations : List Value) (i : ℕ) (d : Value) (within : i < length operations) (at : d ≡ get_or operations i d) (all ids : List Uuid) where
  next : items_view (drop i operations) ≡ item (view d) (items_view (drop (i + 1) operations))
  next = ap items_view (drop_more operations i d within) ∙ ap (λ x. item (view x) (items_view (drop (i + 1) operations))) (sym at)

  -- one more operation, which is no insert
  pub ids_passed : (draws : List Uuid) → all ≡ ids ++ inserted_ids draws (items_view (drop i operations)) → is_insert (view d) ≡ false → all ≡ ids ++ inserted_ids draws (items_view (drop (i + 1) operations))
  ids_passed draws so is = so ∙ ap (λ ds. ids ++ inserted_ids draws ds) next ∙ ap (λ rest. ids ++ rest) (passed draws (view d) (items_view (drop (i + 1) operations)) is)

  -- one more insert
  pub ids_taken : (draw : Uuid) (draws unused : List Uuid) → unused ≡ draw ∷ draws → all ≡ ids ++ inserted_ids unused (items_view (drop i operations)) → is_insert (view d) ≡ true
      → all ≡ (ids ++ unwrap_or (chosen_id (view d)) draw ∷ []) ++ inserted_ids draws (items_view (drop (i + 1) operations))
  ids_taken draw draws unused first so is =
      let rest = items_view (drop (i + 1) operations) in
      so ∙ ap (λ xs. ids ++ inserted_ids xs (items_view (drop i operations))) first ∙ ap (λ ds. ids ++ inserted_ids (draw ∷ draws) ds) next
      ∙ ap (λ xs. ids ++ xs) (taken draw draws (view d) rest is) ∙ sym (append_assoc ids (unwrap_or (chosen_id (view d)) draw ∷ []) (inserted_ids draws rest))
