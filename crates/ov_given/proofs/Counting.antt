-- How many inserts stand before each place.
use Rattle.std.proofs.Common.{◌≡◌, ◌+◌, ℕ, zero, suc, List, [], ◌∷◌, ap, sym, refl, ◌∙◌, arith, if◌then◌else◌}
use Rattle.std.specs.Prelude.{unwrap_or}
use Rattle.std.specs.List.{slice_get}
use Rattle.serde_json.specs.Data.{Items, no_items, item}
use Rattle.ov_specs.specs.operations.NamedUuids.{inserts_before}
use Rattle.ov_specs.specs.operations.Draws.{is_insert, insert_count}

-- the counts before each of the operations, with this one before the first
abbrev pub counts_from : ℕ → Items → List ℕ
counts_from count no_items = []
counts_from count (item d operations) = count ∷ counts_from (count + (if is_insert d then 1 else 0)) operations

-- they are the counts at each place, with that of all after the last
pub counts-from : (count : ℕ) (operations : Items) (place : ℕ) → unwrap_or (slice_get (counts_from count operations) place) (count + insert_count operations) ≡ count + inserts_before place operations
counts-from count no_items zero = refl
counts-from count no_items (suc place) = refl
counts-from count (item d operations) zero = omega arith
counts-from count (item d operations) (suc place) =
    let one : ℕ = if is_insert d then 1 else 0 in
    let rest : unwrap_or (slice_get (counts_from (count + one) operations) place) ((count + one) + insert_count operations) ≡ (count + one) + inserts_before place operations = counts-from (count + one) operations place in
    let all : (count + one) + insert_count operations ≡ count + (one + insert_count operations) = omega arith in
    let here : (count + one) + inserts_before place operations ≡ count + (one + inserts_before place operations) = omega arith in
    ap (unwrap_or (slice_get (counts_from (count + one) operations) place)) (sym all) ∙ (rest ∙ here)
