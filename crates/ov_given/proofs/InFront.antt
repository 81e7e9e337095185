-- What is read of the items of an array, one after another: a fault is that of all.
use Rattle.std.proofs.Common.{◌≡◌, ◌<◌, ℕ, List, length, get_or, drop, ap, ◌∙◌}
use Rattle.std.specs.Prelude.{Result, Err}
use Rattle.serde_json.specs.Data.{Data}
use Rattle.serde_json.specs.View.{view, items_view}
use Rattle.serde_json.specs.declared.value.Value.{Value}
use Rattle.ov_specs.specs.operations.Errors.{OpError}
use Rattle.ov_specs.specs.values.Results.{result_map, each_or_fault}
use Rattle.ov_specs.specs.wire.Tree.{item_list}
use Rattle.ov_specs.proofs.laws.Results.{after_these, item_fault}
use Rattle.ov_projection.specs.declared.fault.OpFault.{OpFault}
use Rattle.ov_projection.specs.declared.fault.OpFault.TheVariants.{Refused, Memory}
use Rattle.ov_projection.specs.Errors.{IsOpResult, error_view}

-- one more item that cannot be read
pub fault_of_all : {A B : Type 0} (seen : A → List B) (read : Data → Result B OpError) (trees : List Value) (i : ℕ) (tree : Value) → i < length trees → tree ≡ get_or trees i tree → (before : List B) (fault : OpFault)
    → IsOpResult {A = B} (λ b. b) (read (view tree)) (Err fault) → (all : Result (List B) OpError) → all ≡ after_these before (each_or_fault read (item_list (items_view (drop i trees)))) → IsOpResult seen all (Err fault)
fault_of_all seen read trees i tree within at before (Refused error) h all is = is ∙ item_fault read trees i tree within at before (error_view error) h
fault_of_all seen read trees i tree within at before Memory h all is = tt

-- a fault of what something is made of is a fault of that
pub fault_of_made : {A B : Type 0} (make : A → B) (read : Result A OpError) (fault : OpFault) → IsOpResult {A = A} (λ a. a) read (Err fault) → IsOpResult {A = B} (λ b. b) (result_map make read) (Err fault)
fault_of_made make read (Refused error) h = ap (result_map make) h
fault_of_made make read Memory h = tt
