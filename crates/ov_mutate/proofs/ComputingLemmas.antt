-- What an operator makes of a list, step by step, and of all of it.
use Rattle.std.proofs.Common.{◌≡◌, ℤ, suc, ◌+◌, ◌<◌, ◌≤◌, arith, List, [], ◌∷◌, map, length, true, false, cond, not, ◌&&◌, ◌||◌, Some, Result, Ok, Err, refl, sym, ap, ◌∙◌}
use Rattle.std.specs.Prelude.{is_some, if◌then◌else◌}
use Rattle.std.specs.List.{list_any, list_all}
use Rattle.std.specs.FinMap.{keys, len, contains_key, get-from_entries, len-empty, len-insert}
use Rattle.std.specs.FinMap.Entries.{is_some-find}
use Rattle.ov_specs.specs.rows.Database.{same_atom}
use Rattle.ov_specs.specs.operations.Mutators.{Operator, MutateError, Domain, Range, Constraint, computed_atom, divides_by_zero, has_equal_two, fitting, of_results, all_computed, Compute, mutated}
use Rattle.ov_specs.specs.schema.SchemaTypes.{ColumnType}
use Rattle.ov_specs.specs.values.Value.{Atom, atom_cmp, Integers, is_atom_of, marked, Datum, Atoms, Pairs, atoms_in, set_of}
use Rattle.ov_specs.proofs.laws.Order.{atom_cmp_total}
use Rattle.ov_specs.specs.values.Results.{result_and_then}
use Rattle.ov_specs.proofs.laws.Results.{first_of_all}
use Rattle.ov_mutate.specs.declared.fault.MutateFault.{MutateFault}
use Rattle.ov_mutate.specs.declared.fault.MutateFault.TheVariants as made
use Rattle.ov_mutate.specs.Faults.{IsMutated}
use Rattle.ov_mutate.specs.Computing.{each_computed, distinct, set_computed}
use Rattle.ov_mutate.proofs.LeftLemmas.{or-left}
use Rattle.ov_specs.proofs.laws.ReadingBack.{keys-marked}
use Rattle.ov_specs.proofs.laws.Truths.{right_fails}

-- ---- two equal atoms

contains_key-set_of : (xs : List Atom) (a : Atom) → contains_key (set_of xs) a ≡ list_any (same_atom a) xs
contains_key-set_of xs a = ap is_some (get-from_entries atom_cmp_total (map marked xs) a) ∙ is_some-find atom_cmp a (map marked xs) ∙ ap (list_any (same_atom a)) (keys-marked xs)

len-set_of : (xs : List Atom) → len (set_of xs) ≤ length xs
len-set_of [] = let none = len-empty atom_cmp (Unit {0}) in omega arith
len-set_of (x ∷ xs) =
    let all = len-insert atom_cmp_total (set_of xs) x tt in
    let rest = len-set_of xs in
    elim (contains_key (set_of xs) x) as (λ b. len (set_of (x ∷ xs)) ≡ cond b (len (set_of xs)) (len (set_of xs) + 1) → len (set_of (x ∷ xs)) ≤ suc (length xs)) [
      | true ↦ λ e. omega arith
      | false ↦ λ e. omega arith
    ] all

-- a set of as many atoms as its list has no two that merged
pub len-distinct : (xs : List Atom) → has_equal_two xs ≡ false → len (set_of xs) ≡ length xs
len-distinct [] h = len-empty atom_cmp (Unit {0})
len-distinct (x ∷ xs) h =
    let new = contains_key-set_of xs x ∙ or-left (list_any (same_atom x) xs) (has_equal_two xs) h in
    len-insert atom_cmp_total (set_of xs) x tt ∙ ap (λ b. cond b (len (set_of xs)) (len (set_of xs) + 1)) new
    ∙ (let rest = len-distinct xs (right_fails (list_any (same_atom x) xs) (has_equal_two xs) h) in omega arith)

pub len-equal_two : (xs : List Atom) → has_equal_two xs ≡ true → len (set_of xs) < length xs
len-equal_two [] h = cc
len-equal_two (x ∷ xs) h =
    elim (list_any (same_atom x) xs) as (λ b. list_any (same_atom x) xs ≡ b → (b || has_equal_two xs) ≡ true → len (set_of (x ∷ xs)) < suc (length xs)) [
      | true ↦ λ e k.
          let all : len (set_of (x ∷ xs)) ≡ len (set_of xs) = len-insert atom_cmp_total (set_of xs) x tt ∙ ap (λ b. cond b (len (set_of xs)) (len (set_of xs) + 1)) (contains_key-set_of xs x ∙ e) in
          let most = len-set_of xs in
          omega arith
      | false ↦ λ e k.
          let all : len (set_of (x ∷ xs)) ≡ len (set_of xs) + 1 = len-insert atom_cmp_total (set_of xs) x tt ∙ ap (λ b. cond b (len (set_of xs)) (len (set_of xs) + 1)) (contains_key-set_of xs x ∙ e) in
          let fewer = len-equal_two xs k in
          omega arith
    ] refl h

-- ---- all results

-- numbers of 64 bits, or a range error
abbrev in_range : List Atom → Result (List Atom) MutateError
in_range atoms = if list_all (is_atom_of Integers) atoms then Ok atoms else Err Range

first_of_all-in_range : (a : Atom) (atoms : List Atom) → first_of_all (if is_atom_of Integers a then Ok a else Err Range) (in_range atoms) ≡ in_range (a ∷ atoms)
first_of_all-in_range a atoms =
    elim (is_atom_of Integers a) as (λ b. first_of_all (if b then Ok a else Err Range) (in_range atoms) ≡ (if b && list_all (is_atom_of Integers) atoms then Ok (a ∷ atoms) else Err Range)) [
      | true ↦ elim (list_all (is_atom_of Integers) atoms) as (λ b. first_of_all (Ok a) (if b then Ok atoms else Err Range) ≡ (if b then Ok (a ∷ atoms) else Err Range)) [ true ↦ refl | false ↦ refl ]
      | false ↦ refl
    ]

module _ (t : ColumnType) (operator : Operator) (by : ℤ) where
  each_computed-in_range : divides_by_zero operator by ≡ false → (atoms : List Atom) → each_computed operator by atoms ≡ in_range (map (computed_atom operator by) atoms)
  each_computed-in_range h [] = refl
  each_computed-in_range h (a ∷ atoms) =
      (λ i. first_of_all (if h i then Err Domain else (if is_atom_of Integers (computed_atom operator by a) then Ok (computed_atom operator by a) else Err Range)) (each_computed-in_range h atoms i))
      ∙ first_of_all-in_range (computed_atom operator by a) (map (computed_atom operator by) atoms)

  distinct-in_range : (results : List Atom) → result_and_then (distinct t) (in_range results) ≡ of_results t results
  distinct-in_range results =
      elim (list_all (is_atom_of Integers) results) as (λ b. result_and_then (distinct t) (if b then Ok results else Err Range)
      ≡ (if not b then Err Range else (if has_equal_two results then Err Constraint else fitting t (Atoms (set_of results))))) [ true ↦ refl | false ↦ refl ]

  -- atom by atom, and then all of them
  pub all_computed-each : (atoms : List Atom) → all_computed t operator by atoms ≡ set_computed t operator by atoms
  all_computed-each [] = elim (divides_by_zero operator by) as (λ b. (if b && false then Err Domain else of_results t []) ≡ of_results t []) [ true ↦ refl | false ↦ refl ]
  all_computed-each (a ∷ atoms) =
      elim (divides_by_zero operator by) as (λ b. divides_by_zero operator by ≡ b → (if b && true then Err Domain else of_results t (map (computed_atom operator by) (a ∷ atoms))) ≡ result_and_then (distinct t) (each_computed operator by (a ∷ atoms))) [
        | true ↦ λ h. sym (ap (λ b. result_and_then (distinct t) (first_of_all (if b then Err Domain else (if is_atom_of Integers (computed_atom operator by a) then Ok (computed_atom operator by a) else Err Range)) (each_computed operator by atoms))) h)
        | false ↦ λ h. sym (ap (result_and_then (distinct t)) (each_computed-in_range h (a ∷ atoms)) ∙ distinct-in_range (map (computed_atom operator by) (a ∷ atoms)))
      ] refl

-- a fault of the results is a fault of their set
pub fault_of_results : {A : Type 0} (seen : A → List Atom) (t : ColumnType) (results : Result (List Atom) MutateError) (fault : MutateFault) → IsMutated seen results (Err fault)
    → IsMutated {A = Datum} (λ d. d) (result_and_then (distinct t) results) (Err fault)
fault_of_results seen t results made.Domain is = ap (result_and_then (distinct t)) is
fault_of_results seen t results made.Range is = ap (result_and_then (distinct t)) is
fault_of_results seen t results made.Constraint is = ap (result_and_then (distinct t)) is
fault_of_results seen t results made.Memory is = tt

-- what is computed of a set
pub mutated-set : (t : ColumnType) (operator : Operator) (by : ℤ) (d : Datum) (atoms : List Atom) → Some atoms ≡ atoms_in d → mutated t (Compute operator by) d ≡ set_computed t operator by atoms
mutated-set t operator by (Atoms s) atoms h = let all : atoms ≡ keys s = cc in all_computed-each t operator by (keys s) ∙ ap (set_computed t operator by) (sym all)
mutated-set t operator by (Pairs m) atoms h = cc

-- ---- the count of a set of results

pub distinct-fewer : (t : ColumnType) (atoms : List Atom) → (len (set_of atoms) ≡ length atoms → ⊥) → distinct t atoms ≡ Err Constraint
distinct-fewer t atoms fewer =
    elim (has_equal_two atoms) as (λ b. has_equal_two atoms ≡ b → (if b then Err Constraint else fitting t (Atoms (set_of atoms))) ≡ Err Constraint) [
      | true ↦ λ h. refl
      | false ↦ λ h. absurd (fewer (len-distinct atoms h))
    ] refl

pub distinct-as_many : (t : ColumnType) (atoms : List Atom) → len (set_of atoms) ≡ length atoms → distinct t atoms ≡ fitting t (Atoms (set_of atoms))
distinct-as_many t atoms as_many =
    elim (has_equal_two atoms) as (λ b. has_equal_two atoms ≡ b → (if b then Err Constraint else fitting t (Atoms (set_of atoms))) ≡ fitting t (Atoms (set_of atoms))) [
      | true ↦ λ h. let fewer = len-equal_two atoms h in absurd (omega arith)
      | false ↦ λ h. refl
    ] refl
