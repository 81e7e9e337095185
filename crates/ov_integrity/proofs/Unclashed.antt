-- The pairs that remain of a map make a map again.
use Rattle.std.proofs.Common.{◌≡◌, List, filter, Bool, false, cond, Option, Some, None, sym, ap, ◌∙◌}
use Rattle.std.proofs.lemmas.Option.{same_Some}
use Rattle.std.specs.FinMap.{entries, entries_sorted}
use Rattle.ov_specs.specs.values.Reading.{has_clash}
use Rattle.ov_specs.specs.values.Value.{Atom, atom_cmp, AtomMap, Datum, Atoms, Pairs, pairs_in}
use Rattle.ov_specs.proofs.laws.Clashing.{has_clash-ascending}
use Rattle.ov_specs.proofs.laws.PrunedValues.{is_sorted-filter}

module _ (kept : Atom × Atom → Bool) where
  left_unclashed : (m : AtomMap) → has_clash (filter kept (entries m)) ≡ false
  left_unclashed m = has_clash-ascending (filter kept (entries m)) (is_sorted-filter atom_cmp kept (entries m) (entries_sorted m))

  unclashed : (datum : Datum) (pairs left : List (Atom × Atom)) → Some pairs ≡ pairs_in datum → left ≡ filter kept pairs → has_clash left ≡ false
  unclashed (Atoms s) pairs left are of_them = cc
  unclashed (Pairs m) pairs left are of_them = ap has_clash (of_them ∙ ap (filter kept) (same_Some pairs (entries m) are)) ∙ left_unclashed m

  -- so it cannot be that there is none
  pub no_clash : (datum : Datum) (pairs left : List (Atom × Atom)) → Some pairs ≡ pairs_in datum → left ≡ filter kept pairs
      → (made : Datum) (o : Option Datum) → o ≡ cond (has_clash left) None (Some made) → o ≡ None → ⊥
  no_clash datum pairs left are of_them made o is none =
      no (sym none ∙ is ∙ ap (λ b. cond b None (Some made)) (unclashed datum pairs left are of_them))
    where
      no : ◌≡◌ {A = Option Datum} None (Some made) → ⊥
      no e = cc
