-- The order of the keys of lines.
use Rattle.std.proofs.Common.{◌≡◌, ◌↔◌, Bool, true, false, IsTrue, refl, sym, subst}
use Rattle.std.specs.Ordering.{nat_cmp, eq_by_cmp}
use Rattle.std.specs.Cmp.{IsTotalOrder, eq_by_cmp_equiv}
use Rattle.std.specs.Cmp.Lexicographic.{slice_cmp, nat_list_cmp_total}
use Rattle.std.specs.FinMap.{nat_cmp-IsAntisymmetric, slice_cmp-IsAntisymmetric}
use Rattle.std.specs.Str.{bytes_eq}
use Rattle.std.proofs.lemmas.Bool.{and_parts, and_from}
use Rattle.std.proofs.lemmas.Slice.Eq.{bytes_eq-Decides}
use Rattle.std.proofs.lemmas.Cmp.{on_total, then_total}
use Rattle.std.proofs.lemmas.Map.Lookups.{CmpEqualImpliesEq, exact_pairs}
use Rattle.ov_specs.specs.rows.Database.{same_key}
use Rattle.ov_specs.specs.rows.Lines.{LineKey, line_cmp}
use Rattle.ov_specs.proofs.laws.Truths.{equal_is}

-- keys that tie are one
pub key_exact : CmpEqualImpliesEq line_cmp
key_exact = exact_pairs (slice_cmp nat_cmp) (slice_cmp nat_cmp) (slice_cmp-IsAntisymmetric nat_cmp-IsAntisymmetric) (slice_cmp-IsAntisymmetric nat_cmp-IsAntisymmetric)

pub key_total : IsTotalOrder line_cmp
key_total = then_total (on_total (λ (k : LineKey). k.0) nat_list_cmp_total) (on_total (λ (k : LineKey). k.1) nat_list_cmp_total)

pub tied_same : (a b : LineKey) → eq_by_cmp line_cmp a b ≡ true → a ≡ b
tied_same a b h = key_exact a b (equal_is _ h)

pub same_tied : (a b : LineKey) → a ≡ b → eq_by_cmp line_cmp a b ≡ true
same_tied a b e = rw e ((eq_by_cmp_equiv key_total).refl b)

untied : (r : Bool) (q k : LineKey) → eq_by_cmp line_cmp k q ≡ r → (q ≡ k → IsTrue false) → r ≡ false
untied true q k e differ = sym (differ (sym (tied_same k q e)))
untied false q k e differ = refl

-- a test of whether two keys are one is the order's
pub test_tied : (b : Bool) (q k : LineKey) → (IsTrue b ↔ (q ≡ k)) → b ≡ eq_by_cmp line_cmp k q
test_tied true q k is = sym (same_tied k q (sym (is.0 refl)))
test_tied false q k is = sym (untied (eq_by_cmp line_cmp k q) q k refl is.1)

-- ---- whether two keys are one

pub same_key-is : (a b : LineKey) → same_key a b ≡ true → a ≡ b
same_key-is a b same =
    let parts = and_parts (bytes_eq a.0 b.0) (bytes_eq a.1 b.1) same in
    λ i. ((bytes_eq-Decides a.0 b.0).0 parts.0 i, (bytes_eq-Decides a.1 b.1).0 parts.1 i)

pub same_key-itself : (key : LineKey) → same_key key key ≡ true
same_key-itself key = and_from (bytes_eq key.0 key.0) (bytes_eq key.1 key.1) ((bytes_eq-Decides key.0 key.0).1 refl) ((bytes_eq-Decides key.1 key.1).1 refl)

pub same_key-tied : (a b : LineKey) → same_key a b ≡ eq_by_cmp line_cmp a b
same_key-tied a b = test_tied (same_key a b) b a (λ same. sym (same_key-is a b same), λ e. subst (λ k. same_key a k ≡ true) (sym e) (same_key-itself a))
