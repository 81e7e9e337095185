-- The order of index keys is total, and a key ties only with itself.
use Rattle.std.specs.Prelude.{◌≡◌, refl}
use Rattle.std.specs.Cmp.{IsTotalOrder, nat_cmp_total, on_total, then_total}
use Rattle.std.specs.Cmp.Lexicographic.{lists_total}
use Rattle.std.specs.FinMap.{IsAntisymmetric, nat_cmp-IsAntisymmetric, slice_cmp-IsAntisymmetric}
use Rattle.std.specs.Ordering.{ordering_then}
use Rattle.std.specs.declared.cmp.Ordering.{Ordering}
use Rattle.std.specs.declared.cmp.Ordering.TheVariants.{Less, Equal, Greater}
use Rattle.ov_specs.proofs.laws.DatumOrder.{datum_cmp_total, datum_cmp-IsAntisymmetric}
use Rattle.ov_specs.proofs.laws.Names.{name_cmp_total, name_exact}
use Rattle.ov_index.specs.IndexKeys.{IndexKey, NumberedValues, values_cmp, numbered_cmp, index_cmp, index_key}

-- the order of lists of values is total
pub values_total : IsTotalOrder values_cmp
values_total = lists_total datum_cmp_total

-- lists of values that tie are the same
pub values_exact : IsAntisymmetric values_cmp
values_exact = slice_cmp-IsAntisymmetric datum_cmp-IsAntisymmetric

-- the order of numbered values is total
pub numbered_total : IsTotalOrder numbered_cmp
numbered_total =
    then_total (on_total (λ (p : NumberedValues). p.0) nat_cmp_total) (on_total (λ (p : NumberedValues). p.1) values_total)

-- the order of keys is total
pub index_total : IsTotalOrder index_cmp
index_total =
    then_total (on_total (λ (k : IndexKey). k.table) name_cmp_total)
    (on_total (λ (k : IndexKey). (k.number, k.values)) numbered_total)

-- if two orders tie one after the other, each ties
both_Equal : (o p : Ordering) → ordering_then o p ≡ Equal → (o ≡ Equal) × (p ≡ Equal)
both_Equal Less p e = cc
both_Equal Equal p e = (refl, e)
both_Equal Greater p e = cc

-- numbered values that tie are the same
pub numbered_exact : IsAntisymmetric numbered_cmp
numbered_exact a b e =
    let both = both_Equal _ _ e in
    λ i. (nat_cmp-IsAntisymmetric a.0 b.0 both.0 i, values_exact a.1 b.1 both.1 i)

-- keys that tie are the same
pub index_exact : IsAntisymmetric index_cmp
index_exact a b e =
    let both = both_Equal _ _ e in
    let numbered = numbered_exact (a.number, a.values) (b.number, b.values) both.1 in
    λ i. index_key (name_exact a.table b.table both.0 i) (numbered i).0 (numbered i).1
