-- Columns, rows and databases that are the same are one.
use Rattle.std.proofs.Common.{◌≡◌, ℕ, List, [], ◌∷◌, Bool, true, ◌&&◌, refl, sym, ◌∙◌}
use Rattle.std.proofs.lemmas.Bool.{and_parts}
use Rattle.std.proofs.lemmas.Map.Lookups.{exact_pairs}
use Rattle.std.specs.Cmp.Lexicographic.{slice_cmp, same_text, pointwise}
use Rattle.std.specs.FinMap.{IsAntisymmetric, nat_cmp-IsAntisymmetric, slice_cmp-IsAntisymmetric, entries, same_entries_map}
use Rattle.std.specs.Ordering.{nat_cmp}
use Rattle.std.specs.Str.{bytes_eq}
use Rattle.ov_specs.specs.rows.Database.{Columns, Database, Row, same_columns, same_row, same_key, same_database}
use Rattle.ov_specs.specs.rows.Lines.{LineKey}
use Rattle.ov_specs.specs.values.Value.{Datum}
use Rattle.ov_specs.proofs.laws.DatumOrder.{datum_cmp-IsAntisymmetric}
use Rattle.ov_specs.proofs.laws.Sameness.{column_cmp, columns-tied}
use Rattle.ov_specs.proofs.laws.Truths.{equal_is}

-- ---- columns

column_cmp-IsAntisymmetric : IsAntisymmetric column_cmp
column_cmp-IsAntisymmetric = exact_pairs (slice_cmp nat_cmp) _ (slice_cmp-IsAntisymmetric nat_cmp-IsAntisymmetric) datum_cmp-IsAntisymmetric

pub same-is : (a b : List (List ℕ × Datum)) → same_columns a b ≡ true → a ≡ b
same-is a b h = slice_cmp-IsAntisymmetric column_cmp-IsAntisymmetric a b (equal_is _ (sym (columns-tied a b) ∙ h))

pub columns-is : (a b : Columns) → same_columns (entries a) (entries b) ≡ true → a ≡ b
columns-is a b h = same_entries_map a b (same-is (entries a) (entries b) h)

-- ---- rows

text-is : (a b : List ℕ) → bytes_eq a b ≡ true → a ≡ b
text-is a b h = same_text a b (sym h)

row-is : (a b : Row) → same_row a b ≡ true → a ≡ b
row-is a b h =
    let parts = and_parts (bytes_eq a.version b.version) (same_columns (entries a.columns) (entries b.columns)) h in
    λ i. record { version = text-is a.version b.version parts.0 i; columns = columns-is a.columns b.columns parts.1 i }

key-is : (a b : LineKey) → same_key a b ≡ true → a ≡ b
key-is a b h =
    let parts = and_parts (bytes_eq a.0 b.0) (bytes_eq a.1 b.1) h in
    λ i. (text-is a.0 b.0 parts.0 i, text-is a.1 b.1 parts.1 i)

entry-is : (a b : LineKey × Row) → (same_key a.0 b.0 && same_row a.1 b.1) ≡ true → a ≡ b
entry-is a b h =
    let parts = and_parts (same_key a.0 b.0) (same_row a.1 b.1) h in
    λ i. (key-is a.0 b.0 parts.0 i, row-is a.1 b.1 parts.1 i)

-- ---- databases

pointwise-is : {A : Type 0} (E : A → A → Bool) → ((a b : A) → E a b ≡ true → a ≡ b) → (xs ys : List A) → pointwise E xs ys ≡ true → xs ≡ ys
pointwise-is E exact [] [] h = refl
pointwise-is E exact [] (y ∷ ys) h = cc
pointwise-is E exact (x ∷ xs) [] h = cc
pointwise-is E exact (x ∷ xs) (y ∷ ys) h =
    let parts = and_parts (E x y) (pointwise E xs ys) h in
    λ i. exact x y parts.0 i ∷ pointwise-is E exact xs ys parts.1 i

pub database-is : (a b : Database) → same_database a b ≡ true → a ≡ b
database-is a b h = same_entries_map a b (pointwise-is (λ r s. same_key r.0 s.0 && same_row r.1 s.1) entry-is (entries a) (entries b) h)
