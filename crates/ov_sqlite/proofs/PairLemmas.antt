-- Two rows of `meta`, as they are read.
use Rattle.std.proofs.Common.{◌≡◌, ◌⊎◌, inl, inr, ℕ, List, [], ◌∷◌, length, get_or, sym, ap, ap₂, subst, ◌∙◌, arith}
use Rattle.sqlite.specs.Order.{Row}
use Rattle.ov_tables.specs.Format.{IsFormatRow, IsSchemaRow, IsMeta}

-- two rows, by their places
pub two_rows : (rows : List Row) (a b : Row) → length rows ≡ 2 → a ≡ get_or rows 0 a → b ≡ get_or rows 1 b → rows ≡ a ∷ b ∷ []
two_rows [] a b len first second = absurd (omega (arith, len))
two_rows (x ∷ []) a b len first second = absurd (omega (arith, len))
two_rows (x ∷ y ∷ []) a b len first second = ap₂ (λ u v. u ∷ v ∷ []) (sym first) (sym second)
two_rows (x ∷ y ∷ z ∷ more) a b len first second = absurd (omega (arith, len))

-- two rows that in neither order are those of a format
pub not_meta : (n : ℕ) (text : List ℕ) (rows : List Row) (a b : Row) → rows ≡ a ∷ b ∷ [] → (IsFormatRow n a → ¬ IsSchemaRow text b) → (IsFormatRow n b → ¬ IsSchemaRow text a) → ¬ IsMeta n text rows
not_meta n text rows a b is forth back m = go m.are
  where
    same : m.first ∷ m.second ∷ [] ≡ a ∷ b ∷ []
    same = sym m.all ∙ is

    one : m.first ≡ a
    one = ap (λ rs. get_or rs 0 a) same

    two : m.second ≡ b
    two = ap (λ rs. get_or rs 1 b) same

    go : (IsFormatRow n m.first × IsSchemaRow text m.second) ⊎ (IsSchemaRow text m.first × IsFormatRow n m.second) → ⊥
    go (inl p) = forth (subst (IsFormatRow n) one p.0) (subst (IsSchemaRow text) two p.1)
    go (inr p) = back (subst (IsFormatRow n) two p.1) (subst (IsSchemaRow text) one p.0)
