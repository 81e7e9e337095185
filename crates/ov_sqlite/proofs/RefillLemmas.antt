-- A row that is put again, as a map.
use Rattle.std.proofs.Common.{◌≡◌, ℕ, List, cond, Bool, true, false, Option, Some, None, IfSome, option_map, refl, sym, ap, subst, ◌∙◌}
use Rattle.std.specs.Ordering.{eq_by_cmp}
use Rattle.std.specs.Cmp.{eq_by_cmp_equiv}
use Rattle.std.specs.FinMap.{empty, get, insert, remove, get-insert, same_map}
use Rattle.ov_specs.specs.rows.Lines.{LineKey, line_cmp}
use Rattle.ov_specs.specs.rows.Cells.{CellLine, CellLines, Cells}
use Rattle.ov_specs.proofs.laws.LineKeys.{key_total, key_exact, tied_same, same_tied}
use Rattle.ov_sqlite.specs.Changing.{IsEmptied, IsRowBegun, IsRefilled}
use Rattle.ov_sqlite.proofs.CellLemmas.{bared}

-- what was put is found
pub put_found : (m : CellLines) (k : LineKey) (v : CellLine) → get (insert m k v) k ≡ Some v
put_found m k v = get-insert key_total m k v k ∙ rw (same_tied k k refl) refl

-- what is put over is gone
pub put_over : (m : CellLines) (k : LineKey) (v w : CellLine) → insert (insert m k v) k w ≡ insert m k w
put_over m k v w = same_map key_total key_exact _ _ (λ q.
    get-insert key_total (insert m k v) k w q ∙ covered (eq_by_cmp line_cmp q k) _ _ _ (get-insert key_total m k v q) ∙ sym (get-insert key_total m k w q))
  where
    covered : (b : Bool) (y z : Option CellLine) (x : Option CellLine) → z ≡ cond b x y → cond b (Some w) z ≡ cond b (Some w) y
    covered true y z x e = refl
    covered false y z x e = e

-- what is there is put back
pub put_back : (m : CellLines) (k : LineKey) (v : CellLine) → get m k ≡ Some v → m ≡ insert m k v
put_back m k v is = same_map key_total key_exact _ _ (λ q. at q (eq_by_cmp line_cmp q k) refl ∙ sym (get-insert key_total m k v q))
  where
    at : (q : LineKey) (b : Bool) → eq_by_cmp line_cmp q k ≡ b → get m q ≡ cond b (Some v) (get m q)
    at q true same = ap (get m) (tied_same q k same) ∙ is
    at q false apart = refl

-- a row that lost its cells has none
pub is_empty : (k : LineKey) (a b : CellLines) → IsEmptied k a b → IfSome (get b k) (λ l. l.1 ≡ empty)
is_empty k a b gone = subst (λ o. IfSome o (λ l. l.1 ≡ empty)) (sym (gone k ∙ rw (same_tied k k refl) refl)) (none (get a k))
  where
    none : (o : Option CellLine) → IfSome (option_map bared o) (λ l. l.1 ≡ empty)
    none None = tt
    none (Some l) = refl

-- and without it, the rows are those without it from before
pub gone_after : (k : LineKey) (a b c : CellLines) → IsEmptied k a b → c ≡ remove b k → c ≡ remove a k
gone_after k a b c gone is = is ∙ same_map key_total key_exact _ _ (λ q.
    Rattle.std.specs.FinMap.get-remove key_total b k q ∙ at q (eq_by_cmp line_cmp q k) refl ∙ sym (Rattle.std.specs.FinMap.get-remove key_total a k q))
  where
    at : (q : LineKey) (e : Bool) → eq_by_cmp line_cmp q k ≡ e → cond e None (get b q) ≡ cond e None (get a q)
    at q true same = refl
    at q false apart = gone q ∙ rw ((eq_by_cmp_equiv key_total).symm k q ∙ apart) refl

-- a new row with its cells
pub put_new : (k : LineKey) (v : List ℕ) (all : Cells) (a b c : CellLines) → IsRowBegun k v a b → IsRefilled k (v, all) b c → c ≡ insert a k (v, all)
put_new k v all a b c begun cells =
    cells (ap (λ (m : CellLines). get m k) begun.1 ∙ put_found a k (v, empty)) ∙ ap (λ (m : CellLines). insert m k (v, all)) begun.1 ∙ put_over a k _ _
