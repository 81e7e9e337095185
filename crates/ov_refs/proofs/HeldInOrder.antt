-- The holders of the rows of one table, gone through in the order of the rows.
use Rattle.std.proofs.Common.{◌≡◌, ℕ, List, [], ◌∷◌, Bool, true, false, cond, T, ◌&&◌, Some, refl, sym, ap, ◌∙◌, Less, Greater}
use Rattle.std.specs.Cmp.{eq_by_cmp_equiv}
use Rattle.std.specs.Cmp.Lexicographic.{texts_ties}
use Rattle.std.specs.FinMap.{find, is_sorted}
use Rattle.std.specs.FinMap.Entries.{below_all}
use Rattle.std.specs.List.{list_all}
use Rattle.std.specs.Ordering.{eq_by_cmp, ordering_reverse}
use Rattle.std.specs.Str.{bytes_eq}
use Rattle.ov_specs.specs.rows.Database.{Row}
use Rattle.ov_specs.specs.schema.Schema.{is_some_and}
use Rattle.ov_specs.specs.values.Uuid.{Uuid}
use Rattle.ov_specs.proofs.laws.Names.{name_cmp_total, same_name-is}
use Rattle.ov_specs.proofs.laws.Truths.{left_holds, right_holds, less_is}
use Rattle.ov_rows.specs.Nested.{id_cmp}
use Rattle.ov_refs.specs.Holding.{KeySet}
use Rattle.ov_refs.specs.Whole.{has_another, past, is_held, are_held}

abbrev Listed : Type 0
Listed = List (Uuid × KeySet)

-- ---- identifiers

same_as_tied : (a b : Uuid) → bytes_eq a b ≡ eq_by_cmp id_cmp b a
same_as_tied a b = texts_ties a b ∙ (eq_by_cmp_equiv name_cmp_total).symm a b

same_is : (a b : Uuid) → bytes_eq a b ≡ true → a ≡ b
same_is a b is = sym (same_name-is b a (sym (same_as_tied a b) ∙ is))

not_both : (a b : Uuid) → id_cmp a b ≡ Less → id_cmp b a ≡ Less → ⊥
not_both a b up down = differ (sym up ∙ name_cmp_total.antisymm a b ∙ ap ordering_reverse down)
  where
    differ : Less ≡ Greater → ⊥
    differ e = cc

-- a greater identifier is another one
apart : (a b : Uuid) → id_cmp a b ≡ Less → eq_by_cmp id_cmp b a ≡ false
apart a b up = by (eq_by_cmp id_cmp b a) refl
  where
    by : (t : Bool) → eq_by_cmp id_cmp b a ≡ t → t ≡ false
    by false is = refl
    by true is = absurd (not_both a b up ((λ i. id_cmp (same_name-is b a is i) (sym (same_name-is b a is) i)) ∙ up))

-- ---- one row

module _ (name : List ℕ) where
  -- another row is among those that are listed for the row
  abbrev held_in : Listed → Uuid → Bool
  held_in hs id = is_some_and (has_another (name, id)) (find id_cmp id hs)

  held_found : (id : Uuid) (hs : Listed) → is_held (name, id) hs ≡ held_in hs id
  held_found id [] = refl
  held_found id (h ∷ hs) = ap (λ b. cond b (has_another (name, id) h.1) (is_held (name, id) hs)) (same_as_tied h.0 id) ∙ by (eq_by_cmp id_cmp id h.0) (held_found id hs)
    where
      by : (b : Bool) → is_held (name, id) hs ≡ held_in hs id → cond b (has_another (name, id) h.1) (is_held (name, id) hs) ≡ is_some_and (has_another (name, id)) (cond b (Some h.1) (find id_cmp id hs))
      by true later = refl
      by false later = later

  -- what is found after an identifier that is below all is above it
  above : (id q : Uuid) (hs : Listed) → T (below_all id_cmp id hs) → is_held (name, q) hs ≡ true → id_cmp id q ≡ Less
  above id q [] h held = cc
  above id q (e ∷ hs) h held = by (bytes_eq e.0 q) refl held (above id q hs (right_holds _ _ h))
    where
      by : (b : Bool) → bytes_eq e.0 q ≡ b → cond b (has_another (name, q) e.1) (is_held (name, q) hs) ≡ true → (is_held (name, q) hs ≡ true → id_cmp id q ≡ Less) → id_cmp id q ≡ Less
      by true is held later = ap (id_cmp id) (sym (same_is e.0 q is)) ∙ less_is (id_cmp id e.0) (left_holds _ _ h)
      by false is held later = later held

  -- greater identifiers are found after it as they are in all
  find-after : (id q : Uuid) (hs : Listed) → T (is_sorted id_cmp hs) → id_cmp id q ≡ Less → is_held (name, id) hs ≡ true → find id_cmp q (past id hs) ≡ find id_cmp q hs
  find-after id q [] h up held = refl
  find-after id q (e ∷ hs) h up held = by (bytes_eq e.0 id) refl held (find-after id q hs (right_holds _ _ h) up)
    where
      skip : id_cmp e.0 q ≡ Less → find id_cmp q hs ≡ find id_cmp q (e ∷ hs)
      skip less = sym (ap (λ b. cond b (Some e.1) (find id_cmp q hs)) (apart e.0 q less))

      by : (b : Bool) → bytes_eq e.0 id ≡ b → cond b (has_another (name, id) e.1) (is_held (name, id) hs) ≡ true → (is_held (name, id) hs ≡ true → find id_cmp q (past id hs) ≡ find id_cmp q hs)
          → find id_cmp q (cond b hs (past id hs)) ≡ find id_cmp q (e ∷ hs)
      by true is held later = skip (ap (λ k. id_cmp k q) (same_is e.0 id is) ∙ up)
      by false is held later = later held ∙ skip (name_cmp_total.trans e.0 id q (above e.0 id hs (left_holds _ _ h) held) up)

sorted-after : (id : Uuid) (hs : Listed) → T (is_sorted id_cmp hs) → T (is_sorted id_cmp (past id hs))
sorted-after id [] h = tt
sorted-after id (e ∷ hs) h = by (bytes_eq e.0 id) (sorted-after id hs (right_holds _ _ h))
  where
    by : (b : Bool) → T (is_sorted id_cmp (past id hs)) → T (is_sorted id_cmp (cond b hs (past id hs)))
    by true later = right_holds _ _ h
    by false later = later

-- ---- the rows of the table

-- each of these rows has the same holders in both lists
abbrev AreSameIn : Listed → Listed → List (Uuid × Row) → Type 0
AreSameIn all hs [] = Unit {0}
AreSameIn all hs (r ∷ rs) = (find id_cmp r.0 hs ≡ find id_cmp r.0 all) × AreSameIn all hs rs

same_itself : (all : Listed) (rs : List (Uuid × Row)) → AreSameIn all all rs
same_itself all [] = tt
same_itself all (r ∷ rs) = (refl, same_itself all rs)

module _ (name : List ℕ) (all : Listed) where
  same_after : (hs : Listed) (id : Uuid) (rs : List (Uuid × Row)) → T (is_sorted id_cmp hs) → T (below_all id_cmp id rs) → is_held (name, id) hs ≡ true → AreSameIn all hs rs → AreSameIn all (past id hs) rs
  same_after hs id [] h up held same = tt
  same_after hs id (r ∷ rs) h up held same = (find-after name id r.0 hs h (less_is (id_cmp id r.0) (left_holds _ _ up)) held ∙ same.0, same_after hs id rs h (right_holds _ _ up) held same.1)

  held_each : (rs : List (Uuid × Row)) (hs : Listed) → T (is_sorted id_cmp rs) → T (is_sorted id_cmp hs) → AreSameIn all hs rs → are_held name rs hs ≡ list_all (λ r. held_in name all r.0) rs
  held_each [] hs sorted h same = refl
  held_each (r ∷ rs) hs sorted h same = by (is_held (name, r.0) hs) refl (held_each rs) ∙ ap (λ b. b && list_all (λ (x : Uuid × Row). held_in name all x.0) rs) held
    where
      Later : Type 0
      Later = (hs : Listed) → T (is_sorted id_cmp rs) → T (is_sorted id_cmp hs) → AreSameIn all hs rs → are_held name rs hs ≡ list_all (λ x. held_in name all x.0) rs

      held : is_held (name, r.0) hs ≡ held_in name all r.0
      held = held_found name r.0 hs ∙ ap (is_some_and (has_another (name, r.0))) same.0

      by : (b : Bool) → is_held (name, r.0) hs ≡ b → Later → (b && are_held name rs (past r.0 hs)) ≡ (b && list_all (λ x. held_in name all x.0) rs)
      by true is later = later (past r.0 hs) (right_holds _ _ sorted) (sorted-after r.0 hs h) (same_after hs r.0 rs h (left_holds _ _ sorted) is same.1)
      by false is later = refl

  -- each of the rows has another among its holders, which are found in the list
  pub held_found_each : (rs : List (Uuid × Row)) → T (is_sorted id_cmp rs) → T (is_sorted id_cmp all) → are_held name rs all ≡ list_all (λ r. is_some_and (has_another (name, r.0)) (find id_cmp r.0 all)) rs
  held_found_each rs sorted h = held_each rs all sorted h (same_itself all rs)
