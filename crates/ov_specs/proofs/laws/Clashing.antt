-- Maps of atoms that are made from a list of pairs, one after another, and pairs that clash.
use Rattle.std.proofs.Common.{◌≡◌, List, [], ◌∷◌, ◌++◌, Bool, true, false, cond, T, ◌||◌, ◌&&◌, not, Some, None, refl, sym, ap, ◌∙◌, Less, Equal, Greater}
use Rattle.std.specs.List.{list_any}
use Rattle.std.specs.Ordering.{match_ordering, is_eq, is_lt}
use Rattle.std.specs.Cmp.{eq_by_cmp_equiv, tied_itself, Equal-is}
use Rattle.std.specs.FinMap.{find, is_sorted, same_map, get-from_entries}
use Rattle.std.specs.FinMap.Entries.{below_all}
use Rattle.std.specs.BTreeMap.{insert_entry}
use Rattle.ov_specs.specs.values.Value.{Atom, atom_cmp, map_of}
use Rattle.ov_specs.specs.values.Reading.{differ_at_one_key, has_clash}
use Rattle.ov_specs.proofs.laws.Order.{atom_cmp_total, atom_cmp-IsAntisymmetric}
use Rattle.ov_specs.proofs.laws.Inserting.{same}
use Rattle.ov_specs.proofs.laws.Truths.{left_holds, or_truth, right_holds}
use Rattle.std.proofs.lemmas.Option.{same_Some}

abbrev Pair : Type 0
Pair = Atom × Atom

pub same-is : (a b : Atom) → same a b ≡ true → a ≡ b
same-is a b e = atom_cmp-IsAntisymmetric a b ((Equal-is (atom_cmp a b)).0 e)

pub same-itself : (a : Atom) → same a a ≡ true
same-itself a = ap is_eq (tied_itself atom_cmp_total a)

pub same-swap : (a b : Atom) → same a b ≡ same b a
same-swap a b = (eq_by_cmp_equiv atom_cmp_total).symm a b

pub differ-swap : (p q : Pair) → differ_at_one_key p q ≡ differ_at_one_key q p
differ-swap p q = rw (same-swap p.0 q.0, same-swap p.1 q.1) refl

pub differ-itself : (p : Pair) → differ_at_one_key p p ≡ false
differ-itself p = rw (same-itself p.0, same-itself p.1) refl

-- ---- truth values

or_swap : (a b c : Bool) → (a || (b || c)) ≡ (b || (a || c))
or_swap true true c = refl
or_swap true false c = refl
or_swap false b c = refl

pub or_regroup : (a b c d : Bool) → ((a || b) || (c || d)) ≡ ((a || c) || (b || d))
or_regroup true b c d = refl
or_regroup false true true d = refl
or_regroup false true false d = refl
or_regroup false false c d = refl

or_implied : (a b : Bool) → (a ≡ true → b ≡ true) → (a || b) ≡ b
or_implied true b h = sym (h refl)
or_implied false b h = refl

-- ---- a pair in the middle of a list

any-middle : (t : Pair → Bool) (p : Pair) (xs ys : List Pair) → list_any t (xs ++ p ∷ ys) ≡ (t p || list_any t (xs ++ ys))
any-middle t p [] ys = refl
any-middle t p (x ∷ xs) ys = ap (λ b. t x || b) (any-middle t p xs ys) ∙ or_swap (t x) (t p) _

has_clash-middle : (p : Pair) (xs ys : List Pair) → has_clash (xs ++ p ∷ ys) ≡ (list_any (differ_at_one_key p) (xs ++ ys) || has_clash (xs ++ ys))
has_clash-middle p [] ys = refl
has_clash-middle p (x ∷ xs) ys =
    rw (any-middle (differ_at_one_key x) p xs ys, has_clash-middle p xs ys, differ-swap x p)
    (or_regroup (differ_at_one_key p x) (list_any (differ_at_one_key x) (xs ++ ys)) (list_any (differ_at_one_key p) (xs ++ ys)) (has_clash (xs ++ ys)))

-- ---- a key that is there

module _ (k v : Atom) (ys : List Pair) where
  -- the pair stands there with another value
  any-found_other : (es : List Pair) (w : Atom) → find atom_cmp k es ≡ Some w → same w v ≡ false → list_any (differ_at_one_key (k, v)) (es ++ ys) ≡ true
  any-found_other [] w h other = cc
  any-found_other (e ∷ es) w h other =
      elim (same k e.0) as (λ b. same k e.0 ≡ b → cond b (Some e.1) (find atom_cmp k es) ≡ Some w → ((b && not (same v e.1)) || list_any (differ_at_one_key (k, v)) (es ++ ys)) ≡ true) [
        | true ↦ λ is h. rw (same_Some e.1 w h, same-swap v w, other) refl
        | false ↦ λ is h. any-found_other es w h other
      ] refl h

  -- it stands there with this value
  clash-found : (es : List Pair) → find atom_cmp k es ≡ Some v → list_any (differ_at_one_key (k, v)) (es ++ ys) ≡ true → has_clash (es ++ ys) ≡ true
  clash-found [] h any = cc
  clash-found (e ∷ es) h any =
      elim (same k e.0) as (λ b. same k e.0 ≡ b → cond b (Some e.1) (find atom_cmp k es) ≡ Some v
      → ((b && not (same v e.1)) || list_any (differ_at_one_key (k, v)) (es ++ ys)) ≡ true → has_clash (e ∷ es ++ ys) ≡ true) [
        | true ↦ λ is h any.
            let key : k ≡ e.0 = same-is k e.0 is in
            let val : v ≡ e.1 = sym (same_Some e.1 v h) in
            let none : not (same v e.1) ≡ false = rw (sym val, same-itself v) refl in
            let rest : list_any (differ_at_one_key (k, v)) (es ++ ys) ≡ true = sym (ap (λ b. b || list_any (differ_at_one_key (k, v)) (es ++ ys)) none) ∙ any in
            let here : list_any (differ_at_one_key e) (es ++ ys) ≡ true = ap (λ p. list_any (differ_at_one_key p) (es ++ ys)) (λ i. (sym key i, sym val i)) ∙ rest in
            ap (λ b. b || has_clash (es ++ ys)) here
        | false ↦ λ is h any. ap (λ b. list_any (differ_at_one_key e) (es ++ ys) || b) (clash-found es h any) ∙ or_truth _
      ] refl h any

  pub has_clash-other : (es : List Pair) (w : Atom) → find atom_cmp k es ≡ Some w → same w v ≡ false → has_clash (es ++ (k, v) ∷ ys) ≡ true
  has_clash-other es w h other = has_clash-middle (k, v) es ys ∙ ap (λ b. b || has_clash (es ++ ys)) (any-found_other es w h other)

  pub has_clash-again : (es : List Pair) → find atom_cmp k es ≡ Some v → has_clash (es ++ (k, v) ∷ ys) ≡ has_clash (es ++ ys)
  has_clash-again es h = has_clash-middle (k, v) es ys ∙ or_implied _ _ (clash-found es h)

  -- ---- a key that is new

  find-middle : (q : Atom) (xs zs : List Pair) → find atom_cmp k xs ≡ None → find atom_cmp q (xs ++ (k, v) ∷ zs) ≡ cond (same q k) (Some v) (find atom_cmp q (xs ++ zs))
  find-middle q [] zs h = refl
  find-middle q (x ∷ xs) zs h =
      elim (same k x.0) as (λ b. same k x.0 ≡ b → cond b (Some x.1) (find atom_cmp k xs) ≡ None
      → cond (same q x.0) (Some x.1) (find atom_cmp q (xs ++ (k, v) ∷ zs)) ≡ cond (same q k) (Some v) (cond (same q x.0) (Some x.1) (find atom_cmp q (xs ++ zs)))) [
        | true ↦ λ is h. cc
        | false ↦ λ is h.
            elim (same q k) as (λ b. same q k ≡ b
            → cond (same q x.0) (Some x.1) (find atom_cmp q (xs ++ (k, v) ∷ zs)) ≡ cond b (Some v) (cond (same q x.0) (Some x.1) (find atom_cmp q (xs ++ zs)))) [
              | true ↦ λ at_k.
                  let apart : same q x.0 ≡ false = ap (λ a. same a x.0) (same-is q k at_k) ∙ is in
                  rw (apart, find-middle q xs zs h, at_k) refl
              | false ↦ λ at_k. ap (cond (same q x.0) (Some x.1)) (find-middle q xs zs h ∙ ap (λ b. cond b (Some v) (find atom_cmp q (xs ++ zs))) at_k)
            ] refl
      ] refl h

  insert_entry-middle : {B : Type 0} (F G : List Pair → B) → ((xs zs : List Pair) → find atom_cmp k xs ≡ None → F (xs ++ (k, v) ∷ zs) ≡ G (xs ++ zs))
      → (es : List Pair) → find atom_cmp k es ≡ None → F (es ++ (k, v) ∷ ys) ≡ F (insert_entry atom_cmp es k v ++ ys)
  insert_entry-middle F G middle [] h = refl
  insert_entry-middle F G middle (e ∷ es) h =
      elim (atom_cmp k e.0) as (λ o. atom_cmp k e.0 ≡ o → cond (is_eq o) (Some e.1) (find atom_cmp k es) ≡ None
      → F (e ∷ es ++ (k, v) ∷ ys) ≡ F (match_ordering o ((k, v) ∷ e ∷ es) ((e.0, v) ∷ es) (e ∷ insert_entry atom_cmp es k v) ++ ys)) [
        | Less ↦ λ o h'. middle (e ∷ es) ys h ∙ sym (middle [] (e ∷ es ++ ys) refl)
        | Equal ↦ λ o h'. cc
        | Greater ↦ λ o h'. insert_entry-middle (λ zs. F (e ∷ zs)) (λ zs. G (e ∷ zs))
            (λ xs zs none. middle (e ∷ xs) zs (ap (λ r. cond (is_eq r) (Some e.1) (find atom_cmp k xs)) o ∙ none)) es h'
      ] refl h

  pub has_clash-new : (es : List Pair) → find atom_cmp k es ≡ None → has_clash (es ++ (k, v) ∷ ys) ≡ has_clash (insert_entry atom_cmp es k v ++ ys)
  has_clash-new = insert_entry-middle has_clash (λ zs. list_any (differ_at_one_key (k, v)) zs || has_clash zs) (λ xs zs _. has_clash-middle (k, v) xs zs)

  find-new : (q : Atom) (es : List Pair) → find atom_cmp k es ≡ None → find atom_cmp q (es ++ (k, v) ∷ ys) ≡ find atom_cmp q (insert_entry atom_cmp es k v ++ ys)
  find-new q = insert_entry-middle (find atom_cmp q) (λ zs. cond (same q k) (Some v) (find atom_cmp q zs)) (find-middle q)

  find-apart : (q : Atom) → same q k ≡ false → (es : List Pair) → find atom_cmp q (es ++ (k, v) ∷ ys) ≡ find atom_cmp q (es ++ ys)
  find-apart q apart [] = ap (λ b. cond b (Some v) (find atom_cmp q ys)) apart
  find-apart q apart (e ∷ es) = ap (cond (same q e.0) (Some e.1)) (find-apart q apart es)

  find-again : (q : Atom) (es : List Pair) → find atom_cmp k es ≡ Some v → find atom_cmp q (es ++ (k, v) ∷ ys) ≡ find atom_cmp q (es ++ ys)
  find-again q [] h = cc
  find-again q (e ∷ es) h =
      elim (same k e.0) as (λ b. same k e.0 ≡ b → cond b (Some e.1) (find atom_cmp k es) ≡ Some v
      → cond (same q e.0) (Some e.1) (find atom_cmp q (es ++ (k, v) ∷ ys)) ≡ cond (same q e.0) (Some e.1) (find atom_cmp q (es ++ ys))) [
        | true ↦ λ is h.
            elim (same q e.0) as (λ b. same q e.0 ≡ b → cond b (Some e.1) (find atom_cmp q (es ++ (k, v) ∷ ys)) ≡ cond b (Some e.1) (find atom_cmp q (es ++ ys))) [
              | true ↦ λ _. refl
              | false ↦ λ apart. find-apart q (ap (λ a. same q a) (same-is k e.0 is) ∙ apart) es
            ] refl
        | false ↦ λ is h. ap (cond (same q e.0) (Some e.1)) (find-again q es h)
      ] refl h

same_maps : (xs ys : List Pair) → ((q : Atom) → find atom_cmp q xs ≡ find atom_cmp q ys) → map_of xs ≡ map_of ys
same_maps xs ys same = same_map atom_cmp_total atom_cmp-IsAntisymmetric (map_of xs) (map_of ys) (λ q. get-from_entries atom_cmp_total xs q ∙ (same q ∙ sym (get-from_entries atom_cmp_total ys q)))

pub map_of-again : (k v : Atom) (ys es : List Pair) → find atom_cmp k es ≡ Some v → map_of (es ++ (k, v) ∷ ys) ≡ map_of (es ++ ys)
map_of-again k v ys es h = same_maps _ _ (λ q. find-again k v ys q es h)

pub map_of-new : (k v : Atom) (ys es : List Pair) → find atom_cmp k es ≡ None → map_of (es ++ (k, v) ∷ ys) ≡ map_of (insert_entry atom_cmp es k v ++ ys)
map_of-new k v ys es h = same_maps _ _ (λ q. find-new k v ys q es h)

-- ---- ascending pairs

any-below : (p : Pair) (es : List Pair) → T (below_all atom_cmp p.0 es) → list_any (differ_at_one_key p) es ≡ false
any-below p [] h = refl
any-below p (e ∷ es) h =
    elim (atom_cmp p.0 e.0) as (λ o. T (is_lt o && below_all atom_cmp p.0 es) → ((is_eq o && not (same p.1 e.1)) || list_any (differ_at_one_key p) es) ≡ false) [
      | Less ↦ λ h. any-below p es h
      | Equal ↦ λ h. absurd h
      | Greater ↦ λ h. absurd h
    ] h

pub has_clash-ascending : (es : List Pair) → T (is_sorted atom_cmp es) → has_clash es ≡ false
has_clash-ascending [] h = refl
has_clash-ascending (e ∷ es) h =
    let none = any-below e es (left_holds (below_all atom_cmp e.0 es) (is_sorted atom_cmp es) h) in
    let rest = has_clash-ascending es (right_holds (below_all atom_cmp e.0 es) (is_sorted atom_cmp es) h) in
    rw (none, rest) refl
