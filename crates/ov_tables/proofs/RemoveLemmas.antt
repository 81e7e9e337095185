-- The rows that a DELETE leaves.
use Rattle.std.proofs.Common.{◌≡◌, List, [], ◌∷◌, map, filter, cond, Bool, true, false, not, ◌&&◌, ◌||◌, refl, sym, ap, ◌∙◌}
use Rattle.std.specs.List.{list_any, AllByRecursion}
use Rattle.std.specs.List.Sorted.{IsPermutation}
use Rattle.std.proofs.lemmas.List.Sorted.{list_any-IsPermutation}
use Rattle.std.specs.Ordering.{is_eq, eq_by_cmp}
use Rattle.std.specs.Cmp.{eq_by_cmp_equiv}
use Rattle.sqlite.specs.declared.types.Value.TheVariants.{Int}
use Rattle.sqlite.specs.Order.{Row, column, value_cmp}
use Rattle.sqlite_value.proofs.OrderLemmas.{value_cmp_total}
use Rattle.sqlite.specs.Query.{Output}
use Rattle.sqlite_trees.specs.Tree.{rowid, has_rowid}
use Rattle.sqlite_trees.proofs.ListLemmas.{filter_same, all_weaker, all_both, all-filter}
use Rattle.sqlite_rules.specs.Edit.{id_in, without_all}
use Rattle.sqlite_rules.specs.Calls.{ids_of}
use Rattle.ov_specs.specs.rows.Lines.{LineKey, line_cmp}
use Rattle.ov_tables.specs.Format.{HasNumber, IsKeyed, row_key}
use Rattle.ov_tables.specs.Holding.{IsNumbered}
use Rattle.ov_tables.proofs.RowLemmas.{has_key, keyed_number, passes, passes_key, without_all_filter, same_number}

-- the second has the number of the first
abbrev same : Row → Row → Bool
same s r = has_rowid (id_in (rowid s)) r

own_id : (s : Row) → HasNumber s → Int (id_in (rowid s)) ≡ rowid s
own_id s l = rw l.1 refl

same_is : (s r : Row) → HasNumber s → same s r ≡ is_eq (value_cmp (rowid r) (rowid s))
same_is s r l = ap (λ v. is_eq (value_cmp (rowid r) v)) (own_id s l)

same_self : (s : Row) → HasNumber s → same s s ≡ true
same_self s l = same_is s s l ∙ (eq_by_cmp_equiv value_cmp_total).refl (rowid s)

-- rows of one number have one number
same_equal : (s r : Row) → HasNumber s → HasNumber r → same s r ≡ true → rowid s ≡ rowid r
same_equal s r l m h = sym (same_number r s m l (sym h ∙ same_is s r l))

and_false : (a b : Bool) → b ≡ false → (a && b) ≡ false
and_false true b e = e
and_false false b e = refl

or_false : (a b : Bool) → a ≡ false → (a || b) ≡ b
or_false a b e = rw e refl

or_true : (a b : Bool) → b ≡ true → (a || b) ≡ true
or_true true b e = refl
or_true false b e = e

module _ (p : Row → Bool) where
  -- a row that passes has the number
  abbrev hits : List Row → Row → Bool
  hits all r = list_any (λ s. p s && same s r) all

  head_hit : (h : Row) (all : List Row) → HasNumber h → p h ≡ true → hits (h ∷ all) h ≡ true
  head_hit h all l e = rw (same_self h l, e) refl

  hit_self : (all : List Row) → AllByRecursion HasNumber all → AllByRecursion (λ r. p r ≡ true → hits all r ≡ true) all
  hit_self [] lines = tt
  hit_self (h ∷ all) lines = (head_hit h all lines.0, all_weaker _ _ (λ r e is. or_true _ _ (e is)) all (hit_self all lines.1))

  missed : (s r : Row) → (same s r ≡ true → p s ≡ p r) → p r ≡ false → (p s && same s r) ≡ false
  missed s r one e = elim (same s r) as (λ b. (b ≡ true → p s ≡ p r) → (p s && b) ≡ false) [
    | true ↦ λ one. rw (one refl ∙ e) refl
    | false ↦ λ one. and_false _ _ refl
  ] one

  miss_all : (all : List Row) (r : Row) → p r ≡ false → AllByRecursion (λ s. same s r ≡ true → p s ≡ p r) all → hits all r ≡ false
  miss_all [] r e ones = refl
  miss_all (s ∷ all) r e ones = or_false _ _ (missed s r ones.0 e) ∙ miss_all all r e ones.1

  hit_is : (all : List Row) (r : Row) → AllByRecursion (λ s. same s r ≡ true → p s ≡ p r) all → (p r ≡ true → hits all r ≡ true) → hits all r ≡ p r
  hit_is all r ones found = decided (p r) refl
    where
      decided : (b : Bool) → p r ≡ b → hits all r ≡ b
      decided true e = found e
      decided false e = miss_all all r e ones

  hit_once : (all : List Row) → AllByRecursion HasNumber all → AllByRecursion (λ r. AllByRecursion (λ s. same s r ≡ true → p s ≡ p r) all) all → AllByRecursion (λ r. hits all r ≡ p r) all
  hit_once all lines ones = all_both _ _ _ (λ r one found. hit_is all r one found) all ones (hit_self all lines)

any_map : {X Y : Type 0} (p : Y → Bool) (f : X → Y) (xs : List X) → list_any p (map f xs) ≡ list_any (λ x. p (f x)) xs
any_map p f [] = refl
any_map p f (x ∷ xs) = ap (λ b. p (f x) || b) (any_map p f xs)

any_filter : {X : Type 0} (p q : X → Bool) (xs : List X) → list_any p (filter q xs) ≡ list_any (λ x. q x && p x) xs
any_filter p q [] = refl
any_filter {X} p q (x ∷ xs) =
    elim (q x) as (λ b. list_any p (cond {A = List X} b (x ∷ filter q xs) (filter q xs)) ≡ (b && p x || list_any (λ y. q y && p y) xs)) [
      | true ↦ ap (λ b. p x || b) (any_filter p q xs)
      | false ↦ any_filter p q xs
    ]

-- the numbers that were taken, and the rows that passed
taken : (p : Row → Bool) (f : Row → Row) (rows gone : List Row) (ordered : List Output) (r : Row) → IsPermutation (map (λ s. ([], rowid s ∷ f s)) (filter p rows)) ordered → gone ≡ map (λ o. o.1) ordered
    → list_any (λ id. has_rowid id r) (ids_of gone) ≡ hits p rows r
taken p f rows gone ordered r same is =
    any_map (λ id. has_rowid id r) (λ s. id_in (rowid s)) gone ∙ ap (list_any (λ s. has_rowid (id_in (rowid s)) r)) is
    ∙ any_map (λ s. has_rowid (id_in (rowid s)) r) (λ (o : Output). o.1) ordered
    ∙ sym (list_any-IsPermutation (λ (o : Output). has_rowid (id_in (rowid o.1)) r) _ ordered same)
    ∙ any_map (λ (o : Output). has_rowid (id_in (rowid o.1)) r) (λ s. ([], rowid s ∷ f s)) (filter p rows)
    ∙ any_filter _ p rows

-- rows of one number pass together
abbrev pub Together : (Row → Bool) → List Row → Type 0
Together p rows = AllByRecursion (λ r. AllByRecursion (λ s. same s r ≡ true → p s ≡ p r) rows) rows

-- what a query of the numbers of these rows gave
abbrev pub Gives : List Row → List Row → Type 0
Gives rows gone = (ordered : List Output) × IsPermutation (map (λ r. ([], rowid r ∷ [])) rows) ordered × (gone ≡ map (λ o. o.1) ordered)

-- what a query gave of the numbers of these rows, and after each what f makes of its row
abbrev pub GivesWith : (Row → Row) → List Row → List Row → Type 0
GivesWith f rows given = (ordered : List Output) × IsPermutation (map (λ r. ([], rowid r ∷ f r)) rows) ordered × (given ≡ map (λ o. o.1) ordered)

-- without the numbers that a query gave, the rows are those that did not pass
pub left_with : (p : Row → Bool) (f : Row → Row) (rows given : List Row) → AllByRecursion HasNumber rows → Together p rows → GivesWith f (filter p rows) given
    → without_all rows (ids_of given) ≡ filter (λ r. not (p r)) rows
left_with p f rows given numbers together same =
    without_all_filter (ids_of given) rows
    ∙ filter_same _ _ rows (all_weaker _ _ (λ r e. ap not (taken p f rows given same.0 r same.1 same.2 ∙ e)) rows (hit_once p rows numbers together))

-- the rows that are left are those that did not pass
left_rows : (p : Row → Bool) (rows gone : List Row) → AllByRecursion HasNumber rows → Together p rows → Gives (filter p rows) gone → without_all rows (ids_of gone) ≡ filter (λ r. not (p r)) rows
left_rows p rows gone numbers together same = left_with p (λ _. []) rows gone numbers together same

-- rows pass together where a test of what they are decides, and a number names what a row is
pub together_by : {X : Type 0} (is : Row → X) (q : X → Bool) (p : Row → Bool) (rows : List Row) → AllByRecursion HasNumber rows → AllByRecursion (λ r. p r ≡ q (is r)) rows → IsNumbered is rows → Together p rows
together_by is q p rows numbers tests numbered =
    let both = all_both _ _ (λ r. HasNumber r × (p r ≡ q (is r))) (λ r n t. (n, t)) rows numbers tests in
    all_both _ _ _ (λ r m ones. all_both _ _ _ (λ s l one. one_test s r l m one) rows both ones) rows both numbered
  where
    one_test : (s r : Row) → HasNumber s × (p s ≡ q (is s)) → HasNumber r × (p r ≡ q (is r)) → (column s 0 ≡ column r 0 → is s ≡ is r) → same s r ≡ true → p s ≡ p r
    one_test s r l m one h = l.1 ∙ ap q (one (same_equal s r l.0 m.0 h)) ∙ sym m.1

keyed_together : (k : LineKey) (s r : Row) → IsKeyed s → IsKeyed r → (column s 0 ≡ column r 0 → row_key s ≡ row_key r) → same s r ≡ true → passes k s ≡ passes k r
keyed_together k s r l m one h = passes_key k s l ∙ ap (eq_by_cmp line_cmp k) (one (same_equal s r (keyed_number s l) (keyed_number r m) h)) ∙ sym (passes_key k r m)

-- of rows with keys, those are left that have another key
pub left_keyed : (k : LineKey) (rows gone : List Row) → AllByRecursion IsKeyed rows → IsNumbered row_key rows → Gives (filter (passes k) rows) gone → without_all rows (ids_of gone) ≡ filter (λ r. not (has_key k r)) rows
left_keyed k rows gone keyed numbered same =
    let together : Together (passes k) rows = all_both _ _ _ (λ r m ones. all_both _ _ _ (λ s l one. keyed_together k s r l m one) rows keyed ones) rows keyed numbered in
    left_rows (passes k) rows gone (all_weaker _ _ keyed_number rows keyed) together same ∙ filter_same _ _ rows (all_weaker _ _ (λ r m. ap not (passes_key k r m)) rows keyed)

none_left : (rows : List Row) → filter (λ _. not true) rows ≡ []
none_left [] = refl
none_left (r ∷ rows) = none_left rows

-- of all rows, none is left
pub none_remain : (rows gone : List Row) → AllByRecursion HasNumber rows → Gives (filter (λ _. true) rows) gone → without_all rows (ids_of gone) ≡ []
none_remain rows gone numbers same = left_rows (λ _. true) rows gone numbers (all_weaker _ _ (λ r n. all_weaker _ _ (λ s m h. refl) rows numbers) rows numbers) same ∙ none_left rows

pub filter_numbered : {X : Type 0} (is : Row → X) (p : Row → Bool) (rows : List Row) → IsNumbered is rows → IsNumbered is (filter p rows)
filter_numbered is p rows numbered = all-filter _ p rows (all_weaker _ _ (λ r ones. all-filter _ p rows ones) rows numbered)

-- a part of what rows are is numbered as they are
pub numbered_part : {X Y : Type 0} (is : Row → X) (part : X → Y) (rows : List Row) → IsNumbered is rows → IsNumbered (λ r. part (is r)) rows
numbered_part is part rows numbered = all_weaker _ _ (λ r ones. all_weaker _ _ (λ s one e. ap part (one e)) rows ones) rows numbered
