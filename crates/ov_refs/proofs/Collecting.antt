-- Which rows refer to which after the references of rows were collected.
use Rattle.std.proofs.Common.{◌≡◌, ◌==◌, List, [], ◌∷◌, ◌++◌, Bool, true, false, cond, T, ◌&&◌, ◌||◌, not, Option, Some, None, is_some, refl, sym, ap, ◌∙◌, Ordering, Less, Equal, Greater}
use Rattle.std.specs.Prelude.{unwrap_or}
use Rattle.std.specs.Cmp.{eq_by_cmp_equiv}
use Rattle.std.specs.Cmp.Lexicographic.{slice_cmp, texts_ties}
use Rattle.std.specs.FinMap.{find, is_sorted, empty, get, contains_key, insert, remove, entries, len, empty_of_len, entries_sorted, get-entries, get-empty, get-insert, get-remove}
use Rattle.std.specs.FinMap.Entries.{below_all}
use Rattle.std.specs.List.{list_any}
use Rattle.std.specs.Ordering.{nat_cmp, eq_by_cmp, is_eq, ordering_then}
use Rattle.ov_specs.specs.integrity.References.{Target, row_targets, refers_strongly, refers_weakly}
use Rattle.ov_specs.specs.rows.Database.{Row, Database, same_key}
use Rattle.ov_specs.specs.rows.Lines.{LineKey, line_cmp}
use Rattle.ov_specs.specs.schema.Schema.{is_some_and}
use Rattle.ov_specs.specs.schema.SchemaTypes.{Schema}
use Rattle.ov_specs.proofs.laws.LineKeys.{key_total, tied_same}
use Rattle.ov_specs.proofs.laws.Truths.{left_holds, right_holds, zero_is, not_tied}
use Rattle.ov_refs.specs.Holding.{KeySet, Holders, is_holder, with_holder, without_in_set, without_holder}
use Rattle.ov_refs.specs.Linking.{Links, AreNone, AreLinksOf, with_target, with_targets, with_targets_of_rows}

-- ---- keys

both_tied : (o p : Ordering) → (is_eq o && is_eq p) ≡ is_eq (ordering_then o p)
both_tied Less p = refl
both_tied Equal p = refl
both_tied Greater p = refl

-- keys are the same if the order ties them
pub same_key-tied : (a b : LineKey) → same_key a b ≡ eq_by_cmp line_cmp a b
same_key-tied a b = (λ i. texts_ties a.0 b.0 i && texts_ties a.1 b.1 i) ∙ both_tied (slice_cmp nat_cmp a.0 b.0) (slice_cmp nat_cmp a.1 b.1)

-- ---- one more that refers to a row

pub given_or : (b : Bool) (o : Option (Unit {0})) → is_some (cond b (Some tt) o) ≡ (is_some o || b)
given_or true None = refl
given_or true (Some tt) = refl
given_or false None = refl
given_or false (Some tt) = refl

-- the keys of none are those of the empty set
in_empty : (o : Option KeySet) (from : LineKey) → contains_key (unwrap_or o empty) from ≡ is_some_and (λ set. contains_key set from) o
in_empty None from = ap is_some (get-empty line_cmp from)
in_empty (Some set) from = refl

pub or_false : (b : Bool) → b ≡ (b || false)
or_false true = refl
or_false false = refl

module _ (holders : Holders) (at by : LineKey) (to from : LineKey) where
  with_itself : contains_key (insert (unwrap_or (get holders at) empty) by tt) from ≡ (is_some_and (λ set. contains_key set from) (get holders at) || same_key from by)
  with_itself =
      ap is_some (get-insert key_total (unwrap_or (get holders at) empty) by tt from)
      ∙ given_or (eq_by_cmp line_cmp from by) (get (unwrap_or (get holders at) empty) from)
      ∙ (λ i. in_empty (get holders at) from i || sym (same_key-tied from by) i)

  -- it refers to the row in addition to those that did
  pub is_holder-with : is_holder (with_holder at by holders) to from ≡ (is_holder holders to from || (same_key at to && same_key from by))
  is_holder-with =
      ap (is_some_and (λ (set : KeySet). contains_key set from)) (get-insert key_total holders at (insert (unwrap_or (get holders at) empty) by tt) to)
      ∙ turn (eq_by_cmp line_cmp to at) refl
    where
      turn : (b : Bool) → eq_by_cmp line_cmp to at ≡ b
          → is_some_and (λ (set : KeySet). contains_key set from) (cond b (Some (insert (unwrap_or (get holders at) empty) by tt)) (get holders to)) ≡ (is_holder holders to from || (same_key at to && same_key from by))
      turn true is =
          with_itself
          ∙ (λ i. is_some_and (λ (set : KeySet). contains_key set from) (get holders (sym (tied_same to at is) i)) || (sym (same_key-tied at to ∙ (eq_by_cmp_equiv key_total).symm at to ∙ is) i && same_key from by))
      turn false is =
          or_false (is_holder holders to from)
          ∙ ap (λ b. is_holder holders to from || (b && same_key from by)) (sym (same_key-tied at to ∙ (eq_by_cmp_equiv key_total).symm at to ∙ is))

-- ---- one fewer

without_given : (b : Bool) (o : Option (Unit {0})) → is_some (cond b None o) ≡ (is_some o && not b)
without_given true None = refl
without_given true (Some tt) = refl
without_given false None = refl
without_given false (Some tt) = refl

pub and_true : (b : Bool) → b ≡ (b && true)
and_true true = refl
and_true false = refl

module _ (holders : Holders) (at by : LineKey) (to from : LineKey) where
  abbrev refers_in : Option KeySet → Bool
  refers_in o = is_some_and (λ set. contains_key set from) o

  -- all that referred to the row refer to it, except this one
  pub is_holder-without : is_holder (without_holder at by holders) to from ≡ (is_holder holders to from && not (same_key at to && same_key from by))
  is_holder-without = turn (get holders at) refl (eq_by_cmp line_cmp to at) refl
    where
      same_at : (b : Bool) → eq_by_cmp line_cmp to at ≡ b → same_key at to ≡ b
      same_at b is = same_key-tied at to ∙ (eq_by_cmp_equiv key_total).symm at to ∙ is

      here : (o : Option KeySet) → get holders at ≡ o → eq_by_cmp line_cmp to at ≡ true → is_holder holders to from ≡ refers_in o
      here o has is = ap (λ k. is_holder holders k from) (tied_same to at is) ∙ ap refers_in has

      beside : eq_by_cmp line_cmp to at ≡ false → is_holder holders to from ≡ (is_holder holders to from && not (same_key at to && same_key from by))
      beside is = and_true (is_holder holders to from) ∙ ap (λ b. is_holder holders to from && not (b && same_key from by)) (sym (same_at false is))

      less : (set : KeySet) (b : Bool) → eq_by_cmp line_cmp to at ≡ b → is_holder (insert holders at (remove set by)) to from ≡ refers_in (cond b (Some (remove set by)) (get holders to))
      less set b is = ap refers_in (get-insert key_total holders at (remove set by) to ∙ ap (λ t. cond t (Some (remove set by)) (get holders to)) is)

      gone : (b : Bool) → eq_by_cmp line_cmp to at ≡ b → is_holder (remove holders at) to from ≡ refers_in (cond b None (get holders to))
      gone b is = ap refers_in (get-remove key_total holders at to ∙ ap (λ t. cond t None (get holders to)) is)

      one_less : (set : KeySet) → get holders at ≡ Some set → eq_by_cmp line_cmp to at ≡ true → contains_key (remove set by) from ≡ (is_holder holders to from && not (same_key at to && same_key from by))
      one_less set has is =
          ap is_some (get-remove key_total set by from) ∙ without_given (eq_by_cmp line_cmp from by) (get set from)
          ∙ (λ i. sym (here (Some set) has is) i && not (sym (same_at true is) i && sym (same_key-tied from by) i))

      none_left : (set : KeySet) → (len (remove set by) == 0) ≡ true → contains_key (remove set by) from ≡ false
      none_left set none = ap (λ (s : KeySet). contains_key s from) (empty_of_len (remove set by) (zero_is (len (remove set by)) none)) ∙ ap is_some (get-empty line_cmp from)

      last : (set : KeySet) (none : Bool) → (len (remove set by) == 0) ≡ none → get holders at ≡ Some set → (b : Bool) → eq_by_cmp line_cmp to at ≡ b
          → is_holder (cond (len (remove set by) == 0) (remove holders at) (insert holders at (remove set by))) to from ≡ (is_holder holders to from && not (same_key at to && same_key from by))
      last set true none has true is =
          ap (λ c. is_holder (cond c (remove holders at) (insert holders at (remove set by))) to from) none ∙ gone true is ∙ sym (none_left set none) ∙ one_less set has is
      last set true none has false is =
          ap (λ c. is_holder (cond c (remove holders at) (insert holders at (remove set by))) to from) none ∙ gone false is ∙ beside is
      last set false none has true is =
          ap (λ c. is_holder (cond c (remove holders at) (insert holders at (remove set by))) to from) none ∙ less set true is ∙ one_less set has is
      last set false none has false is =
          ap (λ c. is_holder (cond c (remove holders at) (insert holders at (remove set by))) to from) none ∙ less set false is ∙ beside is

      turn : (o : Option KeySet) → get holders at ≡ o → (b : Bool) → eq_by_cmp line_cmp to at ≡ b → is_holder (without_in_set o at by holders) to from ≡ (is_holder holders to from && not (same_key at to && same_key from by))
      turn None has true is = here None has is ∙ sym (ap (λ b. b && not (same_key at to && same_key from by)) (here None has is))
      turn None has false is = beside is
      turn (Some set) has b is = last set (len (remove set by) == 0) refl has b is

-- ---- what is found at a key

-- a key that is below all is not among them
pub find-below : {X : Type 0} (key : LineKey) (es : List (LineKey × X)) → T (below_all line_cmp key es) → find line_cmp key es ≡ None
find-below key [] h = refl
find-below key (e ∷ es) h = ap (λ b. cond b (Some e.1) (find line_cmp key es)) (not_tied (line_cmp key e.0) (left_holds _ _ h)) ∙ find-below key es (right_holds _ _ h)

-- ---- the references of rows

-- one more that is looked for among others
gathered : (a s x xs : Bool) → ((a || (x && s)) || (s && xs)) ≡ (a || (s && (x || xs)))
gathered true s x xs = refl
gathered false true true xs = refl
gathered false true false xs = refl
gathered false false true xs = refl
gathered false false false xs = refl

nothing_more : (a s : Bool) → a ≡ (a || (s && false))
nothing_more true s = refl
nothing_more false true = refl
nothing_more false false = refl

or_three : (a b c : Bool) → ((a || b) || c) ≡ (a || (b || c))
or_three true b c = refl
or_three false b c = refl

module _ (to from : LineKey) where
  pub strong-target : (by : LineKey) (target : Target) (links : Links)
      → is_holder (with_target by target links).strong to from ≡ (is_holder links.strong to from || ((target.is_strong && same_key target.key to) && same_key from by))
  strong-target by target links = turn target.is_strong
    where
      turn : (b : Bool) → is_holder (cond b (record links { strong = with_holder target.key by links.strong }) (record links { weak = with_holder target.key by links.weak })).strong to from
          ≡ (is_holder links.strong to from || ((b && same_key target.key to) && same_key from by))
      turn true = is_holder-with links.strong target.key by to from
      turn false = or_false (is_holder links.strong to from)

  pub weak-target : (by : LineKey) (target : Target) (links : Links)
      → is_holder (with_target by target links).weak to from ≡ (is_holder links.weak to from || ((not target.is_strong && same_key target.key to) && same_key from by))
  weak-target by target links = turn target.is_strong
    where
      turn : (b : Bool) → is_holder (cond b (record links { strong = with_holder target.key by links.strong }) (record links { weak = with_holder target.key by links.weak })).weak to from
          ≡ (is_holder links.weak to from || ((not b && same_key target.key to) && same_key from by))
      turn true = or_false (is_holder links.weak to from)
      turn false = is_holder-with links.weak target.key by to from

  -- those of one row
  pub strong-targets : (by : LineKey) (targets : List Target) (links : Links)
      → is_holder (with_targets by targets links).strong to from ≡ (is_holder links.strong to from || (same_key from by && list_any (λ target. target.is_strong && same_key target.key to) targets))
  strong-targets by [] links = nothing_more (is_holder links.strong to from) (same_key from by)
  strong-targets by (t ∷ ts) links =
      let later = list_any (λ target. target.is_strong && same_key target.key to) ts in
      strong-targets by ts (with_target by t links) ∙ ap (λ b. b || (same_key from by && later)) (strong-target by t links)
      ∙ gathered (is_holder links.strong to from) (same_key from by) (t.is_strong && same_key t.key to) later

  pub weak-targets : (by : LineKey) (targets : List Target) (links : Links)
      → is_holder (with_targets by targets links).weak to from ≡ (is_holder links.weak to from || (same_key from by && list_any (λ target. not target.is_strong && same_key target.key to) targets))
  weak-targets by [] links = nothing_more (is_holder links.weak to from) (same_key from by)
  weak-targets by (t ∷ ts) links =
      let later = list_any (λ target. not target.is_strong && same_key target.key to) ts in
      weak-targets by ts (with_target by t links) ∙ ap (λ b. b || (same_key from by && later)) (weak-target by t links)
      ∙ gathered (is_holder links.weak to from) (same_key from by) (not t.is_strong && same_key t.key to) later

  -- those of rows
  strong-rows : (schema : Schema) (rs : List (LineKey × Row)) (links : Links)
      → is_holder (with_targets_of_rows schema rs links).strong to from ≡ (is_holder links.strong to from || list_any (λ r. same_key from r.0 && refers_strongly schema r to) rs)
  strong-rows schema [] links = or_false (is_holder links.strong to from)
  strong-rows schema (r ∷ rs) links =
      let later = list_any (λ (x : LineKey × Row). same_key from x.0 && refers_strongly schema x to) rs in
      strong-rows schema rs (with_targets r.0 (row_targets schema r) links) ∙ ap (λ b. b || later) (strong-targets r.0 (row_targets schema r) links)
      ∙ or_three (is_holder links.strong to from) (same_key from r.0 && refers_strongly schema r to) later

  weak-rows : (schema : Schema) (rs : List (LineKey × Row)) (links : Links)
      → is_holder (with_targets_of_rows schema rs links).weak to from ≡ (is_holder links.weak to from || list_any (λ r. same_key from r.0 && refers_weakly schema r to) rs)
  weak-rows schema [] links = or_false (is_holder links.weak to from)
  weak-rows schema (r ∷ rs) links =
      let later = list_any (λ (x : LineKey × Row). same_key from x.0 && refers_weakly schema x to) rs in
      weak-rows schema rs (with_targets r.0 (row_targets schema r) links) ∙ ap (λ b. b || later) (weak-targets r.0 (row_targets schema r) links)
      ∙ or_three (is_holder links.weak to from) (same_key from r.0 && refers_weakly schema r to) later

  -- ---- the row of a key in an ascending list

  pub any_at : {X : Type 0} (test : LineKey × X → Bool) (rs : List (LineKey × X)) → T (is_sorted line_cmp rs)
      → list_any (λ r. same_key from r.0 && test r) rs ≡ is_some_and (λ row. test (from, row)) (find line_cmp from rs)
  any_at test [] h = refl
  any_at {X = X} test (r ∷ rs) h =
      ap (λ b. (b && test r) || list_any (λ (x : LineKey × X). same_key from x.0 && test x) rs) (same_key-tied from r.0) ∙ turn (any_at test rs (right_holds _ _ h)) (eq_by_cmp line_cmp from r.0) refl
    where
      turn : list_any (λ (x : LineKey × X). same_key from x.0 && test x) rs ≡ is_some_and (λ row. test (from, row)) (find line_cmp from rs) → (b : Bool) → eq_by_cmp line_cmp from r.0 ≡ b
          → ((b && test r) || list_any (λ (x : LineKey × X). same_key from x.0 && test x) rs) ≡ is_some_and (λ row. test (from, row)) (cond b (Some r.1) (find line_cmp from rs))
      turn others true is =
          let same : from ≡ r.0 = tied_same from r.0 is in
          let none : find line_cmp from rs ≡ None = ap (λ k. find line_cmp k rs) same ∙ find-below r.0 rs (left_holds _ _ h) in
          let nobody = others ∙ ap (is_some_and (λ (row : X). test (from, row))) none in
          (λ i. test (sym same i, r.1) || nobody i) ∙ sym (or_false (test (from, r.1)))
      turn others false is = others

  any_in : (test : LineKey × Row → Bool) (rows : Database) → list_any (λ r. same_key from r.0 && test r) (entries rows) ≡ is_some_and (λ row. test (from, row)) (get rows from)
  any_in test rows = any_at test (entries rows) (entries_sorted rows) ∙ ap (is_some_and (λ (row : Row). test (from, row))) (sym (get-entries rows from))

  nobody_in : (holders : Holders) → holders ≡ empty → is_holder holders to from ≡ false
  nobody_in holders none = ap (λ h. is_holder h to from) none ∙ ap (is_some_and (λ (set : KeySet). contains_key set from)) (get-empty line_cmp to)

-- links that were collected from all rows are those of the rows
pub links_are : (schema : Schema) (rows : Database) (none links : Links) → AreNone none → links ≡ with_targets_of_rows schema (entries rows) none → AreLinksOf schema rows links
links_are schema rows none links nobody are = record {
  strong = λ to from.
      ap (λ (l : Links). is_holder l.strong to from) are ∙ strong-rows to from schema (entries rows) none
      ∙ (λ i. nobody_in to from none.strong nobody.0 i || any_in to from (λ r. refers_strongly schema r to) rows i);
  weak = λ to from.
      ap (λ (l : Links). is_holder l.weak to from) are ∙ weak-rows to from schema (entries rows) none
      ∙ (λ i. nobody_in to from none.weak nobody.1 i || any_in to from (λ r. refers_weakly schema r to) rows i);
}

-- rows of one list and then of another
pub with_targets_of_rows-append : (schema : Schema) (xs ys : List (LineKey × Row)) (links : Links) → with_targets_of_rows schema (xs ++ ys) links ≡ with_targets_of_rows schema ys (with_targets_of_rows schema xs links)
with_targets_of_rows-append schema [] ys links = refl
with_targets_of_rows-append schema (x ∷ xs) ys links = with_targets_of_rows-append schema xs ys (with_targets x.0 (row_targets schema x) links)
