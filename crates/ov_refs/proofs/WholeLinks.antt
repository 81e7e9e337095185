-- Whether the references of a database are whole, judged by its links.
use Rattle.std.proofs.Common.{◌≡◌, ◌↔◌, ◌==◌, ℕ, suc, length, List, [], ◌∷◌, flat_map, Bool, true, false, cond, T, ◌&&◌, ◌||◌, not, ◌⊎◌, inl, inr, Option, Some, None, is_some, IsTrue, refl, sym, ap, ◌∙◌, arith}
use Rattle.std.proofs.lemmas.Bool.{and_parts, and_from, or_left, or_right, or_cases, not-true, not_from_false}
use Rattle.std.proofs.lemmas.List.Folds.{list_all-append, list_all-map}
use Rattle.std.proofs.lemmas.Option.{same_Some}
use Rattle.std.specs.Cmp.{both_ways}
use Rattle.std.specs.FinMap.{FinMap, find, is_sorted, get, contains_key, entries, len, empty_of_len, entries_sorted, get-entries, get-empty, len-entries}
use Rattle.std.specs.List.{list_all}
use Rattle.std.specs.Ordering.{eq_by_cmp}
use Rattle.ov_specs.specs.integrity.Kept.{is_in_root_table, is_supported}
use Rattle.ov_specs.specs.integrity.References.{Target, RowReference, row_targets, row_references, references, refers_strongly}
use Rattle.ov_specs.specs.rows.Database.{Row, Database, same_key}
use Rattle.ov_specs.specs.rows.Lines.{LineKey, line_cmp}
use Rattle.ov_specs.specs.schema.Schema.{is_some_and}
use Rattle.ov_specs.specs.schema.SchemaTypes.{Schema}
use Rattle.ov_specs.specs.values.Uuid.{Uuid}
use Rattle.ov_specs.proofs.laws.Following.{Supporter, support_is, is_support}
use Rattle.ov_specs.proofs.laws.LineKeys.{tied_same, same_tied}
use Rattle.ov_specs.proofs.laws.References.{all_rows_are, are_all_rows}
use Rattle.ov_specs.proofs.laws.Truths.{left_holds, right_holds, zero_is}
use Rattle.ov_rows.specs.Nested.{TableRows, id_cmp, in_table}
use Rattle.ov_refs.specs.Holding.{KeySet, Holders, TableHolders}
use Rattle.ov_refs.specs.Linking.{Links, AreLinksOf}
use Rattle.ov_refs.specs.Placed.{is_target, has_target, targets_at, refers}
use Rattle.ov_refs.specs.Whole.{is_there, has_another, is_root_or_held, are_held}
use Rattle.ov_refs.proofs.Collecting.{same_key-tied, find-below}
use Rattle.ov_refs.proofs.HeldInOrder.{held_found_each}
use Rattle.ov_refs.proofs.Placing.{target_is, links_at}
use Rattle.ov_refs.proofs.SetKeys.{key_passes, passes_key}

-- ---- what is found at keys

module _ {X : Type 0} where
  found_first : (e : LineKey × X) (es : List (LineKey × X)) → find line_cmp e.0 (e ∷ es) ≡ Some e.1
  found_first e es = ap (λ b. cond b (Some e.1) (find line_cmp e.0 es)) (same_tied e.0 e.0 refl)

  found_later : (e : LineKey × X) (es : List (LineKey × X)) (key : LineKey) (x : X) → T (is_sorted line_cmp (e ∷ es)) → find line_cmp key es ≡ Some x → find line_cmp key (e ∷ es) ≡ Some x
  found_later e es key x h found = by (eq_by_cmp line_cmp key e.0) refl
    where
      absent : find line_cmp e.0 es ≡ None → find line_cmp e.0 es ≡ Some x → ⊥
      absent n s = cc

      by : (b : Bool) → eq_by_cmp line_cmp key e.0 ≡ b → cond b (Some e.1) (find line_cmp key es) ≡ Some x
      by false is = found
      by true is = absurd (absent (find-below e.0 es (left_holds _ _ h)) (sym (ap (λ k. find line_cmp k es) (tied_same key e.0 is)) ∙ found))

  all_found : (test : LineKey × X → Bool) (es : List (LineKey × X)) → T (is_sorted line_cmp es) → ((key : LineKey) (x : X) → find line_cmp key es ≡ Some x → test (key, x) ≡ true) → list_all test es ≡ true
  all_found test [] h all = refl
  all_found test (e ∷ es) h all =
      and_from (test e) (list_all test es) (all e.0 e.1 (found_first e es)) (all_found test es (right_holds _ _ h) (λ key x found. all key x (found_later e es key x h found)))

  found_passes : (test : LineKey × X → Bool) (es : List (LineKey × X)) (key : LineKey) (x : X) → list_all test es ≡ true → find line_cmp key es ≡ Some x → test (key, x) ≡ true
  found_passes test [] key x all found = cc
  found_passes test (e ∷ es) key x all found = by (eq_by_cmp line_cmp key e.0) refl found (found_passes test es key x parts.1)
    where
      parts : (test e ≡ true) × (list_all test es ≡ true)
      parts = and_parts (test e) (list_all test es) all

      by : (b : Bool) → eq_by_cmp line_cmp key e.0 ≡ b → cond b (Some e.1) (find line_cmp key es) ≡ Some x → (find line_cmp key es ≡ Some x → test (key, x) ≡ true) → test (key, x) ≡ true
      by true is found later = (λ i. test (tied_same key e.0 is i, same_Some x e.1 (sym found) i)) ∙ parts.0
      by false is found later = later found

  -- if all at keys pass the test, all entries do; and the other way round
  all_entries : (m : FinMap line_cmp X) (test : LineKey × X → Bool) → ((key : LineKey) (x : X) → get m key ≡ Some x → test (key, x) ≡ true) → list_all test (entries m) ≡ true
  all_entries m test all = all_found test (entries m) (entries_sorted m) (λ key x found. all key x (get-entries m key ∙ found))

  entry_passes : (m : FinMap line_cmp X) (test : LineKey × X → Bool) (key : LineKey) (x : X) → list_all test (entries m) ≡ true → get m key ≡ Some x → test (key, x) ≡ true
  entry_passes m test key x all has = found_passes test (entries m) key x all (sym (get-entries m key) ∙ has)

some_is : {X : Type 0} (test : X → Bool) (o : Option X) → is_some_and test o ≡ true → (x : X) × (o ≡ Some x) × (test x ≡ true)
some_is test None is = cc
some_is test (Some x) is = (x, refl, is)

-- ---- keys of sets

contradicts : (b : Bool) → b ≡ true → b ≡ false → ⊥
contradicts true is is_not = cc
contradicts false is is_not = cc

-- a set that is not empty has a key
some_key : (set : KeySet) → (len set == 0) ≡ false → (key : LineKey) × (contains_key set key ≡ true)
some_key set some = by (entries set) refl
  where
    by : (es : List (LineKey × Unit {0})) → entries set ≡ es → (key : LineKey) × (contains_key set key ≡ true)
    by [] is = absurd (contradicts (len set == 0) (ap (λ n. n == 0) (len-entries set ∙ ap length is)) some)
    by (e ∷ es) is = (e.0, ap is_some (get-entries set e.0 ∙ ap (find line_cmp e.0) is ∙ found_first e es))

-- and the other way round
has_some : (set : KeySet) (key : LineKey) → contains_key set key ≡ true → (len set == 0) ≡ false
has_some set key has = by (len set == 0) refl
  where
    by : (b : Bool) → (len set == 0) ≡ b → b ≡ false
    by false is = refl
    by true is =
        absurd (contradicts (contains_key set key) has (ap (λ (s : KeySet). contains_key s key) (empty_of_len set (zero_is (len set) is)) ∙ ap is_some (get-empty line_cmp key)))

-- ---- rows that are supported

module _ (schema : Schema) (strong : Holders) (name : List ℕ) where
  -- the rows of a root table are
  pub root_table : (rs : List (Uuid × Row)) → is_some_and (λ table. table.is_root) (get schema.tables name) ≡ true → true ≡ list_all (is_root_or_held schema strong) (in_table name rs)
  root_table [] root = refl
  root_table (r ∷ rs) root = root_table rs root ∙ ap (λ b. (b || is_some_and (has_another (name, r.0)) (get strong (name, r.0))) && list_all (is_root_or_held schema strong) (in_table name rs)) (sym root)

  module _ (not_root : is_some_and (λ table. table.is_root) (get schema.tables name) ≡ false) where
    -- those of another table are if another row is among their holders
    by_holders : (held : Uuid → Bool) (rs : List (Uuid × Row)) → ((id : Uuid) → held id ≡ is_some_and (has_another (name, id)) (get strong (name, id)))
        → list_all (λ r. held r.0) rs ≡ list_all (is_root_or_held schema strong) (in_table name rs)
    by_holders held [] is = refl
    by_holders held (r ∷ rs) is =
        (λ i. is r.0 i && by_holders held rs is i) ∙ ap (λ b. (b || is_some_and (has_another (name, r.0)) (get strong (name, r.0))) && list_all (is_root_or_held schema strong) (in_table name rs)) (sym not_root)

    pub held_table : (rows : TableRows) (holders : TableHolders) → ((id : Uuid) → get holders id ≡ get strong (name, id))
        → are_held name (entries rows) (entries holders) ≡ list_all (is_root_or_held schema strong) (in_table name (entries rows))
    held_table rows holders are =
        held_found_each name (entries holders) (entries rows) (entries_sorted rows) (entries_sorted holders)
        ∙ by_holders (λ id. is_some_and (has_another (name, id)) (find id_cmp id (entries holders))) (entries rows) (λ id. ap (is_some_and (has_another (name, id))) (sym (get-entries holders id) ∙ are id))

    -- none is if no row refers to any of the table
    pub held_by_none : (rs : List (Uuid × Row)) (b : Bool) → (IsTrue b ↔ (length rs ≡ 0)) → ((id : Uuid) → None ≡ get strong (name, id)) → b ≡ list_all (is_root_or_held schema strong) (in_table name rs)
    held_by_none rs b is none = no_row rs b is ∙ by_holders (λ id. false) rs (λ id. ap (is_some_and (has_another (name, id))) (none id))
      where
        no_row : (rs : List (Uuid × Row)) (b : Bool) → (IsTrue b ↔ (length rs ≡ 0)) → b ≡ list_all (λ r. false) rs
        no_row [] b is = is.1 refl
        no_row (r ∷ rs) true is = let more : suc (length rs) ≡ 0 = is.0 refl in absurd (omega (arith, more))
        no_row (r ∷ rs) false is = refl

module _ (schema : Schema) (rows : Database) (links : Links) (linked : AreLinksOf schema rows links) where
  -- ---- support

  held_is : (key : LineKey) → is_some_and (has_another key) (get links.strong key) ≡ true → Supporter schema rows key
  held_is key held =
      let set = some_is (has_another key) (get links.strong key) held in
      let from = key_passes set.0 (λ other. not (same_key other key)) set.2 in
      let row =
      some_is (λ (row : Row). refers_strongly schema (from.0, row) key) (get rows from.0)
      (sym (linked.strong key from.0) ∙ ap (is_some_and (λ (s : KeySet). contains_key s from.0)) set.1 ∙ from.1) in
      (from.0, row.0, row.1, not-true (same_key from.0 key) from.2, row.2)

  is_held_by : (key : LineKey) → Supporter schema rows key → is_some_and (has_another key) (get links.strong key) ≡ true
  is_held_by key one =
      let holder = linked.strong key one.0 ∙ ap (is_some_and (λ (row : Row). refers_strongly schema (one.0, row) key)) one.2 ∙ one.4 in
      let set = some_is (λ (s : KeySet). contains_key s one.0) (get links.strong key) holder in
      ap (is_some_and (has_another key)) set.1 ∙ passes_key set.0 (λ other. not (same_key other key)) one.0 set.2 (not_from_false (same_key one.0 key) one.3)

  kept_is : (key : LineKey) → (is_in_root_table schema key || is_some_and (has_another key) (get links.strong key)) ≡ is_supported schema rows key
  kept_is key =
      both_ways (is_in_root_table schema key || is_some_and (has_another key) (get links.strong key)) (is_supported schema rows key)
      (λ any. is_support schema rows key (there (or_cases (is_in_root_table schema key) (is_some_and (has_another key) (get links.strong key)) any)))
      (λ is. back (support_is schema rows key is))
    where
      there : (is_in_root_table schema key ≡ true) ⊎ (is_some_and (has_another key) (get links.strong key) ≡ true) → (is_in_root_table schema key ≡ true) ⊎ Supporter schema rows key
      there (inl root) = inl root
      there (inr held) = inr (held_is key held)

      back : (is_in_root_table schema key ≡ true) ⊎ Supporter schema rows key → (is_in_root_table schema key || is_some_and (has_another key) (get links.strong key)) ≡ true
      back (inl root) = or_left (is_in_root_table schema key) (is_some_and (has_another key) (get links.strong key)) root
      back (inr one) = or_right (is_in_root_table schema key) (is_some_and (has_another key) (get links.strong key)) (is_held_by key one)

  -- all rows are supported if the holders say so
  pub supported_is : list_all (is_root_or_held schema links.strong) (entries rows) ≡ list_all (λ r. is_supported schema rows r.0) (entries rows)
  supported_is = λ i. list_all (λ (r : LineKey × Row). kept_is r.0 i) (entries rows)

  -- ---- references

  abbrev target_there : Target → Bool
  target_there target = contains_key rows target.key

  abbrev all_there : LineKey × Row → Bool
  all_there r = list_all target_there (row_targets schema r)

  all-flat_map : {A B : Type 0} (test : B → Bool) (f : A → List B) (xs : List A) → list_all test (flat_map f xs) ≡ list_all (λ x. list_all test (f x)) xs
  all-flat_map test f [] = refl
  all-flat_map test f (x ∷ xs) = list_all-append test (f x) (flat_map f xs) ∙ ap (λ b. list_all test (f x) && b) (all-flat_map test f xs)

  by_rows : list_all (λ r. contains_key rows r.to.key) (references schema rows) ≡ list_all all_there (entries rows)
  by_rows =
      all-flat_map (λ (r : RowReference). contains_key rows r.to.key) (row_references schema) (entries rows)
      ∙ (λ i. list_all (λ r. list_all-map (λ (x : RowReference). contains_key rows x.to.key) (λ target. record { from = r.0; to = target }) (row_targets schema r) i) (entries rows))

  -- a target that is the row is there if all are
  one_there : (strong : Bool) (to : LineKey) (targets : List Target) → has_target strong to targets ≡ true → list_all target_there targets ≡ true → contains_key rows to ≡ true
  one_there strong to [] any all = cc
  one_there strong to (t ∷ ts) any all = by (is_target strong to t) refl any (one_there strong to ts)
    where
      parts : (contains_key rows t.key ≡ true) × (list_all target_there ts ≡ true)
      parts = and_parts (contains_key rows t.key) (list_all target_there ts) all

      by : (b : Bool) → is_target strong to t ≡ b → (b || has_target strong to ts) ≡ true → (has_target strong to ts ≡ true → list_all target_there ts ≡ true → contains_key rows to ≡ true) → contains_key rows to ≡ true
      by true is any later = ap (contains_key rows) ((target_is strong to t is).1) ∙ parts.0
      by false is any later = later any parts.1

  is_itself : (t : Target) → is_target t.is_strong t.key t ≡ true
  is_itself t = and_from (cond t.is_strong t.is_strong (not t.is_strong)) (same_key t.key t.key) (by t.is_strong) (same_key-tied t.key t.key ∙ same_tied t.key t.key refl)
    where
      by : (b : Bool) → cond b b (not b) ≡ true
      by true = refl
      by false = refl

  each_there : (targets : List Target) → ((strong : Bool) (to : LineKey) → has_target strong to targets ≡ true → contains_key rows to ≡ true) → list_all target_there targets ≡ true
  each_there [] all = refl
  each_there (t ∷ ts) all =
      and_from (contains_key rows t.key) (list_all target_there ts) (all t.is_strong t.key (or_left (is_target t.is_strong t.key t) (has_target t.is_strong t.key ts) (is_itself t)))
      (each_there ts (λ strong to is. all strong to (or_right (is_target strong to t) (has_target strong to ts) is)))

  -- the holders of one kind
  abbrev of_kind : Bool → Holders
  of_kind strong = cond strong links.strong links.weak

  listed_there : (strong : Bool) → list_all all_there (entries rows) ≡ true → list_all (is_there rows) (entries (of_kind strong)) ≡ true
  listed_there strong all = all_entries (of_kind strong) (is_there rows) (λ to set listed. by to set listed (len set == 0) refl)
    where
      by : (to : LineKey) (set : KeySet) → get (of_kind strong) to ≡ Some set → (b : Bool) → (len set == 0) ≡ b → (b || contains_key rows to) ≡ true
      by to set listed true is = refl
      by to set listed false is =
          let from = some_key set is in
          let holder : refers strong links to from.0 ≡ true = ap (is_some_and (λ (s : KeySet). contains_key s from.0)) listed ∙ from.1 in
          at_row to from.0 (get rows from.0) refl (sym (links_at schema rows links linked strong to from.0) ∙ holder)
        where
          at_row : (to from : LineKey) (o : Option Row) → get rows from ≡ o → has_target strong to (targets_at schema from o) ≡ true → contains_key rows to ≡ true
          at_row to from None is any = cc
          at_row to from (Some row) is any = one_there strong to (row_targets schema (from, row)) any (all_rows_are all_there rows from row all is)

  there_listed : ((strong : Bool) → list_all (is_there rows) (entries (of_kind strong)) ≡ true) → list_all all_there (entries rows) ≡ true
  there_listed all = are_all_rows all_there rows (λ from row has. each_there (row_targets schema (from, row)) (λ strong to any. by from row has strong to any))
    where
      by : (from : LineKey) (row : Row) → get rows from ≡ Some row → (strong : Bool) (to : LineKey) → has_target strong to (row_targets schema (from, row)) ≡ true → contains_key rows to ≡ true
      by from row has strong to any =
          let holder = links_at schema rows links linked strong to from ∙ ap (λ o. has_target strong to (targets_at schema from o)) has ∙ any in
          let set = some_is (λ (s : KeySet). contains_key s from) (get (of_kind strong) to) holder in
          sym (ap (λ b. b || contains_key rows to) (has_some set.0 from set.2)) ∙ entry_passes (of_kind strong) (is_there rows) to set.0 (all strong) set.1

  -- all references point to existing rows if the holders say so
  pub there_is : (list_all (is_there rows) (entries links.strong) && list_all (is_there rows) (entries links.weak)) ≡ list_all (λ r. contains_key rows r.to.key) (references schema rows)
  there_is =
      both_ways (list_all (is_there rows) (entries links.strong) && list_all (is_there rows) (entries links.weak)) (list_all all_there (entries rows))
      (λ both. there_listed (of_both (and_parts (list_all (is_there rows) (entries links.strong)) (list_all (is_there rows) (entries links.weak)) both)))
      (λ all. and_from (list_all (is_there rows) (entries links.strong)) (list_all (is_there rows) (entries links.weak)) (listed_there true all) (listed_there false all))
      ∙ sym by_rows
    where
      of_both : (list_all (is_there rows) (entries links.strong) ≡ true) × (list_all (is_there rows) (entries links.weak) ≡ true) → (strong : Bool) → list_all (is_there rows) (entries (of_kind strong)) ≡ true
      of_both both true = both.0
      of_both both false = both.1
