-- Whether a row is supported, from what is known of the rows before a transaction and of those that it has changed; and which
-- rows may lack support at first, and when one is removed.
use Rattle.std.proofs.Common.{◌≡◌, ◌+◌, ◌≤◌, if◌then◌else◌, List, [], ◌∷◌, ◌++◌, flat_map, length, Bool, true, false, cond, not, ◌&&◌, ◌||◌, ◌⊎◌, inl, inr, Option, Some, None, is_some, refl, sym, ap, ◌∙◌, arith}
use Rattle.std.proofs.lemmas.Bool.{and_parts, and_from, or_left, or_right, not_from_false}
use Rattle.std.proofs.lemmas.List.{length-append}
use Rattle.std.proofs.lemmas.List.Folds.{list_any-append}
use Rattle.std.specs.FinMap.{get, contains_key, keys, remove, get-remove}
use Rattle.std.specs.List.{list_any}
use Rattle.std.specs.Ordering.{eq_by_cmp}
use Rattle.ov_specs.specs.integrity.Committed.{is_whole}
use Rattle.ov_specs.specs.integrity.Kept.{is_in_root_table, is_supported}
use Rattle.ov_specs.specs.integrity.References.{row_targets, refers_strongly, references}
use Rattle.ov_specs.specs.rows.Database.{Row, Database, same_key}
use Rattle.ov_specs.specs.rows.Lines.{LineKey, line_cmp}
use Rattle.ov_specs.specs.schema.Schema.{is_some_and}
use Rattle.ov_specs.specs.schema.SchemaTypes.{Schema}
use Rattle.ov_specs.proofs.laws.Committing.{whole_is}
use Rattle.ov_specs.proofs.laws.Following.{Supporter, support_is, is_support}
use Rattle.ov_specs.proofs.laws.LineKeys.{key_total, same_key-itself, same_key-tied}
use Rattle.ov_refs.specs.Holding.{Holders, is_holder}
use Rattle.ov_refs.specs.Linking.{Links, AreLinksOf, is_strong_in}
use Rattle.ov_support.specs.Changes.{Changes, AreChanges}
use Rattle.ov_support.specs.Linked.{AreLinked, some_holds, is_unchanged_beside, is_there_beside}
use Rattle.ov_support.specs.Supporting.{strong_keys, MayLack}
use Rattle.ov_support.proofs.Fewer.{strong_ones_fewer, references_fewer}
use Rattle.ov_refs.proofs.SetKeys.{passes_key}
use Rattle.ov_support.proofs.HeldKeys.{holder_passes, passes_holder, row_there}
use Rattle.ov_support.proofs.Keys.{contradicts, same_truth}
use Rattle.ov_support.proofs.Lacking.{lacking_at_first}

-- ---- truth

not_so : (b : Bool) → not b ≡ true → b ≡ false
not_so true h = cc
not_so false h = refl

one_of : (a b : Bool) → (a || b) ≡ true → (a ≡ true) ⊎ (b ≡ true)
one_of true b h = inl refl
one_of false b h = inr h

-- ---- who refers strongly to whom, of the rows as they are now

-- what is known of a row that passes a test is known of one that is there
there_too : (test : Row → Bool) (o : Option Row) → is_some_and test o ≡ (is_some o && is_some_and test o)
there_too test None = refl
there_too test (Some row) = refl

as_changed : (was is : Bool) → is ≡ ((was && not true) || (true && is))
as_changed true is = refl
as_changed false is = refl

as_before : (was is : Bool) → was ≡ ((was && not false) || (false && is))
as_before true is = refl
as_before false is = refl

-- the rows after a transaction
pub linked_at_first : (schema : Schema) (before now : Database) (links : Links) (changes : Changes) → AreLinksOf schema before links → AreChanges schema before now changes → AreLinked schema now links.strong changes
linked_at_first schema before now links changes linked are to from =
    there_too (λ row. refers_strongly schema (from, row) to) (get now from) ∙ ap (λ b. contains_key now from && b) (by (contains_key changes.keys from) refl ∙ sym known)
  where
    is : Bool
    is = is_strong_in schema now to from

    was : Bool
    was = is_strong_in schema before to from

    known : ((is_holder links.strong to from && not (contains_key changes.keys from)) || is_holder changes.strong to from) ≡ ((was && not (contains_key changes.keys from)) || (contains_key changes.keys from && is))
    known = λ i. (linked.strong to from i && not (contains_key changes.keys from)) || are.strong to from i

    by : (b : Bool) → contains_key changes.keys from ≡ b → is ≡ ((was && not (contains_key changes.keys from)) || (contains_key changes.keys from && is))
    by true at = as_changed was is ∙ ap (λ b. (was && not b) || (b && is)) (sym at)
    by false at =
        ap (is_some_and (λ (row : Row). refers_strongly schema (from, row) to)) (are.beside from at) ∙ as_before was is ∙ ap (λ b. (was && not b) || (b && is)) (sym at)

-- and the rows after one of them is removed
pub linked_without : (schema : Schema) (rows : Database) (strong : Holders) (changes : Changes) (gone : LineKey) → AreLinked schema rows strong changes → AreLinked schema (remove rows gone) strong changes
linked_without schema rows strong changes gone linked to from =
    ap (is_some_and (λ (row : Row). refers_strongly schema (from, row) to)) left ∙ by (eq_by_cmp line_cmp from gone) ∙ sym (ap (λ o. is_some o && held) left)
  where
    held : Bool
    held = (is_holder strong to from && not (contains_key changes.keys from)) || is_holder changes.strong to from

    left : get (remove rows gone) from ≡ cond (eq_by_cmp line_cmp from gone) None (get rows from)
    left = get-remove key_total rows gone from

    by : (b : Bool) → is_some_and (λ (row : Row). refers_strongly schema (from, row) to) (cond b None (get rows from)) ≡ (is_some (cond b None (get rows from)) && held)
    by true = refl
    by false = linked to from

-- ---- support

module _ (schema : Schema) (rows : Database) (strong : Holders) (changes : Changes) (key : LineKey) (linked : AreLinked schema rows strong changes) where
  abbrev is_same : LineKey → Bool
  is_same from = eq_by_cmp line_cmp from key

  abbrev is_unchanged : LineKey → Bool
  is_unchanged from = is_unchanged_beside rows changes.keys key from

  abbrev is_other : LineKey → Bool
  is_other from = is_there_beside rows key from

  supporter : (from : LineKey) → same_key from key ≡ false → contains_key rows from ≡ true
      → ((is_holder strong key from && not (contains_key changes.keys from)) || is_holder changes.strong key from) ≡ true → Supporter schema rows key
  supporter from other has held =
      let row = row_there (λ row. refers_strongly schema (from, row) key) (get rows from) (linked key from ∙ and_from (contains_key rows from) _ has held) in
      (from, row.0, row.1, other, row.2)

  held_before : some_holds strong key is_unchanged ≡ true → Supporter schema rows key
  held_before any =
      let one = holder_passes strong key is_unchanged any in
      let from = one.0 in
      let parts = and_parts (not (is_same from) && not (contains_key changes.keys from)) (contains_key rows from) one.2 in
      let first = and_parts (not (is_same from)) (not (contains_key changes.keys from)) parts.0 in
      supporter from (same_key-tied from key ∙ not_so (is_same from) first.0) parts.1
      (or_left (is_holder strong key from && not (contains_key changes.keys from)) (is_holder changes.strong key from) (and_from (is_holder strong key from) (not (contains_key changes.keys from)) one.1 first.1))

  held_now : some_holds changes.strong key is_other ≡ true → Supporter schema rows key
  held_now any =
      let one = holder_passes changes.strong key is_other any in
      let from = one.0 in
      let parts = and_parts (not (is_same from)) (contains_key rows from) one.2 in
      supporter from (same_key-tied from key ∙ not_so (is_same from) parts.0) parts.1 (or_right (is_holder strong key from && not (contains_key changes.keys from)) (is_holder changes.strong key from) one.1)

  held_by : Supporter schema rows key → (some_holds strong key is_unchanged || some_holds changes.strong key is_other) ≡ true
  held_by one = by (one_of (is_holder strong key from && not (contains_key changes.keys from)) (is_holder changes.strong key from) parts.1)
    where
      from : LineKey
      from = one.0

      other : not (is_same from) ≡ true
      other = not_from_false (is_same from) (sym (same_key-tied from key) ∙ one.3)

      strongly : is_strong_in schema rows key from ≡ true
      strongly = ap (is_some_and (λ (row : Row). refers_strongly schema (from, row) key)) one.2 ∙ one.4

      parts : (contains_key rows from ≡ true) × (((is_holder strong key from && not (contains_key changes.keys from)) || is_holder changes.strong key from) ≡ true)
      parts = and_parts (contains_key rows from) ((is_holder strong key from && not (contains_key changes.keys from)) || is_holder changes.strong key from) (sym (linked key from) ∙ strongly)

      by : ((is_holder strong key from && not (contains_key changes.keys from)) ≡ true) ⊎ (is_holder changes.strong key from ≡ true)
          → (some_holds strong key is_unchanged || some_holds changes.strong key is_other) ≡ true
      by (inl before) =
          let held = and_parts (is_holder strong key from) (not (contains_key changes.keys from)) before in
          or_left (some_holds strong key is_unchanged) (some_holds changes.strong key is_other)
          (passes_holder strong key is_unchanged from held.0
          (and_from (not (is_same from) && not (contains_key changes.keys from)) (contains_key rows from) (and_from (not (is_same from)) (not (contains_key changes.keys from)) other held.1) parts.0))
      by (inr now) =
          or_right (some_holds strong key is_unchanged) (some_holds changes.strong key is_other)
          (passes_holder changes.strong key is_other from now (and_from (not (is_same from)) (contains_key rows from) other parts.0))

  abbrev found : Bool
  found = is_in_root_table schema key || (some_holds strong key is_unchanged || some_holds changes.strong key is_other)

  there : found ≡ true → is_supported schema rows key ≡ true
  there is = by (one_of (is_in_root_table schema key) (some_holds strong key is_unchanged || some_holds changes.strong key is_other) is)
    where
      held : (some_holds strong key is_unchanged ≡ true) ⊎ (some_holds changes.strong key is_other ≡ true) → is_supported schema rows key ≡ true
      held (inl before) = is_support schema rows key (inr (held_before before))
      held (inr now) = is_support schema rows key (inr (held_now now))

      by : (is_in_root_table schema key ≡ true) ⊎ ((some_holds strong key is_unchanged || some_holds changes.strong key is_other) ≡ true) → is_supported schema rows key ≡ true
      by (inl root) = is_support schema rows key (inl root)
      by (inr any) = held (one_of (some_holds strong key is_unchanged) (some_holds changes.strong key is_other) any)

  back : is_supported schema rows key ≡ true → found ≡ true
  back is = by (support_is schema rows key is)
    where
      by : (is_in_root_table schema key ≡ true) ⊎ Supporter schema rows key → found ≡ true
      by (inl root) = or_left (is_in_root_table schema key) (some_holds strong key is_unchanged || some_holds changes.strong key is_other) root
      by (inr one) = or_right (is_in_root_table schema key) (some_holds strong key is_unchanged || some_holds changes.strong key is_other) (held_by one)

  -- the row is of a root table, or one of its holders from before is there and unchanged, or one of the changed ones is there
  pub supported_by : found ≡ is_supported schema rows key
  supported_by = same_truth found (is_supported schema rows key) there back

  -- as it is found step by step
  pub supported_first : is_in_root_table schema key ≡ true → true ≡ is_supported schema rows key
  supported_first root = sym (ap (λ b. b || (some_holds strong key is_unchanged || some_holds changes.strong key is_other)) root) ∙ supported_by

  pub supported_second : is_in_root_table schema key ≡ false → some_holds strong key is_unchanged ≡ true → true ≡ is_supported schema rows key
  supported_second root held = sym (λ i. root i || (held i || some_holds changes.strong key is_other)) ∙ supported_by

  pub supported_third : is_in_root_table schema key ≡ false → some_holds strong key is_unchanged ≡ false → some_holds changes.strong key is_other ≡ is_supported schema rows key
  supported_third root held = sym (λ i. root i || (held i || some_holds changes.strong key is_other)) ∙ supported_by

-- ---- rows that may lack support at first

-- the key if there was no row, unless it is in a root table; otherwise what the row referred to strongly
abbrev pub lost_of : Schema → LineKey → Option Row → List LineKey
lost_of schema key None = if is_in_root_table schema key then [] else key ∷ []
lost_of schema key (Some row) = strong_keys (row_targets schema (key, row))

abbrev pub lost_at : Schema → Database → LineKey → List LineKey
lost_at schema before key = lost_of schema key (get before key)

any-flat_map : {A B : Type 0} (test : B → Bool) (f : A → List B) (xs : List A) → list_any test (flat_map f xs) ≡ list_any (λ x. list_any test (f x)) xs
any-flat_map test f [] = refl
any-flat_map test f (x ∷ xs) = list_any-append test (f x) (flat_map f xs) ∙ ap (λ b. list_any test (f x) || b) (any-flat_map test f xs)

-- a row without support is of no root table
no_root : (schema : Schema) (rows : Database) (key : LineKey) → is_supported schema rows key ≡ false → is_in_root_table schema key ≡ false
no_root schema rows key is = by (is_in_root_table schema key) refl
  where
    by : (b : Bool) → is_in_root_table schema key ≡ b → b ≡ false
    by true root = absurd (contradicts (is_supported schema rows key) (is_support schema rows key (inl root)) is)
    by false root = refl

pub lack_at_first : (schema : Schema) (before now : Database) (changes : Changes) → is_whole schema before ≡ true → AreChanges schema before now changes
    → MayLack schema now (flat_map (lost_at schema before) (keys changes.keys))
lack_at_first schema before now changes whole are =
    lacking_at_first schema before now (contains_key changes.keys) (flat_map (lost_at schema before) (keys changes.keys)) are.beside (whole_is schema before whole).supported
    (λ key row at none found is.
    at_key key key at (ap (λ o. list_any (same_key key) (lost_of schema key o)) none
    ∙ ap (λ b. list_any (same_key key) (if b then [] else key ∷ [])) (no_root schema now key is) ∙ or_left (same_key key key) false (same_key-itself key)))
    (λ from old key at has any. at_key key from at (ap (λ o. list_any (same_key key) (lost_of schema from o)) has ∙ any))
  where
    at_key : (key from : LineKey) → contains_key changes.keys from ≡ true → list_any (same_key key) (lost_at schema before from) ≡ true
        → list_any (same_key key) (flat_map (lost_at schema before) (keys changes.keys)) ≡ true
    at_key key from at any =
        any-flat_map (same_key key) (lost_at schema before) (keys changes.keys) ∙ passes_key changes.keys (λ other. list_any (same_key key) (lost_at schema before other)) from at any

-- ---- a row is removed

-- what is left to be looked at, with the references that are left, is no more than it was
pub no_more : (schema : Schema) (rows : Database) (gone : LineKey) (row : Row) (work : List LineKey) → get rows gone ≡ Some row
    → length (work ++ strong_keys (row_targets schema (gone, row))) + length (references schema (remove rows gone)) ≤ length work + length (references schema rows)
no_more schema rows gone row work has =
    let long : length (work ++ strong_keys (row_targets schema (gone, row))) ≡ length work + length (strong_keys (row_targets schema (gone, row))) =
    length-append work (strong_keys (row_targets schema (gone, row))) in
    omega (arith, long, strong_ones_fewer (row_targets schema (gone, row)), references_fewer schema rows gone row has)
