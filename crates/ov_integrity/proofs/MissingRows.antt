-- Whether a strong reference is to a missing row, from what a transaction has changed.
use Rattle.std.proofs.Common.{◌≡◌, Bool, true, false, ◌&&◌, ◌⊎◌, inl, inr, not, Option, Some, None, is_some, refl, sym, ap, ◌∙◌}
use Rattle.std.proofs.lemmas.Bool.{not_from_false}
use Rattle.std.specs.FinMap.{get, contains_key, entries}
use Rattle.std.specs.List.{list_any}
use Rattle.ov_specs.specs.integrity.Committed.{is_missing, is_whole}
use Rattle.ov_specs.specs.integrity.References.{Target, row_targets, refers_strongly, row_references, references}
use Rattle.ov_specs.specs.rows.Database.{Row, Database}
use Rattle.ov_specs.specs.rows.Lines.{LineKey, line_cmp}
use Rattle.ov_specs.specs.schema.Schema.{is_some_and}
use Rattle.ov_specs.specs.schema.SchemaTypes.{Schema}
use Rattle.ov_specs.proofs.laws.Committing.{IsWhole, whole_is}
use Rattle.ov_specs.proofs.laws.Following.{ChangedMisses, HeldMisses, missing_follows, changed_is_missing, held_is_missing}
use Rattle.ov_specs.proofs.laws.LineKeys.{key_total, key_exact}
use Rattle.ov_specs.proofs.laws.Lists.{any-map}
use Rattle.ov_stored.specs.Changing.{Delta, applied}
use Rattle.ov_refs.specs.Linking.{Links, AreLinksOf}
use Rattle.ov_integrity.specs.Missing.{misses_by}
use Rattle.ov_integrity.proofs.Candidates.{beside, made_is}
use Rattle.ov_support.proofs.Entries.{any_entry_is, entry_is_any}
use Rattle.ov_support.proofs.HeldKeys.{holder_passes, passes_holder, row_there, target_there}
use Rattle.ov_support.proofs.Keys.{same_truth}

-- ---- targets of a row

-- a strong reference is to a missing row
abbrev pub target_misses : Database → Target → Bool
target_misses rows target = target.is_strong && not (contains_key rows target.key)

pub row-misses : (schema : Schema) (rows : Database) (r : LineKey × Row) → list_any (is_missing rows) (row_references schema r) ≡ list_any (target_misses rows) (row_targets schema r)
row-misses schema rows r = any-map (is_missing rows) (λ target. record { from = r.0; to = target }) (row_targets schema r)

-- ---- what was changed

not_so : (b : Bool) → not b ≡ true → b ≡ false
not_so true h = cc
not_so false h = refl

module _ (schema : Schema) (before now : Database) (links : Links) (delta : Delta) (made : applied delta before ≡ now) (is : is_whole schema before ≡ true) (linked : AreLinksOf schema before links) where
  abbrev changed : LineKey → Bool
  changed = contains_key delta

  abbrev misses : LineKey × Option Row → Bool
  misses = misses_by schema now links.strong delta

  whole : IsWhole schema before
  whole = whole_is schema before is

  unchanged : (key : LineKey) → changed key ≡ false → get now key ≡ get before key
  unchanged = beside delta before now made

  there : list_any misses (entries delta) ≡ true → list_any (is_missing now) (references schema now) ≡ true
  there any = let one = any_entry_is line_cmp key_total key_exact misses delta any in by one.0 one.1 one.2 one.3
    where
      by : (key : LineKey) (change : Option Row) → get delta key ≡ Some change → misses (key, change) ≡ true → list_any (is_missing now) (references schema now) ≡ true
      by key (Some row) at so = changed_is_missing schema before now changed unchanged (key, row, ap is_some at, made_is delta before now made key (Some row) at, so)
      by key None at so =
          let held = holder_passes links.strong key (λ from. not (changed from)) so in
          let row = row_there (λ row. refers_strongly schema (held.0, row) key) (get before held.0) (sym (linked.strong key held.0) ∙ held.1) in
          let was : contains_key before key ≡ true = target_there before key (row_targets schema (held.0, row.0)) row.2 (whole.targets held.0 row.0 row.1) in
          held_is_missing schema before now changed unchanged (held.0, row.0, key, not_so (changed held.0) held.2, row.1, ap is_some at, was, made_is delta before now made key None at, row.2)

  entry_passes : (key : LineKey) (change : Option Row) → changed key ≡ true → get now key ≡ change → misses (key, change) ≡ true → list_any misses (entries delta) ≡ true
  entry_passes key change so stands passes = by (get delta key) refl so
    where
      by : (o : Option (Option Row)) → get delta key ≡ o → is_some o ≡ true → list_any misses (entries delta) ≡ true
      by None at h = cc
      by (Some other) at h = entry_is_any line_cmp key_total key_exact misses delta key other at (ap (λ c. misses (key, c)) (sym (made_is delta before now made key other at) ∙ stands) ∙ passes)

  back : list_any (is_missing now) (references schema now) ≡ true → list_any misses (entries delta) ≡ true
  back any = by (missing_follows schema before now changed unchanged whole.targets any)
    where
      by : ChangedMisses schema now changed ⊎ HeldMisses schema before now changed → list_any misses (entries delta) ≡ true
      by (inl one) = entry_passes one.0 (Some one.1) one.2 one.3 one.4
      by (inr one) =
          let from = one.0 in
          let to = one.2 in
          let held = linked.strong to from ∙ ap (is_some_and (λ (row : Row). refers_strongly schema (from, row) to)) one.4 ∙ one.8 in
          entry_passes to None one.5 one.7 (passes_holder links.strong to (λ other. not (changed other)) from held (not_from_false (changed from) one.3))

  -- a strong reference to a missing row is found by the changes
  pub misses_are : list_any misses (entries delta) ≡ list_any (is_missing now) (references schema now)
  misses_are = same_truth (list_any misses (entries delta)) (list_any (is_missing now) (references schema now)) there back
