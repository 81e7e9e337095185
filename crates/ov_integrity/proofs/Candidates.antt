-- Rows that may have dangling references are those that were changed, and those that referred weakly to a removed row.
use Rattle.std.proofs.Common.{◌≡◌, List, [], ◌∷◌, Bool, true, false, cond, if◌then◌else◌, ◌||◌, ◌⊎◌, inl, inr, is_some, flat_map, Option, Some, None, refl, sym, ap, subst, ◌∙◌}
use Rattle.std.proofs.lemmas.Bool.{or_left, or_right}
use Rattle.std.proofs.lemmas.List.Folds.{list_any-append}
use Rattle.std.proofs.lemmas.Option.{same_Some}
use Rattle.std.specs.FinMap.{get, contains_key, keys, entries, find, get-entries}
use Rattle.std.specs.FinMap.Entries.{is_some-find}
use Rattle.std.specs.List.{list_any}
use Rattle.std.specs.Ordering.{eq_by_cmp}
use Rattle.ov_stored.specs.Changing.{Delta, applied}
use Rattle.ov_stored.proofs.Places.{or_before, get-applied}
use Rattle.ov_refs.specs.Holding.{KeySet, is_holder}
use Rattle.ov_refs.specs.Linking.{Links, AreLinksOf}
use Rattle.ov_specs.specs.integrity.Committed.{dangles, is_whole}
use Rattle.ov_specs.specs.integrity.References.{refers_weakly}
use Rattle.ov_specs.specs.rows.Database.{Row, Database, same_key}
use Rattle.ov_specs.specs.rows.Lines.{LineKey, line_cmp}
use Rattle.ov_specs.specs.schema.Schema.{is_some_and}
use Rattle.ov_specs.specs.schema.SchemaTypes.{Schema}
use Rattle.ov_specs.proofs.laws.Committing.{whole_is}
use Rattle.ov_specs.proofs.laws.Following.{HasGoneTarget, dangles_follows}
use Rattle.ov_specs.proofs.laws.LineKeys.{tied_same, same_key-itself, same_key-tied}
use Rattle.ov_integrity.specs.Pruning.{MayDangle, keys_held, may_dangle_by}
use Rattle.ov_support.proofs.Keys.{none_is}

-- what is found at a key has its share in the whole
any_at_entry : (f : LineKey × Option Row → List LineKey) (test : LineKey → Bool) (key : LineKey) (change : Option Row) (es : List (LineKey × Option Row)) → find line_cmp key es ≡ Some change
    → list_any test (f (key, change)) ≡ true → list_any test (flat_map f es) ≡ true
any_at_entry f test key change [] found any = cc
any_at_entry f test key change (e ∷ es) found any =
    list_any-append test (f e) (flat_map f es) ∙ by (eq_by_cmp line_cmp key e.0) refl found (λ later. any_at_entry f test key change es later any)
  where
    by : (b : Bool) → eq_by_cmp line_cmp key e.0 ≡ b → cond b (Some e.1) (find line_cmp key es) ≡ Some change → (find line_cmp key es ≡ Some change → list_any test (flat_map f es) ≡ true)
        → (list_any test (f e) || list_any test (flat_map f es)) ≡ true
    by true same found others =
        or_left (list_any test (f e)) (list_any test (flat_map f es))
        (subst (λ (c : LineKey × Option Row). list_any test (f c) ≡ true) (λ i. (tied_same key e.0 same i, sym (same_Some e.1 change found) i)) any)
    by false other found others = or_right (list_any test (f e)) (list_any test (flat_map f es)) (others found)

-- one that a set contains is one of its keys
holder_is : (key : LineKey) (o : Option KeySet) → is_some_and (λ set. contains_key set key) o ≡ true → list_any (same_key key) (keys_held o) ≡ true
holder_is key None h = cc
holder_is key (Some set) h =
    (λ i. list_any (λ other. same_key-tied key other i) (keys set)) ∙ sym (is_some-find line_cmp key (entries set)) ∙ sym (ap is_some (get-entries set key)) ∙ h

none_there : {X : Type 0} (o : Option X) → is_some o ≡ false → o ≡ None
none_there None h = refl
none_there (Some x) h = cc

module _ (delta : Delta) (before now : Database) (made : applied delta before ≡ now) where
  stands : (key : LineKey) → get now key ≡ or_before (get delta key) (get before key)
  stands key = ap (λ (rows : Database). get rows key) (sym made) ∙ get-applied delta before key

  pub beside : (key : LineKey) → contains_key delta key ≡ false → get now key ≡ get before key
  beside key none = stands key ∙ ap (λ o. or_before o (get before key)) (none_there (get delta key) none)

  -- what a change makes is what is there
  pub made_is : (key : LineKey) (change : Option Row) → get delta key ≡ Some change → get now key ≡ change
  made_is key change at = stands key ∙ ap (λ o. or_before o (get before key)) at

  module _ (schema : Schema) (links : Links) where
    abbrev each : LineKey × Option Row → List LineKey
    each = may_dangle_by schema now links.weak

    abbrev listed : List LineKey
    listed = flat_map each (entries delta)

    by_change : (to key : LineKey) (change : Option Row) → get delta to ≡ Some change → list_any (same_key key) (each (to, change)) ≡ true → list_any (same_key key) listed ≡ true
    by_change to key change at any = any_at_entry each (same_key key) to change (entries delta) (sym (get-entries delta to) ∙ at) any

    itself : (key : LineKey) (row : Row) → dangles schema now (key, row) ≡ true → list_any (same_key key) (each (key, Some row)) ≡ true
    itself key row dangling = ap (λ b. list_any (same_key key) (if b then key ∷ [] else [])) dangling ∙ or_left (same_key key key) false (same_key-itself key)

    changed_is : (key : LineKey) (row : Row) → contains_key delta key ≡ true → get now key ≡ Some row → dangles schema now (key, row) ≡ true → list_any (same_key key) listed ≡ true
    changed_is key row so found dangling = by (get delta key) refl so
      where
        by : (o : Option (Option Row)) → get delta key ≡ o → is_some o ≡ true → list_any (same_key key) listed ≡ true
        by None at h = cc
        by (Some None) at h = absurd (none_is row (sym (made_is key None at) ∙ found))
        by (Some (Some other)) at h =
            let same : other ≡ row = same_Some other row (sym (made_is key (Some other) at) ∙ found) in
            by_change key key (Some other) at (itself key other (ap (λ r. dangles schema now (key, r)) same ∙ dangling))

    held_is : (to key : LineKey) → contains_key delta to ≡ true → get now to ≡ None → is_holder links.weak to key ≡ true → list_any (same_key key) listed ≡ true
    held_is to key so gone holds = by (get delta to) refl so
      where
        by : (o : Option (Option Row)) → get delta to ≡ o → is_some o ≡ true → list_any (same_key key) listed ≡ true
        by None at h = cc
        by (Some (Some row)) at h = absurd (none_is row (sym gone ∙ made_is to (Some row) at))
        by (Some None) at h = by_change to key None at (holder_is key (get links.weak to) holds)

    pub candidates_are : is_whole schema before ≡ true → AreLinksOf schema before links → MayDangle schema now listed
    candidates_are whole linked key row found dangling =
        by (dangles_follows schema before now (contains_key delta) beside (whole_is schema before whole).targets key row found dangling)
      where
        at : (b : Bool) → contains_key delta key ≡ b → HasGoneTarget schema before now (contains_key delta) (key, row) → list_any (same_key key) listed ≡ true
        at true so gone = changed_is key row so found dangling
        at false so gone =
            held_is gone.0 key gone.1 gone.3
            (linked.weak gone.0 key ∙ ap (is_some_and (λ r. refers_weakly schema (key, r) gone.0)) (sym (beside key so) ∙ found) ∙ gone.4)

        by : (contains_key delta key ≡ true) ⊎ HasGoneTarget schema before now (contains_key delta) (key, row) → list_any (same_key key) listed ≡ true
        by (inl so) = changed_is key row so found dangling
        by (inr gone) = at (contains_key delta key) refl gone
