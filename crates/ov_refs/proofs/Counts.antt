-- Counts in 64 bits, and the references that are counted.
use Rattle.std.proofs.Common.{◌≡◌, ◌+◌, ◌≤◌, ◌^◌, ◌-◌, ℕ, List, [], ◌∷◌, ◌++◌, map, filter, Bool, true, false, cond, ◌&&◌, ◌||◌, not, Option, Some, None, refl, sym, ap, ◌∙◌, arith}
use Rattle.std.specs.Prelude.{count_by, unwrap_or}
use Rattle.std.proofs.lemmas.List.{nil_from_length}
use Rattle.std.proofs.lemmas.List.Sums.{sum_by-append, sum_by-cons}
use Rattle.std.specs.FinMap.{find, empty, get, entries, keys, get-entries, len-empty, len-entries}
use Rattle.std.specs.List.{AllByRecursion, flat_map, list_any, sum_by}
use Rattle.ov_specs.specs.integrity.Kept.{supports}
use Rattle.ov_specs.specs.integrity.References.{Target, refers_strongly, row_references, row_targets}
use Rattle.ov_specs.specs.rows.Database.{Row, Database, same_key}
use Rattle.ov_specs.specs.rows.Lines.{LineKey, line_cmp}
use Rattle.ov_specs.specs.schema.SchemaTypes.{Schema}
use Rattle.ov_refs.specs.Counting.{hits, hits_beside, strong_count}
use Rattle.ov_specs.specs.values.Capped.{capped_to_64_bits}
use Rattle.ov_refs.specs.Holding.{KeySet}
use Rattle.ov_refs.specs.Linking.{Links, AreLinksOf}
use Rattle.ov_refs.specs.Placed.{targets_at}
use Rattle.ov_refs.proofs.RowKeys.{each_found, in_set, keys_of_rows}

-- nothing more is counted
pub in_64-last : (n : ℕ) → n ≤ 2 ^ 64 - 1 → n ≡ capped_to_64_bits (n + 0)
in_64-last n h = omega arith

-- a count is cut off before or after another is added
pub in_64-both : (n m : ℕ) → capped_to_64_bits (capped_to_64_bits n + capped_to_64_bits m) ≡ capped_to_64_bits (n + m)
in_64-both n m = omega arith

none_before : (n : ℕ) → 0 + n ≡ n
none_before n = omega arith

-- targets one after another
pub hits-append : (to : LineKey) (xs ys : List Target) → hits to (xs ++ ys) ≡ hits to xs + hits to ys
hits-append to xs ys = sum_by-append _ xs ys

-- ---- the references of rows

-- how many of the references that a row has to these targets keep a row
abbrev kept_by : LineKey → LineKey → List Target → ℕ
kept_by to from targets = count_by (supports to) (map (λ target. record { from = from; to = target }) targets)

one_kept : (a b c : Bool) → ◌≡◌ {A = ℕ} (cond (a && b && not c) 1 0) (cond c 0 (cond (a && b) 1 0))
one_kept true true true = refl
one_kept true true false = refl
one_kept true false true = refl
one_kept true false false = refl
one_kept false b true = refl
one_kept false b false = refl

none_or_both : (c : Bool) (n m : ℕ) → cond c 0 n + cond c 0 m ≡ cond c 0 (n + m)
none_or_both true n m = refl
none_or_both false n m = refl

-- all that lead to it, unless they are its own
kept_by-is : (to from : LineKey) (targets : List Target) → kept_by to from targets ≡ cond (same_key from to) 0 (hits to targets)
kept_by-is to from [] = none_of (same_key from to)
  where
    none_of : (c : Bool) → ◌≡◌ {A = ℕ} 0 (cond c 0 0)
    none_of true = refl
    none_of false = refl
kept_by-is to from (target ∷ targets) =
    sum_by-cons _ (record { from = from; to = target }) (map (λ t. record { from = from; to = t }) targets)
    ∙ (λ i. one_kept target.is_strong (same_key target.key to) (same_key from to) i + kept_by-is to from targets i)
    ∙ none_or_both (same_key from to) (cond (target.is_strong && same_key target.key to) 1 0) (hits to targets)
    ∙ ap (cond (same_key from to) 0) (sym (sum_by-cons _ target targets))

-- a row that does not refer to it has none
no_hits : (to : LineKey) (targets : List Target) → list_any (λ target. target.is_strong && same_key target.key to) targets ≡ false → hits to targets ≡ 0
no_hits to [] none = refl
no_hits to (target ∷ targets) none = sum_by-cons _ target targets ∙ by (target.is_strong && same_key target.key to) none (no_hits to targets)
  where
    by : (b : Bool) → (b || list_any (λ t. t.is_strong && same_key t.key to) targets) ≡ false → (list_any (λ t. t.is_strong && same_key t.key to) targets ≡ false → hits to targets ≡ 0) → cond b 1 0 + hits to targets ≡ 0
    by true h rest = cc
    by false h rest = none_before (hits to targets) ∙ rest h

module _ (schema : Schema) (rows : Database) (to : LineKey) where
  abbrev referring : LineKey × Row → Bool
  referring r = refers_strongly schema r to

  own-is : (r : LineKey × Row) → get rows r.0 ≡ Some r.1 → hits_beside schema rows to r.0 ≡ cond (same_key r.0 to) 0 (hits to (row_targets schema r))
  own-is r there = λ i. cond (same_key r.0 to) 0 (hits to (targets_at schema r.0 (there i)))

  -- the rows that refer to it have all references that keep it
  of_rows : (rs : List (LineKey × Row)) → AllByRecursion (λ r. get rows r.0 ≡ Some r.1) rs
      → sum_by (hits_beside schema rows to) (map (λ r. r.0) (filter referring rs)) ≡ count_by (supports to) (flat_map (row_references schema) rs)
  of_rows [] there = refl
  of_rows (r ∷ rs) there =
      by (of_rows rs there.1) (referring r) refl
      ∙ sym (sum_by-append _ (row_references schema r) (flat_map (row_references schema) rs) ∙ ap (λ n. n + count_by (supports to) (flat_map (row_references schema) rs)) (kept_by-is to r.0 (row_targets schema r)))
    where
      nothing : (c : Bool) (n : ℕ) → n ≡ 0 → ◌≡◌ {A = ℕ} 0 (cond c 0 n)
      nothing true n h = refl
      nothing false n h = sym h

      by : sum_by (hits_beside schema rows to) (map (λ r. r.0) (filter referring rs)) ≡ count_by (supports to) (flat_map (row_references schema) rs)
          → (b : Bool) → referring r ≡ b → sum_by (hits_beside schema rows to) (map (λ r. r.0) (cond (referring r) (r ∷ filter referring rs) (filter referring rs)))
          ≡ cond (same_key r.0 to) 0 (hits to (row_targets schema r)) + count_by (supports to) (flat_map (row_references schema) rs)
      by rest true is =
          ap (λ b. sum_by (hits_beside schema rows to) (map (λ r. r.0) (cond b (r ∷ filter referring rs) (filter referring rs)))) is
          ∙ sum_by-cons _ r.0 (map (λ r. r.0) (filter referring rs)) ∙ (λ i. own-is r there.0 i + rest i)
      by rest false is =
          ap (λ b. sum_by (hits_beside schema rows to) (map (λ r. r.0) (cond b (r ∷ filter referring rs) (filter referring rs)))) is
          ∙ rest ∙ sym (none_before (count_by (supports to) (flat_map (row_references schema) rs))) ∙ ap (λ n. n + count_by (supports to) (flat_map (row_references schema) rs)) (nothing (same_key r.0 to) (hits to (row_targets schema r)) (no_hits to (row_targets schema r) is))

  module _ (links : Links) (linked : AreLinksOf schema rows links) where
    -- the rows that the links list have all references that keep it
    pub count_of-holders : sum_by (hits_beside schema rows to) (keys (unwrap_or (get links.strong to) empty)) ≡ strong_count schema rows to
    count_of-holders =
        ap (sum_by (hits_beside schema rows to)) (keys_of_rows referring (unwrap_or (get links.strong to) empty) rows (λ key. in_set (get links.strong to) key ∙ linked.strong to key))
        ∙ of_rows (entries rows) (found_in_map (entries rows) (each_found rows))
      where
        found_in_map : (rs : List (LineKey × Row)) → AllByRecursion (λ r. find line_cmp r.0 (entries rows) ≡ Some r.1) rs → AllByRecursion (λ r. get rows r.0 ≡ Some r.1) rs
        found_in_map [] h = tt
        found_in_map (r ∷ rs) h = (get-entries rows r.0 ∙ h.0, found_in_map rs h.1)

    -- so have these of a set, and there are none if the row is not listed
    pub counted_in : (set : KeySet) → Some set ≡ get links.strong to → sum_by (hits_beside schema rows to) (keys set) ≡ strong_count schema rows to
    counted_in set listed = ap (λ o. sum_by (hits_beside schema rows to) (keys (unwrap_or o empty))) listed ∙ count_of-holders

    pub counted_none : None ≡ get links.strong to → 0 ≡ strong_count schema rows to
    counted_none unlisted =
        ap (λ (es : List (LineKey × Unit {0})). sum_by (hits_beside schema rows to) (map (λ e. e.0) es)) (sym no_entries)
        ∙ ap (λ (o : Option KeySet). sum_by (hits_beside schema rows to) (keys (unwrap_or o empty))) unlisted ∙ count_of-holders
      where
        no_entries : entries (empty {X = Unit {0}} {R = line_cmp}) ≡ []
        no_entries = nil_from_length (entries (empty {X = Unit {0}} {R = line_cmp})) (sym (len-entries (empty {X = Unit {0}} {R = line_cmp})) ∙ len-empty line_cmp (Unit {0}))
