-- The rows that others refer to strongly, and those that lack support.
use Rattle.std.proofs.Common.{◌≡◌, ℕ, zero, suc, List, [], ◌∷◌, ◌++◌, map, filter, flat_map, length, Bool, true, false, cond, ◌&&◌, ◌||◌, not, Option, Some, None, is_some, refl, sym, ap, ◌∙◌}
use Rattle.std.proofs.lemmas.Bool.{and_parts}
use Rattle.std.specs.FinMap.{empty, get, insert, entries, keys, contains_key, get-empty, get-insert, len-entries}
use Rattle.std.specs.List.{list_any}
use Rattle.std.specs.Ordering.{eq_by_cmp}
use Rattle.ov_refs.specs.Holding.{KeySet}
use Rattle.ov_specs.specs.integrity.Kept.{supports, is_in_root_table, is_supported, unsupported, kept_after, kept}
use Rattle.ov_specs.specs.integrity.References.{Target, RowReference, row_references, references}
use Rattle.ov_specs.specs.operations.MatchingRows.{without_rows}
use Rattle.ov_specs.specs.rows.Database.{Row, Database, same_key}
use Rattle.ov_specs.specs.rows.Lines.{LineKey, line_cmp}
use Rattle.ov_specs.specs.schema.SchemaTypes.{Schema}
use Rattle.ov_specs.proofs.laws.FoundRows.{EachRow}
use Rattle.ov_specs.proofs.laws.LineKeys.{key_total, same_key-tied, tied_same, same_tied}
use Rattle.ov_specs.proofs.laws.Truths.{or_nothing, was_not}
use Rattle.ov_carried.proofs.Made.{each_row}
use Rattle.ov_conversion.specs.Support.{Supports, is_of_other, references_of, references_at}

-- these targets, as references of the row of this key
abbrev pub referred : LineKey → List Target → List RowReference
referred from targets = map (λ target. record { from = from; to = target }) targets

contains-insert : (held : KeySet) (to key : LineKey) → contains_key (insert held to tt) key ≡ (contains_key held key || eq_by_cmp line_cmp key to)
contains-insert held to key = ap is_some (get-insert key_total held to tt key) ∙ by (eq_by_cmp line_cmp key to) (get held key)
  where
    by : (b : Bool) (o : Option (Unit {0})) → is_some (cond b (Some tt) o) ≡ (is_some o || b)
    by true None = refl
    by true (Some u) = refl
    by false None = refl
    by false (Some u) = refl

turned : (a b : LineKey) → eq_by_cmp line_cmp a b ≡ eq_by_cmp line_cmp b a
turned a b = by (eq_by_cmp line_cmp a b) (eq_by_cmp line_cmp b a) refl refl
  where
    by : (x y : Bool) → eq_by_cmp line_cmp a b ≡ x → eq_by_cmp line_cmp b a ≡ y → eq_by_cmp line_cmp a b ≡ eq_by_cmp line_cmp b a
    by true y is other = is ∙ sym (same_tied b a (sym (tied_same a b is)))
    by false true is other = same_tied a b (sym (tied_same b a other)) ∙ sym other
    by false false is other = is ∙ sym other

-- a strong reference to a different row
pub one_more : (held : KeySet) (from : LineKey) (target : Target) → is_of_other from target ≡ true → Supports held (record { from = from; to = target } ∷ []) (insert held target.key tt)
one_more held from target is key = contains-insert held target.key key ∙ ap (λ b. contains_key held key || b) (by (eq_by_cmp line_cmp key target.key) refl)
  where
    strong : target.is_strong ≡ true
    strong = (and_parts target.is_strong (not (eq_by_cmp line_cmp target.key from)) is).0

    differ : eq_by_cmp line_cmp target.key from ≡ false
    differ = was_not (eq_by_cmp line_cmp target.key from) (and_parts target.is_strong (not (eq_by_cmp line_cmp target.key from)) is).1

    by : (b : Bool) → eq_by_cmp line_cmp key target.key ≡ b → eq_by_cmp line_cmp key target.key ≡ (supports key (record { from = from; to = target }) || false)
    by true same =
        same ∙ sym (or_nothing (supports key (record { from = from; to = target }))
        ∙ (λ i. strong i && (same_key-tied target.key key ∙ turned target.key key ∙ same) i && not ((same_key-tied from key ∙ ap (eq_by_cmp line_cmp from) (tied_same key target.key same) ∙ turned from target.key ∙ differ) i)))
    by false other =
        other ∙ sym (or_nothing (supports key (record { from = from; to = target }))
        ∙ (λ i. strong i && (same_key-tied target.key key ∙ turned target.key key ∙ other) i && not (same_key from key)))

-- a reference that is weak, or to the row itself
pub no_more : (held : KeySet) (from : LineKey) (target : Target) → is_of_other from target ≡ false → Supports held (record { from = from; to = target } ∷ []) held
no_more held from target none key = sym (ap (λ b. contains_key held key || b) (or_nothing (supports key (record { from = from; to = target })) ∙ not_so) ∙ or_nothing (contains_key held key))
  where
    not_so : supports key (record { from = from; to = target }) ≡ false
    not_so = by target.is_strong refl (same_key target.key key) refl none
      where
        by : (s : Bool) → target.is_strong ≡ s → (b : Bool) → same_key target.key key ≡ b → (s && not (eq_by_cmp line_cmp target.key from)) ≡ false → (s && b && not (same_key from key)) ≡ false
        by false weak b is h = refl
        by true strong false is h = refl
        by true strong true is h =
            let same : key ≡ target.key = sym (tied_same target.key key (sym (same_key-tied target.key key) ∙ is)) in
            ap not (same_key-tied from key ∙ ap (eq_by_cmp line_cmp from) same ∙ turned from target.key) ∙ h

-- ---- rows that lack support

abbrev pub lacks_support : Schema → KeySet → LineKey → Bool
lacks_support schema held key = not (is_in_root_table schema key) && not (contains_key held key)

references_each : (schema : Schema) (rows : Database) (rs : List (LineKey × Row)) → EachRow (λ key row. get rows key ≡ Some row) rs
    → flat_map (references_at schema rows) (map (λ r. r.0) rs) ≡ flat_map (row_references schema) rs
references_each schema rows [] each = refl
references_each schema rows (r ∷ rs) each = λ i. references_of schema r.0 (each.0 i) ++ references_each schema rows rs each.1 i

-- the references of the rows of all keys are all references
references-is : (schema : Schema) (rows : Database) → flat_map (references_at schema rows) (keys rows) ≡ references schema rows
references-is schema rows = references_each schema rows (entries rows) (each_row rows)

filter_keys : (test : LineKey → Bool) (rs : List (LineKey × Row)) → filter test (map (λ r. r.0) rs) ≡ map (λ r. r.0) (filter (λ r. test r.0) rs)
filter_keys test [] = refl
filter_keys test (r ∷ rs) = by (test r.0) (filter_keys test rs)
  where
    by : (b : Bool) → filter test (map (λ x. x.0) rs) ≡ map (λ x. x.0) (filter (λ x. test x.0) rs)
        → cond b (r.0 ∷ filter test (map (λ x. x.0) rs)) (filter test (map (λ x. x.0) rs)) ≡ map (λ x. x.0) (cond b (r ∷ filter (λ x. test x.0) rs) (filter (λ x. test x.0) rs))
    by true rest = ap (λ ks. r.0 ∷ ks) rest
    by false rest = rest

same_filter : (a b : LineKey → Bool) → ((key : LineKey) → a key ≡ b key) → (ks : List LineKey) → filter a ks ≡ filter b ks
same_filter a b same [] = refl
same_filter a b same (key ∷ ks) = λ i. cond (same key i) (key ∷ same_filter a b same ks i) (same_filter a b same ks i)

-- the rows that the references of all rows do not support
pub unsupported-is : (schema : Schema) (rows : Database) (ks : List LineKey) (held : KeySet) → ks ≡ keys rows → Supports empty (flat_map (references_at schema rows) ks) held
    → filter (lacks_support schema held) ks ≡ unsupported schema rows
unsupported-is schema rows ks held are supported =
    same_filter (lacks_support schema held) (λ key. not (is_supported schema rows key)) same ks
    ∙ ap (filter (λ key. not (is_supported schema rows key))) are ∙ filter_keys (λ key. not (is_supported schema rows key)) (entries rows)
  where
    neither : (a b : Bool) → (not a && not b) ≡ not (a || b)
    neither true b = refl
    neither false b = refl

    is_held : (key : LineKey) → contains_key held key ≡ list_any (supports key) (references schema rows)
    is_held key =
        supported key ∙ ap (λ b. b || list_any (supports key) (flat_map (references_at schema rows) ks)) (ap is_some (get-empty line_cmp key))
        ∙ ap (list_any (supports key)) (ap (flat_map (references_at schema rows)) are ∙ references-is schema rows)

    same : (key : LineKey) → lacks_support schema held key ≡ not (is_supported schema rows key)
    same key = ap (λ b. not (is_in_root_table schema key) && not b) (is_held key) ∙ neither (is_in_root_table schema key) (list_any (supports key) (references schema rows))

-- ---- turns

-- where none lacks support, more turns change nothing
pub none_goes : (n : ℕ) (schema : Schema) (rows : Database) → unsupported schema rows ≡ [] → kept_after n schema rows ≡ rows
none_goes zero schema rows none = refl
none_goes (suc n) schema rows none = ap (λ ks. kept_after n schema (without_rows ks rows)) none ∙ none_goes n schema rows none

len-map : (rs : List (LineKey × Row)) → length (map (λ r. r.0) rs) ≡ length rs
len-map [] = refl
len-map (r ∷ rs) = ap suc (len-map rs)

-- there are as many turns as rows
pub all_turns : (schema : Schema) (rows : Database) (ks : List LineKey) → ks ≡ keys rows → kept_after (length ks) schema rows ≡ kept schema rows
all_turns schema rows ks are = ap (λ n. kept_after n schema rows) (ap length are ∙ len-map (entries rows) ∙ sym (len-entries rows))
