-- Values that are put in their places, one after another or one alone.
use Rattle.std.proofs.Common.{◌≡◌, ◌<◌, ◌+◌, ℕ, zero, suc, ◌&&◌, List, [], ◌∷◌, ◌++◌, map, length, take, get_or, zip, String, string_bytes, Global, append_assoc, arith, Bool, true, false, cond, T, Option, Some, refl, sym, ap, subst, ◌∙◌}
use Rattle.std.specs.Cmp.Lexicographic.{same_text}
use Rattle.std.specs.FinMap.{find, is_sorted, empty, insert, entries, entries_sorted, get-empty, get-entries, get-insert, same_map, get-from_sorted}
use Rattle.std.specs.FinMap.Entries.{below_all}
use Rattle.std.specs.List.{slice_set}
use Rattle.std.specs.Option.{option_or}
use Rattle.std.specs.Ordering.{is_lt}
use Rattle.std.specs.Str.{bytes_eq}
use Rattle.std.proofs.Math.ListN.{length-set}
use Rattle.std.proofs.lemmas.List.{take_more, map-append}
use Rattle.std.proofs.lemmas.Map.Text.{is_eq-slice_cmp}
use Rattle.std.proofs.lemmas.Option.{same_Some}
use Rattle.ov_specs.specs.operations.GivenRow.{with_values}
use Rattle.ov_specs.specs.rows.Database.{Columns}
use Rattle.ov_specs.specs.schema.SchemaTypes.{name_cmp}
use Rattle.ov_specs.specs.values.Value.{Datum}
use Rattle.ov_specs.proofs.laws.Names.{name_cmp_total, name_exact, same_name, same_name-is}
use Rattle.ov_specs.proofs.laws.PutValues.{option_or-none, get-with_values}
use Rattle.ov_rows.specs.Named.{columns_at, place_from, IsListed}

-- ---- one after another

-- all values of a row, added to none, are the row's
pub with_values-all : (columns : Columns) → with_values (entries columns) empty ≡ columns
with_values-all columns = same_map name_cmp_total name_exact _ _ (λ name.
    get-with_values (entries columns) empty name (entries_sorted columns)
    ∙ (ap (option_or (find name_cmp name (entries columns))) (get-empty name_cmp name)
    ∙ (option_or-none (find name_cmp name (entries columns)) ∙ sym (get-entries columns name))))

-- ---- one alone

shadowed : {A : Type 0} (b : Bool) (x y z : A) → cond b x z ≡ cond b x (cond b y z)
shadowed true x y z = refl
shadowed false x y z = refl

tied_is : (a b : List ℕ) (t : Bool) → bytes_eq a b ≡ t → same_name a b ≡ t
tied_is a b t h = is_eq-slice_cmp a b ∙ h

no : {b : Bool} → b ≡ true → b ≡ false → ⊥
no h k = cc

-- two names that differ, looked for one after the other
in_turn : (q name other : List ℕ) (x y z : Option Datum) → same_name name other ≡ false → cond (same_name q other) y (cond (same_name q name) x z) ≡ cond (same_name q name) x (cond (same_name q other) y z)
in_turn q name other x y z apart = by (same_name q name) (same_name q other) refl refl
  where
    by : (a b : Bool) → same_name q name ≡ a → same_name q other ≡ b → cond b y (cond a x z) ≡ cond a x (cond b y z)
    by true true is is_other = absurd (no (sym (ap (λ n. same_name n other) (same_name-is q name is)) ∙ is_other) apart)
    by true false is is_other = refl
    by false b is is_other = refl

-- the place of a name, counted from a given one: it is within the values, and the value there is the name's
pub record IsPlace (names : List (List ℕ)) (values : List Datum) (name : List ℕ) (datum : Datum) (i : ℕ) : Type 0 where
  pub within : i < length values
  pub value : (q : List ℕ) → find name_cmp q (zip names (slice_set values i datum)) ≡ cond (same_name q name) (Some datum) (find name_cmp q (zip names values))

pub place_is : (names : List (List ℕ)) (values : List Datum) (name : List ℕ) (datum : Datum) (from place : ℕ) → length values ≡ length names → place_from from name names ≡ Some place
    → (i : ℕ) × (place ≡ from + i) × IsPlace names values name datum i
place_is [] values name datum from place same h = cc
place_is (known ∷ names) [] name datum from place same h = absurd (omega arith)
place_is (known ∷ names) (v ∷ values) name datum from place same h = by (bytes_eq name known) refl (λ found. place_is names values name datum (from + 1) place (omega arith) found) h
  where
    by : (b : Bool) → bytes_eq name known ≡ b → (place_from (from + 1) name names ≡ Some place → (i : ℕ) × (place ≡ (from + 1) + i) × IsPlace names values name datum i)
        → cond b (Some from) (place_from (from + 1) name names) ≡ Some place → (i : ℕ) × (place ≡ from + i) × IsPlace (known ∷ names) (v ∷ values) name datum i
    by true is later found =
        let at : from ≡ place = same_Some from place found in (
          0,
          omega arith,
          record {
            within = omega arith;
            value = λ q. subst (λ n. cond (same_name q known) (Some datum) (find name_cmp q (zip names values)) ≡ cond (same_name q n) (Some datum) (cond (same_name q known) (Some v) (find name_cmp q (zip names values)))) (sym (same_text name known (sym is))) (shadowed (same_name q known) (Some datum) (Some v) (find name_cmp q (zip names values)));
          },
        )
    by false is later found =
        let rest = later found in
        let within : rest.0 < length values = rest.2.within in
        let at : place ≡ (from + 1) + rest.0 = rest.1 in (
          suc rest.0,
          omega arith,
          record {
            within = omega arith;
            value = λ q. ap (cond (same_name q known) (Some v)) (rest.2.value q) ∙ in_turn q name known (Some datum) (Some v) (find name_cmp q (zip names values)) (tied_is name known false is);
          },
        )

-- the names are in order whatever their values are
below-set : (name : List ℕ) (names : List (List ℕ)) (values : List Datum) (i : ℕ) (datum : Datum) → below_all name_cmp name (zip names (slice_set values i datum)) ≡ below_all name_cmp name (zip names values)
below-set name [] values i datum = refl
below-set name (known ∷ names) [] i datum = refl
below-set name (known ∷ names) (v ∷ values) zero datum = refl
below-set name (known ∷ names) (v ∷ values) (suc i) datum = ap (λ b. is_lt (name_cmp name known) && b) (below-set name names values i datum)

pub sorted-set : (names : List (List ℕ)) (values : List Datum) (i : ℕ) (datum : Datum) → is_sorted name_cmp (zip names (slice_set values i datum)) ≡ is_sorted name_cmp (zip names values)
sorted-set [] values i datum = refl
sorted-set (known ∷ names) [] i datum = refl
sorted-set (known ∷ names) (v ∷ values) zero datum = refl
sorted-set (known ∷ names) (v ∷ values) (suc i) datum = λ j. below-set known names values i datum j && sorted-set names values i datum j

-- values in which one is put at the place of its name
module _ (names : List (List ℕ)) (values : List Datum) (name : List ℕ) (datum : Datum) (place : ℕ) (same : length values ≡ length names) (at : place_from 0 name names ≡ Some place) where
  there : IsPlace names values name datum place
  there =
      let found = place_is names values name datum 0 place same at in
      let is : place ≡ 0 + found.0 = found.1 in
      let at : found.0 ≡ place = omega arith in
      subst (IsPlace names values name datum) at found.2

  pub place-within : place < length values
  place-within = there.within

  pub set-invariant : T (is_sorted name_cmp (zip names values)) → IsListed names (slice_set values place datum)
  set-invariant h = (subst T (sym (sorted-set names values place datum)) h, length-set values place datum ∙ same)

  -- it is in the column of the name
  pub columns_at-set : T (is_sorted name_cmp (zip names values)) → columns_at names (slice_set values place datum) ≡ insert (columns_at names values) name datum
  columns_at-set h = same_map name_cmp_total name_exact _ _ (λ q.
      get-from_sorted name_cmp (zip names (slice_set values place datum)) q (set-invariant h).0
      ∙ (there.value q ∙ sym (get-insert name_cmp_total (columns_at names values) name datum q ∙ ap (cond (same_name q name) (Some datum)) (get-from_sorted name_cmp (zip names values) q h))))

-- one name more, which is the one at its place
pub names-more : (listed : List (String Global)) (place : ℕ) (known : String Global) (name : List ℕ) (rest : List (List ℕ)) → place < length listed → known ≡ get_or listed place known → name ≡ string_bytes known
    → map string_bytes (take (place + 1) listed) ++ rest ≡ map string_bytes (take place listed) ++ name ∷ rest
names-more listed place known name rest within at is =
    ap (λ names. map string_bytes names ++ rest) (take_more listed place known within ∙ ap (λ k. take place listed ++ k ∷ []) (sym at))
    ∙ (ap (λ names. names ++ rest) (map-append string_bytes (take place listed) (known ∷ []))
    ∙ (append_assoc (map string_bytes (take place listed)) (string_bytes known ∷ []) rest ∙ ap (λ n. map string_bytes (take place listed) ++ n ∷ rest) (sym is)))
