-- Tables of the code as their rows, or what belongs to each of them, by their keys, and what a change of one table does to them.
use Rattle.std.proofs.Common.{◌≡◌, ℕ, List, Bool, true, false, cond, T, Option, Some, None, refl, sym, ap, ◌∙◌, String, string_bytes, Global, Ordering, Less, Equal, Greater}
use Rattle.std.specs.Prelude.{option_and_then, Result, Ok, Err, OnOk, OnErr}
use Rattle.std.specs.BTreeMap.{is_at}
use Rattle.std.specs.Cmp.{eq_by_cmp_equiv}
use Rattle.std.specs.Cmp.Lexicographic.{slice_cmp, texts_ties, same_text}
use Rattle.std.specs.FinMap.{empty, is_sorted, get, insert, remove, entries, get-empty, get-insert, get-remove, same_map}
use Rattle.std.specs.List.{filter}
use Rattle.std.specs.Map.{lookup}
use Rattle.std.specs.Ordering.{nat_cmp, eq_by_cmp, is_eq, ordering_then}
use Rattle.std.specs.Str.{bytes_eq}
use Rattle.ov_specs.specs.rows.Lines.{LineKey, line_cmp}
use Rattle.ov_specs.specs.schema.SchemaTypes.{name_cmp}
use Rattle.ov_specs.specs.values.Uuid.{Uuid}
use Rattle.ov_specs.proofs.laws.LineKeys.{key_exact, key_total}
use Rattle.ov_specs.proofs.laws.Names.{name_cmp_total, name_exact}
use Rattle.ov_rows.specs.Named.{named}
use Rattle.ov_rows.specs.Nested.{OfTable, id_cmp, rows_in, all_rows}
use Rattle.ov_rows.specs.Resident.{nested_of}
use Rattle.ov_rows.proofs.Names.{find-named}
use Rattle.ov_rows.proofs.Nesting.{get_nested, entries_nested, filter_nested}

abbrev pub Tables : Type 0 → Type 0
Tables V = List (String Global × OfTable V)

module _ {V : Type 0} where
  -- the table of this name
  abbrev pub table_at : List ℕ → Tables V → Option (OfTable V)
  table_at name ts = lookup (is_at (λ k. slice_cmp nat_cmp name (string_bytes k))) ts

  pub get-nested_of : (ts : Tables V) (q : LineKey) → T (is_sorted name_cmp (named ts)) → get (nested_of ts) q ≡ option_and_then (λ t. get t q.1) (table_at q.0 ts)
  get-nested_of ts q h = get_nested (named ts) q h ∙ ap (option_and_then (λ (t : OfTable V). get t q.1)) (find-named q.0 ts)

  pub entries-nested_of : (ts : Tables V) → T (is_sorted name_cmp (named ts)) → entries (nested_of ts) ≡ all_rows (named ts)
  entries-nested_of ts h = entries_nested (named ts) h

  -- the rows of the table of this name
  pub filter-nested_of : (ts : Tables V) (name : List ℕ) → T (is_sorted name_cmp (named ts)) → rows_in name (table_at name ts) ≡ filter (λ r. bytes_eq r.0.0 name) (entries (nested_of ts))
  filter-nested_of ts name h = sym (ap (filter (λ r. bytes_eq r.0.0 name)) (entries-nested_of ts h) ∙ filter_nested name (named ts) h ∙ ap (rows_in name) (find-named name ts))

  -- ---- a change of one table

  -- the table of this name is another, and no other table is
  abbrev pub PutsTable : Tables V → Tables V → List ℕ → OfTable V → Type 0
  PutsTable ts ts' name new = (cs : List ℕ) → table_at cs ts' ≡ cond (bytes_eq name cs) (Some new) (table_at cs ts)

  -- the rows of a table, if there is one, with this change of one of them
  abbrev pub ChangesRow : Option (OfTable V) → OfTable V → Uuid → Option V → Type 0
  ChangesRow old new id change = (q : Uuid) → get new q ≡ cond (eq_by_cmp id_cmp q id) change (option_and_then (λ t. get t q) old)

  -- a row is put, put alone, or taken out
  pub row-put : (o : Option (OfTable V)) (old new : OfTable V) (id : Uuid) (row : V) → Some old ≡ o → new ≡ insert old id row → ChangesRow o new id (Some row)
  row-put o old new id row is h q =
      ap (λ (t : OfTable V). get t q) h ∙ get-insert name_cmp_total old id row q ∙ ap (λ p. cond (eq_by_cmp id_cmp q id) (Some row) (option_and_then (λ (t : OfTable V). get t q) p)) is

  pub row-first : (o : Option (OfTable V)) (new : OfTable V) (id : Uuid) (row : V) → None ≡ o → new ≡ insert empty id row → ChangesRow o new id (Some row)
  row-first o new id row is h q =
      ap (λ (t : OfTable V). get t q) h ∙ get-insert name_cmp_total empty id row q ∙ ap (cond (eq_by_cmp id_cmp q id) (Some row)) (get-empty id_cmp q)
      ∙ ap (λ p. cond (eq_by_cmp id_cmp q id) (Some row) (option_and_then (λ (t : OfTable V). get t q) p)) is

  pub row-out : (o : Option (OfTable V)) (old new : OfTable V) (id : Uuid) → Some old ≡ o → new ≡ remove old id → ChangesRow o new id None
  row-out o old new id is h q =
      ap (λ (t : OfTable V). get t q) h ∙ get-remove name_cmp_total old id q ∙ ap (λ p. cond (eq_by_cmp id_cmp q id) None (option_and_then (λ (t : OfTable V). get t q) p)) is

  module _ (ts ts' : Tables V) (name : List ℕ) (id : Uuid) (new : OfTable V) (change : Option V) (h : T (is_sorted name_cmp (named ts))) (h' : T (is_sorted name_cmp (named ts'))) (puts : PutsTable ts ts' name new)
      (changes : ChangesRow (table_at name ts) new id change) where
    get-changed : (q : LineKey) → get (nested_of ts') q ≡ cond (eq_by_cmp line_cmp q (name, id)) change (get (nested_of ts) q)
    get-changed q =
        get-nested_of ts' q h' ∙ ap (option_and_then (λ (t : OfTable V). get t q.1)) (puts q.0)
        ∙ ap (λ b. option_and_then (λ (t : OfTable V). get t q.1) (cond b (Some new) (table_at q.0 ts))) (texts_ties name q.0 ∙ (eq_by_cmp_equiv name_cmp_total).symm name q.0)
        ∙ by (name_cmp q.0 name) refl ∙ ap (cond (eq_by_cmp line_cmp q (name, id)) change) (sym (get-nested_of ts q h))
      where
        by : (o : Ordering) → name_cmp q.0 name ≡ o → option_and_then (λ (t : OfTable V). get t q.1) (cond (is_eq (name_cmp q.0 name)) (Some new) (table_at q.0 ts))
            ≡ cond (is_eq (ordering_then (name_cmp q.0 name) (id_cmp q.1 id))) change (option_and_then (λ (t : OfTable V). get t q.1) (table_at q.0 ts))
        by Less is = rw is refl
        by Greater is = rw is refl
        by Equal is = rw is (changes q.1 ∙ ap (λ n. cond (is_eq (id_cmp q.1 id)) change (option_and_then (λ (t : OfTable V). get t q.1) (table_at n ts))) (sym (name_exact q.0 name is)))

  module _ (ts ts' : Tables V) (name : List ℕ) (id : Uuid) (new : OfTable V) (h : T (is_sorted name_cmp (named ts))) (h' : T (is_sorted name_cmp (named ts'))) (puts : PutsTable ts ts' name new) where
    -- a row is put into one table
    pub nested_of-insert : (row : V) → ChangesRow (table_at name ts) new id (Some row) → nested_of ts' ≡ insert (nested_of ts) (name, id) row
    nested_of-insert row changes = same_map key_total key_exact _ _ (λ q. get-changed ts ts' name id new (Some row) h h' puts changes q ∙ sym (get-insert key_total (nested_of ts) (name, id) row q))

    -- a row is taken out of one table
    pub nested_of-remove : ChangesRow (table_at name ts) new id None → nested_of ts' ≡ remove (nested_of ts) (name, id)
    nested_of-remove changes = same_map key_total key_exact _ _ (λ q. get-changed ts ts' name id new None h h' puts changes q ∙ sym (get-remove key_total (nested_of ts) (name, id) q))

  -- there is nothing to take out if there is no such table
  pub nested_of-without : (ts : Tables V) (name : List ℕ) (id : Uuid) → T (is_sorted name_cmp (named ts)) → table_at name ts ≡ None → nested_of ts ≡ remove (nested_of ts) (name, id)
  nested_of-without ts name id h none = same_map key_total key_exact _ _ (λ q. get-nested_of ts q h ∙ by q (name_cmp q.0 name) refl ∙ sym (get-remove key_total (nested_of ts) (name, id) q ∙ ap (cond (eq_by_cmp line_cmp q (name, id)) None) (get-nested_of ts q h)))
    where
      by : (q : LineKey) (o : Ordering) → name_cmp q.0 name ≡ o → option_and_then (λ (t : OfTable V). get t q.1) (table_at q.0 ts)
          ≡ cond (is_eq (ordering_then (name_cmp q.0 name) (id_cmp q.1 id))) None (option_and_then (λ (t : OfTable V). get t q.1) (table_at q.0 ts))
      by q Less is = rw is refl
      by q Greater is = rw is refl
      by q Equal is =
          let nothing = ap (λ n. option_and_then (λ (t : OfTable V). get t q.1) (table_at n ts)) (name_exact q.0 name is) ∙ ap (option_and_then (λ (t : OfTable V). get t q.1)) none in
          nothing ∙ sym (ap (cond (is_eq (ordering_then (name_cmp q.0 name) (id_cmp q.1 id))) None) nothing ∙ both (is_eq (ordering_then (name_cmp q.0 name) (id_cmp q.1 id))))
        where
          both : (b : Bool) → cond {A = Option V} b None None ≡ None
          both true = refl
          both false = refl

  -- a table that is put back as it was
  pub nested_of-same : (ts ts' : Tables V) (name : List ℕ) (old new : OfTable V) → T (is_sorted name_cmp (named ts)) → T (is_sorted name_cmp (named ts')) → PutsTable ts ts' name new → Some old ≡ table_at name ts → new ≡ old
      → nested_of ts' ≡ nested_of ts
  nested_of-same ts ts' name old new h h' puts is same = same_map key_total key_exact _ _ (λ q.
      get-nested_of ts' q h' ∙ ap (option_and_then (λ (t : OfTable V). get t q.1)) (puts q.0 ∙ by q (bytes_eq name q.0) refl) ∙ sym (get-nested_of ts q h))
    where
      by : (q : LineKey) (b : Bool) → bytes_eq name q.0 ≡ b → cond (bytes_eq name q.0) (Some new) (table_at q.0 ts) ≡ table_at q.0 ts
      by q false e = rw e refl
      by q true e = rw e (ap (λ t. Some t) same ∙ is ∙ ap (λ n. table_at n ts) (same_text name q.0 (sym e)))

-- ---- what was asked, and what came of it

pub on_err : {A E : Type 0} (r : Result A E) (P : Type 0) → P → OnErr r P
on_err (Ok a) P p = tt
on_err (Err e) P p = p

pub ok_gives : {A E : Type 0} (r : Result A E) (P Q : Type 0) → (P → Q) → OnOk r P → OnOk r Q
ok_gives (Ok a) P Q f p = f p
ok_gives (Err e) P Q f p = tt

pub err_gives : {A E : Type 0} (r : Result A E) (P Q : Type 0) → (P → Q) → OnErr r P → OnErr r Q
err_gives (Ok a) P Q f p = tt
err_gives (Err e) P Q f p = f p
