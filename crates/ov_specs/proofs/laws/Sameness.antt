-- Values and columns that are the same are those that tie; so a row that is as before keeps its version.
use Rattle.std.proofs.Common.{◌≡◌, ℕ, List, true, ◌&&◌, Some, None, refl, ap, ◌∙◌, Ordering}
use Rattle.std.specs.Cmp.{IsTotalOrder, on_total, then_total, both_tied, eq_by_cmp_equiv}
use Rattle.std.specs.Cmp.Lexicographic.{slice_cmp, lists_ties, lists_total, nat_list_cmp_total, texts_ties}
use Rattle.std.specs.FinMap.{get, keys, entries}
use Rattle.std.specs.Ordering.{nat_cmp, eq_by_cmp, ordering_then}
use Rattle.std.specs.Str.{bytes_eq}
use Rattle.ov_specs.specs.rows.Database.{Columns, Row, Database, same_pair, same_datum, same_columns}
use Rattle.ov_specs.specs.rows.Lines.{LineKey}
use Rattle.ov_specs.specs.rows.Version.{version_over, row_now}
use Rattle.ov_specs.specs.values.Uuid.{Uuid}
use Rattle.ov_specs.specs.values.Value.{Atom, atom_cmp, pair_cmp, Datum, Atoms, Pairs, datum_cmp}
use Rattle.ov_specs.proofs.laws.DatumOrder.{datum_cmp_total}

pair-tied : (p q : Atom × Atom) → same_pair p q ≡ eq_by_cmp pair_cmp p q
pair-tied p q = both_tied _ _ (atom_cmp p.0 q.0) (atom_cmp p.1 q.1) refl refl

pub datum-tied : (a b : Datum) → same_datum a b ≡ eq_by_cmp datum_cmp a b
datum-tied (Atoms a) (Atoms b) = lists_ties atom_cmp (λ x y. refl) (keys a) (keys b)
datum-tied (Pairs a) (Pairs b) = lists_ties pair_cmp pair-tied (entries a) (entries b)
datum-tied (Atoms a) (Pairs b) = refl
datum-tied (Pairs a) (Atoms b) = refl

-- columns in order: by their names, then by their values
abbrev pub column_cmp : List ℕ × Datum → List ℕ × Datum → Ordering
column_cmp c d = ordering_then (slice_cmp nat_cmp c.0 d.0) (datum_cmp c.1 d.1)

pub column_cmp_total : IsTotalOrder column_cmp
column_cmp_total = then_total (on_total (λ (c : List ℕ × Datum). c.0) nat_list_cmp_total) (on_total (λ (c : List ℕ × Datum). c.1) datum_cmp_total)

column-tied : (c d : List ℕ × Datum) → (bytes_eq c.0 d.0 && same_datum c.1 d.1) ≡ eq_by_cmp column_cmp c d
column-tied c d = both_tied _ _ (slice_cmp nat_cmp c.0 d.0) (datum_cmp c.1 d.1) (texts_ties c.0 d.0) (datum-tied c.1 d.1)

pub columns-tied : (a b : List (List ℕ × Datum)) → same_columns a b ≡ eq_by_cmp (slice_cmp column_cmp) a b
columns-tied = lists_ties column_cmp column-tied

pub columns-same : (columns : List (List ℕ × Datum)) → same_columns columns columns ≡ true
columns-same columns = columns-tied columns columns ∙ (eq_by_cmp_equiv (lists_total column_cmp_total)).refl columns

-- a row that has the columns that it had before the transaction has its former version
pub row_now-former : (before : Database) (version : Uuid) (key : LineKey) (row : Row) → get before key ≡ Some row → row_now before version key row.columns ≡ row
row_now-former before version key row is =
    let with : Uuid → Row = λ v. record { version = v; columns = row.columns } in
    ap with (ap (λ o. version_over o version row.columns) is ∙ by)
  where
    by : version_over (Some row) version row.columns ≡ row.version
    by = rw (columns-same (entries row.columns)) refl

-- a row that was not there has the transaction's version
pub row_now-new : (before : Database) (version : Uuid) (key : LineKey) (columns : Columns) → get before key ≡ None → row_now before version key columns ≡ record { version = version; columns = columns }
row_now-new before version key columns is = ap (λ o. record { version = version_over o version columns; columns = columns }) is
