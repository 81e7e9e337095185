-- Two databases are one where they have the same rows, and only where they have as many.
use Rattle.std.proofs.Common.{◌≡◌, ℕ, List, [], ◌∷◌, length, Bool, true, ◌&&◌, refl, arith, nat_eq}
use Rattle.std.specs.Cmp.{eq_by_cmp_equiv, nat_eq_equiv}
use Rattle.std.specs.Cmp.Lexicographic.{pointwise}
use Rattle.std.specs.FinMap.{entries, keys}
use Rattle.std.proofs.lemmas.Bool.{and_parts, and_from}
use Rattle.ov_specs.specs.rows.Database.{Database, Row, same_atom, same_pair, same_datum, same_columns, same_row, same_key, same_database}
use Rattle.ov_specs.specs.rows.Lines.{LineKey}
use Rattle.std.specs.Str.{bytes_eq}
use Rattle.ov_specs.specs.values.Value.{Atom, Datum, Atoms, Pairs}
use Rattle.ov_specs.proofs.laws.Order.{atom_cmp_total}

pointwise-same : {A : Type 0} (f : A → A → Bool) → ((a : A) → f a a ≡ true) → (xs : List A) → pointwise f xs xs ≡ true
pointwise-same f h [] = refl
pointwise-same f h (x ∷ xs) = and_from (f x x) (pointwise f xs xs) (h x) (pointwise-same f h xs)

pointwise-length : {A : Type 0} (f : A → A → Bool) (xs ys : List A) → pointwise f xs ys ≡ true → length xs ≡ length ys
pointwise-length f [] [] h = refl
pointwise-length f [] (y ∷ ys) h = cc
pointwise-length f (x ∷ xs) [] h = cc
pointwise-length f (x ∷ xs) (y ∷ ys) h =
    let rest = pointwise-length f xs ys (and_parts (f x y) (pointwise f xs ys) h).1 in
    omega (arith, rest)

number-same : (n : ℕ) → nat_eq n n ≡ true
number-same n = nat_eq_equiv.refl n

pub text-same : (bytes : List ℕ) → bytes_eq bytes bytes ≡ true
text-same bytes = pointwise-same nat_eq number-same bytes

atom-same : (a : Atom) → same_atom a a ≡ true
atom-same a = (eq_by_cmp_equiv atom_cmp_total).refl a

pair-same : (p : Atom × Atom) → same_pair p p ≡ true
pair-same p = and_from (same_atom p.0 p.0) (same_atom p.1 p.1) (atom-same p.0) (atom-same p.1)

datum-same : (d : Datum) → same_datum d d ≡ true
datum-same (Atoms atoms) = pointwise-same same_atom atom-same (keys atoms)
datum-same (Pairs pairs) = pointwise-same same_pair pair-same (entries pairs)

columns-same : (cs : List (List ℕ × Datum)) → same_columns cs cs ≡ true
columns-same cs = pointwise-same (λ c d. bytes_eq c.0 d.0 && same_datum c.1 d.1) (λ c. and_from (bytes_eq c.0 c.0) (same_datum c.1 c.1) (text-same c.0) (datum-same c.1)) cs

row-same : (r : Row) → same_row r r ≡ true
row-same r = and_from (bytes_eq r.version r.version) (same_columns (entries r.columns) (entries r.columns)) (text-same r.version) (columns-same (entries r.columns))

key-same : (k : LineKey) → same_key k k ≡ true
key-same k = and_from (bytes_eq k.0 k.0) (bytes_eq k.1 k.1) (text-same k.0) (text-same k.1)

pub database-same : (db : Database) → same_database db db ≡ true
database-same db = pointwise-same (λ r s. same_key r.0 s.0 && same_row r.1 s.1) (λ e. and_from (same_key e.0 e.0) (same_row e.1 e.1) (key-same e.0) (row-same e.1)) (entries db)
