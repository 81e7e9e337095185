-- What is kept beside the rows follows their changes.
use Rattle.std.proofs.Common.{◌≡◌, Option, Some, None, refl, sym, ap, ◌∙◌}
use Rattle.std.specs.Prelude.{unwrap_or, Result, Ok, Err, IfErr, OnOk}
use Rattle.std.specs.FinMap.{get, entries, entries_sorted, get-entries, get-from_sorted}
use Rattle.ov_specs.specs.rows.Changed.{IsAfter}
use Rattle.ov_specs.specs.rows.Database.{Database, Row}
use Rattle.ov_specs.specs.rows.Lines.{line_cmp}
use Rattle.ov_stored.specs.Changing.{Delta, applied}
use Rattle.ov_stored.proofs.Places.{or_before, get-applied}

-- what a delta makes of a database is the database after its changes
pub applied_after : (delta : Delta) (database : Database) → IsAfter (entries delta) database (applied delta database)
applied_after delta database key =
    get-applied delta database key ∙ either (get delta key) (get database key)
    ∙ ap (λ o. unwrap_or o (get database key)) (get-entries delta key ∙ sym (get-from_sorted line_cmp (entries delta) key (entries_sorted delta)))
  where
    either : (o : Option (Option Row)) (old : Option Row) → or_before o old ≡ unwrap_or o old
    either None old = refl
    either (Some new) old = refl

-- ---- what calls answer

-- what two facts of a success show
pub both_ok : {A E P Q R : Type 0} (result : Result A E) → (P → Q → R) → OnOk result P → OnOk result Q → OnOk result R
both_ok (Ok a) shows p q = shows p q
both_ok (Err e) shows p q = tt

-- what is so in any case
pub so_if_ok : {A E P : Type 0} (result : Result A E) → P → OnOk result P
so_if_ok (Ok a) p = p
so_if_ok (Err e) p = tt

-- what a fact of an error shows
pub each_error : {A E : Type 0} {P Q : E → Type 0} (result : Result A E) → ((e : E) → P e → Q e) → IfErr result P → IfErr result Q
each_error (Ok a) shows p = tt
each_error (Err e) shows p = shows e p
