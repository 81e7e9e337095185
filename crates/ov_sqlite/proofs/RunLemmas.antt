-- Runs of changes.
use Rattle.std.proofs.Common.{◌≡◌, ℕ, List, refl, sym, ap, subst, ◌∙◌, IsTrue, Bool, true, false, Result, Ok, Err, IsErrAnd, IfErr, inl, inr}
use Rattle.std.specs.Prelude.{MatchBool}
use Rattle.sqlite.specs.Order.{Row}
use Rattle.sqlite.specs.Effect.{Database}
use Rattle.sqlite.specs.State.{State, IsUnchanged, ExecutesInside, ExecutesIn, IsNotRun, shows_rows, store_error}
use Rattle.sqlite.specs.declared.error.Error.{Error}
use Rattle.sqlite.specs.declared.error.Error.TheVariants.{SqliteFailure}
use Rattle.sqlite.specs.declared.error.ErrorCode.TheVariants.{ConstraintViolation}
use Rattle.sqlite_schema.specs.declared.schema.Constraint.{Constraint}
use Rattle.sqlite_trees.specs.declared.error.StoreError.{StoreError}
use Rattle.sqlite_trees.specs.declared.error.StoreError.TheVariants.{OutOfMemory, Io, Corrupt, Full, Broken, Unstorable}
use Rattle.ov_specs.specs.rows.Cells.{CellLines}
use Rattle.ov_tables.specs.Tables.{row_trees}
use Rattle.ov_tables.specs.Format.{stored_cells, rows_of_meta}
use Rattle.ov_tables.specs.Holding.{HoldsCells, MayHoldCells, KeepsOthers}
use Rattle.ov_sqlite.specs.Changing.{MakesRows, IsRefusal}
use Rattle.ov_tables.proofs.KeepLemmas.{others_now, others_after}

pub makes_none : (text : List ℕ) (Became : CellLines → CellLines → Type 0) (s : State) → IsTrue s.in_transaction → MayHoldCells text s → Became (stored_cells s.now.trees) (stored_cells s.now.trees) → MakesRows Became text s s
makes_none text Became s mode stored same =
    record { mode = mode; opens = λ up. up; stored = stored; lines_are = same; meta = refl; schema = refl; others = others_now _ s.now.schema s.now.trees; committed = refl }

pub makes_then : (text : List ℕ) (P Q R : CellLines → CellLines → Type 0) (a b c : State) → ((k l m : CellLines) → P k l → Q l m → R k m) → MakesRows P text a b → MakesRows Q text b c → MakesRows R text a c
makes_then text P Q R a b c is one two = record {
  mode = two.mode;
  opens = λ up. one.opens (two.opens up);
  stored = two.stored;
  lines_are = is _ _ _ one.lines_are two.lines_are;
  meta = two.meta ∙ one.meta;
  schema = two.schema ∙ one.schema;
  others = others_after row_trees a b c one.schema one.others two.others;
  committed = two.committed ∙ one.committed;
}

-- what was done is also something weaker
pub makes_weaker : (text : List ℕ) (P Q : CellLines → CellLines → Type 0) (a b : State) → (P (stored_cells a.now.trees) (stored_cells b.now.trees) → Q (stored_cells a.now.trees) (stored_cells b.now.trees)) → MakesRows P text a b → MakesRows Q text a b
makes_weaker text P Q a b is made = record {
  mode = made.mode;
  opens = made.opens;
  stored = made.stored;
  lines_are = is made.lines_are;
  meta = made.meta;
  schema = made.schema;
  others = made.others;
  committed = made.committed;
}

-- ---- a statement that was refused

matched : (b : Bool) {P Q R : Type 0} → MatchBool b P Q → (P → R) → (Q → R) → R
matched true h one two = one h
matched false h one two = two h

-- the store never fails with a rule
no_store : (rule : Constraint) (cause : StoreError) → SqliteFailure (ConstraintViolation rule) ≡ store_error cause → ⊥
no_store rule OutOfMemory e = absurd cc
no_store rule Io e = absurd cc
no_store rule Corrupt e = absurd cc
no_store rule Full e = absurd cc
no_store rule Broken e = absurd cc
no_store rule Unstorable e = absurd cc

-- what a rule refuses changes nothing
pub refused_same : (sql : List ℕ) (params : Row) (a b : State) (e : Error) → ExecutesInside 0 sql params a b (Err e) → IsRefusal e → IsUnchanged a b
unfolding ExecutesIn IsNotRun
refused_same sql params a b e (inl (ran, inl same)) why = same
refused_same sql params a b e (inr ends) why = ends.2
refused_same sql params a b e (inl (inl (inl refused), inr back)) why = refused.1
refused_same sql params a b e (inl (inl (inr fails), inr back)) why = absurd (no_store why.0 fails.0 (sym why.1 ∙ fails.1))
refused_same sql params a b e (inl (inr it, inr back)) why =
    matched (shows_rows false it.0) it.2 (λ shown. shown.1) (λ run. elim run [ inl refused ↦ refused.1 | inr fails ↦ absurd (no_store why.0 fails.0 (sym why.1 ∙ fails.1)) ])

pub refused_as : {T : Type 0} (sql : List ℕ) (params : Row) (a b : State) (e : Error) → ExecutesInside 0 sql params a b (Err e) → (r : Result T Error) → IsErrAnd r (λ f. f ≡ e) → IfErr r (λ f. IsRefusal f → IsUnchanged a b)
refused_as sql params a b e ran (Ok x) is = tt
refused_as sql params a b e ran (Err f) is = refused_same sql params a b f (subst (λ f. ExecutesInside 0 sql params a b (Err f)) (sym is) ran)

-- what was done from a state that is as it was
pub may_same : (text : List ℕ) (a b : State) → IsUnchanged a b → MayHoldCells text a → MayHoldCells text b
may_same text a b same may up = subst (HoldsCells text) (sym same.0.now_is) (may same.0.was_open)

pub makes_same : (text : List ℕ) (P : CellLines → CellLines → Type 0) (a b c : State) → IsUnchanged a b → MakesRows P text b c → MakesRows P text a c
makes_same text P a b c same made = record {
  mode = made.mode;
  opens = λ up. same.0.was_open;
  stored = made.stored;
  lines_are = subst (λ (d : Database). P (stored_cells d.trees) (stored_cells c.now.trees)) same.0.now_is made.lines_are;
  meta = made.meta ∙ ap (λ (d : Database). rows_of_meta d.trees) same.0.now_is;
  schema = made.schema ∙ ap (λ (d : Database). d.schema) same.0.now_is;
  others = subst (λ (d : Database). KeepsOthers (row_trees d.schema) d.schema d.trees c.now.trees) same.0.now_is made.others;
  committed = made.committed ∙ same.0.committed_is;
}
