-- Which rows of a database refer to which, and how that is collected row by row.
use Rattle.std.specs.Prelude.{◌≡◌, List, [], ◌∷◌, Bool, if◌then◌else◌, refl}
use Rattle.std.specs.Coded.{Coded, code_by, coded×}
use Rattle.std.specs.FinMap.{empty, get}
use Rattle.ov_refs.specs.Holding.{Holders, holders_code, is_holder, with_holder, without_holder}
use Rattle.ov_specs.specs.integrity.References.{Target, RowReference, refers_strongly, refers_weakly, row_targets}
use Rattle.ov_specs.specs.rows.Database.{Row, Database}
use Rattle.ov_specs.specs.rows.Lines.{LineKey}
use Rattle.ov_specs.specs.schema.Schema.{is_some_and}
use Rattle.ov_specs.specs.schema.SchemaTypes.{Schema}

-- which rows refer to which, strongly and weakly
pub record Links : Type 0 where
  pub strong : Holders
  pub weak : Holders

-- links as a pair
abbrev pub links_code : Coded Links
links_code =
    code_by (Holders × Holders) (coded× holders_code holders_code) (λ l. (l.strong, l.weak))
    (λ p. record { strong = p.0; weak = p.1 }) (λ _. refl)

-- no row refers to any row
abbrev pub AreNone : Links → Type 0
AreNone links = (links.strong ≡ empty) × (links.weak ≡ empty)

-- ---- which rows they are of

-- the row `from` refers strongly to the row `to`
abbrev pub is_strong_in : Schema → Database → LineKey → LineKey → Bool
is_strong_in schema rows to from = is_some_and (λ row. refers_strongly schema (from, row) to) (get rows from)

-- the row `from` refers weakly to the row `to`
abbrev pub is_weak_in : Schema → Database → LineKey → LineKey → Bool
is_weak_in schema rows to from = is_some_and (λ row. refers_weakly schema (from, row) to) (get rows from)

-- the links are those of the rows
pub record AreLinksOf (schema : Schema) (rows : Database) (links : Links) : Type 0 where
  pub strong : (to from : LineKey) → is_holder links.strong to from ≡ is_strong_in schema rows to from
  pub weak : (to from : LineKey) → is_holder links.weak to from ≡ is_weak_in schema rows to from

-- ---- what they are without some references

-- without the reference
abbrev pub without_reference : RowReference → Links → Links
without_reference r links =
    if r.to.is_strong then record links { strong = without_holder r.to.key r.from links.strong }
    else record links { weak = without_holder r.to.key r.from links.weak }

-- without these references
abbrev pub without_references : List RowReference → Links → Links
without_references [] links = links
without_references (r ∷ rs) links = without_references rs (without_reference r links)

-- ---- how they are collected; for private clauses

-- with a reference of the row of this key
abbrev pub with_target : LineKey → Target → Links → Links
with_target from target links =
    if target.is_strong then record links { strong = with_holder target.key from links.strong }
    else record links { weak = with_holder target.key from links.weak }

-- with these references of the row
abbrev pub with_targets : LineKey → List Target → Links → Links
with_targets from [] links = links
with_targets from (target ∷ targets) links = with_targets from targets (with_target from target links)

-- with the references of these rows
abbrev pub with_targets_of_rows : Schema → List (LineKey × Row) → Links → Links
with_targets_of_rows schema [] links = links
with_targets_of_rows schema (r ∷ rs) links = with_targets_of_rows schema rs (with_targets r.0 (row_targets schema r) links)
