-- What becomes of links when rows change, strong and weak references alike; for private clauses.
use Rattle.std.specs.Prelude.{◌≡◌, ◌&&◌, ◌||◌, not, List, [], ◌∷◌, Bool, if◌then◌else◌, Option, Some, None}
use Rattle.std.specs.FinMap.{contains_key}
use Rattle.std.specs.List.{list_any, flat_map}
use Rattle.ov_refs.specs.Holding.{KeySet, is_holder}
use Rattle.ov_refs.specs.Linking.{Links}
use Rattle.ov_specs.specs.integrity.References.{Target, RowReference, row_targets}
use Rattle.ov_specs.specs.rows.Database.{Row, same_key}
use Rattle.ov_specs.specs.rows.Lines.{LineKey}
use Rattle.ov_specs.specs.schema.SchemaTypes.{Schema}

-- ---- targets

-- the target is the row of this key, strongly or weakly
abbrev pub is_target : Bool → LineKey → Target → Bool
is_target strong to target = (if strong then target.is_strong else not target.is_strong) && same_key target.key to

-- one of the targets is the row
abbrev pub has_target : Bool → LineKey → List Target → Bool
has_target strong to targets = list_any (is_target strong to) targets

-- what a row refers to, if there is one
abbrev pub targets_at : Schema → LineKey → Option Row → List Target
targets_at schema key None = []
targets_at schema key (Some row) = row_targets schema (key, row)

-- the reference of the row, unless the target is among those of the two sets
abbrev pub lost_one : LineKey → KeySet → KeySet → Target → List RowReference
lost_one from strong weak target =
    if contains_key (if target.is_strong then strong else weak) target.key then [] else record { from = from; to = target } ∷ []

-- the references that the row had before and does not have after
abbrev pub lost : LineKey → List Target → List Target → List RowReference
lost from before after =
    flat_map
    (λ target. if has_target target.is_strong target.key after then [] else record { from = from; to = target } ∷ []) before

-- ---- links

-- `from` refers to `to`, strongly or weakly
abbrev pub refers : Bool → Links → LineKey → LineKey → Bool
refers strong links to from = is_holder (if strong then links.strong else links.weak) to from

-- in both, the same rows refer to the same rows
abbrev pub AreAlike : Links → Links → Type 0
AreAlike a b = (strong : Bool) (to from : LineKey) → refers strong a to from ≡ refers strong b to from

-- as before, and the row also refers to these
abbrev pub Adds : LineKey → List Target → Links → Links → Type 0
Adds by targets before after =
    (strong : Bool) (to from : LineKey)
    → refers strong after to from ≡ (refers strong before to from || (same_key from by && has_target strong to targets))
