-- A database with no byte has no table.
use Rattle.std.proofs.Common.{◌≡◌, inl, inr, List, [], ◌∷◌, refl, ap, subst, ◌∙◌, arith, length}
use Rattle.std.specs.List.{AllZip}
use Rattle.sqlite_wal.specs.Recovery.{Image}
use Rattle.sqlite_trees.specs.Tree.{Trees}
use Rattle.sqlite_trees.specs.Objects.{catalog_tree}
use Rattle.sqlite.specs.Schema.{Schema}
use Rattle.sqlite.specs.Effect.{Database}
use Rattle.sqlite_catalog.specs.Listing.{Lists, IsTableRow, IsIndexRow, IsViewRow}
use Rattle.sqlite.specs.Files.{AreFoundIn}
use Rattle.sqlite.specs.State.{State, Opens, IsLive}
use Rattle.sqlite.specs.Steps.{IsEmpty}

none_beside : {X Y : Type 0} (R : X → Y → Type 0) (ys : List Y) → AllZip R [] ys → ys ≡ []
none_beside R [] all = refl
none_beside R (y ∷ ys) all = absurd all

-- a list of no object is that of no schema
listed_none : (schema : Schema) → Lists [] schema → schema ≡ record { tables = []; indexes = []; views = [] }
listed_none schema l =
    let tables = none_beside IsTableRow schema.tables l.listed.tables in
    let indexes = none_beside (IsIndexRow schema.tables) schema.indexes l.listed.indexes in
    let views = none_beside IsViewRow schema.views l.listed.views in
    λ i. record { tables = tables i; indexes = indexes i; views = views i }

-- two files, of which that of the database has no byte, hold no object
nothing_found : (image : Image) (db : Trees) → image.db ≡ [] → AreFoundIn image db → db catalog_tree ≡ []
nothing_found image db none (inl found) = absurd (let present = found.3.found.present in omega (arith, present, ap length none))
nothing_found image db none (inr nothing) = nothing.1.1

-- a connection that opens on such files is empty
pub opens_empty : (image : Image) (s : State) → image.db ≡ [] → Opens s → IsLive s → AreFoundIn image s.committed.trees → IsEmpty s
opens_empty image s none opens live found =
    let catalog = nothing_found image s.committed.trees none found in
    let schema = listed_none s.committed.schema (subst (λ objects. Lists objects s.committed.schema) catalog (live opens.is_open).1.lists) in
    (opens, live, ap (λ (d : Database). d.schema) opens.clean ∙ schema)
