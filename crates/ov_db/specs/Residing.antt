-- What a database keeps beside its rows, and the space that a commit reserves in it.
use Rattle.std.specs.Prelude.{◌≡◌, []}
use Rattle.ov_index.specs.Indexing.{AreIndexesOf, without_entries}
use Rattle.ov_refs.specs.Linking.{AreLinksOf, without_references}
use Rattle.ov_specs.specs.operations.MatchingRows.{without_rows}
use Rattle.ov_specs.specs.rows.Database.{Database}
use Rattle.ov_specs.specs.schema.SchemaTypes.{Schema}
use Rattle.ov_stored.specs.Adding.{lent_keys}
use Rattle.ov_stored.specs.Changing.{Delta, applied}
use Rattle.ov_stored.specs.Placing.{HasPlacesFor, IsSameBeside}
use Rattle.ov_db.specs.declared.resident.Resident.{Resident}
use Rattle.ov_db.specs.declared.resident.Room.{Room}

-- the links and indexes are those of the database
pub record IsBeside (schema : Schema) (database : Database) (resident : Resident) : Type 0 where
  pub links : AreLinksOf schema database resident.links
  pub indexes : AreIndexesOf schema database resident.indexes

-- the rows, the links and the indexes are those of the database
abbrev pub IsResident : Schema → Database → Resident → Type 0
IsResident schema database resident = (resident.rows ≡ database) × IsBeside schema database resident

-- nothing is reserved yet
abbrev pub IsNoRoom : Room → Type 0
IsNoRoom room =
    (room.added.items ≡ []) × (room.links.added.items ≡ []) × (room.links.gone.items ≡ [])
    × (room.indexes.added.items ≡ []) × (room.indexes.gone.items ≡ [])

-- without what was added to reserve space, everything is that of the database
pub record LeadsBack (schema : Schema) (database : Database) (room : Room) (resident : Resident) : Type 0 where
  pub rows : without_rows (lent_keys room.added.items) resident.rows ≡ database
  pub links : AreLinksOf schema database (without_references room.links.added.items resident.links)
  pub indexes : AreIndexesOf schema database (without_entries room.indexes.added.items resident.indexes)

-- the rows are the database with places for the changes, and the links and indexes are those after the changes
pub record IsReady (schema : Schema) (delta : Delta) (database : Database) (resident : Resident) : Type 0 where
  pub same : IsSameBeside delta database resident.rows
  pub places : HasPlacesFor delta resident.rows
  pub beside : IsBeside schema (applied delta database) resident

-- the same, once the references and entries that go are taken out
pub record LeadsOn (schema : Schema) (delta : Delta) (database : Database) (room : Room) (resident : Resident) : Type 0 where
  pub same : IsSameBeside delta database resident.rows
  pub places : HasPlacesFor delta resident.rows
  pub links : AreLinksOf schema (applied delta database) (without_references room.links.gone.items resident.links)
  pub indexes : AreIndexesOf schema (applied delta database) (without_entries room.indexes.gone.items resident.indexes)
