-- A database and its keeper, as contracts see them.
use Rattle.std.specs.Prelude.{Option}
use Rattle.ov_specs.specs.rows.Database.{Database}
use Rattle.ov_specs.specs.schema.SchemaTypes.{Schema}

-- a database under its schema: as it was committed, what a failed commit would have made of it, and its keeper
pub record KeptDatabase (K : Type 0) : Type 0 where
  pub schema : Schema
  pub committed : Database
  pub sealed : Option Database
  pub keeper : K
