-- How a result is stored.
use Rattle.std.specs.Prelude.{◌∷◌, [], codes}
use Rattle.serde_json.specs.Data.{Data, array}
use Rattle.ov_results.specs.declared.op_result.Stored.{Stored}
use Rattle.ov_results.specs.declared.op_result.Stored.TheVariants.{Tree, Rows, NewRow}
use Rattle.ov_specs.specs.operations.Insert.{insert_result}
use Rattle.ov_specs.specs.rows.Database.{object_of}

-- the tree of a result, however it is stored
abbrev pub tree_in : Stored → Data
tree_in (Tree tree) = tree
tree_in (Rows rows) = object_of ((codes "rows", array rows) ∷ [])
tree_in (NewRow id) = insert_result id
