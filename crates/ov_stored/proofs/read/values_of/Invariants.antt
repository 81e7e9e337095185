use Rattle.std.proofs.Common.{◌≡◌, drop, option_map}
use Rattle.serde_json.specs.View.{view}
use Rattle.ov_specs.specs.rows.Held.{OneText, columns_stored}
use Rattle.ov_specs.specs.wire.Message.{tree_of}
use Rattle.ov_stored.proofs.BodyRows.{added_by}
use Rattle.ov_stored.proofs.read.values_of.Given as goal

abbrev pub invariant-loop-name : goal.invariant-loop-name
invariant-loop-name l = record {
  read : option_map view l.body ≡ tree_of l.text;
  added : columns_stored (OneText l.text) l.table ≡ added_by (OneText l.text) (drop l.name-index l.name-items) l.values;
}
