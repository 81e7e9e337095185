use Rattle.std.proofs.Common.{◌≡◌, map, drop, false}
use Rattle.serde_json.specs.Data.{no_members}
use Rattle.serde_json.specs.View.{members_view}
use Rattle.ov_specs.specs.rows.Database.{placed, written_column}
use Rattle.ov_rows.specs.Named.{named}
use Rattle.ov_specs.specs.wire.Tree.{members_have_real}
use Rattle.ov_projection.proofs.shown.ShownRow.tree.Given as goal

abbrev pub invariant-loop-name : goal.invariant-loop-name
invariant-loop-name l = record {
  placed_so_far : placed no_members (map written_column (named l.name-items)) ≡ placed (members_view l.members.entries) (map written_column (named (drop l.name-index l.name-items)));
  plain : members_have_real (members_view l.members.entries) ≡ false;
}
