use Rattle.std.proofs.Common.{◌≤◌, ◌∙◌, Some, sym, ap, subst}
use Rattle.serde_json.specs.Data.{Data, depth}
use Rattle.serde_json.specs.Read.{max_depth}
use Rattle.serde_json.specs.Written.{compact_text}
use Rattle.serde_json.specs.View.{view}
use Rattle.ov_specs.specs.wire.Message.{tree_of}
use Rattle.ov_specs.proofs.laws.Trees.{has_no_float, tree_of-read}
use Rattle.ov_base.proofs.tree.Tree.to_bytes.Goals as goal

pub returns-clause-text : goal.returns-clause-text
returns-clause-text c = c.from_vec.ensures ∙ (c.in_ok-to_vec.ensures.text (has_no_float (view c.self.inside.value) c.self.invariant) ∙ ap compact_text c.self.view_is)

pub returns-clause-reads_back : goal.returns-clause-reads_back
returns-clause-reads_back c few =
    let shallow : depth (view c.self.inside.value) ≤ max_depth = subst (λ (d : Data). depth d ≤ max_depth) (sym c.self.view_is) few in
    ap tree_of c.from_vec.ensures ∙ tree_of-read c.in_ok-to_vec.field-0.items (view c.self.inside.value) c.in_ok-to_vec.ensures.utf8 (c.in_ok-to_vec.ensures.reads_back shallow) ∙ ap Some c.self.view_is
