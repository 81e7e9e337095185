use Rattle.std.proofs.Common.{sym, ap, ◌∙◌, option_map}
use Rattle.serde_json.specs.View.{view}
use Rattle.ov_specs.proofs.laws.OfKinds.{atom_read_is_of}
use Rattle.ov_atoms.specs.Views.{kind_view, atom_view}
use Rattle.ov_atoms.proofs.AnswerLemmas.{if_ok}
use Rattle.ov_atoms.proofs.read.read_atom.Goals as goal

pub returns-clause-of_kind : goal.returns-clause-of_kind
returns-clause-of_kind g c are =
    if_ok _ c.ok_or.result (λ a e. atom_read_is_of (g.N.Names.names c.args.names.now) are (kind_view c.args.kind) (view c.args.tree.now) (atom_view a)
    (sym c.in_ok-atom_of.ensures ∙ ap (option_map atom_view) (c.ok_or.ensures.ok_part ∙ e)))
