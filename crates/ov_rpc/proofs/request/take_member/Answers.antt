use Rattle.std.proofs.Common.{option_map, ap, ◌∙◌}
use Rattle.serde_json.specs.Find.{get_member}
use Rattle.serde_json.specs.View.{view, members_view}
use Rattle.serde_json.proofs.Views.{view-lookup}
use Rattle.ov_rpc.proofs.Members.{get_member-remove_entry}
use Rattle.ov_rpc.proofs.request.take_member.Goals as goal

pub returns-clause-value : goal.returns-clause-value
returns-clause-value c = ap (option_map view) c.remove.ensures.value ∙ view-lookup c.args.name.now c.args.members.now.entries

pub returns-clause-others : goal.returns-clause-others
returns-clause-others c = λ q other. ap (λ es. get_member q (members_view es)) c.remove.ensures.entries ∙ get_member-remove_entry q c.args.name.now c.args.members.now.entries other
