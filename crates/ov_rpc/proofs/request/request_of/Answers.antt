use Rattle.std.proofs.Common.{◌∙◌, codes, rules}
use Rattle.serde_json.specs.View.{members_view}
use Rattle.ov_rpc.proofs.Requests.{found_plain, members_plain}
use Rattle.ov_rpc.proofs.request.request_of.Goals as goal

pub items_of-params-requires : goal.items_of-params-requires
items_of-params-requires c =
    let found = c.take_member-2.ensures.value ∙ c.take_member.ensures.others (codes "params") (search rules) in
    found_plain (codes "params") (members_view c.in-Object.members.entries) c.take_member-2.result (members_plain c.args.value c.in-Object.members c.in-Object.is c.requires) found

pub asker-asker-requires : goal.asker-asker-requires
asker-asker-requires c =
    let found = c.take_member-3.ensures.value ∙ (c.take_member-2.ensures.others (codes "id") (search rules) ∙ c.take_member.ensures.others (codes "id") (search rules)) in
    found_plain (codes "id") (members_view c.in-Object.members.entries) c.take_member-3.result (members_plain c.args.value c.in-Object.members c.in-Object.is c.requires) found
