use Rattle.std.proofs.Common.{rules, ◌≡◌, ◌-◌, ◌++◌, ◌∷◌, [], ap, ◌∙◌, length, take, if◌then◌else◌}
use Rattle.serde_json.specs.Written.{compact_text}
use Rattle.ov_rpc.proofs.Appending.{opened, appended}
use Rattle.ov_rpc.proofs.append.append_item.Goals as goal

pub returns : goal.returns
returns c id items is first =
    let made : c.from_vec.result ≡ ((take (length c.args.reply.now - 2) c.args.reply.now ++ (if c.args.is_first then [] else 44 ∷ [])) ++ compact_text c.args.item.now) ++ 93 ∷ 125 ∷ [] = search rules in
    made
    ∙ (ap (λ t. ((t ++ (if c.args.is_first then [] else 44 ∷ [])) ++ compact_text c.args.item.now) ++ 93 ∷ 125 ∷ []) (opened c.args.reply.now id items is)
    ∙ appended id items c.args.is_first c.args.item.now first)
