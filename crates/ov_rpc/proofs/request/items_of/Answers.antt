use Rattle.std.proofs.Common.{sym, ap, ◌∙◌}
use Rattle.serde_json.specs.View.{view, items_view}
use Rattle.serde_json.proofs.Views.{view-Array}
use Rattle.ov_specs.specs.wire.Tree.{has_real, items_have_real}
use Rattle.ov_rpc.proofs.request.items_of.Goals as goal

pub new-requires : goal.new-requires
new-requires c =
    let array_is = c.in-Some-Array in
    ap (λ v. items_have_real (items_view v.items)) array_is.items-is ∙ (ap has_real (sym (view-Array array_is.items)) ∙ (ap (λ v. has_real (view v)) (sym array_is.field-0-is) ∙ c.requires array_is.field-0 array_is.is))
