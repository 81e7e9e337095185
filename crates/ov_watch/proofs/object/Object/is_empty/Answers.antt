use Rattle.std.proofs.Common.{◌≡◌, ◌==◌, ℕ, suc, List, [], ◌∷◌, Bool, true, false, length, refl, ap, ◌∙◌, arith, String, Global}
use Rattle.std.proofs.lemmas.Bool.Decides.{nat_tests}
use Rattle.std.specs.Bool.{IsTrue}
use Rattle.serde_json.specs.View.{members_view}
use Rattle.serde_json.specs.declared.value.Value.{Value}
use Rattle.ov_watch.specs.Views.{has_no_members}
use Rattle.ov_watch.proofs.object.Object.is_empty.Goals as goal

by_test : (b : Bool) (n : ℕ) → (IsTrue b → n ≡ 0) → (n ≡ 0 → IsTrue b) → b ≡ (n == 0)
by_test true n zero one = grind (arith, nat_tests, zero refl)
by_test false n zero one = grind (arith, nat_tests, λ (e : n ≡ 0). one e)

not_zero : (n : ℕ) → (suc n == 0) ≡ false
not_zero n = grind (arith, nat_tests)

no_entries : (es : List (String Global × Value)) → (length es == 0) ≡ has_no_members (members_view es)
no_entries [] = refl
no_entries (e ∷ es) = not_zero (length es)

pub returns : goal.returns
returns c =
    let entries = c.self.inside.members.entries in
    by_test c.is_empty.result (length entries) c.is_empty.ensures.0 c.is_empty.ensures.1 ∙ no_entries entries ∙ ap has_no_members c.self.view_is
