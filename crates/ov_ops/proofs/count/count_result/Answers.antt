use Rattle.std.proofs.Common.{◌≡◌, ℕ, ◌^◌, ltb, Bool, true, false, cond, Some, None, ap, ◌∙◌}
use Rattle.std.specs.Prelude.{◌||◌, is_none, pos}
use Rattle.std.proofs.lemmas.Bool.{lt-ltb}
use Rattle.ov_specs.specs.wire.Tree.{has_real}
use Rattle.ov_specs.specs.operations.MatchingRows.{count_result}
use Rattle.ov_ops.proofs.count.count_result.Goals as goal

-- a count below 2^63 is no real
plain : (n : ℕ) → ltb n (2 ^ 63) ≡ true → has_real (count_result n) ≡ false
plain n fits = ap (λ (b : Bool). is_none (cond b (Some (pos n)) None) || false) fits

pub new-requires : goal.new-requires
new-requires c = ap has_real c.in_ok-value.ensures ∙ plain c.args.count (lt-ltb c.args.count (2 ^ 63) c.requires)
