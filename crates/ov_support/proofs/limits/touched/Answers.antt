use Rattle.std.proofs.Common.{◌≡◌, ◌||◌, true, sym, ap, ◌∙◌}
use Rattle.std.specs.List.{list_any}
use Rattle.std.specs.Str.{bytes_eq}
use Rattle.ov_support.proofs.Counting.{known_before}
use Rattle.ov_support.proofs.limits.touched.Goals as goal

pub loop-key-preserved : goal.loop-key-preserved
loop-key-preserved c test =
    let name = c.in-Some.key.now.0 in
    let names = c.loop-key.names.items in
    let among : list_any (bytes_eq name) names ≡ true =
    (λ i. list_any (bytes_eq (sym c.table.ensures i)) (sym c.as_slice.ensures.value i)) ∙ sym c.is_among.ensures ∙ c.if-not-is_among.false in
    known_before test name names (list_any (λ e. test e.0.0) c.next.new.self) among
    ∙ ap (λ es. list_any test names || list_any (λ e. test e.0.0) es) (sym c.in-Some.ensures.steps)
    ∙ c.loop-key.invariant test
