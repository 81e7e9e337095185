use Rattle.std.proofs.Common.{◌≡◌, map, ◌++◌, true, sym, ap, ◌∙◌}
use Rattle.std.specs.Cmp.Lexicographic.{same_text}
use Rattle.std.specs.List.{filter}
use Rattle.std.specs.Str.{bytes_eq}
use Rattle.ov_stage.proofs.Merging.{change-listed}
use Rattle.ov_stage.proofs.merge.changes_of.Goals as goal

pub loop-key-preserved-in-Continue-1 : goal.loop-key-preserved-in-Continue-1
loop-key-preserved-in-Continue-1 c =
    let table = c.args.table.now in
    let key = c.in-Some.key.now in
    let test : bytes_eq key.0 table ≡ true = ap (λ n. bytes_eq n table) (sym c.table.ensures) ∙ sym c.eq.ensures ∙ c.if-eq.true in
    let named : key.0 ≡ table = same_text key.0 table (sym test) in
    ap (λ vs. map (λ r. ((table, r.0.now), r.1.now)) vs ++ filter (λ r. bytes_eq r.0.0 table) c.next.new.self) c.in_ok-push.ensures.items
    ∙ change-listed table (λ r. ((table, r.0.now), r.1.now)) c.loop-key.changes.items (c.as_id.result, c.in-Some.change) (key, c.in-Some.change.now) c.loop-key.key-iterator c.next.new.self _ c.in-Some.ensures.steps test
    (λ i. ((sym named i, c.as_id.ensures i), c.in-Some.change.now)) c.loop-key.invariant
