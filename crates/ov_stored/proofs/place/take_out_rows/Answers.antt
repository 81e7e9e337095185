use Rattle.std.proofs.Common.{Bor, sym, ap, ◌∙◌}
use Rattle.std.proofs.lemmas.List.{map-append}
use Rattle.ov_specs.specs.operations.MatchingRows.{without_rows}
use Rattle.ov_specs.specs.rows.Lines.{LineKey}
use Rattle.ov_stored.specs.Adding.{lent_keys}
use Rattle.ov_stored.proofs.Added.{without-push}
use Rattle.ov_stored.proofs.place.take_out_rows.Goals as goal

pub loop-key-preserved : goal.loop-key-preserved
loop-key-preserved c =
    let before = c.loop-key.rows in
    let left = lent_keys c.pop.new.self.items in
    ap (without_rows left) c.remove.ensures ∙ sym (without-push left c.in-Some.key.now before)
    ∙ ap (λ ks. without_rows ks before) (sym (ap (lent_keys) c.in-Some.ensures.items ∙ map-append (λ (k : Bor LineKey). k.now) c.pop.new.self.items _)) ∙ c.loop-key.invariant
