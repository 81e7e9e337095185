use Rattle.std.proofs.Common.{◌&&◌, sym, ap, ◌∙◌}
use Rattle.std.specs.FinMap.{entries}
use Rattle.std.specs.List.{list_all}
use Rattle.ov_refs.specs.Holding.{Holders}
use Rattle.ov_refs.specs.Whole.{is_root_or_held}
use Rattle.ov_specs.specs.integrity.Kept.{is_supported}
use Rattle.ov_refs.proofs.WholeLinks.{there_is, supported_is}
use Rattle.ov_refs.proofs.whole.are_references_whole.Goals as goal

pub returns-then-are_all_there : goal.returns-then-are_all_there
returns-then-are_all_there c =
    let schema = c.args.schema.now in
    let rows = c.args.rows.now in
    let links = c.args.links.now in
    let there = sym (there_is schema rows links c.requires.linked) ∙ sym c.are_all_there.ensures ∙ c.if-are_all_there.true in
    c.are_supported.ensures ∙ ap (λ (h : Holders). list_all (is_root_or_held schema h) (entries rows)) c.strong.ensures ∙ supported_is schema rows links c.requires.linked
    ∙ sym (ap (λ b. b && list_all (λ r. is_supported schema rows r.0) (entries rows)) there)

pub returns-else-are_all_there : goal.returns-else-are_all_there
returns-else-are_all_there c =
    let schema = c.args.schema.now in
    let rows = c.args.rows.now in
    let there = sym (there_is schema rows c.args.links.now c.requires.linked) ∙ sym c.are_all_there.ensures ∙ c.if-are_all_there.false in
    c.if-are_all_there.false ∙ sym (ap (λ b. b && list_all (λ r. is_supported schema rows r.0) (entries rows)) there)
