use Rattle.std.proofs.Common.{ap, ◌∙◌}
use Rattle.std.specs.FinMap.{get, keys}
use Rattle.std.specs.List.{sum_by}
use Rattle.ov_specs.specs.rows.Lines.{LineKey}
use Rattle.ov_specs.specs.values.Capped.{capped_to_64_bits}
use Rattle.ov_refs.specs.Counting.{hits_beside}
use Rattle.ov_refs.specs.Linking.{Links}
use Rattle.ov_refs.proofs.Counts.{counted_in, counted_none}
use Rattle.ov_refs.proofs.links.Links.strong_count.Goals as goal

pub returns-in-Some : goal.returns-in-Some
returns-in-Some c =
    let schema = c.args.schema.now in
    let rows = c.args.rows.now in
    let holders = c.in-Some.holders.now in
    let to : LineKey = (c.args.table.now, c.args.id) in
    let listed = c.in-Some.ensures ∙ ap (λ (l : Links). get l.strong to) c.self.view_is in
    c.count_holders.ensures ∙ ap (λ key. capped_to_64_bits (sum_by (hits_beside schema rows key) (keys holders))) c.new.ensures
    ∙ ap capped_to_64_bits (counted_in schema rows to c.args.self.now c.requires holders listed)

pub returns-in-None : goal.returns-in-None
returns-in-None c =
    let to : LineKey = (c.args.table.now, c.args.id) in
    ap capped_to_64_bits (counted_none c.args.schema.now c.args.rows.now to c.args.self.now c.requires (c.in-None.ensures ∙ ap (λ (l : Links). get l.strong to) c.self.view_is))
