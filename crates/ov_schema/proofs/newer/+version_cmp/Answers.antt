use Rattle.std.proofs.Common.{Less, Equal, Greater, Some, None, sym, ◌∙◌, arith}
use Rattle.ov_schema.proofs.PartLemmas.{version_cmp-by, rests_cmp-by, more-parts, fewer-parts, rest_of-shorter}
use Rattle.ov_schema.proofs.newer.+version_cmp.Goals as goal

pub version_cmp-requires : goal.version_cmp-requires
version_cmp-requires t c =
    let less = rest_of-shorter c.args.first.now c.in-Some.rest.now (sym c.in-Some.ensures) in
    let bound = c.decreases in
    (omega arith, tt)

pub returns-in-Less : goal.returns-in-Less
returns-in-Less t c = sym (version_cmp-by c.args.first.now c.args.second.now _ _ c.first_part.ensures c.first_part-2.ensures Less c.in-Less.ensures)

pub returns-in-Greater : goal.returns-in-Greater
returns-in-Greater t c = sym (version_cmp-by c.args.first.now c.args.second.now _ _ c.first_part.ensures c.first_part-2.ensures Greater c.in-Greater.ensures)

pub returns-in-Some-rest_of : goal.returns-in-Some-rest_of
returns-in-Some-rest_of t c =
    c.version_cmp.ensures
    ∙ rests_cmp-by c.args.first.now c.args.second.now (Some c.in-Some.rest.now) (Some c.in-Some-rest_of.others.now) c.in-Some.ensures c.in-Some-rest_of.ensures
    ∙ sym (version_cmp-by c.args.first.now c.args.second.now _ _ c.first_part.ensures c.first_part-2.ensures Equal c.in-Equal.ensures)

pub returns-in-None-rest_of : goal.returns-in-None-rest_of
returns-in-None-rest_of t c =
    sym (more-parts c.in-Some.rest.now)
    ∙ rests_cmp-by c.args.first.now c.args.second.now (Some c.in-Some.rest.now) None c.in-Some.ensures c.in-None-rest_of.ensures
    ∙ sym (version_cmp-by c.args.first.now c.args.second.now _ _ c.first_part.ensures c.first_part-2.ensures Equal c.in-Equal.ensures)

pub returns-in-Some-rest_of-2 : goal.returns-in-Some-rest_of-2
returns-in-Some-rest_of-2 t c =
    sym (fewer-parts c.in-Some-rest_of-2.field-0.now)
    ∙ rests_cmp-by c.args.first.now c.args.second.now None (Some c.in-Some-rest_of-2.field-0.now) c.in-None.ensures c.in-Some-rest_of-2.ensures
    ∙ sym (version_cmp-by c.args.first.now c.args.second.now _ _ c.first_part.ensures c.first_part-2.ensures Equal c.in-Equal.ensures)

pub returns-in-None-rest_of-2 : goal.returns-in-None-rest_of-2
returns-in-None-rest_of-2 t c =
    rests_cmp-by c.args.first.now c.args.second.now None None c.in-None.ensures c.in-None-rest_of-2.ensures
    ∙ sym (version_cmp-by c.args.first.now c.args.second.now _ _ c.first_part.ensures c.first_part-2.ensures Equal c.in-Equal.ensures)
