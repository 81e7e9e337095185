use Rattle.std.proofs.Common.{List, map, option_and_then, sym, ap, subst, ◌∙◌}
use Rattle.std.specs.FinMap.{empty}
use Rattle.std.specs.Vec.Iter.{into_iter_items}
use Rattle.ov_specs.specs.rows.Database.{Database}
use Rattle.ov_keeper.specs.declared.line.Line.{Line}
use Rattle.ov_stored.specs.Loading.{whole_entry, with_lines}
use Rattle.ov_specs.specs.rows.Suits.{Suits}
use Rattle.ov_specs.proofs.laws.Suiting.{no_row_suits}
use Rattle.ov_stored.proofs.load.rows_of_lines.Goals as goal

pub loop-line-init : goal.loop-line-init
loop-line-init c = record {
  loaded = ap (λ (ls : List Line). with_lines c.args.schema.now (map whole_entry ls) empty) (sym c.into_iter-line-iterator.ensures.into_iter_gives.0)
      ∙ ap (with_lines c.args.schema.now (map whole_entry (into_iter_items c.into_iter-line-iterator.result))) (sym c.new-rows.ensures);
  suits = subst (λ (rows : Database). Suits c.args.schema.now rows) (sym c.new-rows.ensures) (no_row_suits c.args.schema.now);
}

pub loop-line-preserved : goal.loop-line-preserved
loop-line-preserved c =
    let schema = c.args.schema.now in
    let later = with_lines schema (map whole_entry (into_iter_items c.next.new.self)) in
    record {
      loaded = c.loop-line.invariant.loaded
          ∙ ap (λ (ls : List Line). with_lines schema (map whole_entry ls) c.loop-line.rows) c.in-Some.ensures.steps.0
          ∙ ap (option_and_then later) c.in_ok-add_line.ensures.ok;
      suits = c.in_ok-add_line.ensures.suits c.loop-line.invariant.suits;
    }
