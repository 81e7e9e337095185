use Rattle.std.proofs.Common.{◌≡◌, ◌∷◌, ◌||◌, List, Option, sym, ap, ◌∙◌}
use Rattle.std.specs.List.{list_any}
use Rattle.ov_rows.proofs.Maps.{ascends}
use Rattle.ov_specs.specs.rows.Database.{Row}
use Rattle.ov_specs.specs.rows.Lines.{LineKey, line_cmp}
use Rattle.ov_refs.specs.Linking.{without_references}
use Rattle.ov_refs.specs.Placed.{refers}
use Rattle.ov_refs.proofs.Collecting.{or_false}
use Rattle.ov_refs.proofs.Placing.{is_reference, puts, loses, puts-more, loses-more, alike_links, ArePlaced, after_links}
use Rattle.ov_refs.proofs.links.Links.place.Goals as goal

pub loop-key-preserved : goal.loop-key-preserved
loop-key-preserved c =
    let schema = c.args.schema.now in
    let rows = c.args.rows.now in
    let later = c.next.new.self in
    let entry : LineKey × Option Row = (c.in-Some.key.now, c.in-Some.change.now) in
    let steps : c.loop-key.key-iterator ≡ entry ∷ later = c.in-Some.ensures.steps in
    record {
      back = λ strong to from. c.in_ok-place_change.ensures.back strong to from ∙ c.loop-key.invariant.back strong to from;
      adds = λ strong to from.
          puts-more schema entry later strong to from c.loop-key.self c.place_change.new.self _ c.in_ok-place_change.ensures.adds
          (sym (ap (λ (es : List (LineKey × Option Row)). refers strong c.loop-key.self to from || list_any (puts strong schema to from) es) steps) ∙ c.loop-key.invariant.adds strong to from);
      gone = λ strong to from.
          loses-more schema entry later strong to from rows c.loop-key.room.gone.items c.place_change.new.room.gone.items _ c.in_ok-place_change.ensures.gone
          (sym (ap (λ (es : List (LineKey × Option Row)). list_any (is_reference strong to from) c.loop-key.room.gone.items || list_any (loses strong schema rows to from) es) steps) ∙ c.loop-key.invariant.gone strong to from);
    }

pub returns-in_err-place_change-clause-back : goal.returns-in_err-place_change-clause-back
returns-in_err-place_change-clause-back c =
    alike_links c.args.schema.now c.args.rows.now c.args.self.now (without_references c.place_change.new.room.added.items c.place_change.new.self)
    (λ strong to from. c.in_err-place_change.ensures.back strong to from ∙ c.loop-key.invariant.back strong to from) c.requires.linked

pub returns-clause-back : goal.returns-clause-back
returns-clause-back c =
    alike_links c.args.schema.now c.args.rows.now c.args.self.now (without_references c.loop-key.room.added.items c.loop-key.self) c.loop-key.invariant.back c.requires.linked

pub returns-clause-on : goal.returns-clause-on
returns-clause-on c after is_after =
    let schema = c.args.schema.now in
    let rows = c.args.rows.now in
    let given = c.into_iter-key-iterator.ensures.into_iter_gives in
    let changes = c.args.changes.now.entries in
    let end = c.in-None.ensures.steps.0 in
    let placed : ArePlaced schema rows after c.args.self.now c.loop-key.self changes c.loop-key.room.gone.items = record {
      adds = λ strong to from.
          or_false (refers strong c.loop-key.self to from)
          ∙ sym (ap (λ (es : List (LineKey × Option Row)). refers strong c.loop-key.self to from || list_any (puts strong schema to from) es) end) ∙ c.loop-key.invariant.adds strong to from
          ∙ ap (λ (es : List (LineKey × Option Row)). refers strong c.args.self.now to from || list_any (puts strong schema to from) es) given.0;
      lists = λ strong to from.
          or_false (list_any (is_reference strong to from) c.loop-key.room.gone.items)
          ∙ sym (ap (λ (es : List (LineKey × Option Row)). list_any (is_reference strong to from) c.loop-key.room.gone.items || list_any (loses strong schema rows to from) es) end)
          ∙ c.loop-key.invariant.gone strong to from ∙ ap (list_any (loses strong schema rows to from)) given.0;
    } in
    after_links schema rows after c.args.self.now c.loop-key.self changes c.loop-key.room.gone.items (ascends line_cmp changes given.5) c.requires.linked placed is_after
