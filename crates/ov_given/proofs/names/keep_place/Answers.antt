use Rattle.std.proofs.Common.{Some, None, sym, ap, ◌∙◌, if◌then◌else◌}
use Rattle.std.proofs.lemmas.Map.Text.{btree_map_updates_str}
use Rattle.std.specs.Option.{option_or}
use Rattle.ov_given.specs.Naming.{place_at}
use Rattle.ov_given.proofs.Declaring.{kept-new, kept-old, none_there}
use Rattle.ov_given.proofs.names.keep_place.Goals as goal

pub returns-in_ok-insert : goal.returns-in_ok-insert
returns-in_ok-insert c = λ name.
    let text = c.in-Some.name.now in
    let old = place_at c.args.places.now in
    let place = c.args.place in
    btree_map_updates_str text c.args.places.now c.insert.new.self _ c.in_ok-insert.ensures.updates name
    ∙ (kept-new old text name place (none_there (old text) (sym c.contains_key.ensures ∙ c.if-not-contains_key.true))
    ∙ ap (λ b. option_or (old name) (if b then Some place else None)) (sym (c.in-Some.ensures name)))

pub returns-else-not-contains_key : goal.returns-else-not-contains_key
returns-else-not-contains_key c = λ name.
    let text = c.in-Some.name.now in
    let old = place_at c.args.places.now in
    let place = c.args.place in
    kept-old old text name place (sym c.contains_key.ensures ∙ c.if-not-contains_key.false)
    ∙ ap (λ b. option_or (old name) (if b then Some place else None)) (sym (c.in-Some.ensures name))
