use denote.Ref.{Bor}
use Rattle.std.specs.BTreeMap.{is_at}
use Rattle.std.specs.Cmp.Lexicographic.{slice_cmp}
use Rattle.std.specs.Map.{lookup}
use Rattle.std.specs.Ordering.{nat_cmp}
use Rattle.std.proofs.Common.{ℕ, List, ◌+◌, drop, sym, ap, ◌∙◌, arith}
use Rattle.std.proofs.lemmas.List.{drop_all}
use Rattle.std.specs.Prelude.{option_map}
use Rattle.serde_json.specs.View.{view, items_view}
use Rattle.ov_specs.specs.operations.NamedUuids.{declares, place_declared}
use Rattle.std.specs.Option.{option_or}
use Rattle.ov_given.specs.Naming.{place_at}
use Rattle.ov_given.proofs.Declaring.{first_alone, from_first, first-declared, declared-next}
use Rattle.ov_given.proofs.names.places_of.Goals as goal

pub loop-place-init : goal.loop-place-init
loop-place-init c = λ name.
    ap (λ es. option_or (lookup (is_at (λ (known : Bor (List ℕ)). slice_cmp nat_cmp name known.now)) es) (option_map (λ n. 0 + n) (place_declared name (items_view c.args.operations.now)))) c.new-places.ensures.empty
    ∙ from_first (place_declared name (items_view c.args.operations.now))

pub loop-place-preserved : goal.loop-place-preserved
loop-place-preserved c = λ name.
    let operations = c.args.operations.now in
    let place = c.loop-place.place in
    let known = place_at c.loop-place.places name in
    let d = c.index-operations-place.result in
    let later = place_declared name (items_view (drop (place + 1) operations)) in
    ap (λ o. option_or o (option_map (λ n. (place + 1) + n) later)) (c.in_ok-keep_place.ensures name)
    ∙ (first-declared place known later (declares name (view d))
    ∙ (sym (ap (λ o. option_or known (option_map (λ n. place + n) o)) (declared-next name operations place d (omega arith) c.index-operations-place.is)) ∙ c.loop-place.invariant name))

pub returns : goal.returns
returns c = λ name.
    let rest = drop_all c.loop-place.place c.args.operations.now (omega arith) in
    sym (first_alone (place_at c.loop-place.places name))
    ∙ (sym (ap (λ ds. option_or (place_at c.loop-place.places name) (option_map (λ n. c.loop-place.place + n) (place_declared name (items_view ds)))) rest) ∙ c.loop-place.invariant name)
