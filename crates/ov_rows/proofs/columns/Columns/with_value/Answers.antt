use Rattle.std.proofs.Common.{◌≡◌, List, Some, arith, length, sym, ap, subst, ◌∙◌}
use Rattle.std.proofs.lemmas.Result.{IfOk-weaker}
use Rattle.std.specs.FinMap.{insert}
use Rattle.std.specs.List.{slice_set}
use Rattle.ov_specs.specs.rows.Database.{Columns}
use Rattle.ov_specs.specs.values.Value.{Datum}
use Rattle.ov_rows.specs.Named.{columns_at, place_from, IsListed}
use Rattle.ov_rows.specs.Spread.{spread}
use Rattle.ov_rows.proofs.Values.{place-within, set-invariant, columns_at-set}
use Rattle.ov_rows.proofs.columns.Columns.with_value.Goals as goal
use Rattle.ov_rows.proofs.columns.Columns.with_value.Goals.{In_ok-values-in-Some}

whole : (c : In_ok-values-in-Some) → c.in_ok-values-in-Some.values.items ≡ spread c.self.inside.marks c.self.inside.shape.defaults c.self.inside.own.items
whole c = c.in_ok-values-in-Some.ensures ∙ ap (λ (ds : List Datum). spread c.self.inside.marks ds c.self.inside.own.items) c.defaults.ensures

at : (c : In_ok-values-in-Some) → place_from 0 c.args.name.now c.self.inside.shape.names ≡ Some c.in-Some.place
at c = sym (c.in-Some.ensures ∙ ap (place_from 0 c.args.name.now) c.names.ensures)

pub index_mut-requires : goal.index_mut-requires
index_mut-requires c =
    let known = (goal.at.index_mut-requires c).In_ok-values-in-Some in
    let values = spread c.self.inside.marks c.self.inside.shape.defaults c.self.inside.own.items in
    let within = place-within c.self.inside.shape.names values c.args.name.now c.args.datum c.in-Some.place c.self.invariant.1 (at known) in
    omega (arith, within, ap length (whole known), c.in_ok-values-in-Some.values.ok.0)

pub listed-requires : goal.listed-requires
listed-requires c =
    let known = (goal.at.listed-requires c).In_ok-values-in-Some in
    let names = c.self.inside.shape.names in
    let values = spread c.self.inside.marks c.self.inside.shape.defaults c.self.inside.own.items in
    subst (λ (vs : List Datum). IsListed names (slice_set vs c.in-Some.place c.args.datum)) (sym (whole known))
    (set-invariant names values c.args.name.now c.args.datum c.in-Some.place c.self.invariant.1 (at known) c.self.invariant.0)

pub returns-in_ok-values-in-Some : goal.returns-in_ok-values-in-Some
returns-in_ok-values-in-Some c =
    let known = (goal.at.returns-in_ok-values-in-Some c).In_ok-values-in-Some in
    let names = c.self.inside.shape.names in
    let values = spread c.self.inside.marks c.self.inside.shape.defaults c.self.inside.own.items in
    IfOk-weaker c.listed.result _ _ (λ columns is.
    is ∙ ap (λ (vs : List Datum). columns_at names (slice_set vs c.in-Some.place c.args.datum)) (whole known)
    ∙ columns_at-set names values c.args.name.now c.args.datum c.in-Some.place c.self.invariant.1 (at known) c.self.invariant.0
    ∙ ap (λ (columns : Columns). insert columns c.args.name.now c.args.datum) c.self.view_is) c.listed.ensures
