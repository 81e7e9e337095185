use Rattle.std.proofs.Common.{◌≡◌, ℕ, List, refl, sym, ap, ◌∙◌, rules, codes}
use Rattle.std.proofs.lemmas.Result.{err_from_is_err_and}
use Rattle.std.specs.Prelude.{Option, Some, None, Result, option_map}
use Rattle.serde_json.specs.Data.{Data, Members}
use Rattle.serde_json.specs.Find as find
use Rattle.serde_json.specs.View.{view, members_view}
use Rattle.ov_specs.specs.operations.Errors.{OpError, SyntaxError}
use Rattle.ov_specs.specs.operations.Insert.{uuid_fault, name_fault, new_row, put_new}
use Rattle.ov_specs.specs.operations.NamedUuids.{id_at}
use Rattle.ov_specs.specs.operations.Members.{object_at}
use Rattle.ov_specs.specs.operations.OpOutcome.{OpContext, OpOutcome, names_in, some_or_fault, ok_or_fault, unless_fault}
use Rattle.ov_specs.specs.rows.Database.{Database, Columns}
use Rattle.ov_specs.specs.schema.SchemaTypes.{Table}
use Rattle.ov_specs.specs.wire.Message.{has_member}
use Rattle.ov_projection.specs.Errors.{error_view}
use Rattle.ov_ops.specs.Outcomes.{context_of, IsDone}
use Rattle.ov_ops.proofs.Going.{stops, refuses}
use Rattle.ov_ops.proofs.insert.insert.Goals as goal
use Rattle.std.proofs.Common.{subst}
use Rattle.std.specs.Option.{option_copied}

-- from the row's columns on, from the row on, from the name on, and from the table on
module _ (t : OpContext) (place : ℕ) (rows : Database) (d : Data) (name : List ℕ) (table : Table) where
  abbrev from_columns : Columns → OpOutcome
  from_columns columns = put_new t rows name columns (has_member (codes "uuid") d) (id_at t.ids t.operations place)

  abbrev from_row : OpOutcome
  from_row = some_or_fault (object_at (codes "row") d) SyntaxError (λ members. ok_or_fault (new_row (names_in t) table members) from_columns)

  abbrev from_name : OpOutcome
  from_name = unless_fault (name_fault t place (find.get (codes "uuid-name") d)) from_row

  abbrev from_table : OpOutcome
  from_table = unless_fault (uuid_fault (find.get (codes "uuid") d)) from_name

  module _ (outcome : OpOutcome) (begins : outcome ≡ from_table) where
    to_uuid : (fault : Option OpError) → uuid_fault (find.get (codes "uuid") d) ≡ fault → outcome ≡ unless_fault fault from_name
    to_uuid fault h = begins ∙ ap (λ (o : Option OpError). unless_fault o from_name) h

    module _ (chosen : uuid_fault (find.get (codes "uuid") d) ≡ None) where
      to_name : (fault : Option OpError) → name_fault t place (find.get (codes "uuid-name") d) ≡ fault → outcome ≡ unless_fault fault from_row
      to_name fault h = to_uuid None chosen ∙ ap (λ (o : Option OpError). unless_fault o from_row) h

      to_row : name_fault t place (find.get (codes "uuid-name") d) ≡ None → (row : Option Members) → object_at (codes "row") d ≡ row
          → outcome ≡ some_or_fault row SyntaxError (λ members. ok_or_fault (new_row (names_in t) table members) from_columns)
      to_row named row h = to_name None named ∙ ap (λ (o : Option Members). some_or_fault o SyntaxError (λ members. ok_or_fault (new_row (names_in t) table members) from_columns)) h

pub returns-in_err-name-clause-done : goal.returns-in_err-name-clause-done
returns-in_err-name-clause-done g c =
    let before = c.args.stage.now.before in
    let t = context_of g.O.Owns.owned c.args.ctx.now before in
    let rows = c.args.stage.now.now in
    let d = view c.args.operation.now in
    let p = err_from_is_err_and c.from_residual.result c.from_residual.ensures.1 in
    rw (p.1, p.2) (stops _ _ c.in_err-name.field-0.0 rows refl (c.in_err-name.ensures before (from_table t c.args.place rows d)))

pub returns-in-Some-clause-done : goal.returns-in-Some-clause-done
returns-in-Some-clause-done g c =
    let before = c.args.stage.now.before in
    let t = context_of g.O.Owns.owned c.args.ctx.now before in
    let d = view c.args.operation.now in
    let given : find.get (codes "uuid") d ≡ option_map view (option_copied c.get-chosen.result) = search rules in
    let faulty : uuid_fault (find.get (codes "uuid") d) ≡ Some (error_view c.in-Some.error) = ap uuid_fault given ∙ sym c.uuid_fault.ensures ∙ ap (option_map error_view) c.in-Some.is in
    to_uuid t c.args.place c.args.stage.now.now d c.in_ok-name.name.now c.in_ok-name.table.now _ (c.in_ok-name.ensures before (from_table t c.args.place c.args.stage.now.now d)) _ faulty

pub returns-in-Some-name_fault-clause-done : goal.returns-in-Some-name_fault-clause-done
returns-in-Some-name_fault-clause-done g c =
    let before = c.args.stage.now.before in
    let t = context_of g.O.Owns.owned c.args.ctx.now before in
    let place = c.args.place in
    let d = view c.args.operation.now in
    let given : find.get (codes "uuid") d ≡ option_map view (option_copied c.get-chosen.result) = search rules in
    let chosen : uuid_fault (find.get (codes "uuid") d) ≡ None = ap uuid_fault given ∙ sym c.uuid_fault.ensures ∙ ap (option_map error_view) c.in_default.is in
    let got : find.get (codes "uuid-name") d ≡ option_map view (option_copied c.get.result) = search rules in
    let faulty : name_fault t place (find.get (codes "uuid-name") d) ≡ Some (error_view c.in-Some-name_fault.error) = ap (name_fault t place) got ∙ sym (c.name_fault.ensures t refl) ∙ ap (option_map error_view) c.in-Some-name_fault.is in
    to_name t place c.args.stage.now.now d c.in_ok-name.name.now c.in_ok-name.table.now _ (c.in_ok-name.ensures before (from_table t place c.args.stage.now.now d)) chosen _ faulty

pub returns-in_err-columns-clause-done : goal.returns-in_err-columns-clause-done
returns-in_err-columns-clause-done g c =
    let before = c.args.stage.now.before in
    let t = context_of g.O.Owns.owned c.args.ctx.now before in
    let place = c.args.place in
    let rows = c.args.stage.now.now in
    let d = view c.args.operation.now in
    let name = c.in_ok-name.name.now in
    let table = c.in_ok-name.table.now in
    let members = members_view c.in-Some-and_then.members.now.entries in
    let given : find.get (codes "uuid") d ≡ option_map view (option_copied c.get-chosen.result) = search rules in
    let chosen : uuid_fault (find.get (codes "uuid") d) ≡ None = ap uuid_fault given ∙ sym c.uuid_fault.ensures ∙ ap (option_map error_view) c.in_default.is in
    let got : find.get (codes "uuid-name") d ≡ option_map view (option_copied c.get.result) = search rules in
    let named : name_fault t place (find.get (codes "uuid-name") d) ≡ None = ap (name_fault t place) got ∙ sym (c.name_fault.ensures t refl) ∙ ap (option_map error_view) c.in_default-name_fault.is in
    let found : object_at (codes "row") d ≡ Some members = search rules in
    let e = to_row t place rows d name table _ (c.in_ok-name.ensures before (from_table t place rows d)) chosen named _ found in
    let p = err_from_is_err_and c.from_residual-in_err-columns.result c.from_residual-in_err-columns.ensures.1 in
    rw (p.1, p.2) (stops _ _ c.in_err-columns.field-0.0 rows e (refuses (new_row (names_in t) table members) (λ (x : Columns). x) (from_columns t place rows d name table) c.in_err-columns.field-0.0 c.in_err-columns.ensures))

pub returns-clause-done : goal.returns-clause-done
returns-clause-done g c =
    let before = c.args.stage.now.before in
    let t = context_of g.O.Owns.owned c.args.ctx.now before in
    let place = c.args.place in
    let rows = c.args.stage.now.now in
    let d = view c.args.operation.now in
    let name = c.in_ok-name.name.now in
    let table = c.in_ok-name.table.now in
    let columns = c.in_ok-columns.columns in
    let members = members_view c.in-Some-and_then.members.now.entries in
    let given : find.get (codes "uuid") d ≡ option_map view (option_copied c.get-chosen.result) = search rules in
    let chosen : uuid_fault (find.get (codes "uuid") d) ≡ None = ap uuid_fault given ∙ sym c.uuid_fault.ensures ∙ ap (option_map error_view) c.in_default.is in
    let got : find.get (codes "uuid-name") d ≡ option_map view (option_copied c.get.result) = search rules in
    let named : name_fault t place (find.get (codes "uuid-name") d) ≡ None = ap (name_fault t place) got ∙ sym (c.name_fault.ensures t refl) ∙ ap (option_map error_view) c.in_default-name_fault.is in
    let found : object_at (codes "row") d ≡ Some members = search rules in
    let e = to_row t place rows d name table _ (c.in_ok-name.ensures before (from_table t place rows d)) chosen named _ found
    ∙ ap (λ (r : Result Columns OpError). ok_or_fault r (from_columns t place rows d name table)) c.in_ok-columns.ensures in
    let is_chosen : c.is_some.result ≡ has_member (codes "uuid") d = search rules in
    let id : c.id_at-id.result ≡ id_at t.ids t.operations place = c.id_at-id.ensures in
    subst (λ (o : OpOutcome). IsDone o c.put_new.result c.put_new.new.stage.now) (sym (e ∙ (λ i. put_new t rows name columns (sym is_chosen i) (sym id i)))) c.put_new.ensures.done
