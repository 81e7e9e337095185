use Rattle.std.proofs.Common.{◌≡◌, true, false, sym, ap, subst, ◌∙◌}
use Rattle.std.specs.FinMap.{contains_key, insert}
use Rattle.ov_specs.specs.rows.Database.{Database}
use Rattle.ov_specs.specs.rows.Suits.{Suits}
use Rattle.ov_specs.proofs.laws.Suiting.{one_row_suits}
use Rattle.ov_stored.proofs.StoredSuits.{stored_row_suits}
use Rattle.ov_stored.specs.Loading.{whole_entry}
use Rattle.ov_stored.proofs.Loads.{line_refused, line_there}
use Rattle.ov_stored.proofs.load.add_line.Goals as goal

pub returns-then-contains-clause-ok : goal.returns-then-contains-clause-ok
returns-then-contains-clause-ok c =
    let entry = whole_entry c.args.line.now in
    let is : c.in_ok-key.key ≡ entry.0 = c.in_ok-key.ensures ∙ ap (λ table. (table, c.args.line.now.id)) c.as_str.ensures in
    let there : contains_key c.args.rows.now entry.0 ≡ true = ap (contains_key c.args.rows.now) (sym is) ∙ sym c.if-contains.ensures in
    line_there c.args.schema.now entry c.args.rows.now there

pub returns-in-Err-clause-err : goal.returns-in-Err-clause-err
returns-in-Err-clause-err c =
    let entry = whole_entry c.args.line.now in
    let is : c.in_ok-key.key ≡ entry.0 = c.in_ok-key.ensures ∙ ap (λ table. (table, c.args.line.now.id)) c.as_str.ensures in
    let absent : contains_key c.args.rows.now entry.0 ≡ false = ap (contains_key c.args.rows.now) (sym is) ∙ sym c.if-contains.ensures in
    line_refused c.args.schema.now entry c.args.rows.now c.in-Err.fault absent c.in-Err.ensures

pub returns-clause-suits : goal.returns-clause-suits
returns-clause-suits c suits =
    let entry = whole_entry c.args.line.now in
    let is : c.in_ok-key.key ≡ entry.0 = c.in_ok-key.ensures ∙ ap (λ table. (table, c.args.line.now.id)) c.as_str.ensures in
    let rows : c.insert.new.self ≡ insert c.args.rows.now entry.0 c.in-Ok.row = c.in_ok-insert.ensures.ok ∙ ap (λ key. insert c.args.rows.now key c.in-Ok.row) is in
    subst (λ (d : Database). Suits c.args.schema.now d) (sym rows)
    (one_row_suits c.args.schema.now c.args.rows.now entry.0 c.in-Ok.row (stored_row_suits c.args.schema.now entry.0 entry.1 c.in-Ok.row c.has_sixteen_bytes.ensures c.has_sixteen_bytes-2.ensures c.in-Ok.ensures) suits)
