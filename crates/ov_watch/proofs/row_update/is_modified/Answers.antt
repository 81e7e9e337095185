use Rattle.std.proofs.Common.{not, sym, ap, ◌∙◌}
use Rattle.std.specs.FinMap.{get}
use Rattle.std.specs.Option.{option_copied}
use Rattle.std.specs.Str.{bytes_eq}
use Rattle.ov_specs.specs.integrity.Limits.{is_same_value}
use Rattle.ov_specs.specs.rows.Database.{Row}
use Rattle.ov_specs.proofs.laws.Sameness.{datum-tied}
use Rattle.ov_watch.proofs.Modified.{modified-id, modified-version, modified-column}
use Rattle.ov_watch.proofs.row_update.is_modified.Goals as goal

pub returns-then-eq : goal.returns-then-eq
returns-then-eq c table id = sym (modified-id table id c.args.name.now c.args.before.now c.args.after.now (sym c.eq.ensures ∙ c.if-eq.true))

pub returns-then-eq-2 : goal.returns-then-eq-2
returns-then-eq-2 c table id =
    c.ne.ensures ∙ (λ i. not (bytes_eq (ap (λ (r : Row). r.version) c.before-2.view_is i) (ap (λ (r : Row). r.version) c.after.view_is i)))
    ∙ sym (modified-version table id c.args.name.now c.args.before.now c.args.after.now (sym c.eq.ensures ∙ c.if-eq.false) (sym c.eq-2.ensures ∙ c.if-eq-2.true))

pub returns-in-Some-Some : goal.returns-in-Some-Some
returns-in-Some-Some c table id =
    let name = c.args.name.now in
    let before = c.args.before.now in
    let after = c.args.after.now in
    let old = ap (λ (r : Row). get r.columns name) (sym c.before-2.view_is) ∙ (sym c.get.ensures ∙ ap option_copied c.in-Some-Some.is-0) in
    let new = ap (λ (r : Row). get r.columns name) (sym c.after.view_is) ∙ (sym c.get-2.ensures ∙ ap option_copied c.in-Some-Some.is-1) in
    c.ne-in-Some-Some.ensures ∙ ap not (sym (datum-tied c.in-Some-Some.old.now c.in-Some-Some.new.now))
    ∙ sym (modified-column table id name before after (sym c.eq.ensures ∙ c.if-eq.false) (sym c.eq-2.ensures ∙ c.if-eq-2.false) ∙ (λ i. not (is_same_value (old i) (new i))))
