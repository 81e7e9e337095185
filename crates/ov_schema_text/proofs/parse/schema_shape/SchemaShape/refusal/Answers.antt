use Rattle.std.proofs.Common.{◌≡◌, Some, None, option_map, refl, sym, ap, ◌∙◌}
use Rattle.ov_specs.specs.schema.Schema.{BadName, BadVersion, NoColumns, BadRange, RealNotSupported, UnknownRefTable, BadRefType, BadEnum, BadIndex, StrongWeakMap, refusal_of_shape}
use Rattle.ov_schema_text.specs.ShapeViews.{schema_view}
use Rattle.ov_schema_text.proofs.FirstRefusal.{passed, here}
use Rattle.ov_schema_text.proofs.parse.schema_shape.SchemaShape.refusal.Goals as goal

pub returns-then-branch : goal.returns-then-branch
returns-then-branch c =
    let is : refusal_of_shape (schema_view c.args.self.now) ≡ Some BadName = here _ _ _ (sym c.in_ok-has_bad_name.ensures ∙ c.if-branch.true) in
    ap (option_map Some) (sym is)

pub returns-then-has_bad_version : goal.returns-then-has_bad_version
returns-then-has_bad_version c =
    let is : refusal_of_shape (schema_view c.args.self.now) ≡ Some BadVersion = passed _ _ _ _ (sym c.in_ok-has_bad_name.ensures ∙ c.if-branch.false) (here _ _ _ (sym c.has_bad_version.ensures ∙ c.if-has_bad_version.true)) in
    ap (option_map Some) (sym is)

pub returns-then-branch-2 : goal.returns-then-branch-2
returns-then-branch-2 c =
    let is : refusal_of_shape (schema_view c.args.self.now) ≡ Some NoColumns = passed _ _ _ _ (sym c.in_ok-has_bad_name.ensures ∙ c.if-branch.false) (passed _ _ _ _ (sym c.has_bad_version.ensures ∙ c.if-has_bad_version.false) (here _ _ _ (sym c.in_ok-has.ensures ∙ c.if-branch-2.true))) in
    ap (option_map Some) (sym is)

pub returns-then-branch-3 : goal.returns-then-branch-3
returns-then-branch-3 c =
    let is : refusal_of_shape (schema_view c.args.self.now) ≡ Some BadRange = passed _ _ _ _ (sym c.in_ok-has_bad_name.ensures ∙ c.if-branch.false) (passed _ _ _ _ (sym c.has_bad_version.ensures ∙ c.if-has_bad_version.false) (passed _ _ _ _ (sym c.in_ok-has.ensures ∙ c.if-branch-2.false) (here _ _ _ (sym c.in_ok-has_bad_range.ensures ∙ c.if-branch-3.true)))) in
    ap (option_map Some) (sym is)

pub returns-then-branch-4 : goal.returns-then-branch-4
returns-then-branch-4 c =
    let is : refusal_of_shape (schema_view c.args.self.now) ≡ Some RealNotSupported = passed _ _ _ _ (sym c.in_ok-has_bad_name.ensures ∙ c.if-branch.false) (passed _ _ _ _ (sym c.has_bad_version.ensures ∙ c.if-has_bad_version.false) (passed _ _ _ _ (sym c.in_ok-has.ensures ∙ c.if-branch-2.false) (passed _ _ _ _ (sym c.in_ok-has_bad_range.ensures ∙ c.if-branch-3.false) (here _ _ _ (sym c.in_ok-has_base.ensures ∙ c.if-branch-4.true))))) in
    ap (option_map Some) (sym is)

pub returns-then-branch-5 : goal.returns-then-branch-5
returns-then-branch-5 c =
    let is : refusal_of_shape (schema_view c.args.self.now) ≡ Some UnknownRefTable = passed _ _ _ _ (sym c.in_ok-has_bad_name.ensures ∙ c.if-branch.false) (passed _ _ _ _ (sym c.has_bad_version.ensures ∙ c.if-has_bad_version.false) (passed _ _ _ _ (sym c.in_ok-has.ensures ∙ c.if-branch-2.false) (passed _ _ _ _ (sym c.in_ok-has_bad_range.ensures ∙ c.if-branch-3.false) (passed _ _ _ _ (sym c.in_ok-has_base.ensures ∙ c.if-branch-4.false) (here _ _ _ (sym c.in_ok-has_base-2.ensures ∙ c.if-branch-5.true)))))) in
    ap (option_map Some) (sym is)

pub returns-then-branch-6 : goal.returns-then-branch-6
returns-then-branch-6 c =
    let is : refusal_of_shape (schema_view c.args.self.now) ≡ Some BadRefType = passed _ _ _ _ (sym c.in_ok-has_bad_name.ensures ∙ c.if-branch.false) (passed _ _ _ _ (sym c.has_bad_version.ensures ∙ c.if-has_bad_version.false) (passed _ _ _ _ (sym c.in_ok-has.ensures ∙ c.if-branch-2.false) (passed _ _ _ _ (sym c.in_ok-has_bad_range.ensures ∙ c.if-branch-3.false) (passed _ _ _ _ (sym c.in_ok-has_base.ensures ∙ c.if-branch-4.false) (passed _ _ _ _ (sym c.in_ok-has_base-2.ensures ∙ c.if-branch-5.false) (here _ _ _ (sym c.in_ok-has_base-3.ensures ∙ c.if-branch-6.true))))))) in
    ap (option_map Some) (sym is)

pub returns-then-branch-7 : goal.returns-then-branch-7
returns-then-branch-7 c =
    let is : refusal_of_shape (schema_view c.args.self.now) ≡ Some BadEnum = passed _ _ _ _ (sym c.in_ok-has_bad_name.ensures ∙ c.if-branch.false) (passed _ _ _ _ (sym c.has_bad_version.ensures ∙ c.if-has_bad_version.false) (passed _ _ _ _ (sym c.in_ok-has.ensures ∙ c.if-branch-2.false) (passed _ _ _ _ (sym c.in_ok-has_bad_range.ensures ∙ c.if-branch-3.false) (passed _ _ _ _ (sym c.in_ok-has_base.ensures ∙ c.if-branch-4.false) (passed _ _ _ _ (sym c.in_ok-has_base-2.ensures ∙ c.if-branch-5.false) (passed _ _ _ _ (sym c.in_ok-has_base-3.ensures ∙ c.if-branch-6.false) (here _ _ _ (sym c.in_ok-has_base-4.ensures ∙ c.if-branch-7.true)))))))) in
    ap (option_map Some) (sym is)

pub returns-then-branch-8 : goal.returns-then-branch-8
returns-then-branch-8 c =
    let is : refusal_of_shape (schema_view c.args.self.now) ≡ Some BadIndex = passed _ _ _ _ (sym c.in_ok-has_bad_name.ensures ∙ c.if-branch.false) (passed _ _ _ _ (sym c.has_bad_version.ensures ∙ c.if-has_bad_version.false) (passed _ _ _ _ (sym c.in_ok-has.ensures ∙ c.if-branch-2.false) (passed _ _ _ _ (sym c.in_ok-has_bad_range.ensures ∙ c.if-branch-3.false) (passed _ _ _ _ (sym c.in_ok-has_base.ensures ∙ c.if-branch-4.false) (passed _ _ _ _ (sym c.in_ok-has_base-2.ensures ∙ c.if-branch-5.false) (passed _ _ _ _ (sym c.in_ok-has_base-3.ensures ∙ c.if-branch-6.false) (passed _ _ _ _ (sym c.in_ok-has_base-4.ensures ∙ c.if-branch-7.false) (here _ _ _ (sym c.in_ok-has-2.ensures ∙ c.if-branch-8.true))))))))) in
    ap (option_map Some) (sym is)

pub returns-then-branch-9 : goal.returns-then-branch-9
returns-then-branch-9 c =
    let is : refusal_of_shape (schema_view c.args.self.now) ≡ Some StrongWeakMap = passed _ _ _ _ (sym c.in_ok-has_bad_name.ensures ∙ c.if-branch.false) (passed _ _ _ _ (sym c.has_bad_version.ensures ∙ c.if-has_bad_version.false) (passed _ _ _ _ (sym c.in_ok-has.ensures ∙ c.if-branch-2.false) (passed _ _ _ _ (sym c.in_ok-has_bad_range.ensures ∙ c.if-branch-3.false) (passed _ _ _ _ (sym c.in_ok-has_base.ensures ∙ c.if-branch-4.false) (passed _ _ _ _ (sym c.in_ok-has_base-2.ensures ∙ c.if-branch-5.false) (passed _ _ _ _ (sym c.in_ok-has_base-3.ensures ∙ c.if-branch-6.false) (passed _ _ _ _ (sym c.in_ok-has_base-4.ensures ∙ c.if-branch-7.false) (passed _ _ _ _ (sym c.in_ok-has-2.ensures ∙ c.if-branch-8.false) (here _ _ _ (sym c.in_ok-has_strong_weak.ensures ∙ c.if-branch-9.true)))))))))) in
    ap (option_map Some) (sym is)

pub returns : goal.returns
returns c =
    let is : refusal_of_shape (schema_view c.args.self.now) ≡ None = passed _ _ _ _ (sym c.in_ok-has_bad_name.ensures ∙ c.if-branch.false) (passed _ _ _ _ (sym c.has_bad_version.ensures ∙ c.if-has_bad_version.false) (passed _ _ _ _ (sym c.in_ok-has.ensures ∙ c.if-branch-2.false) (passed _ _ _ _ (sym c.in_ok-has_bad_range.ensures ∙ c.if-branch-3.false) (passed _ _ _ _ (sym c.in_ok-has_base.ensures ∙ c.if-branch-4.false) (passed _ _ _ _ (sym c.in_ok-has_base-2.ensures ∙ c.if-branch-5.false) (passed _ _ _ _ (sym c.in_ok-has_base-3.ensures ∙ c.if-branch-6.false) (passed _ _ _ _ (sym c.in_ok-has_base-4.ensures ∙ c.if-branch-7.false) (passed _ _ _ _ (sym c.in_ok-has-2.ensures ∙ c.if-branch-8.false) (passed _ _ _ _ (sym c.in_ok-has_strong_weak.ensures ∙ c.if-branch-9.false) (refl)))))))))) in
    ap (option_map Some) (sym is)
