use Rattle.std.proofs.Common.{sym, ◌∙◌}
use Rattle.ov_support.proofs.SupportedRows.{supported_first, supported_second, supported_third}
use Rattle.ov_support.proofs.support.is_supported.Goals as goal

pub returns-then-is_in_root_table : goal.returns-then-is_in_root_table
returns-then-is_in_root_table c =
    supported_first c.args.schema.now c.args.stage.now.now c.args.links.now.strong c.args.changes.now c.args.key.now c.requires.linked (sym c.is_in_root_table.ensures ∙ c.if-is_in_root_table.true)

pub returns-then-is_held_by_unchanged : goal.returns-then-is_held_by_unchanged
returns-then-is_held_by_unchanged c =
    supported_second c.args.schema.now c.args.stage.now.now c.args.links.now.strong c.args.changes.now c.args.key.now c.requires.linked (sym c.is_in_root_table.ensures ∙ c.if-is_in_root_table.false)
    (sym c.is_held_by_unchanged.ensures ∙ c.if-is_held_by_unchanged.true)

pub returns : goal.returns
returns c =
    c.is_held_by_changed.ensures
    ∙ supported_third c.args.schema.now c.args.stage.now.now c.args.links.now.strong c.args.changes.now c.args.key.now c.requires.linked (sym c.is_in_root_table.ensures ∙ c.if-is_in_root_table.false)
    (sym c.is_held_by_unchanged.ensures ∙ c.if-is_held_by_unchanged.false)
