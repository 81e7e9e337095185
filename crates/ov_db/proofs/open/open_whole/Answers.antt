use Rattle.std.proofs.Common.{ap, sym, ◌∙◌, ◌==◌, ◌&&◌}
use Rattle.std.specs.Prelude.{Err}
use Rattle.std.proofs.lemmas.Bool.{and_parts}
use Rattle.std.proofs.lemmas.Result.{err_from_is_err_and}
use Rattle.ov_specs.specs.rows.Cells.{format_of}
use Rattle.ov_keeper.specs.Keeping.{loaded_contents}
use Rattle.ov_db.proofs.Opening.{Loads, current, refused, two_is, unwritten, written}
use Rattle.ov_db.proofs.open.open_whole.Goals as goal

pub returns-in_err-resident-clause-refuses : goal.returns-in_err-resident-clause-refuses
returns-in_err-resident-clause-refuses g c =
    let loaded = loaded_contents c.in_ok-loaded.loaded in
    let is = c.in_ok-loaded.ensures in
    let loads : Loads g.K.Keeper c.args.keeper.now c.load.new.self loaded =
    record { ok = is.ok; same = is.same; same_format = is.same_format; of_format = is.of_format; counts = is.counts; honest = is.honest } in
    let p = err_from_is_err_and c.from_residual-in_err-resident.result c.from_residual-in_err-resident.ensures.1 in
    rw (p.1, p.2) (refused g.K.Keeper c.args.schema.now c.args.version c.args.keeper.now c.load.new.self loaded loads c.in_err-resident.field-0.0 c.in_err-resident.ensures.err)

pub returns-then-is_current-clause-opens : goal.returns-then-is_current-clause-opens
returns-then-is_current-clause-opens g c =
    let loaded = loaded_contents c.in_ok-loaded.loaded in
    let is = c.in_ok-loaded.ensures in
    let loads : Loads g.K.Keeper c.args.keeper.now c.load.new.self loaded =
    record { ok = is.ok; same = is.same; same_format = is.same_format; of_format = is.of_format; counts = is.counts; honest = is.honest } in
    let parts = and_parts c.in_ok-has_text.has_text (format_of loaded.lines == 2 && g.K.Keeper.format c.load.new.self == 2) (sym c.is_current-is_current.ensures ∙ c.if-is_current.true) in
    let formats = and_parts (format_of loaded.lines == 2) (g.K.Keeper.format c.load.new.self == 2) parts.1 in
    let in_cells = two_is (format_of loaded.lines) formats.0 in
    current g.K.Keeper c.args.schema.now c.args.version c.args.keeper.now c.load.new.self loaded loads c.in_ok-resident.resident.rows c.in_ok-resident.ensures.ok c.in_ok-resident.ensures.whole
    (c.in_ok-has_text.ensures.has.0 parts.0) in_cells (two_is (g.K.Keeper.format c.load.new.self) formats.1) (c.in_ok-resident.ensures.kept parts.0 in_cells)

pub returns-in_err-write_rows-clause-refuses : goal.returns-in_err-write_rows-clause-refuses
returns-in_err-write_rows-clause-refuses g c =
    let loaded = loaded_contents c.in_ok-loaded.loaded in
    let is = c.in_ok-loaded.ensures in
    let loads : Loads g.K.Keeper c.args.keeper.now c.load.new.self loaded =
    record { ok = is.ok; same = is.same; same_format = is.same_format; of_format = is.of_format; counts = is.counts; honest = is.honest } in
    let p = err_from_is_err_and c.from_residual-in_err-write_rows.result c.from_residual-in_err-write_rows.ensures.1 in
    let now = c.in_err-write_rows.ensures in
    rw (p.1, p.2) (
    unwritten g.K.Keeper c.args.schema.now c.args.version c.args.keeper.now c.load.new.self loaded loads c.in_ok-resident.resident.rows c.in_ok-resident.ensures.ok c.in_ok-resident.ensures.whole c.write_rows.new.keeper
    c.in_ok-has_text.has_text c.in_ok-has_text.ensures.has (sym c.is_current-is_current.ensures ∙ c.if-is_current.false) now.honest c.in_err-write_rows.field-0.0 now.same_format now.kinds now.err (λ e. now.cause (ap Err e)) now.counts)

pub returns-clause-opens : goal.returns-clause-opens
returns-clause-opens g c =
    let loaded = loaded_contents c.in_ok-loaded.loaded in
    let is = c.in_ok-loaded.ensures in
    let loads : Loads g.K.Keeper c.args.keeper.now c.load.new.self loaded =
    record { ok = is.ok; same = is.same; same_format = is.same_format; of_format = is.of_format; counts = is.counts; honest = is.honest } in
    let now = c.in_ok-write_rows.ensures in
    written g.K.Keeper c.args.schema.now c.args.version c.args.keeper.now c.load.new.self loaded loads c.in_ok-resident.resident.rows c.in_ok-resident.ensures.ok c.in_ok-resident.ensures.whole c.write_rows.new.keeper
    c.in_ok-has_text.has_text c.in_ok-has_text.ensures.has (sym c.is_current-is_current.ensures ∙ c.if-is_current.false) now.honest now.new_format now.kept now.ok
