use Rattle.std.proofs.Common.{◌≡◌, ◌∙◌, sym, ap, arith, subst, Option, IfSome}
use Rattle.sqlite.specs.State.{HasCleanDisk}
use Rattle.sqlite.specs.Held.{state}
use Rattle.ov_specs.specs.rows.Cells.{Stored, format_of}
use Rattle.ov_keeper.specs.Keeping.{LeavesNoMore}
use Rattle.ov_sqlite.specs.Reading.{MayHaveTables}
use Rattle.ov_keeper.specs.declared.keeper.Loaded.{Loaded}
use Rattle.ov_store.specs.StoreState.{StoreState, MayFind, IsWhatIsFound, text_in}
use Rattle.ov_store.proofs.FoundLemmas.{found_is, survives_found}
use Rattle.ov_store.proofs.FormatLemmas.{tables_stored, stored_format}
use Rattle.ov_store.proofs.store.Store.load_all.Goals as goal

pub returns-in-Ok-clause-ok : goal.returns-in-Ok-clause-ok
returns-in-Ok-clause-ok g c clean contents found =
    let conn = c.self.inside.connection in
    let early : HasCleanDisk (state g.S.Store conn) = omega (arith, c.read_tables.ensures.survives.clean) in
    let may : MayHaveTables (state g.S.Store conn) = λ up. tables_stored c.self.inside.format (text_in (state g.S.Store conn).now) (state g.S.Store conn).now (c.self.invariant.stored early up) in
    let read = c.in-Ok.ensures.ok clean may in
    let same : conn ≡ c.args.self.now.connection = ap (λ (s : StoreState _). s.connection) c.self.view_is in
    let here : MayFind g.S.Store conn contents = subst (λ h. MayFind g.S.Store h contents) (sym same) found in
    found_is g.S.Store g.met.S.Store.settled g.met.S.Store.stays conn read.is_open read.settled contents here ∙ read.tables.holds

pub returns-in-Ok-clause-of_format : goal.returns-in-Ok-clause-of_format
returns-in-Ok-clause-of_format g c clean =
    let conn = c.self.inside.connection in
    let early : HasCleanDisk (state g.S.Store conn) = omega (arith, c.read_tables.ensures.survives.clean) in
    let text = text_in (state g.S.Store conn).now in
    let may : MayHaveTables (state g.S.Store conn) = λ up. tables_stored c.self.inside.format text (state g.S.Store conn).now (c.self.invariant.stored early up) in
    let read = c.in-Ok.ensures.ok clean may in
    ap (λ (s : Stored). format_of s.lines) (sym read.tables.holds) ∙ stored_format c.self.inside.format text (state g.S.Store conn).now (c.self.invariant.stored early read.is_open)

pub returns-in-Ok-clause-same : goal.returns-in-Ok-clause-same
returns-in-Ok-clause-same g c clean =
    let conn = c.self.inside.connection in
    let new = c.read_tables.new.conn in
    let same : conn ≡ c.args.self.now.connection = ap (λ (s : StoreState _). s.connection) c.self.view_is in
    subst (λ was. LeavesNoMore (MayFind g.S.Store was) (MayFind g.S.Store new)) same (survives_found g.S.Store g.met.S.Store.settled g.met.S.Store.stays conn new clean c.read_tables.ensures.survives)

pub returns-in-Err-Memory-clause-same : goal.returns-in-Err-Memory-clause-same
returns-in-Err-Memory-clause-same g c clean =
    let conn = c.self.inside.connection in
    let new = c.read_tables.new.conn in
    let same : conn ≡ c.args.self.now.connection = ap (λ (s : StoreState _). s.connection) c.self.view_is in
    subst (λ was. LeavesNoMore (MayFind g.S.Store was) (MayFind g.S.Store new)) same (survives_found g.S.Store g.met.S.Store.settled g.met.S.Store.stays conn new clean c.read_tables.ensures.survives)

pub returns-in-Err-clause-same : goal.returns-in-Err-clause-same
returns-in-Err-clause-same g c clean =
    let conn = c.self.inside.connection in
    let new = c.read_tables.new.conn in
    let same : conn ≡ c.args.self.now.connection = ap (λ (s : StoreState _). s.connection) c.self.view_is in
    let moved = c.count_failure.ensures.same in
    let late : HasCleanDisk (state g.S.Store new) = rw moved at clean in
    rw moved (subst (λ was. LeavesNoMore (MayFind g.S.Store was) (MayFind g.S.Store new)) same (survives_found g.S.Store g.met.S.Store.settled g.met.S.Store.stays conn new late c.read_tables.ensures.survives))

pub returns-in-Some-clause-ok : goal.returns-in-Some-clause-ok
returns-in-Some-clause-ok g c clean contents found =
    let conn = c.self.inside.connection in
    let same : conn ≡ c.args.self.now.connection = ap (λ (s : StoreState _). s.connection) c.self.view_is in
    let here : MayFind g.S.Store conn contents = subst (λ h. MayFind g.S.Store h contents) (sym same) found in
    let kept = subst (λ (read : Option Loaded). IfSome read (IsWhatIsFound g.S.Store conn c.self.inside.format)) (sym c.take.ensures.value ∙ c.in-Some.is) c.self.invariant.read_is in
    kept.is_found clean contents here
