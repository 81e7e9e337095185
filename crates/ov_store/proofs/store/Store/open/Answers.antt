use Rattle.std.proofs.Common.{◌≡◌, ◌∙◌, inl, inr, ap, refl, sym, subst, arith, Err, IsTrue, false, ℕ}
use Rattle.sqlite.specs.Held.{state}
use Rattle.sqlite.specs.Effect.{Database}
use Rattle.ov_specs.specs.rows.Cells.{Stored, format_of}
use Rattle.ov_keeper.specs.Views.{lines_view}
use Rattle.ov_tables.specs.Tables.{HasOurTables}
use Rattle.ov_tables.specs.Holding.{IsStoredAs}
use Rattle.ov_tables.proofs.KeepLemmas.{nothing_now}
use Rattle.ov_store.specs.StoreState.{text_in}
use Rattle.ov_store.proofs.FoundLemmas.{loaded_found}
use Rattle.ov_store.proofs.FormatLemmas.{format_found, text_stored}
use Rattle.ov_store.proofs.store.Store.open.Goals as goal

pub returns-in-Err-clause-format : goal.returns-in-Err-clause-format
returns-in-Err-clause-format g c clean is =
    let has : HasOurTables c.args.connection.schema = subst HasOurTables c.schema.ensures.value (c.is_ours.ensures.0 c.if-not-is_ours.false) in
    c.in-Err.ensures.format clean has (ap Err is)

pub returns-in-Err-clause-ours : goal.returns-in-Err-clause-ours
returns-in-Err-clause-ours g c is =
    let has : HasOurTables c.args.connection.schema = subst HasOurTables c.schema.ensures.value (c.is_ours.ensures.0 c.if-not-is_ours.false) in
    inr (has, λ clean. c.in-Err.ensures.ours clean has (ap Err is))

pub returns-in-Err-clause-foreign : goal.returns-in-Err-clause-foreign
returns-in-Err-clause-foreign g c none = absurd (none (subst HasOurTables c.schema.ensures.value (c.is_ours.ensures.0 c.if-not-is_ours.false)))

pub returns-then-not-is_ours-clause-ours : goal.returns-then-not-is_ours-clause-ours
returns-then-not-is_ours-clause-ours g c is =
    inl (λ has. let yes : IsTrue c.is_ours.result = c.is_ours.ensures.1 (subst HasOurTables (sym c.schema.ensures.value) has) in let no : c.is_ours.result ≡ false = c.if-not-is_ours.true in absurd cc)

pub returns-then-not-is_ours-clause-told : goal.returns-then-not-is_ours-clause-told
returns-then-not-is_ours-clause-told g c =
    inl (refl, λ has. let yes : IsTrue c.is_ours.result = c.is_ours.ensures.1 (subst HasOurTables (sym c.schema.ensures.value) has) in let no : c.is_ours.result ≡ false = c.if-not-is_ours.true in absurd cc)

pub returns-then-not-is_ours-clause-same_refused : goal.returns-then-not-is_ours-clause-same_refused
returns-then-not-is_ours-clause-same_refused g c clean = record { was_open = λ up. up; now = λ up. refl }

pub returns-then-not-is_ours-clause-survives_refused : goal.returns-then-not-is_ours-clause-survives_refused
returns-then-not-is_ours-clause-survives_refused g c = nothing_now _

pub returns-in-Err-clause-told : goal.returns-in-Err-clause-told
returns-in-Err-clause-told g c = inr (subst HasOurTables c.schema.ensures.value (c.is_ours.ensures.0 c.if-not-is_ours.false), c.in-Err.ensures.told)

pub returns-in-Ok-clause-ok : goal.returns-in-Ok-clause-ok
returns-in-Ok-clause-ok g c clean =
    let has : HasOurTables c.args.connection.schema = subst HasOurTables c.schema.ensures.value (c.is_ours.ensures.0 c.if-not-is_ours.false) in
    let now = (state g.S.Store c.args.connection).now in
    let n = format_of (lines_view c.in-Ok.loaded.lines) in
    format_found n (text_in now) now (text_stored n c.in-Ok.loaded.schema now (c.in-Ok.ensures.ok clean (λ _. has)).tables.stored)

pub returns-in-Ok-clause-of_format : goal.returns-in-Ok-clause-of_format
returns-in-Ok-clause-of_format g c clean s here =
    let has : HasOurTables c.args.connection.schema = subst HasOurTables c.schema.ensures.value (c.is_ours.ensures.0 c.if-not-is_ours.false) in
    let is = loaded_found g.S.Store g.met.S.Store.settled g.met.S.Store.stays c.args.connection c.read_tables.new.conn c.in-Ok.loaded clean c.read_tables.ensures.survives (c.in-Ok.ensures.ok clean (λ _. has)) s here in
    ap (λ (t : Stored). format_of t.lines) is ∙ sym c.number_of.ensures.number

pub invariant_of-result : goal.invariant_of-result
invariant_of-result g c =
    let has : HasOurTables c.args.connection.schema = subst HasOurTables c.schema.ensures.value (c.is_ours.ensures.0 c.if-not-is_ours.false) in
    let old = c.args.connection in
    let new = c.read_tables.new.conn in
    let loaded = c.in-Ok.loaded in
    let number = c.number_of.ensures.number in
    record {
      mode = c.read_tables.ensures.mode;
      known = c.number_of.ensures.known;
      stored = λ clean up.
          let it = (c.in-Ok.ensures.ok clean (λ _. has)).tables in
          subst (λ (db : Database). IsStoredAs c.number_of.result (text_in db) db) (sym ((c.read_tables.ensures.same clean).now up))
          (subst (λ (n : ℕ). IsStoredAs n (text_in (state g.S.Store old).now) (state g.S.Store old).now) (sym number) (text_stored (format_of (lines_view loaded.lines)) loaded.schema (state g.S.Store old).now it.stored));
      found = λ clean s here.
          let is = loaded_found g.S.Store g.met.S.Store.settled g.met.S.Store.stays old new loaded clean c.read_tables.ensures.survives (c.in-Ok.ensures.ok clean (λ _. has)) s here in
          let of = ap (λ (t : Stored). format_of t.lines) is in
          omega (arith, number, of);
      read_is = record {
        of_format = sym number;
        is_found = λ clean s here. loaded_found g.S.Store g.met.S.Store.settled g.met.S.Store.stays old new loaded clean c.read_tables.ensures.survives (c.in-Ok.ensures.ok clean (λ _. has)) s here;
      };
    }

pub returns-in-Ok-clause-tables : goal.returns-in-Ok-clause-tables
returns-in-Ok-clause-tables g c = subst HasOurTables c.schema.ensures.value (c.is_ours.ensures.0 c.if-not-is_ours.false)

pub returns-in-Err-clause-format_tables : goal.returns-in-Err-clause-format_tables
returns-in-Err-clause-format_tables g c is = subst HasOurTables c.schema.ensures.value (c.is_ours.ensures.0 c.if-not-is_ours.false)
