use Rattle.std.proofs.Common.{◌≡◌, ◌∙◌, Err, ap, map, refl, sym, true, false}
use Rattle.std.proofs.lemmas.Result.{err_from_is_err_and}
use Rattle.clap.specs.Words.{fault_of, first_value, found_of}
use Rattle.ov_words.specs.Words.{app, fit_together}
use Rattle.ov_words.specs.declared.fault.WordFault.TheVariants.{Refused}
use Rattle.ov_words.proofs.WordsLemmas.{settings_by-db, settings_by-listen, settings_by-schema, settings_by-sessions, settings_by-taken, settings_by-unfit, settings_of-matches}
use Rattle.ov_words.proofs.settings.read_words.Goals as goal

pub returns-then-not-fit_together-clause-refused : goal.returns-then-not-fit_together-clause-refused
returns-then-not-fit_together-clause-refused g c = λ _.
    let words = map g.S.AsStr.text c.args.words.now in
    let matches = c.in_ok-matches.matches in
    let unfit : fit_together (first_value (found_of matches)) ≡ false = sym c.fit_together.ensures ∙ c.if-not-fit_together.true in
    settings_of-matches words matches c.in_ok-matches.ensures.rows ∙ settings_by-unfit (fault_of app words) (first_value (found_of matches)) unfit

pub returns-in_err-number_of-clause-refused : goal.returns-in_err-number_of-clause-refused
returns-in_err-number_of-clause-refused g c =
    let words = map g.S.AsStr.text c.args.words.now in
    let matches = c.in_ok-matches.matches in
    let p = err_from_is_err_and c.from_residual-in_err-number_of.result c.from_residual-in_err-number_of.ensures.1 in
    rw (p.1, p.2) (λ h.
    let refused : c.in_err-number_of.field-0.0 ≡ Refused = cc in
    settings_of-matches words matches c.in_ok-matches.ensures.rows
    ∙ settings_by-sessions (fault_of app words) (first_value (found_of matches)) (c.in_err-number_of.ensures.other (ap Err refused)))

pub returns-in_err-name_of-clause-refused : goal.returns-in_err-name_of-clause-refused
returns-in_err-name_of-clause-refused g c =
    let words = map g.S.AsStr.text c.args.words.now in
    let matches = c.in_ok-matches.matches in
    let p = err_from_is_err_and c.from_residual-in_err-name_of.result c.from_residual-in_err-name_of.ensures.1 in
    rw (p.1, p.2) (λ h.
    let refused : c.in_err-name_of.field-0.0 ≡ Refused = cc in
    settings_of-matches words matches c.in_ok-matches.ensures.rows
    ∙ settings_by-schema (fault_of app words) (first_value (found_of matches)) (c.in_err-name_of.ensures.empty (ap Err refused)))

pub returns-in_err-name_of-2-clause-refused : goal.returns-in_err-name_of-2-clause-refused
returns-in_err-name_of-2-clause-refused g c =
    let words = map g.S.AsStr.text c.args.words.now in
    let matches = c.in_ok-matches.matches in
    let p = err_from_is_err_and c.from_residual-in_err-name_of-2.result c.from_residual-in_err-name_of-2.ensures.1 in
    rw (p.1, p.2) (λ h.
    let refused : c.in_err-name_of-2.field-0.0 ≡ Refused = cc in
    settings_of-matches words matches c.in_ok-matches.ensures.rows
    ∙ settings_by-db (fault_of app words) (first_value (found_of matches)) (c.in_err-name_of-2.ensures.empty (ap Err refused)))

pub returns-in_err-name_of-3-clause-refused : goal.returns-in_err-name_of-3-clause-refused
returns-in_err-name_of-3-clause-refused g c =
    let words = map g.S.AsStr.text c.args.words.now in
    let matches = c.in_ok-matches.matches in
    let p = err_from_is_err_and c.from_residual-in_err-name_of-3.result c.from_residual-in_err-name_of-3.ensures.1 in
    rw (p.1, p.2) (λ h.
    let refused : c.in_err-name_of-3.field-0.0 ≡ Refused = cc in
    settings_of-matches words matches c.in_ok-matches.ensures.rows
    ∙ settings_by-listen (fault_of app words) (first_value (found_of matches)) (c.in_err-name_of-3.ensures.empty (ap Err refused)))

pub returns-clause-taken : goal.returns-clause-taken
returns-clause-taken g c =
    let words = map g.S.AsStr.text c.args.words.now in
    let matches = c.in_ok-matches.matches in
    let schema = c.in_ok-name_of.ensures in
    let db = c.in_ok-name_of-2.ensures in
    let listen = c.in_ok-name_of-3.ensures in
    let sessions = c.in_ok-number_of.ensures in
    let fit : fit_together (first_value (found_of matches)) ≡ true = sym c.fit_together.ensures ∙ c.if-not-fit_together.false in
    settings_of-matches words matches c.in_ok-matches.ensures.rows
    ∙ settings_by-taken (fault_of app words) (first_value (found_of matches)) c.in_ok-matches.ensures.taken
    (λ e. schema.full (schema.value ∙ e)) (λ e. db.full (db.value ∙ e)) (λ e. listen.full (listen.value ∙ e)) sessions.number fit
    ∙ rw (schema.value, db.value, listen.value, sessions.value, c.has_flag.ensures) refl
