use Rattle.std.proofs.Common.{◌≡◌, Some, sym, ap, ◌∙◌, option_map}
use Rattle.serde_json.specs.View.{view}
use Rattle.ov_specs.specs.values.Value.{Single, Pair, Atoms, set_of, is_of}
use Rattle.ov_specs.specs.values.Reading.{atoms_read, pairs_read, set_reading, map_reading}
use Rattle.ov_specs.proofs.laws.OfKinds.{reads_is_of}
use Rattle.ov_atoms.specs.Views.{kind_view, kinds_view, atoms_view, pairs_view}
use Rattle.ov_atoms.proofs.AnswerLemmas.{if_ok, map_reading-unclashed}
use Rattle.ov_atoms.proofs.read.read_datum.Goals as goal

pub returns-in_ok-of_atoms-in-Some-clause-of_kinds : goal.returns-in_ok-of_atoms-in-Some-clause-of_kinds
returns-in_ok-of_atoms-in-Some-clause-of_kinds g c are =
    let names = g.N.Names.names c.args.names.now in
    let kind = kind_view c.in-Single.kind in
    let xs = atoms_view c.in-Some.atoms.items in
    let parts : atoms_read names kind (view c.args.tree.now) ≡ Some xs = sym c.in_ok-atoms-in-Single.ensures ∙ ap (option_map (λ v. atoms_view v.items)) c.in-Some.is in
    let whole = reads_is_of names are (Single kind) (view c.args.tree.now) (Atoms (set_of xs)) (ap set_reading parts) in
    ap (λ k. is_of (kinds_view k) c.in_ok-of_atoms-in-Some.field-0) c.in-Single.is ∙ (ap (is_of (Single kind)) c.in_ok-of_atoms-in-Some.ensures ∙ whole)

pub returns-in_ok-of_pairs-in-Some-2-clause-of_kinds : goal.returns-in_ok-of_pairs-in-Some-2-clause-of_kinds
returns-in_ok-of_pairs-in-Some-2-clause-of_kinds g c are =
    let names = g.N.Names.names c.args.names.now in
    let key = kind_view c.in-Pair.key in
    let value = kind_view c.in-Pair.value in
    let ps = pairs_view c.in-Some-2.pairs.items in
    let parts : pairs_read names key value (view c.args.tree.now) ≡ Some ps = sym c.in_ok-pairs-in-Pair.ensures ∙ ap (option_map (λ v. pairs_view v.items)) c.in-Some-2.is in
    if_ok _ c.ok_or.result (λ d e.
    let made = map_reading-unclashed ps d (sym (c.ok_or.ensures.ok_part ∙ e) ∙ c.in_ok-of_pairs-in-Some-2.ensures) in
    ap (λ k. is_of (kinds_view k) d) c.in-Pair.is ∙ reads_is_of names are (Pair key value) (view c.args.tree.now) d (ap map_reading parts ∙ made))
