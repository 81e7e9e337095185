use Rattle.std.proofs.Common.{◌≡◌, ◌∷◌, [], ◌++◌, Bor, sym, ap, ◌∙◌}
use Rattle.std.proofs.lemmas.List.{map-append}
use Rattle.std.specs.FinMap.{keys}
use Rattle.ov_specs.specs.operations.MatchingRows.{without_rows}
use Rattle.ov_specs.specs.rows.Database.{Columns}
use Rattle.ov_rows.proofs.Names.{no_keys}
use Rattle.ov_specs.specs.rows.Lines.{LineKey}
use Rattle.ov_stored.specs.Adding.{lent_keys}
use Rattle.ov_stored.proofs.Added.{without-added, other_stays, contains_more, contains_new}
use Rattle.ov_stored.proofs.place.place_at.Goals as goal

pub of-requires : goal.of-requires
of-requires c = ap (λ (m : Columns). keys m) c.new.ensures ∙ no_keys ∙ sym c.requires.nothing

pub returns-clause-added : goal.returns-clause-added
returns-clause-added c =
    let key = c.args.key.now in
    let before = lent_keys c.args.added.now.items in
    let listed : lent_keys c.push_reserved.new.self.items ≡ before ++ key ∷ [] =
    ap (lent_keys) c.push_reserved.ensures.items ∙ map-append (λ (k : Bor LineKey). k.now) c.reserve.new.self.items _ ∙ ap (λ ks. lent_keys ks ++ key ∷ []) c.reserve.ensures.items in
    let inserted = c.in_ok-insert.ensures.ok in
    ap (λ ks. without_rows ks c.insert.new.self) listed ∙ ap (without_rows (before ++ key ∷ [])) inserted ∙ without-added before key _ c.args.rows.now c.requires.absent

pub returns-clause-same : goal.returns-clause-same
returns-clause-same c other h = other_stays c.args.rows.now c.insert.new.self c.args.key.now _ other c.in_ok-insert.ensures.ok h

pub returns-clause-stays : goal.returns-clause-stays
returns-clause-stays c other h = contains_more c.args.rows.now c.insert.new.self c.args.key.now _ other c.in_ok-insert.ensures.ok h

pub returns-clause-placed : goal.returns-clause-placed
returns-clause-placed c = contains_new c.args.rows.now c.insert.new.self c.args.key.now _ c.in_ok-insert.ensures.ok
