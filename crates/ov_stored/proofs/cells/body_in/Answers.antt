use Rattle.std.proofs.Common.{◌≡◌, ◌++◌, [], ap, ◌∙◌}
use Rattle.json.specs.Print.{print}
use Rattle.ov_specs.specs.values.Writing.{tree}
use Rattle.ov_atoms.specs.Tokens.{tokens_of}
use Rattle.ov_stored.proofs.CellTexts.{cell_text, cell_reads}
use Rattle.ov_stored.proofs.cells.body_in.Goals as goal

put : (c : goal.After-from_vec) → c.put_datum.new.out.tokens ≡ tokens_of (tree c.args.datum.now)
put c = c.in_ok-put_datum.ensures.ok ∙ ap (λ ts. ts ++ tokens_of (tree c.args.datum.now)) c.new-out.ensures.tokens

pub returns-clause-body : goal.returns-clause-body
returns-clause-body c =
    let before : c.put_datum.new.out.before ≡ [] = c.in_ok-put_datum.ensures.before ∙ c.new-out.ensures.before ∙ c.requires in
    c.from_vec.ensures ∙ c.into_inner.ensures.items ∙ ap (λ before. before ++ print c.put_datum.new.out.tokens) before ∙ cell_text c.args.datum.now c.put_datum.new.out.tokens (put c)

pub returns-clause-read : goal.returns-clause-read
returns-clause-read c = cell_reads c.args.datum.now c.put_datum.new.out.tokens (put c) c.into_inner.ensures.reads_back c.into_inner.ensures.utf8
