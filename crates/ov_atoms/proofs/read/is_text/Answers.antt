use Rattle.std.proofs.Common.{◌≡◌, ◌∙◌, Bool, true, false, ◌&&◌, not, refl, sym, ap, subst}
use Rattle.std.specs.Str.{IsUtf8, is_utf8}
use Rattle.std.proofs.lemmas.Str.{is_utf8-from_IsUtf8}
use Rattle.ov_specs.specs.values.Value.{has_nul}
use Rattle.ov_atoms.proofs.read.is_text.Goals as goal

and_truth : (a b : Bool) → b ≡ true → a ≡ (a && b)
and_truth true b h = sym h
and_truth false b h = refl

pub returns : goal.returns
returns c =
    let utf8 : IsUtf8 c.args.text.now = subst IsUtf8 c.as_bytes.ensures.value c.as_bytes.ensures.utf8 in
    ap not (c.has_nul.ensures ∙ ap has_nul c.as_bytes.ensures.value) ∙ and_truth (not (has_nul c.args.text.now)) (is_utf8 c.args.text.now) (is_utf8-from_IsUtf8 c.args.text.now utf8)
