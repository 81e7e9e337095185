use Rattle.std.proofs.Common.{◌≡◌, ◌-◌, ◌∙◌, drop, take, length, sym, arith}
use Rattle.std.proofs.lemmas.Bool.Decides.{Decides-eqb}
use Rattle.std.proofs.lemmas.List.{take_all, length-drop}
use Rattle.std.proofs.lemmas.Slice.Eq.{starts_is}
use Rattle.ov_tables.proofs.page.has_text.Goals as goal

pub returns-then-starts_with : goal.returns-then-starts_with
returns-then-starts_with c _ =
    let bytes = c.args.bytes.now in
    let text = c.args.text.now in
    let at = c.loop-at.at in
    let rest = take (length bytes - at) (drop at bytes) in
    let whole : rest ≡ drop at bytes = take_all (length bytes - at) (drop at bytes) (omega (arith, length-drop at bytes)) in
    let begins : rest ≡ _ = (starts_is Decides-eqb rest text c.starts_with.result c.starts_with.ensures.value).0 c.if-starts_with.true in
    (at, drop (length text) rest, sym whole ∙ begins)
