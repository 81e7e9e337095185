-- One more member in an object without reals.
use Rattle.std.proofs.Common.{◌≡◌, ℕ, List, false, refl, ap, ◌∙◌}
use Rattle.std.specs.Prelude.{Result, Ok, Err, OnOk}
use Rattle.std.specs.declared.cmp.Ordering.{Ordering}
use Rattle.std.specs.declared.cmp.Ordering.TheVariants.{Less, Equal, Greater}
use Rattle.std.specs.Ordering.{nat_cmp, match_ordering}
use Rattle.std.specs.Cmp.Lexicographic.{slice_cmp}
use Rattle.serde_json.specs.Data.{Data, Members, no_members, member, put}
use Rattle.ov_specs.specs.wire.Tree.{has_real, members_have_real}
use Rattle.std.proofs.lemmas.Bool.{or_parts}

put_at : (o : Ordering) (k l : List ℕ) (d e : Data) (ms : Members) → has_real d ≡ false → has_real e ≡ false → members_have_real ms ≡ false → members_have_real (put k d ms) ≡ false
    → members_have_real (match_ordering o (member k d (member l e ms)) (member l d ms) (member l e (put k d ms))) ≡ false
put_at Less k l d e ms h g f p = rw (h, g, f) refl
put_at Equal k l d e ms h g f p = rw (h, f) refl
put_at Greater k l d e ms h g f p = rw (g, p) refl

pub put_plain : (k : List ℕ) (d : Data) (ms : Members) → has_real d ≡ false → members_have_real ms ≡ false → members_have_real (put k d ms) ≡ false
put_plain k d no_members h f = rw h refl
put_plain k d (member l e ms) h f =
    let parts = or_parts (has_real e) (members_have_real ms) f in
    put_at (slice_cmp nat_cmp k l) k l d e ms h parts.0 parts.1 (put_plain k d ms h parts.1)

-- members without reals still have none after a member without reals is put
pub still_plain : {A E : Type 0} (result : Result A E) (k : List ℕ) (d : Data) (before after : Members) → members_have_real before ≡ false → OnOk result (after ≡ put k d before) → OnOk result (has_real d ≡ false)
    → OnOk result (members_have_real after ≡ false)
still_plain (Ok a) k d before after plain is real = ap members_have_real is ∙ put_plain k d before real plain
still_plain (Err e) k d before after plain is real = tt
