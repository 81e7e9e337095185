-- An object's members after one was taken out.
use Rattle.std.proofs.Common.{◌≡◌, ℕ, List, [], ◌∷◌, Bool, true, false, Some, cond, string_bytes, nat_cmp, is_eq, refl, sym, ap, ◌∙◌}
use Rattle.std.specs.Cmp.Lexicographic.{slice_cmp}
use Rattle.std.specs.Map.{remove_entry}
use Rattle.std.specs.BTreeMap.{is_at}
use Rattle.std.specs.Ordering.{match_ordering}
use Rattle.std.proofs.lemmas.Map.Text.{is_eq-slice_cmp}
use Rattle.std.proofs.lemmas.Slice.Eq.{bytes_eq-Decides}
use Rattle.serde_json.specs.Find.{get_member}
use Rattle.serde_json.specs.View.{view, members_view}
use Rattle.serde_json.proofs.Views.{Entry, member_later}

kept : (q k : List ℕ) (e : Entry) (es left : List Entry) (b : Bool) → is_eq (slice_cmp nat_cmp k (string_bytes e.0)) ≡ b → (q ≡ k → ⊥) → get_member q (members_view left) ≡ get_member q (members_view es)
    → get_member q (members_view (cond b es (e ∷ left))) ≡ get_member q (members_view (e ∷ es))
kept q k e es left true is other same =
    let found : k ≡ string_bytes e.0 = (bytes_eq-Decides k (string_bytes e.0)).0 (sym (is_eq-slice_cmp k (string_bytes e.0)) ∙ is) in
    sym (member_later q e es (λ h. other (h ∙ sym found)))
kept q k e es left false is other same = ap (λ r. match_ordering (slice_cmp nat_cmp q (string_bytes e.0)) r (Some (view e.1)) r) same

-- the other members stay
pub get_member-remove_entry : (q k : List ℕ) (es : List Entry) → (q ≡ k → ⊥) → get_member q (members_view (remove_entry (is_at (λ l. slice_cmp nat_cmp k (string_bytes l))) es)) ≡ get_member q (members_view es)
get_member-remove_entry q k [] other = refl
get_member-remove_entry q k (e ∷ es) other = kept q k e es _ (is_eq (slice_cmp nat_cmp k (string_bytes e.0))) refl other (get_member-remove_entry q k es other)
