-- Which message a text is, by what was read of it.
use Rattle.std.proofs.Common.{◌≡◌, List, ℕ, Bool, true, false, Option, Some, None, BTreeMap, String, Global, refl, sym, ap, ◌∙◌, subst, option_map}
use Rattle.std.specs.Option.{ForSome}
use Rattle.std.specs.Ordering.{nat_cmp, match_ordering}
use Rattle.std.specs.Cmp.Lexicographic.{slice_cmp}
use Rattle.std.specs.Str.{IsUtf8, is_utf8}
use Rattle.std.specs.declared.cmp.Ordering.{Ordering}
use Rattle.std.specs.declared.cmp.Ordering.TheVariants.{Less, Equal, Greater}
use Rattle.std.proofs.lemmas.Str.{is_utf8-from_IsUtf8, IsUtf8-from_is_utf8}
use Rattle.serde_json.specs.Data.{Data, Members, no_members, member}
use Rattle.serde_json.specs.Find.{get_member}
use Rattle.serde_json.specs.Read.{read}
use Rattle.serde_json.specs.View.{view, members_view}
use Rattle.serde_json.specs.declared.value.Value.{Value, Object}
use Rattle.serde_json.proofs.Views.{view-Object}
use Rattle.ov_specs.specs.wire.Tree.{has_real, members_have_real}
use Rattle.ov_specs.specs.wire.Message.{tree_of, message_in, message_of}
use Rattle.std.proofs.lemmas.Bool.{or_parts}

member_case : (o : Ordering) (e f : Data) (rest : Option Data) → match_ordering o rest (Some e) rest ≡ Some f → has_real e ≡ false → (rest ≡ Some f → has_real f ≡ false) → has_real f ≡ false
member_case Less e f rest h p q = q h
member_case Equal e f rest h p q = let same : e ≡ f = cc in subst (λ d. has_real d ≡ false) same p
member_case Greater e f rest h p q = q h

-- what is found among members without reals has none
pub member_plain : (k : List ℕ) (ms : Members) (f : Data) → members_have_real ms ≡ false → get_member k ms ≡ Some f → has_real f ≡ false
member_plain k no_members f h g = cc
member_plain k (member l e ms) f h g = let p = or_parts (has_real e) (members_have_real ms) h in
    member_case (slice_cmp nat_cmp k l) e f (get_member k ms) g p.0 (member_plain k ms f p.1)

-- the same of what may be found
pub found_plain : (k : List ℕ) (ms : Members) (o : Option Value) → members_have_real ms ≡ false → option_map view o ≡ get_member k ms → ForSome o (λ v. has_real (view v) ≡ false)
found_plain k ms o h g = λ v is. member_plain k ms (view v) h (sym g ∙ ap (option_map view) is)

-- the members of an object without reals have none
pub members_plain : (v : Value) (m : BTreeMap (String Global) Value) → v ≡ Object m → has_real (view v) ≡ false → members_have_real (members_view m.entries) ≡ false
members_plain v m is h = ap has_real (sym (view-Object m)) ∙ (ap (λ w. has_real (view w)) (sym is) ∙ h)

no_tree : (text : List ℕ) (b : Bool) → is_utf8 text ≡ b → (IsUtf8 text → read text ≡ None) → tree_of text ≡ None
no_tree text true e h = rw e (h (IsUtf8-from_is_utf8 text e))
no_tree text false e h = rw e refl

-- a text that is not a tree is not a message
pub no_message : (text : List ℕ) → (IsUtf8 text → read text ≡ None) → message_in text ≡ None
unfolding message_in
no_message text h = rw (no_tree text (is_utf8 text) refl h) refl

-- a text that is a tree is the tree's message
pub message_by : (text : List ℕ) (d : Data) → IsUtf8 text → read text ≡ Some d → message_in text ≡ message_of d
unfolding message_in
message_by text d u h = rw (is_utf8-from_IsUtf8 text u, h) refl
