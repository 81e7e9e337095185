-- Members that are put one after another.
use Rattle.std.proofs.Common.{◌≡◌, ℕ, List, [], ◌∷◌, true, false, Option, Some, None, refl, Ordering, Less, Equal, Greater}
use Rattle.std.specs.List.{cons_option}
use Rattle.std.specs.Option.{option_to_list}
use Rattle.std.specs.Ordering.{nat_cmp, match_ordering}
use Rattle.std.specs.Cmp.Lexicographic.{slice_cmp}
use Rattle.serde_json.specs.Data.{Data, Members, no_members, member, put}
use Rattle.ov_specs.specs.monitors.Updates.{under_table, unless_nothing}
use Rattle.ov_specs.specs.rows.Database.{placed, object_of}
use Rattle.ov_watch.specs.Views.{has_no_members}

-- one that may be there, and then the others
pub placed-next : (start : Members) (o : Option (List ℕ × Data)) (rest : List (List ℕ × Data)) → placed start (cons_option o rest) ≡ placed (placed start (option_to_list o)) rest
placed-next start None rest = refl
placed-next start (Some m) rest = refl

at_order : (o : Ordering) (k l : List ℕ) (d e : Data) (ms ns : Members) → has_no_members (match_ordering o (member k d (member l e ms)) (member l d ms) (member l e ns)) ≡ false
at_order Less k l d e ms ns = refl
at_order Equal k l d e ms ns = refl
at_order Greater k l d e ms ns = refl

put-some : (k : List ℕ) (d : Data) (members : Members) → has_no_members (put k d members) ≡ false
put-some k d no_members = refl
put-some k d (member l e ms) = at_order (slice_cmp nat_cmp k l) k l d e ms (put k d ms)

placed-more : (start : Members) (ms : List (List ℕ × Data)) → has_no_members start ≡ false → has_no_members (placed start ms) ≡ false
placed-more start [] h = h
placed-more start (m ∷ ms) h = placed-more (put m.0 m.1 start) ms (put-some m.0 m.1 start)

placed-some : (m : List ℕ × Data) (ms : List (List ℕ × Data)) → has_no_members (placed no_members (m ∷ ms)) ≡ false
placed-some m ms = placed-more (put m.0 m.1 no_members) ms refl

-- if nothing was put, there was nothing to put
pub none_placed : (ms : List (List ℕ × Data)) → has_no_members (placed no_members ms) ≡ true → ms ≡ []
none_placed [] h = refl
none_placed (m ∷ ms) h = let some : has_no_members (placed no_members (m ∷ ms)) ≡ false = placed-some m ms in cc

pub some_told : (ms : List (List ℕ × Data)) → has_no_members (placed no_members ms) ≡ false → unless_nothing ms ≡ Some (object_of ms)
some_told [] h = cc
some_told (m ∷ ms) h = refl

pub some_under_table : (name : List ℕ) (ms : List (List ℕ × Data)) → has_no_members (placed no_members ms) ≡ false → under_table name ms ≡ Some (name, object_of ms)
some_under_table name [] h = cc
some_under_table name (m ∷ ms) h = refl
