-- The names of the locks that sessions have asked for.
use Rattle.std.specs.Prelude.{ℕ, List, [], map, length, Option, option_map, unwrap_or, String, string_bytes}
use Rattle.std.specs.BTreeMap.{is_at}
use Rattle.std.specs.BTreeSet.{BTreeSet}
use Rattle.std.specs.List.{sum_by}
use Rattle.std.specs.Map.{lookup, values_of}
use Rattle.std.specs.Ordering.{nat_cmp}
use Rattle.std.specs.declared.alloc.Global.{Global}

-- for each session the names, ascending
abbrev pub HeldNames : Type 0
HeldNames = List (ℕ × List (List ℕ))

-- the names of one session in the code
abbrev pub NameSet : Type 0
NameSet = BTreeSet (String Global)

-- the names that one session has asked for
abbrev pub names_asked : ℕ → HeldNames → List (List ℕ)
names_asked session held = unwrap_or (lookup (is_at (nat_cmp session)) held) []

-- how many names there are of all sessions
abbrev pub requests_in : HeldNames → ℕ
requests_in held = sum_by length (values_of held)

-- the names of a set of the code
abbrev pub names_of_set : NameSet → List (List ℕ)
names_of_set set = map string_bytes set.keys

-- those of a set, if there is one
abbrev pub names_taken : Option NameSet → List (List ℕ)
names_taken set = unwrap_or (option_map names_of_set set) []

-- those of the code
abbrev pub held_of : List (ℕ × NameSet) → HeldNames
held_of es = map (λ e. (e.0, names_of_set e.1)) es
