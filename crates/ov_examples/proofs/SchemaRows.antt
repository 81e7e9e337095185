-- Worked schemas. More examples are in the tests, in schemas.rt.
use Rattle.std.proofs.Common.{◌≡◌, ◌++◌, ℕ, List, [], ◌∷◌, Option, Some, None, false, Result, Ok, Err, option_and_then, option_map, refl, codes}
use Rattle.std.specs.Str.{is_utf8, chars}
use Rattle.serde_json.specs.Read.{read}
use Rattle.serde_json.proofs.OnLiterals.{serde_json_on_literals}
use Rattle.ov_specs.specs.schema.SchemaTypes.{Schema}
use Rattle.ov_specs.specs.schema.Schema.{SchemaRefusal, BadMember, BadName, BadVersion, NoColumns, RealNotSupported, UnknownRefTable, BadIndex, StrongWeakMap, accepted, split_at_dots, is_version}

-- the refusal, if there is one
abbrev refusal_in_answer : Result Schema SchemaRefusal → Option SchemaRefusal
refusal_in_answer (Ok s) = None
refusal_in_answer (Err refusal) = Some refusal

-- the refusal of a text that is a tree; the inner None: it is accepted
abbrev refusal_in : List ℕ → Option (Option SchemaRefusal)
refusal_in text = option_map (λ d. refusal_in_answer (accepted d)) (read text)

-- ---- versions

pub parts_of_a_version : split_at_dots (codes "1.20.3") ≡ codes "1" ∷ codes "20" ∷ codes "3" ∷ []
parts_of_a_version = refl

pub empty_between : is_version (codes "1..3") ≡ false
empty_between = refl

-- ---- a network of switches and ports

-- its text with this version, these columns of ports, this type of the load, and these members more
abbrev net : List ℕ → List ℕ → List ℕ → List ℕ → List ℕ
net version port load more =
    codes "{\"name\":\"Net\",\"tables\":{\"Port\":{\"columns\":{" ++ port ++ codes "}},\"Switch\":{\"columns\":{\"load\":{\"type\":\"" ++ load
    ++ codes "\"},\"name\":{\"type\":\"string\"},\"ports\":{\"type\":{\"key\":{\"refTable\":\"Port\",\"type\":\"uuid\"},\"max\":\"unlimited\",\"min\":0}}},\"indexes\":[[\"name\"]],\"isRoot\":true" ++ more ++ codes "}},\"version\":\"" ++ version ++ codes "\"}"

abbrev ports : List ℕ
ports =
    codes "\"name\":{\"type\":\"string\"},\"peer\":{\"type\":{\"key\":{\"refTable\":\"Port\",\"type\":\"uuid\"},\"max\":1,\"min\":0}},\"tag\":{\"type\":{\"key\":{\"maxInteger\":4095,\"minInteger\":0,\"type\":\"integer\"},\"max\":1,\"min\":0}}"

pub net_is_accepted : refusal_in (net (codes "1.0.0") ports (codes "integer") []) ≡ Some None
unfolding serde_json_on_literals
net_is_accepted = refl

-- a number that is no integer counts before the version
pub real_number_before_version : refusal_in (net (codes "1.0") ports (codes "integer") (codes ",\"maxRows\":1.5")) ≡ Some (Some RealNotSupported)
unfolding serde_json_on_literals
real_number_before_version = refl

-- the version counts before the type that is earlier in the tree
pub version_before_real : refusal_in (net (codes "1.0") ports (codes "real") []) ≡ Some (Some BadVersion)
unfolding serde_json_on_literals
version_before_real = refl

-- a table without columns counts before a type
pub columns_before_real : refusal_in (net (codes "1.0.0") [] (codes "real") []) ≡ Some (Some NoColumns)
unfolding serde_json_on_literals
columns_before_real = refl

-- ---- one table with one column of this type, and these members more

abbrev one : List ℕ → List ℕ → List ℕ
one type more = codes "{\"name\":\"A\",\"tables\":{\"T\":{\"columns\":{\"c\":{\"type\":" ++ type ++ codes "}}" ++ more ++ codes "}}}"

-- a range beside another type, also beside "real"
pub range_beside_real : refusal_in (one (codes "{\"key\":{\"type\":\"real\",\"minInteger\":1}}") []) ≡ Some (Some BadMember)
unfolding serde_json_on_literals
range_beside_real = refl

-- a reference to nowhere, also of integers
pub integers_to_nowhere : refusal_in (one (codes "{\"key\":{\"type\":\"integer\",\"refTable\":\"U\"}}") []) ≡ Some (Some UnknownRefTable)
unfolding serde_json_on_literals
integers_to_nowhere = refl

pub one_choice : refusal_in (one (codes "{\"key\":{\"type\":\"string\",\"enum\":\"a\"}}") []) ≡ Some None
unfolding is_utf8 chars serde_json_on_literals
one_choice = refl

pub index_of_version : refusal_in (one (codes "\"string\"") (codes ",\"indexes\":[[\"_version\"]]")) ≡ Some (Some BadIndex)
unfolding serde_json_on_literals
index_of_version = refl

pub strong_and_weak : refusal_in (one (codes "{\"key\":{\"type\":\"uuid\",\"refTable\":\"T\"},\"value\":{\"type\":\"uuid\",\"refTable\":\"T\",\"refType\":\"weak\"}}") []) ≡ Some (Some StrongWeakMap)
unfolding serde_json_on_literals
strong_and_weak = refl

-- a bad name counts before all that is wrong inside, wherever it is
pub name_first : refusal_in (codes "{\"name\":\"A\",\"version\":\"1.0\",\"tables\":{\"_T\":{\"columns\":{}}}}") ≡ Some (Some BadName)
unfolding serde_json_on_literals
name_first = refl

-- the name is kept
abbrev name_of : Result Schema SchemaRefusal → Option (List ℕ)
name_of (Ok s) = Some s.name
name_of (Err refusal) = None

pub name_is_kept : option_and_then (λ d. name_of (accepted d)) (read (one (codes "\"string\"") [])) ≡ Some (codes "A")
unfolding serde_json_on_literals
name_is_kept = refl
