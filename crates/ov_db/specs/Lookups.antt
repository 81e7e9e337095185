-- What a database looks up by its links and indexes: which rows refer to a row, and which row has some values in an index.
use Rattle.std.specs.Prelude.{◌≡◌, ◌↔◌, List, [], ◌∷◌, map, filter, true, Option, Some, None}
use Rattle.std.specs.FinMap.{entries}
use Rattle.ov_index.specs.IndexKeys.{IndexKey}
use Rattle.ov_index.specs.Indexing.{is_in}
use Rattle.ov_specs.specs.integrity.References.{refers_weakly}
use Rattle.ov_specs.specs.rows.Database.{Database}
use Rattle.ov_specs.specs.rows.Lines.{LineKey}
use Rattle.ov_specs.specs.schema.SchemaTypes.{Schema}
use Rattle.ov_specs.specs.values.Uuid.{Uuid}

-- the keys, in ascending order, of the rows that refer weakly to the row of this key (RFC 7047, 3.2, <base-type>, refType)
abbrev pub weak_holders : Schema → Database → LineKey → List LineKey
weak_holders schema rows to = map (λ r. r.0) (filter (λ r. refers_weakly schema r to) (entries rows))

-- the list, if it is not empty
abbrev pub if_any : {A : Type 0} → List A → Option (List A)
if_any [] = None
if_any (x ∷ xs) = Some (x ∷ xs)

-- the answer is the row of the key's table that has the values of the key in the columns of the key's index, if there is one
-- (RFC 7047, 3.2, <table-schema>, indexes)
abbrev pub TellsIndexed : Schema → Database → IndexKey → Option Uuid → Type 0
TellsIndexed schema rows key told = (id : Uuid) → (told ≡ Some id) ↔ (is_in schema rows key id ≡ true)
