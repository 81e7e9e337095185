-- The answers to calls that do not concern the rows.
use Rattle.std.specs.Prelude.{ℕ, List, codes}
use Rattle.serde_json.specs.Data.{Data, string, array, no_items, item}
use Rattle.ov_specs.specs.wire.Message.{BadKind, NotARequest, Reals}

-- the names of the databases: there is one (RFC 7047, 4.1.1)
abbrev pub database_names : List ℕ → Data
database_names name = array (item (string name) no_items)

-- the error of a request that can't be taken
abbrev pub bad_text : BadKind → List ℕ
bad_text NotARequest = codes "syntax error"
bad_text Reals = codes "reals not supported"
