-- The tokens that a tree is written as, and what it means to append them to a writer.
use Rattle.std.specs.Prelude.{◌≡◌, List, ◌++◌, Result, OnOk}
use Rattle.json.specs.Token.{Token}
use Rattle.json.specs.Tree.{json_tokens}
use Rattle.json.specs.Written.{Written}
use Rattle.serde_json.specs.Data.{Data}
use Rattle.serde_json.specs.Written.{outline}

-- the tokens of a tree's text (RFC 8259)
abbrev pub tokens_of : Data → List Token
tokens_of tree = json_tokens (outline tree)

-- these tokens follow those before; if an allocation failed, some of them are missing
pub record Puts {E : Type 0} (result : Result (Unit {0}) E) (old new : Written) (tokens : List Token) : Type 0 where
  pub before : new.before ≡ old.before
  pub ok : OnOk result (new.tokens ≡ old.tokens ++ tokens)
