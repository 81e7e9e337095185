-- How a text is stored.
use Rattle.std.specs.Prelude.{ℕ, List, string_bytes}
use Rattle.ov_base.specs.declared.text.Stored.{Stored}
use Rattle.ov_base.specs.declared.text.Stored.TheVariants.{Short, Long}

-- the bytes of a text, wherever they are stored
abbrev pub bytes_in : Stored → List ℕ
bytes_in (Short short) = short.bytes
bytes_in (Long text) = string_bytes text
