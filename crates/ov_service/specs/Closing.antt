-- After which endings a database's file is closed.
use Rattle.std.specs.Prelude.{Bool, true, false}
use Rattle.ov_words.specs.declared.ending.Ending.{Ending}
use Rattle.ov_words.specs.declared.ending.Ending.TheVariants as ending

-- the file is closed after this ending
abbrev pub closes_file : Ending → Bool
closes_file ending.InputEnded = true
closes_file ending.Arguments = false
closes_file ending.Schema = false
closes_file ending.Database = false
closes_file ending.Streams = true
closes_file ending.Memory = false
