-- What is waited for, as the definitions have it.
use Rattle.ov_specs.specs.operations.Wait as wait
use Rattle.ov_given.specs.declared.until.Until.{Until}
use Rattle.ov_given.specs.declared.until.Until.TheVariants.{Equal, NotEqual}

-- "==" or "!=" (RFC 7047, 5.2.6)
abbrev pub until_view : Until → wait.Until
until_view Equal = wait.AreEqual
until_view NotEqual = wait.AreNotEqual
