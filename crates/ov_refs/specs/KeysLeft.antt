-- The remaining keys of an iterator.
use Rattle.std.specs.Prelude.{List}
use Rattle.std.specs.Option.{option_copied, option_to_list}
use Rattle.ov_refs.specs.declared.key_iter.Left.{Left}
use Rattle.ov_refs.specs.declared.key_iter.Left.TheVariants.{OfFew, OfMany}
use Rattle.ov_specs.specs.rows.Lines.{LineKey}

-- the remaining keys, wherever they are stored
abbrev pub keys_left : Left → List LineKey
keys_left (OfFew key) = option_to_list (option_copied key)
keys_left (OfMany keys) = keys
