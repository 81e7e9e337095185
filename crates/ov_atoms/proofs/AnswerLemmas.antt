-- What was read, by the results of the calls.
use Rattle.std.proofs.Common.{◌≡◌, List, Bool, true, false, if◌then◌else◌, Some, None, Result, Ok, Err, IfOk, refl}
use Rattle.std.specs.Result.{result_ok}
use Rattle.ov_specs.specs.values.Value.{Atom, Datum, Pairs, map_of}
use Rattle.ov_specs.specs.values.Reading.{Reads, Clashing, has_clash, map_reading}

pub if_ok : {A E : Type 0} (P : A → Type 0) (r : Result A E) → ((a : A) → result_ok r ≡ Some a → P a) → IfOk r P
if_ok P (Ok a) h = h a refl
if_ok P (Err e) h = tt

unclashed : (clash : Bool) (m d : Datum) → Some d ≡ (if clash then None else Some m) → (if clash then Clashing else Reads m) ≡ Reads d
unclashed true m d e = cc
unclashed false m d e = cc

pub map_reading-unclashed : (ps : List (Atom × Atom)) (d : Datum) → Some d ≡ (if has_clash ps then None else Some (Pairs (map_of ps))) → map_reading (Some ps) ≡ Reads d
map_reading-unclashed ps d e = unclashed (has_clash ps) (Pairs (map_of ps)) d e
