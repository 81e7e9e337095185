-- What the settings are, by what is known of the arguments' parts.
use Rattle.std.proofs.Common.{◌≡◌, ◌≢◌, ◌∙◌, List, [], ◌∷◌, ◌⊎◌, inl, inr, ap, refl, codes, true, false, Bool}
use Rattle.std.specs.Prelude.{Option, Some, None, ◌&&◌}
use Rattle.clap.specs.Words.{IsAmong, Kinds, Text, fault_of, first_of, first_value, found_of, matches_of, rows_of}
use Rattle.clap.specs.declared.parser.matches.ArgMatches.{ArgMatches}
use Rattle.clap.specs.declared.error.kind.ErrorKind.{ErrorKind}
use Rattle.clap.specs.declared.error.kind.ErrorKind.TheVariants.{OutOfMemory}
use Rattle.clap.proofs.WalkLemmas.{first_value-rows}
use Rattle.ov_words.specs.Faults.{fault_by}
use Rattle.ov_words.specs.declared.fault.WordFault.TheVariants.{Refused}
use Rattle.ov_words.specs.Words.{app, are_taken, as_settings, fit_together, is_not_empty, is_session_count, option_value, settings_by, settings_of}

and_false : (b : Bool) → (b && false) ≡ false
and_false true = refl
and_false false = refl

-- values that are the same fit together in the same way, and are taken or refused alike
fit_together-same : (value same : Text → Option Text) → ((name : Text) → value name ≡ same name) → fit_together same ≡ fit_together value
fit_together-same value same is = rw (is (codes "listen"), is (codes "stdio"), is (codes "sessions")) refl

are_taken-same : (value same : Text → Option Text) → ((name : Text) → value name ≡ same name) → are_taken same ≡ are_taken value
are_taken-same value same is =
    rw (is (codes "schema"), is (codes "db"), is (codes "listen"), is (codes "sessions"), is (codes "stdio")) refl

as_settings-same : (value same : Text → Option Text) → ((name : Text) → value name ≡ same name) → as_settings same ≡ as_settings value
as_settings-same value same is =
    rw (is (codes "schema"), is (codes "db"), is (codes "listen"), is (codes "sessions"), is (codes "stdio")) refl

-- so the settings are the same
settings_by-same : (faults : Kinds) (value same : Text → Option Text) → ((name : Text) → value name ≡ same name)
    → settings_by faults same ≡ settings_by faults value
settings_by-same [] value same is = rw (are_taken-same value same is, as_settings-same value same is) refl
settings_by-same (k ∷ ks) value same is = refl

-- the settings are those of the values that the matches have
pub settings_of-matches : (words : List Text) (m : ArgMatches) → rows_of (found_of m) ≡ matches_of app words
    → settings_of words ≡ settings_by (fault_of app words) (first_value (found_of m))
settings_of-matches words m e = settings_by-same (fault_of app words) (first_value (found_of m)) (option_value words)
    (λ name. first_value-rows (found_of m) name ∙ ap (first_of name) e)

is_named-full : (named : Option Text) → named ≢ Some [] → is_not_empty named ≡ true
is_named-full None full = refl
is_named-full (Some []) full = absurd (full refl)
is_named-full (Some (x ∷ xs)) full = refl

-- what is taken
pub settings_by-taken : (faults : Kinds) (value : Text → Option Text) → faults ≡ [] → value (codes "schema") ≢ Some [] → value (codes "db") ≢ Some []
    → value (codes "listen") ≢ Some [] → is_session_count (value (codes "sessions")) ≡ true → fit_together value ≡ true
    → settings_by faults value ≡ Some (as_settings value)
settings_by-taken faults value none schema db listen sessions fit =
    rw (none, is_named-full (value (codes "schema")) schema, is_named-full (value (codes "db")) db, is_named-full (value (codes "listen")) listen, sessions, fit) refl

settings_by-refused : (faults : Kinds) (value : Text → Option Text) → are_taken value ≡ false → settings_by faults value ≡ None
settings_by-refused [] value refused = rw refused refl
settings_by-refused (k ∷ ks) value refused = refl

-- what is refused: a name that is empty
pub settings_by-schema : (faults : Kinds) (value : Text → Option Text) → value (codes "schema") ≡ Some [] → settings_by faults value ≡ None
settings_by-schema faults value empty = settings_by-refused faults value (rw empty refl)

pub settings_by-db : (faults : Kinds) (value : Text → Option Text) → value (codes "db") ≡ Some [] → settings_by faults value ≡ None
settings_by-db faults value empty = settings_by-refused faults value (rw (empty, and_false (is_not_empty (value (codes "schema")))) refl)

pub settings_by-listen : (faults : Kinds) (value : Text → Option Text) → value (codes "listen") ≡ Some [] → settings_by faults value ≡ None
settings_by-listen faults value empty = settings_by-refused faults value
    (rw (empty, and_false (is_not_empty (value (codes "schema")) && is_not_empty (value (codes "db")))) refl)

-- a number that is none
pub settings_by-sessions : (faults : Kinds) (value : Text → Option Text) → is_session_count (value (codes "sessions")) ≡ false → settings_by faults value ≡ None
settings_by-sessions faults value none = settings_by-refused faults value
    (rw (none, and_false (is_not_empty (value (codes "schema")) && is_not_empty (value (codes "db")) && is_not_empty (value (codes "listen")))) refl)

-- and a contradiction
pub settings_by-unfit : (faults : Kinds) (value : Text → Option Text) → fit_together value ≡ false → settings_by faults value ≡ None
settings_by-unfit faults value unfit = settings_by-refused faults value
    (rw (unfit, and_false (is_not_empty (value (codes "schema")) && is_not_empty (value (codes "db")) && is_not_empty (value (codes "listen")) && is_session_count (value (codes "sessions")))) refl)

-- arguments are refused only if something is wrong
pub some_of_refused : (k : ErrorKind) (faults : Kinds) → fault_by k ≡ Refused → (k ≡ OutOfMemory) ⊎ IsAmong k faults → faults ≢ []
some_of_refused k [] e (inl memory) = absurd (let bad = rw memory at e in cc)
some_of_refused k [] e (inr among) = absurd among
some_of_refused k (x ∷ xs) e h = λ none. cc
