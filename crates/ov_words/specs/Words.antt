-- What the program's arguments say, by `clap`'s own reading of them: the first argument is the program's name.
use Rattle.std.specs.Prelude.{◌&&◌, ℕ, Bool, List, [], ◌∷◌, Option, Some, None, true, false, not, is_some, is_none, option_and_then, if◌then◌else◌, codes}
use Rattle.std.specs.Int.{is_in_range}
use Rattle.std.specs.Option.{option_map_or}
use Rattle.std.specs.Str.{all_ascii_digits, bytes_eq}
use Rattle.std.specs.Str.Parse.{digits_value}
use Rattle.clap.specs.Words.{App, Kinds, Rule, Text, fault_of, first_of, matches_of, new_app, new_rule, with_rule}
use Rattle.clap.specs.declared.builder.ArgAction.TheVariants.{Set, SetTrue}
use Rattle.ov_sessions.specs.Sessions.{most_sessions}
use Rattle.ov_words.specs.declared.settings.Settings.{Settings}

-- `--NAME VALUE`, at most once
abbrev pub option_rule : Text → Rule
option_rule name = record (new_rule name) { long = Some name; action = Some Set }

-- `--NAME`, at most once
abbrev pub flag_rule : Text → Rule
flag_rule name = record (new_rule name) { long = Some name; action = Some SetTrue }

-- a command without flags of `clap`'s own
abbrev pub without_help : App → App
without_help a = record a { top = record a.top { disable_help_flag = true; disable_version_flag = true } }

-- the options that say what is served: `[--schema FILE] [--db FILE]`
abbrev pub with_database : App → App
with_database a = with_rule (with_rule a (option_rule (codes "schema"))) (option_rule (codes "db"))

-- and those that say where: `[--stdio] [--listen ADDR] [--sessions N]`
abbrev pub with_ends : App → App
with_ends a =
    with_rule (with_rule (with_rule a (flag_rule (codes "stdio"))) (option_rule (codes "listen")))
    (option_rule (codes "sessions"))

-- `ov_server [--schema FILE] [--db FILE] [--stdio] [--listen ADDR] [--sessions N]`
abbrev pub app : App
app = with_ends (with_database (without_help (new_app (codes "ov_server"))))

-- the value of an option or flag, if it has one
abbrev pub option_value : List Text → Text → Option Text
option_value words name = first_of name (matches_of app words)

-- if a text is given, it is not empty: the empty text names no file and no address
abbrev pub is_not_empty : Option Text → Bool
is_not_empty None = true
is_not_empty (Some []) = false
is_not_empty (Some (x ∷ xs)) = true

-- a flag's value is the text `true` if the flag is used
abbrev pub is_set : Option Text → Bool
is_set value = option_map_or (λ text. bytes_eq text (codes "true")) value false

-- the number of sessions, in decimal digits alone: from 1 to the most that may be open
abbrev pub sessions_in : Text → Option ℕ
sessions_in digits = if all_ascii_digits digits && is_in_range 1 most_sessions (digits_value 10 digits)
    then Some (digits_value 10 digits) else None

-- if a number of sessions is given, it is such a number
abbrev pub is_session_count : Option Text → Bool
is_session_count None = true
is_session_count (Some digits) = is_some (sessions_in digits)

-- if an address is named, the streams are not; otherwise no number of sessions is given
abbrev pub fit_together : (Text → Option Text) → Bool
fit_together value = if is_some (value (codes "listen"))
    then not (is_set (value (codes "stdio"))) else is_none (value (codes "sessions"))

-- none of the values is refused
abbrev pub are_taken : (Text → Option Text) → Bool
are_taken value =
    is_not_empty (value (codes "schema")) && is_not_empty (value (codes "db")) && is_not_empty (value (codes "listen"))
    && is_session_count (value (codes "sessions")) && fit_together value

-- the settings, as the values give them
abbrev pub as_settings : (Text → Option Text) → Settings
as_settings value = record {
  schema = value (codes "schema");
  db = value (codes "db");
  listen = value (codes "listen");
  sessions = option_and_then sessions_in (value (codes "sessions"));
  is_on_streams = is_set (value (codes "stdio"));
}

-- the settings, by what `clap` finds wrong and by the values that the arguments give: none if anything is wrong
abbrev pub settings_by : Kinds → (Text → Option Text) → Option Settings
settings_by [] value = if are_taken value then Some (as_settings value) else None
settings_by (k ∷ ks) value = None

-- the settings that the arguments give, or none if they are refused
abbrev pub settings_of : List Text → Option Settings
settings_of words = settings_by (fault_of app words) (option_value words)
