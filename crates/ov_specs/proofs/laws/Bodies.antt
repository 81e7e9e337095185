-- What stands at a name in the body of a row.
use Rattle.std.proofs.Common.{◌≡◌, ℕ, List, [], ◌∷◌, map, Bool, true, false, cond, T, Option, Some, None, option_map, refl, sym, ap, ◌∙◌}
use Rattle.std.specs.FinMap.{find, is_sorted, get, get-entries, entries, entries_sorted}
use Rattle.serde_json.specs.Data.{Data, Members, no_members, put}
use Rattle.serde_json.specs.Find as json
use Rattle.serde_json.specs.Find.{get_member}
use Rattle.serde_json.proofs.Views.{get_member-put, get_member-put_other}
use Rattle.ov_specs.specs.rows.Database.{Columns, placed, object_of, written_column}
use Rattle.ov_specs.specs.schema.SchemaTypes.{name_cmp}
use Rattle.ov_specs.specs.values.Value.{Datum}
use Rattle.ov_specs.specs.values.Writing.{tree}
use Rattle.ov_specs.proofs.laws.Names.{same_name, same_name-is, same_name-itself, find-first_not_later, sorted_rest}

-- what is found in a list, or else among the members
abbrev or_member : Option Datum → Option Data → Option Data
or_member (Some datum) d = Some (tree datum)
or_member None d = d

apart : (q name : List ℕ) → same_name q name ≡ false → q ≡ name → ⊥
apart q name is e = no (sym is ∙ (ap (λ n. same_name n name) e ∙ same_name-itself name))
  where
    no : false ≡ true → ⊥
    no h = cc

member-put : (q name : List ℕ) (d : Data) (ms : Members) → get_member q (put name d ms) ≡ cond (same_name q name) (Some d) (get_member q ms)
member-put q name d ms = by (same_name q name) refl
  where
    by : (b : Bool) → same_name q name ≡ b → get_member q (put name d ms) ≡ cond b (Some d) (get_member q ms)
    by true is = ap (λ n. get_member n (put name d ms)) (same_name-is q name is) ∙ get_member-put name d ms
    by false is = get_member-put_other q name d ms (apart q name is)

in_turn : (b : Bool) (datum : Datum) (rest : Option Datum) (d : Option Data) → (b ≡ true → rest ≡ None) → or_member rest (cond b (Some (tree datum)) d) ≡ or_member (cond b (Some datum) rest) d
in_turn true datum rest d h = rw (h refl) refl
in_turn false datum rest d h = refl

member-placed : (q : List ℕ) (es : List (List ℕ × Datum)) (ms : Members) → T (is_sorted name_cmp es) → get_member q (placed ms (map written_column es)) ≡ or_member (find name_cmp q es) (get_member q ms)
member-placed q [] ms h = refl
member-placed q (e ∷ es) ms h =
    member-placed q es (put e.0 (tree e.1) ms) (sorted_rest e es h) ∙ ap (or_member (find name_cmp q es)) (member-put q e.0 (tree e.1) ms)
    ∙ in_turn (same_name q e.0) e.1 (find name_cmp q es) (get_member q ms) (find-first_not_later e es q h)

or_nothing : (o : Option Datum) → or_member o None ≡ option_map tree o
or_nothing None = refl
or_nothing (Some datum) = refl

-- the body has at each name the written form of the row's value
pub get-body : (columns : Columns) (q : List ℕ) → json.get q (object_of (map written_column (entries columns))) ≡ option_map tree (get columns q)
get-body columns q = member-placed q (entries columns) no_members (entries_sorted columns) ∙ or_nothing (find name_cmp q (entries columns)) ∙ ap (option_map tree) (sym (get-entries columns q))
