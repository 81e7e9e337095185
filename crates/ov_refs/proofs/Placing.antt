-- What becomes of links when references are added and removed, strong and weak ones alike.
use Rattle.std.proofs.Common.{◌≡◌, List, [], ◌∷◌, ◌++◌, Bool, true, false, cond, T, ◌&&◌, ◌||◌, not, Option, Some, None, is_some, refl, sym, ap, ◌∙◌}
use Rattle.std.specs.Prelude.{unwrap_or}
use Rattle.std.proofs.lemmas.Bool.{and_parts}
use Rattle.std.proofs.lemmas.List.Folds.{list_any-append}
use Rattle.std.specs.Cmp.{eq_by_cmp_equiv}
use Rattle.std.specs.FinMap.{empty, find, is_sorted, get, contains_key, insert, get-empty, get-insert, get-from_sorted}
use Rattle.std.specs.List.{list_any}
use Rattle.std.specs.Ordering.{eq_by_cmp}
use Rattle.ov_specs.specs.integrity.References.{Target, RowReference, refers_strongly, refers_weakly}
use Rattle.ov_specs.specs.rows.Database.{Row, Database, same_key}
use Rattle.ov_specs.specs.rows.Lines.{LineKey, line_cmp}
use Rattle.ov_specs.specs.schema.Schema.{is_some_and}
use Rattle.ov_specs.specs.schema.SchemaTypes.{Schema}
use Rattle.ov_specs.proofs.laws.LineKeys.{key_total, tied_same}
use Rattle.ov_specs.specs.rows.Changed.{IsAfter}
use Rattle.ov_refs.specs.Holding.{KeySet, is_holder, without_holder}
use Rattle.ov_refs.specs.Linking.{Links, AreLinksOf, with_target, without_reference, without_references}
use Rattle.ov_refs.specs.Placed.{is_target, has_target, targets_at, lost, refers, AreAlike, Adds}
use Rattle.ov_refs.proofs.Collecting.{same_key-tied, is_holder-without, strong-target, weak-target, any_at, or_false, and_true, given_or}

-- ---- truth

out_of_both : (a x y : Bool) → ((a && not x) && not y) ≡ (a && not (x || y))
out_of_both true true y = refl
out_of_both true false y = refl
out_of_both false x y = refl

-- what was not there, and is added and listed, is not there without what is listed
put_and_out : (a x y : Bool) → (x ≡ true → a ≡ false) → ((a || x) && not (y || (x || false))) ≡ (a && not y)
put_and_out a true y none = rw (none refl) (by y)
  where
    by : (y : Bool) → (true && not (y || true)) ≡ false
    by true = refl
    by false = refl
put_and_out true false true none = refl
put_and_out true false false none = refl
put_and_out false false y none = refl

turned : (a b s : Bool) → (a || (b && s)) ≡ (a || (s && (b || false)))
turned true b s = refl
turned false true true = refl
turned false true false = refl
turned false false true = refl
turned false false false = refl

-- what is there already stays there
there_already : (a b s : Bool) → (b ≡ true → s ≡ true → a ≡ true) → a ≡ (a || (s && (b || false)))
there_already true b s has = refl
there_already false true true has = has refl refl
there_already false true false has = refl
there_already false false true has = refl
there_already false false false has = refl

-- ---- the same key

pub same_key-is : (a b : LineKey) → same_key a b ≡ true → a ≡ b
same_key-is a b same = tied_same a b (sym (same_key-tied a b) ∙ same)

pub same_key-turned : (a b : LineKey) → same_key a b ≡ same_key b a
same_key-turned a b = same_key-tied a b ∙ (eq_by_cmp_equiv key_total).symm a b ∙ sym (same_key-tied b a)

-- ---- one target

-- a target that is the row, strongly or weakly
same_kind : (strong is_strong : Bool) → cond strong is_strong (not is_strong) ≡ true → strong ≡ is_strong
same_kind true true h = refl
same_kind true false h = cc
same_kind false true h = cc
same_kind false false h = refl

pub target_is : (strong : Bool) (to : LineKey) (target : Target) → is_target strong to target ≡ true → (strong ≡ target.is_strong) × (to ≡ target.key)
target_is strong to target is =
    let parts = and_parts (cond strong target.is_strong (not target.is_strong)) (same_key target.key to) is in
    (same_kind strong target.is_strong parts.0, sym (same_key-is target.key to parts.1))

-- the reference is from the one to the other, strongly or weakly
abbrev pub is_reference : Bool → LineKey → LineKey → RowReference → Bool
is_reference strong to from r = is_target strong to r.to && same_key from r.from

module _ (strong : Bool) (to from : LineKey) where
  pub refers-with : (by : LineKey) (target : Target) (links : Links)
      → refers strong (with_target by target links) to from ≡ (refers strong links to from || (is_target strong to target && same_key from by))
  refers-with by target links = turn strong
    where
      turn : (s : Bool) → refers s (with_target by target links) to from ≡ (refers s links to from || (is_target s to target && same_key from by))
      turn true = strong-target to from by target links
      turn false = weak-target to from by target links

  pub refers-without_one : (r : RowReference) (links : Links) → refers strong (without_reference r links) to from ≡ (refers strong links to from && not (is_reference strong to from r))
  refers-without_one r links = turn strong r.to.is_strong
    where
      turn : (s b : Bool)
          → refers s (cond b (record links { strong = without_holder r.to.key r.from links.strong }) (record links { weak = without_holder r.to.key r.from links.weak })) to from
          ≡ (refers s links to from && not ((cond s b (not b) && same_key r.to.key to) && same_key from r.from))
      turn true true = is_holder-without links.strong r.to.key r.from to from
      turn true false = and_true (is_holder links.strong to from)
      turn false true = and_true (is_holder links.weak to from)
      turn false false = is_holder-without links.weak r.to.key r.from to from

  pub refers-without : (rs : List RowReference) (links : Links) → refers strong (without_references rs links) to from ≡ (refers strong links to from && not (list_any (is_reference strong to from) rs))
  refers-without [] links = and_true (refers strong links to from)
  refers-without (r ∷ rs) links =
      refers-without rs (without_reference r links) ∙ ap (λ b. b && not (list_any (is_reference strong to from) rs)) (refers-without_one r links)
      ∙ out_of_both (refers strong links to from) (is_reference strong to from r) (list_any (is_reference strong to from) rs)

module _ (by : LineKey) (target : Target) (links : Links) where
  -- the one reference that is in question
  module _ (strong : Bool) (to from : LineKey) (is : is_target strong to target ≡ true) (same : same_key from by ≡ true) where
    in_question : refers strong links to from ≡ refers target.is_strong links target.key by
    in_question = let parts = target_is strong to target is in λ i. refers (parts.0 i) links (parts.1 i) (same_key-is from by same i)

  -- a target that was not there, added and listed
  pub placed-back : refers target.is_strong links target.key by ≡ false → (rs rs' : List RowReference) (new : Links) → rs' ≡ rs ++ record { from = by; to = target } ∷ [] → new ≡ with_target by target links
      → AreAlike (without_references rs' new) (without_references rs links)
  placed-back none rs rs' new listed put strong to from =
      (λ i. refers strong (without_references (listed i) (put i)) to from) ∙ refers-without strong to from (rs ++ one ∷ []) (with_target by target links)
      ∙ (λ i. refers-with strong to from by target links i && not (list_any-append (is_reference strong to from) rs (one ∷ []) i))
      ∙ put_and_out (refers strong links to from) (is_reference strong to from one) (list_any (is_reference strong to from) rs)
      (λ is. let parts = and_parts (is_target strong to target) (same_key from by) is in in_question strong to from parts.0 parts.1 ∙ none)
      ∙ sym (refers-without strong to from rs links)
    where
      one : RowReference
      one = record { from = by; to = target }

  pub placed-adds : (new : Links) → new ≡ with_target by target links → Adds by (target ∷ []) links new
  placed-adds new put strong to from =
      ap (λ (l : Links). refers strong l to from) put ∙ refers-with strong to from by target links
      ∙ turned (refers strong links to from) (is_target strong to target) (same_key from by)

  -- a target that is there already
  pub known-adds : refers target.is_strong links target.key by ≡ true → Adds by (target ∷ []) links links
  known-adds has strong to from =
      there_already (refers strong links to from) (is_target strong to target) (same_key from by) (λ is same. in_question strong to from is same ∙ has)

-- ---- the targets of one row

step : (a b c s x xs : Bool) → b ≡ (a || (s && (x || false))) → (a || (s && (x || xs))) ≡ c → (b || (s && xs)) ≡ c
step a b c s x xs one all = ap (λ t. t || (s && xs)) one ∙ by a s x ∙ all
  where
    by : (a s x : Bool) → ((a || (s && (x || false))) || (s && xs)) ≡ (a || (s && (x || xs)))
    by true s x = refl
    by false true true = refl
    by false true false = refl
    by false false x = refl

-- one of the targets is added, and the others are left
pub adds-more : (by : LineKey) (target : Target) (targets : List Target) (old new : Links) (all : Bool) (strong : Bool) (to from : LineKey) → Adds by (target ∷ []) old new
    → (refers strong old to from || (same_key from by && has_target strong to (target ∷ targets))) ≡ all → (refers strong new to from || (same_key from by && has_target strong to targets)) ≡ all
adds-more by target targets old new all strong to from adds is =
    step (refers strong old to from) (refers strong new to from) all (same_key from by) (is_target strong to target) (has_target strong to targets) (adds strong to from) is

nothing_left : (a s : Bool) → a ≡ (a || (s && false))
nothing_left true s = refl
nothing_left false true = refl
nothing_left false false = refl

pub adds-all : (by : LineKey) (new : Links) (all : Bool) (strong : Bool) (to from : LineKey) → (refers strong new to from || (same_key from by && has_target strong to [])) ≡ all → refers strong new to from ≡ all
adds-all by new all strong to from is = nothing_left (refers strong new to from) (same_key from by) ∙ is

-- ---- sets of targets

contains-insert : (set : KeySet) (key q : LineKey) → contains_key (insert set key tt) q ≡ (contains_key set q || same_key key q)
contains-insert set key q =
    ap is_some (get-insert key_total set key tt q) ∙ given_or (eq_by_cmp line_cmp q key) (get set q) ∙ ap (λ b. contains_key set q || b) (sym (same_key-tied q key) ∙ same_key-turned q key)

-- the one of two sets
abbrev pub has_key : Bool → KeySet → KeySet → LineKey → Bool
has_key strong a b to = contains_key (cond strong a b) to

pub in_none : (a b : KeySet) → a ≡ empty → b ≡ empty → (strong : Bool) (to : LineKey) → has_key strong a b to ≡ false
in_none a b is is' true to = ap (λ (s : KeySet). contains_key s to) is ∙ ap is_some (get-empty line_cmp to)
in_none a b is is' false to = ap (λ (s : KeySet). contains_key s to) is' ∙ ap is_some (get-empty line_cmp to)

pub in_strong : (a b new : KeySet) (target : Target) → target.is_strong ≡ true → new ≡ insert a target.key tt → (strong : Bool) (to : LineKey)
    → has_key strong new b to ≡ (has_key strong a b to || is_target strong to target)
in_strong a b new target is put true to =
    ap (λ (s : KeySet). contains_key s to) put ∙ contains-insert a target.key to ∙ ap (λ t. contains_key a to || (t && same_key target.key to)) (sym is)
in_strong a b new target is put false to = or_false (contains_key b to) ∙ ap (λ t. contains_key b to || (not t && same_key target.key to)) (sym is)

pub in_weak : (a b new : KeySet) (target : Target) → target.is_strong ≡ false → new ≡ insert b target.key tt → (strong : Bool) (to : LineKey)
    → has_key strong a new to ≡ (has_key strong a b to || is_target strong to target)
in_weak a b new target is put true to = or_false (contains_key a to) ∙ ap (λ t. contains_key a to || (t && same_key target.key to)) (sym is)
in_weak a b new target is put false to =
    ap (λ (s : KeySet). contains_key s to) put ∙ contains-insert b target.key to ∙ ap (λ t. contains_key b to || (not t && same_key target.key to)) (sym is)

-- ---- what a row no longer refers to

either_lost : (s x y n : Bool) → ((s && (x && n)) || (s && (y && n))) ≡ (s && ((x || y) && n))
either_lost true true y true = refl
either_lost true true true false = refl
either_lost true true false false = refl
either_lost true false y n = refl
either_lost false x y n = refl

never : (s : Bool) → false ≡ (s && false)
never true = refl
never false = refl

module _ (strong : Bool) (to from by : LineKey) (after : List Target) where
  one_lost : (target : Target)
      → list_any (is_reference strong to from) (cond (has_target target.is_strong target.key after) [] (record { from = by; to = target } ∷ []))
      ≡ (same_key from by && (is_target strong to target && not (has_target strong to after)))
  one_lost target = turn (is_target strong to target) refl (has_target target.is_strong target.key after) refl
    where
      here : is_target strong to target ≡ true → has_target target.is_strong target.key after ≡ has_target strong to after
      here is = let parts = target_is strong to target is in λ i. has_target (sym parts.0 i) (sym parts.1 i) after

      lists : Bool → Bool
      lists b = list_any (is_reference strong to from) (cond b [] (record { from = by; to = target } ∷ []))

      wanted : Bool → Bool → Bool
      wanted a n = same_key from by && (a && not n)

      listed : (a s : Bool) → ((a && s) || false) ≡ (s && a)
      listed true true = refl
      listed true false = refl
      listed false true = refl
      listed false false = refl

      turn : (a : Bool) → is_target strong to target ≡ a → (b : Bool) → has_target target.is_strong target.key after ≡ b → lists (has_target target.is_strong target.key after) ≡ wanted (is_target strong to target) (has_target strong to after)
      turn true is true has = ap lists has ∙ never (same_key from by) ∙ (λ i. wanted (sym is i) (sym (sym (here is) ∙ has) i))
      turn true is false has =
          ap lists has ∙ listed (is_target strong to target) (same_key from by) ∙ ap (λ a. same_key from by && a) (is ∙ (λ i. sym is i && not (sym (sym (here is) ∙ has) i)))
      turn false is true has = ap lists has ∙ never (same_key from by) ∙ ap (λ a. wanted a (has_target strong to after)) (sym is)
      turn false is false has =
          ap lists has ∙ ap (λ a. (a && same_key from by) || false) is ∙ never (same_key from by) ∙ ap (λ a. wanted a (has_target strong to after)) (sym is)

  any_lost : (before : List Target) → list_any (is_reference strong to from) (lost by before after) ≡ (same_key from by && (has_target strong to before && not (has_target strong to after)))
  any_lost [] = never (same_key from by)
  any_lost (t ∷ ts) =
      list_any-append (is_reference strong to from) (cond (has_target t.is_strong t.key after) [] (record { from = by; to = t } ∷ [])) (lost by ts after)
      ∙ (λ i. one_lost t i || any_lost ts i)
      ∙ either_lost (same_key from by) (is_target strong to t) (has_target strong to ts) (not (has_target strong to after))

-- ---- all changes

-- the change puts a row that refers to the row, strongly or weakly
abbrev pub puts : Bool → Schema → LineKey → LineKey → LineKey × Option Row → Bool
puts strong schema to from e = same_key from e.0 && has_target strong to (targets_at schema e.0 e.1)

-- the row at its key referred to the row before, and doesn't after
abbrev pub loses : Bool → Schema → Database → LineKey → LineKey → LineKey × Option Row → Bool
loses strong schema rows to from e =
    same_key from e.0 && (has_target strong to (targets_at schema e.0 (get rows e.0)) && not (has_target strong to (targets_at schema e.0 e.1)))

or_three : (a b c : Bool) → ((a || b) || c) ≡ (a || (b || c))
or_three true b c = refl
or_three false b c = refl

module _ (schema : Schema) (e : LineKey × Option Row) (es : List (LineKey × Option Row)) (strong : Bool) (to from : LineKey) where
  pub puts-more : (old new : Links) (all : Bool) → Adds e.0 (targets_at schema e.0 e.1) old new → (refers strong old to from || list_any (puts strong schema to from) (e ∷ es)) ≡ all
      → (refers strong new to from || list_any (puts strong schema to from) es) ≡ all
  puts-more old new all adds is =
      ap (λ b. b || list_any (puts strong schema to from) es) (adds strong to from)
      ∙ or_three (refers strong old to from) (puts strong schema to from e) (list_any (puts strong schema to from) es) ∙ is

  pub loses-more : (rows : Database) (old new : List RowReference) (all : Bool) → new ≡ old ++ lost e.0 (targets_at schema e.0 (get rows e.0)) (targets_at schema e.0 e.1)
      → (list_any (is_reference strong to from) old || list_any (loses strong schema rows to from) (e ∷ es)) ≡ all
      → (list_any (is_reference strong to from) new || list_any (loses strong schema rows to from) es) ≡ all
  loses-more rows old new all more is =
      ap (λ b. b || list_any (loses strong schema rows to from) es)
      (ap (list_any (is_reference strong to from)) more ∙ list_any-append (is_reference strong to from) old (lost e.0 (targets_at schema e.0 (get rows e.0)) (targets_at schema e.0 e.1))
      ∙ ap (λ b. list_any (is_reference strong to from) old || b) (any_lost strong to from e.0 (targets_at schema e.0 e.1) (targets_at schema e.0 (get rows e.0))))
      ∙ or_three (list_any (is_reference strong to from) old) (loses strong schema rows to from e) (list_any (loses strong schema rows to from) es) ∙ is

-- ---- the rows after all changes

strong_at : (schema : Schema) (to from : LineKey) (o : Option Row) → is_some_and (λ row. refers_strongly schema (from, row) to) o ≡ has_target true to (targets_at schema from o)
strong_at schema to from None = refl
strong_at schema to from (Some row) = refl

weak_at : (schema : Schema) (to from : LineKey) (o : Option Row) → is_some_and (λ row. refers_weakly schema (from, row) to) o ≡ has_target false to (targets_at schema from o)
weak_at schema to from None = refl
weak_at schema to from (Some row) = refl

-- which rows refer to which by the links of rows, as the rows say it
pub links_at : (schema : Schema) (rows : Database) (links : Links) → AreLinksOf schema rows links → (strong : Bool) (to from : LineKey) → refers strong links to from ≡ has_target strong to (targets_at schema from (get rows from))
links_at schema rows links linked true to from = linked.strong to from ∙ strong_at schema to from (get rows from)
links_at schema rows links linked false to from = linked.weak to from ∙ weak_at schema to from (get rows from)

pub alike_links : (schema : Schema) (rows : Database) (old new : Links) → AreAlike new old → AreLinksOf schema rows old → AreLinksOf schema rows new
alike_links schema rows old new alike linked = record {
  strong = λ to from. alike true to from ∙ linked.strong to from;
  weak = λ to from. alike false to from ∙ linked.weak to from;
}

now_so : (was is : Bool) → ((was || is) && not (was && not is)) ≡ is
now_so true true = refl
now_so true false = refl
now_so false true = refl
now_so false false = refl

as_before : (was : Bool) → ((was || false) && not false) ≡ was
as_before true = refl
as_before false = refl

module _ (schema : Schema) (rows after : Database) (old new : Links) (changes : List (LineKey × Option Row)) (gone : List RowReference) where
  -- what has been added and listed after all changes
  pub record ArePlaced : Type 0 where
    pub adds : (strong : Bool) (to from : LineKey) → refers strong new to from ≡ (refers strong old to from || list_any (puts strong schema to from) changes)
    pub lists : (strong : Bool) (to from : LineKey) → list_any (is_reference strong to from) gone ≡ list_any (loses strong schema rows to from) changes

  module _ (sorted : T (is_sorted line_cmp changes)) (linked : AreLinksOf schema rows old) (placed : ArePlaced) (is_after : IsAfter changes rows after) where
    module _ (strong : Bool) (to from : LineKey) where
      abbrev has : Option Row → Bool
      has o = has_target strong to (targets_at schema from o)

      abbrev loses_by : Option Row → Bool
      loses_by change = has (get rows from) && not (has change)

      left : refers strong (without_references gone new) to from ≡ has (get after from)
      left =
          refers-without strong to from gone new
          ∙ (λ i. (placed.adds strong to from ∙ (λ j. links_at schema rows old linked strong to from j || any_at to from (λ (e : LineKey × Option Row). has_target strong to (targets_at schema e.0 e.1)) changes sorted j)) i
          && not ((placed.lists strong to from
          ∙ any_at to from (λ (e : LineKey × Option Row). has_target strong to (targets_at schema e.0 (get rows e.0)) && not (has_target strong to (targets_at schema e.0 e.1))) changes sorted) i))
          ∙ by (find line_cmp from changes) ∙ sym (ap has (is_after from ∙ ap (λ o. unwrap_or o (get rows from)) (get-from_sorted line_cmp changes from sorted)))
        where
          by : (o : Option (Option Row)) → ((has (get rows from) || is_some_and has o) && not (is_some_and loses_by o)) ≡ has (unwrap_or o (get rows from))
          by None = as_before (has (get rows from))
          by (Some change) = now_so (has (get rows from)) (has change)

    pub after_links : AreLinksOf schema after (without_references gone new)
    after_links = record {
      strong = λ to from. left true to from ∙ sym (strong_at schema to from (get after from));
      weak = λ to from. left false to from ∙ sym (weak_at schema to from (get after from));
    }
