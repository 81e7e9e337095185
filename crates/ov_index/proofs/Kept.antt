-- Which rows are at which keys after entries were added or removed.
use Rattle.std.proofs.Common.{◌≡◌, ◌==◌, List, [], ◌∷◌, Bool, true, false, cond, ◌&&◌, ◌||◌, not, Option, Some, None, is_some, refl, sym, ap, ◌∙◌}
use Rattle.std.specs.Prelude.{unwrap_or}
use Rattle.std.specs.Cmp.{eq_by_cmp_equiv}
use Rattle.std.specs.Cmp.Lexicographic.{texts_ties}
use Rattle.std.specs.FinMap.{empty, get, contains_key, insert, remove, len, get-empty, get-insert, get-remove, empty_of_len}
use Rattle.std.specs.Ordering.{eq_by_cmp}
use Rattle.std.specs.Str.{bytes_eq}
use Rattle.ov_rows.specs.Nested.{id_cmp}
use Rattle.ov_specs.specs.schema.Schema.{is_some_and}
use Rattle.ov_specs.specs.values.Uuid.{Uuid}
use Rattle.ov_specs.proofs.laws.Names.{name_cmp_total}
use Rattle.ov_specs.proofs.laws.Truths.{equal_is, zero_is}
use Rattle.ov_index.specs.Collecting.{is_entry, has_entry, with_entry, with_entries}
use Rattle.ov_index.specs.IndexKeys.{IndexKey, IndexEntry, index_cmp, same_index_key}
use Rattle.ov_index.specs.Indexing.{IdSet, Indexes, ids_at, is_indexed, ids_left, without_entry, without_entries}
use Rattle.ov_index.specs.KeyOrder.{index_total, index_exact}
use Rattle.ov_index.proofs.IdMaps.{get-with_ids}

-- ---- keys

pub same_key-is : (a b : IndexKey) → same_index_key a b ≡ true → a ≡ b
same_key-is a b h = index_exact a b (equal_is _ h)

pub same_key-itself : (a : IndexKey) → same_index_key a a ≡ true
same_key-itself a = (eq_by_cmp_equiv index_total).refl a

pub same_key-turned : (a b : IndexKey) → same_index_key a b ≡ same_index_key b a
same_key-turned a b = (eq_by_cmp_equiv index_total).symm a b

-- identifiers are the same if the order ties them
id_tied : (a b : Uuid) → eq_by_cmp id_cmp a b ≡ bytes_eq b a
id_tied a b = (eq_by_cmp_equiv name_cmp_total).symm a b ∙ sym (texts_ties b a)

-- no row is at any key
pub none_indexed : (key : IndexKey) (id : Uuid) → is_indexed (empty {R = index_cmp}) key id ≡ false
none_indexed key id = ap (is_some_and (λ (ids : IdSet). contains_key ids id)) (get-empty index_cmp key)

-- ---- one more

given_or : (b : Bool) (o : Option (Unit {0})) → is_some (cond b (Some tt) o) ≡ (is_some o || b)
given_or true None = refl
given_or true (Some tt) = refl
given_or false None = refl
given_or false (Some tt) = refl

in_empty : (o : Option IdSet) (id : Uuid) → contains_key (unwrap_or o empty) id ≡ is_some_and (λ set. contains_key set id) o
in_empty None id = ap is_some (get-empty id_cmp id)
in_empty (Some set) id = refl

pub or_false : (b : Bool) → b ≡ (b || false)
or_false true = refl
or_false false = refl

pub and_true : (b : Bool) → b ≡ (b && true)
and_true true = refl
and_true false = refl

module _ (indexes : Indexes) (e : IndexEntry) (key : IndexKey) (id : Uuid) where
  abbrev stands_in : Option IdSet → Bool
  stands_in o = is_some_and (λ set. contains_key set id) o

  same_at : (b : Bool) → eq_by_cmp index_cmp key e.key ≡ b → same_index_key e.key key ≡ b
  same_at b is = same_key-turned e.key key ∙ is

  with_itself : contains_key (insert (ids_at indexes e.key) e.id tt) id ≡ (stands_in (get indexes e.key) || bytes_eq e.id id)
  with_itself =
      ap is_some (get-insert name_cmp_total (ids_at indexes e.key) e.id tt id) ∙ given_or (eq_by_cmp id_cmp id e.id) (get (ids_at indexes e.key) id)
      ∙ (λ i. in_empty (get indexes e.key) id i || id_tied id e.id i)

  -- the row of the entry is at its key in addition
  pub indexed-with : is_indexed (with_entry e indexes) key id ≡ (is_indexed indexes key id || is_entry key id e)
  indexed-with = ap stands_in (get-insert index_total indexes e.key (insert (ids_at indexes e.key) e.id tt) key) ∙ turn (eq_by_cmp index_cmp key e.key) refl
    where
      turn : (b : Bool) → eq_by_cmp index_cmp key e.key ≡ b
          → stands_in (cond b (Some (insert (ids_at indexes e.key) e.id tt)) (get indexes key)) ≡ (is_indexed indexes key id || is_entry key id e)
      turn true is =
          with_itself ∙ (λ i. stands_in (get indexes (sym (index_exact key e.key (equal_is _ is)) i)) || (sym (same_at true is) i && bytes_eq e.id id))
      turn false is = or_false (is_indexed indexes key id) ∙ ap (λ b. is_indexed indexes key id || (b && bytes_eq e.id id)) (sym (same_at false is))

  -- ---- one fewer

  without_given : (b : Bool) (o : Option (Unit {0})) → is_some (cond b None o) ≡ (is_some o && not b)
  without_given true None = refl
  without_given true (Some tt) = refl
  without_given false None = refl
  without_given false (Some tt) = refl

  in_no_row : (set : IdSet) → (len set == 0) ≡ true → false ≡ contains_key set id
  in_no_row set none = sym (ap (λ (s : IdSet). contains_key s id) (empty_of_len set (zero_is (len set) none)) ∙ ap is_some (get-empty id_cmp id))

  -- of those at the key of the entry its row alone is not left
  stands_left : (o : Option IdSet) → stands_in (ids_left o e.id) ≡ (stands_in o && not (bytes_eq e.id id))
  stands_left None = refl
  stands_left (Some set) = by (len (remove set e.id) == 0) refl ∙ fewer
    where
      by : (b : Bool) → (len (remove set e.id) == 0) ≡ b → stands_in (cond b None (Some (remove set e.id))) ≡ contains_key (remove set e.id) id
      by true none = in_no_row (remove set e.id) none
      by false some = refl

      fewer : contains_key (remove set e.id) id ≡ (contains_key set id && not (bytes_eq e.id id))
      fewer =
          ap is_some (get-remove name_cmp_total set e.id id) ∙ without_given (eq_by_cmp id_cmp id e.id) (get set id)
          ∙ ap (λ b. contains_key set id && not b) (id_tied id e.id)

  -- all rows are where they were, except this one
  pub indexed-without : is_indexed (without_entry e indexes) key id ≡ (is_indexed indexes key id && not (is_entry key id e))
  indexed-without = ap stands_in (get-with_ids index_total indexes e.key (ids_left (get indexes e.key) e.id) key) ∙ turn (eq_by_cmp index_cmp key e.key) refl
    where
      turn : (b : Bool) → eq_by_cmp index_cmp key e.key ≡ b
          → stands_in (cond b (ids_left (get indexes e.key) e.id) (get indexes key)) ≡ (is_indexed indexes key id && not (is_entry key id e))
      turn true is =
          stands_left (get indexes e.key)
          ∙ (λ i. stands_in (get indexes (sym (index_exact key e.key (equal_is _ is)) i)) && not (sym (same_at true is) i && bytes_eq e.id id))
      turn false is = and_true (is_indexed indexes key id) ∙ ap (λ b. is_indexed indexes key id && not (b && bytes_eq e.id id)) (sym (same_at false is))

-- ---- several

pub or_three : (a b c : Bool) → ((a || b) || c) ≡ (a || (b || c))
or_three true b c = refl
or_three false b c = refl

not_both : (a b c : Bool) → ((a && not b) && not c) ≡ (a && not (b || c))
not_both true true c = refl
not_both true false c = refl
not_both false b c = refl

pub indexed-with_entries : (es : List IndexEntry) (indexes : Indexes) (key : IndexKey) (id : Uuid) → is_indexed (with_entries es indexes) key id ≡ (is_indexed indexes key id || has_entry key id es)
indexed-with_entries [] indexes key id = or_false (is_indexed indexes key id)
indexed-with_entries (e ∷ es) indexes key id =
    indexed-with_entries es (with_entry e indexes) key id ∙ ap (λ b. b || has_entry key id es) (indexed-with indexes e key id) ∙ or_three (is_indexed indexes key id) (is_entry key id e) (has_entry key id es)

pub indexed-without_entries : (es : List IndexEntry) (indexes : Indexes) (key : IndexKey) (id : Uuid) → is_indexed (without_entries es indexes) key id ≡ (is_indexed indexes key id && not (has_entry key id es))
indexed-without_entries [] indexes key id = and_true (is_indexed indexes key id)
indexed-without_entries (e ∷ es) indexes key id =
    indexed-without_entries es (without_entry e indexes) key id ∙ ap (λ b. b && not (has_entry key id es)) (indexed-without indexes e key id)
    ∙ not_both (is_indexed indexes key id) (is_entry key id e) (has_entry key id es)
