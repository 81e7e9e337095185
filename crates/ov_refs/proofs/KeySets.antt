-- Sets of keys of the code as those of the definitions.
use Rattle.std.proofs.Common.{◌≡◌, suc, length, List, [], ◌∷◌, map, Bool, true, false, not, ◌||◌, cond, T, Ordering, Option, Some, None, is_some, refl, sym, ap, ◌∙◌, Less, Equal, Greater}
use Rattle.std.specs.BTreeMap.{is_at}
use Rattle.std.specs.BTreeSet.{insert_key}
use Rattle.std.specs.Cmp.{eq_by_cmp_equiv}
use Rattle.std.specs.FinMap.{put, is_sorted, empty, get, contains_key, insert, remove, keys, len, len-entries, get-from_sorted, entries-from_sorted, entries-insert, get-remove, same_map, same_entries_map}
use Rattle.std.specs.FinMap.Entries.{below_all, by_order, is_some-find}
use Rattle.std.specs.List.{AllByRecursion, list_any}
use Rattle.std.specs.List.Sorted.{IsStrictlySortedBy}
use Rattle.std.specs.Ordering.{eq_by_cmp, match_ordering, is_eq}
use Rattle.ov_specs.specs.rows.Lines.{LineKey, line_cmp}
use Rattle.ov_specs.proofs.laws.LineKeys.{key_exact, key_total, tied_same}
use Rattle.ov_specs.proofs.laws.Truths.{both_hold}
use Rattle.ov_refs.specs.Holding.{KeySet, set_of_keys}
use Rattle.ov_specs.specs.values.Value.{marked}
use Rattle.ov_refs.specs.StoredKeys.{keys_in}
use Rattle.ov_refs.specs.declared.key_set.Keys.{Keys}
use Rattle.ov_rows.proofs.Maps.{from_sorted-nil}

below : (k : LineKey) (ks : List LineKey) → AllByRecursion (λ y. line_cmp k y ≡ Less) ks → T (below_all line_cmp k (map marked ks))
below k [] h = tt
below k (x ∷ xs) h = both_hold _ _ (rw h.0 tt) (below k xs h.1)

-- keys that ascend, as the code says it, ascend as the definitions say it
pub marks-ascend : (ks : List LineKey) → IsStrictlySortedBy line_cmp ks → T (is_sorted line_cmp (map marked ks))
unfolding IsStrictlySortedBy
marks-ascend [] h = tt
marks-ascend (k ∷ ks) h = both_hold _ _ (below k ks h.0) (marks-ascend ks h.1)

unmarked : (ks : List LineKey) → map (λ e. e.0) (map marked ks) ≡ ks
unmarked [] = refl
unmarked (k ∷ ks) = ap (λ rest. k ∷ rest) (unmarked ks)

as_many : (ks : List LineKey) → length (map marked ks) ≡ length ks
as_many [] = refl
as_many (k ∷ ks) = ap suc (as_many ks)

-- the set of no key
pub set_of-nil : set_of_keys [] ≡ empty
set_of-nil = from_sorted-nil line_cmp

module _ (ks : List LineKey) (h : T (is_sorted line_cmp (map marked ks))) where
  pub keys-set_of : keys (set_of_keys ks) ≡ ks
  keys-set_of = ap (map (λ e. e.0)) (entries-from_sorted line_cmp (map marked ks) h) ∙ unmarked ks

  pub contains-set_of : (q : LineKey) → contains_key (set_of_keys ks) q ≡ list_any (is_at (line_cmp q)) ks
  contains-set_of q =
      ap is_some (get-from_sorted line_cmp (map marked ks) q h) ∙ is_some-find line_cmp q (map marked ks) ∙ ap (list_any (eq_by_cmp line_cmp q)) (unmarked ks)

  pub len-set_of : len (set_of_keys ks) ≡ length ks
  len-set_of = len-entries (set_of_keys ks) ∙ ap length (entries-from_sorted line_cmp (map marked ks) h) ∙ as_many ks

-- a key without a value
abbrev kept : Bool → Option (Unit {0})
kept b = cond b (Some tt) None

kept_if : (o : Option (Unit {0})) → o ≡ kept (is_some o)
kept_if None = refl
kept_if (Some tt) = refl

-- one key more
put-marked : (k : LineKey) (ks : List LineKey) → put line_cmp k tt (map marked ks) ≡ map marked (insert_key line_cmp ks k)
put-marked k [] = refl
put-marked k (x ∷ xs) =
    elim (line_cmp k x) as (λ o. by_order o ((k, tt) ∷ map marked (x ∷ xs)) ((x, tt) ∷ map marked xs) ((x, tt) ∷ put line_cmp k tt (map marked xs)) ≡ map marked (match_ordering o (k ∷ x ∷ xs) (x ∷ xs) (x ∷ insert_key line_cmp xs k))) [
      | Less ↦ refl
      | Equal ↦ refl
      | Greater ↦ ap (λ rest. (x, tt) ∷ rest) (put-marked k xs)
    ]

without_key : (b c : Bool) → kept (cond b false c) ≡ cond b None (kept c)
without_key true c = refl
without_key false c = refl

module _ (ks ks' : List LineKey) (k : LineKey) (h : T (is_sorted line_cmp (map marked ks))) (h' : T (is_sorted line_cmp (map marked ks'))) where
  -- a key that is put into the list
  pub set_of-insert : ks' ≡ insert_key line_cmp ks k → set_of_keys ks' ≡ insert (set_of_keys ks) k tt
  set_of-insert is = same_entries_map _ _
      (entries-from_sorted line_cmp (map marked ks') h' ∙ ap (λ (list : List LineKey). map marked list) is ∙ sym (put-marked k ks)
      ∙ sym (entries-insert key_total (set_of_keys ks) k tt ∙ ap (put line_cmp k tt) (entries-from_sorted line_cmp (map marked ks) h)))

  -- a key that is taken out of the list
  pub set_of-remove : ((q : LineKey) → list_any (is_at (line_cmp q)) ks' ≡ cond (is_at (line_cmp k) q) false (list_any (is_at (line_cmp q)) ks)) → set_of_keys ks' ≡ remove (set_of_keys ks) k
  set_of-remove is = same_map key_total key_exact _ _ (λ q.
      kept_if (get (set_of_keys ks') q) ∙ ap kept (contains-set_of ks' h' q ∙ is q) ∙ without_key (is_at (line_cmp k) q) (list_any (is_at (line_cmp q)) ks)
      ∙ ap (λ b. cond b None (kept (list_any (is_at (line_cmp q)) ks))) ((eq_by_cmp_equiv key_total).symm k q)
      ∙ sym (get-remove key_total (set_of_keys ks) k q ∙ ap (cond (eq_by_cmp line_cmp q k) None) (kept_if (get (set_of_keys ks) q) ∙ ap kept (contains-set_of ks h q))))

-- ---- sets of one key or of none

pub or_none : (b : Bool) → b || false ≡ b
or_none true = refl
or_none false = refl

taken_out : (b : Bool) → false ≡ cond b false (b || false)
taken_out true = refl
taken_out false = refl

none_taken_out : (b : Bool) → false ≡ cond b false false
none_taken_out true = refl
none_taken_out false = refl

placed_as : (o : Ordering) (a b c : List LineKey) → is_eq o ≡ true → b ≡ match_ordering o a b c
placed_as Less a b c h = cc
placed_as Equal a b c h = refl
placed_as Greater a b c h = cc

pub set_of-none : (key : LineKey) → set_of_keys [] ≡ remove (set_of_keys []) key
set_of-none key = set_of-remove [] [] key tt tt (λ q. none_taken_out (is_at (line_cmp key) q))

module _ (one key : LineKey) where
  -- the one key is there, or taken out
  module _ (same : eq_by_cmp line_cmp key one ≡ true) where
    pub set_of-again : set_of_keys (one ∷ []) ≡ insert (set_of_keys (one ∷ [])) key tt
    set_of-again = set_of-insert (one ∷ []) (one ∷ []) key tt tt (placed_as (line_cmp key one) _ _ _ same)

    turned : (q : LineKey) → is_at (line_cmp q) one ≡ is_at (line_cmp key) q
    turned q = ap (eq_by_cmp line_cmp q) (sym (tied_same key one same)) ∙ (eq_by_cmp_equiv key_total).symm q key

    pub set_of-gone : set_of_keys [] ≡ remove (set_of_keys (one ∷ [])) key
    set_of-gone = set_of-remove (one ∷ []) [] key tt tt (λ q. taken_out (is_at (line_cmp key) q) ∙ ap (λ b. cond (is_at (line_cmp key) q) false (b || false)) (sym (turned q)))

  -- another key is taken out
  module _ (other : eq_by_cmp line_cmp key one ≡ false) where
    stays : (q : LineKey) (b : Bool) → eq_by_cmp line_cmp key q ≡ b → (is_at (line_cmp q) one || false) ≡ cond b false (is_at (line_cmp q) one || false)
    stays q true same = or_none (is_at (line_cmp q) one) ∙ ap (λ k. eq_by_cmp line_cmp k one) (sym (tied_same key q same)) ∙ other
    stays q false h = refl

    pub set_of-other : set_of_keys (one ∷ []) ≡ remove (set_of_keys (one ∷ [])) key
    set_of-other = set_of-remove (one ∷ []) (one ∷ []) key tt tt (λ q. stays q (is_at (line_cmp key) q) refl)

-- ---- wherever the keys are stored

module _ (stored : Keys) (set : KeySet) (h : T (is_sorted line_cmp (map marked (keys_in stored)))) (seen : set_of_keys (keys_in stored) ≡ set) where
  pub has_stored : (q : LineKey) → contains_key set q ≡ list_any (is_at (line_cmp q)) (keys_in stored)
  has_stored q = sym (ap (λ (s : KeySet). contains_key s q) seen) ∙ contains-set_of (keys_in stored) h q

  pub len_stored : len set ≡ length (keys_in stored)
  len_stored = sym (ap (λ (s : KeySet). len s) seen) ∙ len-set_of (keys_in stored) h

  pub keys_stored : keys set ≡ keys_in stored
  keys_stored = sym (ap (λ (s : KeySet). keys s) seen) ∙ keys-set_of (keys_in stored) h

pub told_same : (b : Bool) → not b ≡ false → b ≡ true
told_same true h = refl
told_same false h = sym h
