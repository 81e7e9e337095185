-- What one row more or less at a key does to a map of sets of identifiers, and to one that is nested in others.
use Rattle.std.proofs.Common.{◌≡◌, List, Bool, true, false, cond, T, Option, Some, None, refl, sym, ap, subst, ◌∙◌, Ordering, Less, Equal, Greater}
use Rattle.std.specs.Prelude.{option_and_then, unwrap_or}
use Rattle.std.specs.Cmp.{IsTotalOrder, eq_by_cmp_equiv}
use Rattle.std.specs.FinMap.{FinMap, IsAntisymmetric, is_sorted, empty, entries, get, contains_key, insert, remove, from_sorted, get-empty, get-insert, get-remove, same_map}
use Rattle.std.specs.Ordering.{eq_by_cmp, is_eq, ordering_then}
use Rattle.ov_specs.specs.schema.Schema.{is_some_and}
use Rattle.ov_specs.specs.values.Uuid.{Uuid}
use Rattle.ov_index.specs.Indexing.{IdSet, ids_at, is_indexed, with_id, with_ids, lacking, has_no_rows, ids_left, without_id}
use Rattle.ov_index.specs.Nested.{seen, all_entries}
use Rattle.ov_index.proofs.SeenKeys.{by_seen, found_at, get_seen, Puts, puts_same}
use Rattle.ov_index.proofs.Nesting.{JoinsOrders, entries_nested, get_nested}
use Rattle.ov_specs.proofs.laws.Truths.{equal_is}

-- ---- one key

module _ {K : Type 0} {R : K → K → Ordering} (total : IsTotalOrder R) where
  pub get-with_ids : (m : FinMap R IdSet) (key : K) (new : Option IdSet) (q : K) → get (with_ids key new m) q ≡ cond (eq_by_cmp R q key) new (get m q)
  get-with_ids m key None q = get-remove total m key q
  get-with_ids m key (Some ids) q = get-insert total m key ids q

  there : (m : FinMap R IdSet) (key : K) (new : Option IdSet) → get (with_ids key new m) key ≡ new
  there m key new = get-with_ids m key new key ∙ ap (λ b. cond b new (get m key)) ((eq_by_cmp_equiv total).refl key)

  module _ (exact : IsAntisymmetric R) where
    -- a map that has these at the key, and at each other key what the map has
    pub with_ids-is : (m n : FinMap R IdSet) (key : K) (new : Option IdSet) → ((q : K) → get n q ≡ cond (eq_by_cmp R q key) new (get m q)) → n ≡ with_ids key new m
    with_ids-is m n key new is = same_map total exact n (with_ids key new m) (λ q. is q ∙ sym (get-with_ids m key new q))

    -- what is put back at a key changes nothing
    with_itself : (m : FinMap R IdSet) (key : K) (ids : Option IdSet) → get m key ≡ ids → m ≡ with_ids key ids m
    with_itself m key ids is = with_ids-is m m key ids (λ q. by q (eq_by_cmp R q key) refl)
      where
        by : (q : K) (b : Bool) → eq_by_cmp R q key ≡ b → get m q ≡ cond b ids (get m q)
        by q true tied = ap (get m) (exact q key (equal_is _ tied)) ∙ is
        by q false apart = refl

    -- there is nothing to take out if there is no such key
    pub without_id-absent : (m : FinMap R IdSet) (key : K) (id : Uuid) → get m key ≡ None → m ≡ without_id key id m
    without_id-absent m key id none = with_itself m key (ids_left (get m key) id) (none ∙ sym (ap (λ o. ids_left o id) none))

    pub lacking-absent : (m : FinMap R IdSet) (key : K) (id : Uuid) → get m key ≡ None → m ≡ with_ids key (lacking (get m key) id) m
    lacking-absent m key id none = with_itself m key (lacking (get m key) id) (none ∙ sym (ap (λ o. lacking o id) none))

    module _ (m : FinMap R IdSet) (key : K) (id : Uuid) where
      abbrev less : FinMap R IdSet
      less = with_ids key (lacking (get m key) id) m

      none_left : has_no_rows (get less key) ≡ has_no_rows (lacking (get m key) id)
      none_left = ap has_no_rows (there m key (lacking (get m key) id))

      -- the key goes if no row is left there
      pub without_id-goes : has_no_rows (get less key) ≡ true → remove less key ≡ without_id key id m
      without_id-goes is = with_ids-is m (remove less key) key (ids_left (get m key) id) (λ q.
          get-remove total less key q ∙ ap (cond (eq_by_cmp R q key) None) (get-with_ids m key (lacking (get m key) id) q)
          ∙ by q (eq_by_cmp R q key) ∙ ap (λ o. cond (eq_by_cmp R q key) o (get m q)) (sym (ap (λ b. cond b None (lacking (get m key) id)) (sym none_left ∙ is))))
        where
          by : (q : K) (b : Bool) → cond b None (cond b (lacking (get m key) id) (get m q)) ≡ cond b None (get m q)
          by q true = refl
          by q false = refl

      -- and else it stays
      pub without_id-stays : has_no_rows (get less key) ≡ false → less ≡ without_id key id m
      without_id-stays is = ap (λ o. with_ids key o m) (sym (ap (λ b. cond b None (lacking (get m key) id)) (sym none_left ∙ is)))

-- ---- keys that stand for others

module _ {A B : Type 0} (see : A → B) {R : B → B → Ordering} (total : IsTotalOrder R) (exact : IsAntisymmetric R) (es es' : List (A × IdSet)) (h : T (is_sorted (by_seen see R) es)) (h' : T (is_sorted (by_seen see R) es')) (key : B) where
  pub seen_with_ids : (new : Option IdSet) → Puts see R es es' key new → from_sorted {R = R} (seen see es') ≡ with_ids key new (from_sorted (seen see es))
  seen_with_ids new puts = with_ids-is total exact (from_sorted (seen see es)) (from_sorted (seen see es')) key new (λ q.
      get_seen see R es' q h' ∙ puts q ∙ (λ i. cond ((eq_by_cmp_equiv total).symm key q i) new (sym (get_seen see R es q h) i)))

  -- one more row
  pub seen_with_id : (new : IdSet) (id : Uuid) → Puts see R es es' key (Some new) → new ≡ insert (unwrap_or (found_at see R key es) empty) id tt → from_sorted {R = R} (seen see es') ≡ with_id key id (from_sorted (seen see es))
  seen_with_id new id puts more = seen_with_ids (Some new) puts
      ∙ ap (insert (from_sorted {R = R} (seen see es)) key) (more ∙ ap (λ o. insert (unwrap_or o empty) id tt) (sym (get_seen see R es key h)))

  -- rows that are put back as they were
  pub seen_same : (old new : IdSet) → Puts see R es es' key (Some new) → Some old ≡ found_at see R key es → new ≡ old → from_sorted {R = R} (seen see es') ≡ from_sorted (seen see es)
  seen_same old new puts is same = same_map total exact (from_sorted (seen see es')) (from_sorted (seen see es)) (λ q.
      get_seen see R es' q h' ∙ puts_same see R total exact es es' key old new puts is same q ∙ sym (get_seen see R es q h))

pub seen_indexed : {A B : Type 0} (see : A → B) (R : B → B → Ordering) (es : List (A × IdSet)) (key : B) (id : Uuid) → T (is_sorted (by_seen see R) es)
    → is_indexed (from_sorted {R = R} (seen see es)) key id ≡ is_some_and (λ ids. contains_key ids id) (found_at see R key es)
seen_indexed see R es key id h = ap (is_some_and (λ (ids : IdSet). contains_key ids id)) (get_seen see R es key h)

-- ---- a key of two parts

-- maps nested in a map, and the order of the keys that are joined of theirs
pub record Levels {A B C K : Type 0} (see : A → B) (R : B → B → Ordering) (S : C → C → Ordering) (Q : K → K → Ordering) (join : B → C → K) : Type 0 where
  pub joins : JoinsOrders R S Q join
  pub outer_total : IsTotalOrder R
  pub outer_exact : IsAntisymmetric R
  pub inner_total : IsTotalOrder S
  pub total : IsTotalOrder Q
  pub exact : IsAntisymmetric Q
  pub parts : (key : K) → (b : B) × (c : C) × (join b c ≡ key)

module _ {A B C K : Type 0} {see : A → B} {R : B → B → Ordering} {S : C → C → Ordering} {Q : K → K → Ordering} {join : B → C → K} (levels : Levels see R S Q join) where
  abbrev Maps : Type 0
  Maps = List (A × FinMap S IdSet)

  -- all of them as one map
  abbrev whole : Maps → FinMap Q IdSet
  whole ms = from_sorted {R = Q} (all_entries (λ a c. join (see a) c) ms)

  abbrev Ascend : Maps → Type 0
  Ascend ms = T (is_sorted (by_seen see R) ms)

  -- what is at a key of one of the maps, if there is such a map
  abbrev at : Option (FinMap S IdSet) → C → Option IdSet
  at o c = option_and_then (λ m. get m c) o

  pub entries_whole : (ms : Maps) → Ascend ms → entries (whole ms) ≡ all_entries (λ a c. join (see a) c) ms
  entries_whole ms h = entries_nested see R S Q join levels.joins levels.outer_total ms h

  pub get_whole : (ms : Maps) (b : B) (c : C) → Ascend ms → get (whole ms) (join b c) ≡ at (found_at see R b ms) c
  get_whole ms b c h = get_nested see R S Q join levels.joins levels.outer_total levels.outer_exact ms b c h

  opened : (o : Option (FinMap S IdSet)) (c : C) → get (unwrap_or o empty) c ≡ at o c
  opened None c = get-empty S c
  opened (Some m) c = refl

  pub whole_indexed : (ms : Maps) (b : B) (c : C) (id : Uuid) → Ascend ms → (o : Option (FinMap S IdSet)) → o ≡ found_at see R b ms → is_some_and (λ m. is_indexed m c id) o ≡ is_indexed (whole ms) (join b c) id
  whole_indexed ms b c id h o is = by o ∙ ap (is_some_and (λ (ids : IdSet). contains_key ids id)) (ap (λ f. at f c) is ∙ sym (get_whole ms b c h))
    where
      by : (o : Option (FinMap S IdSet)) → is_some_and (λ m. is_indexed m c id) o ≡ is_some_and (λ ids. contains_key ids id) (at o c)
      by None = refl
      by (Some m) = refl

  module _ (ms ms' : Maps) (b : B) (new : FinMap S IdSet) (h : Ascend ms) (h' : Ascend ms') (puts : Puts see R ms ms' b (Some new)) where
    -- these are at one key of the map that is put, and at each other key of it what was there
    whole_with_ids : (c : C) (ids : Option IdSet) → ((d : C) → get new d ≡ cond (eq_by_cmp S d c) ids (at (found_at see R b ms) d)) → whole ms' ≡ with_ids (join b c) ids (whole ms)
    whole_with_ids c ids changes = with_ids-is levels.total levels.exact (whole ms) (whole ms') (join b c) ids (λ q.
        let of = levels.parts q in
        subst (λ k. get (whole ms') k ≡ cond (eq_by_cmp Q k (join b c)) ids (get (whole ms) k)) of.2 (joined of.0 of.1))
      where
        by : (d : B) (e : C) (o : Ordering) → R d b ≡ o → at (cond (is_eq o) (Some new) (found_at see R d ms)) e ≡ cond (is_eq (ordering_then o (S e c))) ids (at (found_at see R d ms) e)
        by d e Less is = refl
        by d e Greater is = refl
        by d e Equal is = changes e ∙ ap (λ n. cond (is_eq (S e c)) ids (at (found_at see R n ms) e)) (sym (levels.outer_exact d b is))

        joined : (d : B) (e : C) → get (whole ms') (join d e) ≡ cond (eq_by_cmp Q (join d e) (join b c)) ids (get (whole ms) (join d e))
        joined d e =
            get_whole ms' d e h' ∙ ap (λ o. at o e) (puts d ∙ ap (λ t. cond t (Some new) (found_at see R d ms)) ((eq_by_cmp_equiv levels.outer_total).symm b d))
            ∙ by d e (R d b) refl ∙ (λ i. cond (is_eq (sym (levels.joins d b e c) i)) ids (sym (get_whole ms d e h) i))

    -- one more row
    pub whole_with_id : (c : C) (id : Uuid) → new ≡ with_id c id (unwrap_or (found_at see R b ms) empty) → whole ms' ≡ with_id (join b c) id (whole ms)
    whole_with_id c id is = whole_with_ids c (Some (insert (ids_at (whole ms) (join b c)) id tt)) (λ d.
        let old = unwrap_or (found_at see R b ms) empty in
        ap (λ (m : FinMap S IdSet). get m d) is ∙ get-insert levels.inner_total old c (insert (ids_at old c) id tt) d
        ∙ (λ i. cond (eq_by_cmp S d c) (Some (insert (unwrap_or ((opened (found_at see R b ms) c ∙ sym (get_whole ms b c h)) i) empty) id tt)) (opened (found_at see R b ms) d i)))

    -- one fewer
    pub whole_without_id : (old : FinMap S IdSet) (c : C) (id : Uuid) → Some old ≡ found_at see R b ms → new ≡ without_id c id old → whole ms' ≡ without_id (join b c) id (whole ms)
    whole_without_id old c id is out = whole_with_ids c (ids_left (get (whole ms) (join b c)) id) (λ d.
        ap (λ (m : FinMap S IdSet). get m d) out ∙ get-with_ids levels.inner_total old c (ids_left (get old c) id) d
        ∙ (λ i. cond (eq_by_cmp S d c) (ids_left ((ap (λ o. at o c) is ∙ sym (get_whole ms b c h)) i) id) (at (is i) d)))

    -- a map that is put back as it was
    pub whole_same : (old : FinMap S IdSet) → Some old ≡ found_at see R b ms → new ≡ old → whole ms' ≡ whole ms
    whole_same old is same = same_map levels.total levels.exact (whole ms') (whole ms) (λ q.
        let of = levels.parts q in
        subst (λ k. get (whole ms') k ≡ get (whole ms) k) of.2
        (get_whole ms' of.0 of.1 h' ∙ ap (λ o. at o of.1) (puts_same see R levels.outer_total levels.outer_exact ms ms' b old new puts is same of.0) ∙ sym (get_whole ms of.0 of.1 h)))

  -- there is nothing to take out if there is no such map
  pub whole_absent : (ms : Maps) (b : B) (c : C) (id : Uuid) → Ascend ms → None ≡ found_at see R b ms → whole ms ≡ without_id (join b c) id (whole ms)
  whole_absent ms b c id h none = without_id-absent levels.total levels.exact (whole ms) (join b c) id (get_whole ms b c h ∙ ap (λ o. at o c) (sym none))
