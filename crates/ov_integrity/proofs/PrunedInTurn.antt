-- A row that is pruned, and whether it is then short; it stays as it is while others are pruned.
use Rattle.std.proofs.Common.{◌≡◌, List, ◌∷◌, Bool, true, false, cond, ◌||◌, Option, Some, None, option_map, refl, sym, ap, ◌∙◌}
use Rattle.std.proofs.lemmas.Option.{same_Some}
use Rattle.std.specs.FinMap.{get, insert, entries, get-insert, same_map}
use Rattle.std.specs.List.{list_any}
use Rattle.ov_specs.specs.integrity.Committed.{is_dangling, dangles, pruned_row}
use Rattle.ov_specs.specs.integrity.Limits.{has_too_few, is_short}
use Rattle.ov_specs.specs.integrity.References.{targets_in}
use Rattle.ov_specs.specs.rows.Database.{Row, Database, same_key}
use Rattle.ov_specs.specs.rows.Lines.{LineKey}
use Rattle.ov_specs.specs.schema.Schema.{is_some_and}
use Rattle.ov_specs.specs.schema.SchemaTypes.{Table, Schema}
use Rattle.ov_specs.specs.values.Uuid.{Uuid}
use Rattle.ov_specs.proofs.laws.LineKeys.{key_total, key_exact, same_tied, same_key-is, same_key-itself}
use Rattle.ov_specs.proofs.laws.Pruning.{pruned_row-without, pruned_row_dangles_not}
use Rattle.ov_integrity.specs.Pruning.{with_pruned, pruned_at, pruned_at_all, is_short_at}
use Rattle.ov_support.proofs.Keys.{none_is}
use Rattle.ov_integrity.proofs.PrunedAt.{dangles-same, get-pruned_at, contains_key-pruned_at, get-pruned_at_all}

-- ---- one row

module _ (schema : Schema) (before : Database) (version : Uuid) (key : LineKey) (rows : Database) where
  abbrev after : Database
  after = pruned_at schema before version key rows

  abbrev made : LineKey → Row → Row
  made k row = pruned_row schema before version rows (k, row)

  -- if there is no row, nothing changes
  pruned_absent : get rows key ≡ None → rows ≡ after
  pruned_absent none = sym (ap (λ o. with_pruned schema before version key o rows) none)

  -- nor if the row has no dangling reference
  pub pruned_whole : (row : Row) → get rows key ≡ Some row → dangles schema rows (key, row) ≡ false → rows ≡ after
  pruned_whole row at is = same_map key_total key_exact rows after (λ q. by q (get rows q) refl ∙ sym (get-pruned_at schema before version key rows q))
    where
      at_key : (q : LineKey) (other : Row) → get rows q ≡ Some other → (b : Bool) → same_key q key ≡ b → other ≡ cond b (made q other) other
      at_key q other stands true same =
          let here : q ≡ key = same_key-is q key same in
          let one : other ≡ row = same_Some other row (sym stands ∙ ap (get rows) here ∙ at) in
          sym (pruned_row-without schema before version rows (q, other) ((λ i. dangles schema rows (here i, one i)) ∙ is))
      at_key q other stands false same = refl

      by : (q : LineKey) (o : Option Row) → get rows q ≡ o → get rows q ≡ option_map (λ other. cond (same_key q key) (made q other) other) (get rows q)
      by q None stands = stands ∙ sym (ap (option_map (λ other. cond (same_key q key) (made q other) other)) stands)
      by q (Some other) stands =
          stands ∙ ap Some (at_key q other stands (same_key q key) refl) ∙ sym (ap (option_map (λ other. cond (same_key q key) (made q other) other)) stands)

  -- a row of no table of the schema has none
  pub pruned_of_no_table : get schema.tables key.0 ≡ None → rows ≡ after
  pruned_of_no_table none = by (get rows key) refl
    where
      by : (o : Option Row) → get rows key ≡ o → rows ≡ after
      by None at = pruned_absent at
      by (Some row) at = pruned_whole row at (ap (λ table. list_any (is_dangling rows) (targets_in table row.columns)) none)

-- ---- whether it is short

module _ (schema : Schema) (key : LineKey) (rows : Database) where
  -- a row that is put is short if one of its values is
  pub short_put : (table : Table) (row : Row) → get schema.tables key.0 ≡ Some table → list_any (has_too_few table) (entries row.columns) ≡ is_short_at schema key (insert rows key row)
  short_put table row named =
      sym (ap (is_some_and (λ r. is_short schema (key, r))) (get-insert key_total rows key row key ∙ ap (λ b. cond b (Some row) (get rows key)) (same_tied key key refl))
      ∙ ap (is_some_and (λ t. list_any (has_too_few t) (entries row.columns))) named)

-- ---- one row after another

module _ (schema : Schema) (before : Database) (version : Uuid) where
  module _ (key : LineKey) (rows : Database) where
    abbrev then : Database
    then = pruned_at schema before version key rows

    -- a row that was pruned has nothing more to lose
    nothing_more : (row : Row) → get then key ≡ Some row → pruned_row schema before version then (key, row) ≡ row
    nothing_more row at = by (get rows key) refl
      where
        made_of : Row → Row
        made_of old = cond (same_key key key) (pruned_row schema before version rows (key, old)) old

        by : (o : Option Row) → get rows key ≡ o → pruned_row schema before version then (key, row) ≡ row
        by None none = absurd (none_is row (sym (get-pruned_at schema before version key rows key ∙ ap (option_map made_of) none) ∙ at))
        by (Some old) was =
            let is : pruned_row schema before version rows (key, old) ≡ row =
            same_Some (pruned_row schema before version rows (key, old)) row
            (sym (get-pruned_at schema before version key rows key ∙ ap (option_map made_of) was
            ∙ ap (λ b. Some (cond b (pruned_row schema before version rows (key, old)) old)) (same_key-itself key)) ∙ at) in
            pruned_row-without schema before version then (key, row)
            (dangles-same then rows (contains_key-pruned_at schema before version key rows) schema (key, row)
            ∙ ap (λ r. dangles schema rows (key, r)) (sym is) ∙ pruned_row_dangles_not schema before version rows key old)

    stays_pruned : (keys : List LineKey) → get (pruned_at_all schema before version keys then) key ≡ get then key
    stays_pruned keys = get-pruned_at_all schema before version keys then key ∙ by (get then key) refl
      where
        again : (row : Row) → get then key ≡ Some row → (b : Bool) → cond b (pruned_row schema before version then (key, row)) row ≡ row
        again row at true = nothing_more row at
        again row at false = refl

        by : (o : Option Row) → get then key ≡ o → option_map (λ row. cond (list_any (same_key key) keys) (pruned_row schema before version then (key, row)) row) o ≡ o
        by None at = refl
        by (Some row) at = ap Some (again row at (list_any (same_key key) keys))

    -- so it is short in the end if it was short then
    short_stays : (keys : List LineKey) → is_short_at schema key (pruned_at_all schema before version keys then) ≡ is_short_at schema key then
    short_stays keys = ap (is_some_and (λ row. is_short schema (key, row))) (stays_pruned keys)

  -- whether one is short at one of these keys, once all are pruned
  abbrev pub some_short : List LineKey → Database → Bool
  some_short keys rows = list_any (λ key. is_short_at schema key (pruned_at_all schema before version keys rows)) keys

  in_turn : (short result later : Bool) → (short || (result || later)) ≡ (cond result true short || later)
  in_turn true true later = refl
  in_turn true false later = refl
  in_turn false true later = refl
  in_turn false false later = refl

  pub short_turn : (short result : Bool) (key : LineKey) (keys : List LineKey) (rows next : Database) → next ≡ pruned_at schema before version key rows → result ≡ is_short_at schema key next
      → (cond result true short || some_short keys next) ≡ (short || some_short (key ∷ keys) rows)
  short_turn short result key keys rows next is answer =
      let one : is_short_at schema key (pruned_at_all schema before version (key ∷ keys) rows) ≡ result =
      short_stays key rows keys ∙ sym (answer ∙ ap (is_short_at schema key) is) in
      let later : List LineKey → Database → Bool = λ ks final. list_any (λ k. is_short_at schema k final) ks in
      (λ i. cond result true short || some_short keys (is i)) ∙ sym (in_turn short result (some_short keys (pruned_at schema before version key rows)))
      ∙ (λ i. short || (sym one i || later keys (pruned_at_all schema before version keys (pruned_at schema before version key rows))))
