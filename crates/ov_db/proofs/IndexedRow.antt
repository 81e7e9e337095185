-- The row that is kept at a key of an index is the only one there.
use Rattle.std.proofs.Common.{◌≡◌, List, [], ◌∷◌, Bool, true, false, Option, Some, None, refl, sym, ap, ◌∙◌}
use Rattle.std.specs.Prelude.{slice_get}
use Rattle.std.proofs.lemmas.Bool.{or_left, or_parts}
use Rattle.std.proofs.lemmas.Option.{same_Some}
use Rattle.std.proofs.lemmas.Slice.Eq.{bytes_eq-Decides}
use Rattle.std.specs.FinMap.{get, contains_key, entries, keys}
use Rattle.std.specs.List.{list_any}
use Rattle.std.specs.Str.{bytes_eq}
use Rattle.ov_specs.specs.integrity.Committed.{is_whole}
use Rattle.ov_specs.specs.integrity.Limits.{has_too_many, has_duplicates}
use Rattle.ov_specs.specs.rows.Database.{Row, Database}
use Rattle.ov_specs.specs.rows.Suits.{Suits}
use Rattle.ov_specs.specs.schema.Schema.{is_some_and}
use Rattle.ov_specs.specs.schema.SchemaTypes.{Schema}
use Rattle.ov_specs.specs.values.Uuid.{Uuid}
use Rattle.ov_specs.proofs.laws.Committing.{whole_is}
use Rattle.ov_index.specs.IndexKeys.{IndexKey}
use Rattle.ov_index.specs.Indexing.{IdSet, Indexes, is_at, is_in, AreIndexesOf}
use Rattle.ov_index.proofs.Duplicates.{shared_alike}
use Rattle.ov_index.proofs.MapEntries.{contradicts, some_and_is}
use Rattle.ov_index.proofs.TwoIds.{any_id_is, id_is_any}
use Rattle.ov_db.specs.Lookups.{TellsIndexed}

module _ (schema : Schema) (rows : Database) (suits : Suits schema rows) (whole : is_whole schema rows ≡ true) (key : IndexKey) where
  -- two rows at one key are one
  one_row : (a b : Uuid) → is_in schema rows key a ≡ true → is_in schema rows key b ≡ true → a ≡ b
  one_row a b in_a in_b = by (bytes_eq a b) refl
    where
      at : (id : Uuid) → is_in schema rows key id ≡ true → (row : Row) × (get rows (key.table, id) ≡ Some row) × (is_at schema ((key.table, id), row) key ≡ true)
      at id is = some_and_is (λ (row : Row). is_at schema ((key.table, id), row) key) (get rows (key.table, id)) is

      by : (b' : Bool) → bytes_eq a b ≡ b' → a ≡ b
      by true same = (bytes_eq-Decides a b).0 same
      by false differ =
          let r = at a in_a in
          let s = at b in_b in
          let alike =
          shared_alike schema rows key a b (record { differ = differ; at_a = r; at_b = s }) (suits (key.table, a) r.0 r.1)
          (suits (key.table, b) s.0 s.1) in
          let none = or_parts (list_any (has_too_many rows) (entries schema.tables)) (list_any (has_duplicates rows) (entries schema.tables)) (whole_is schema rows whole).limited in
          absurd (contradicts _ alike none.1)

  module _ (indexes : Indexes) (are : AreIndexesOf schema rows indexes) where
    kept_at : (o : Option IdSet) → get indexes key ≡ o → (id : Uuid) → is_in schema rows key id ≡ is_some_and (λ ids. contains_key ids id) o
    kept_at o at id = sym (are key id) ∙ ap (is_some_and (λ (ids : IdSet). contains_key ids id)) at

    -- where none is kept there is none
    pub tells_none : get indexes key ≡ None → TellsIndexed schema rows key None
    tells_none at id = (λ e. cc, λ is. absurd (contradicts _ is (kept_at None at id)))

    -- the first of those that are kept there is the only one
    pub tells_first : (ids : IdSet) → get indexes key ≡ Some ids → TellsIndexed schema rows key (slice_get (keys ids) 0)
    tells_first ids at id = (there (keys ids) refl, back (keys ids) refl)
      where
        in_keys : (k : Uuid) (ks : List Uuid) → keys ids ≡ k ∷ ks → contains_key ids k ≡ true
        in_keys k ks all =
            let first = or_left (bytes_eq k k) (list_any (bytes_eq k) ks) ((bytes_eq-Decides k k).1 refl) in
            let found = any_id_is (bytes_eq k) ids (ap (list_any (bytes_eq k)) all ∙ first) in
            ap (contains_key ids) ((bytes_eq-Decides k found.0).0 found.2) ∙ found.1

        is_there : (k : Uuid) (ks : List Uuid) → keys ids ≡ k ∷ ks → is_in schema rows key k ≡ true
        is_there k ks all = kept_at (Some ids) at k ∙ in_keys k ks all

        there : (ks : List Uuid) → keys ids ≡ ks → slice_get ks 0 ≡ Some id → is_in schema rows key id ≡ true
        there [] all e = cc
        there (k ∷ ks) all e = ap (is_in schema rows key) (sym (same_Some k id e)) ∙ is_there k ks all

        back : (ks : List Uuid) → keys ids ≡ ks → is_in schema rows key id ≡ true → slice_get ks 0 ≡ Some id
        back [] all is =
            let any = id_is_any (bytes_eq id) ids id (sym (kept_at (Some ids) at id) ∙ is) ((bytes_eq-Decides id id).1 refl) in
            absurd (contradicts _ any (ap (list_any (bytes_eq id)) all))
        back (k ∷ ks) all is = ap Some (one_row k id (is_there k ks all) is)
