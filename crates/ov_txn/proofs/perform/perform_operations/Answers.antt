use Rattle.std.proofs.Common.{◌≡◌, ◌∙◌, ◌<◌, ◌+◌, length, drop, true, refl, sym, ap, subst, arith}
use Rattle.std.specs.FinMap.{entries}
use Rattle.std.specs.List.{list_all, list_any}
use Rattle.std.proofs.lemmas.Bool.{and_parts, and_from, or_parts}
use Rattle.std.proofs.lemmas.List.{drop_all}
use Rattle.std.proofs.lemmas.Result.{IfOk-weaker}
use Rattle.serde_json.specs.View.{view, items_view}
use Rattle.ov_index.specs.Indexing.{Indexes, AreIndexesOf}
use Rattle.ov_refs.specs.Linking.{Links, AreLinksOf}
use Rattle.ov_specs.specs.integrity.Committed.{is_whole}
use Rattle.ov_specs.specs.integrity.Limits.{has_duplicates, has_too_many}
use Rattle.ov_specs.specs.operations.Errors.{error_tree}
use Rattle.ov_specs.specs.operations.InsertedIds.{inserted_ids}
use Rattle.ov_specs.specs.operations.Operation.{outcome_of}
use Rattle.ov_specs.specs.operations.OpOutcome.{OpContext, Done, Fault}
use Rattle.ov_specs.specs.operations.Transaction.{TransactionOutcome, Completes, transaction, and_item}
use Rattle.ov_specs.specs.rows.Database.{Database}
use Rattle.ov_specs.specs.rows.Suits.{Suits}
use Rattle.ov_specs.specs.schema.SchemaTypes.{Schema}
use Rattle.ov_specs.specs.values.Uuid.{is_uuid, uuid_at}
use Rattle.ov_specs.proofs.laws.Committing.{IsWhole, whole_is}
use Rattle.ov_specs.proofs.laws.FoundRows.{at_is_uuid, inserted_are, others_are}
use Rattle.ov_specs.proofs.laws.OutcomeSuiting.{SuitsOutcome, outcome_suits}
use Rattle.ov_given.specs.Naming.{Naming}
use Rattle.ov_stage.specs.Staging.{Stage}
use Rattle.ov_projection.specs.Errors.{error_view}
use Rattle.ov_txn.specs.declared.perform.Performed.TheVariants.{Completed}
use Rattle.ov_txn.specs.Results.{nulls_after}
use Rattle.ov_txn.proofs.Ending.{unchanged, ends_as, performed_under}
use Rattle.ov_txn.proofs.Performing.{prefixed_none, items_at, at_does, at_fails, at_end}
use Rattle.ov_txn.proofs.perform.perform_operations.Goals as goal

-- the rows of the database are whole rows of its schema
module _ (schema its_schema : Schema) (before its_rows : Database) (same_schema : its_schema ≡ schema) (same_rows : its_rows ≡ before) where
  still_whole : is_whole schema before ≡ true → is_whole its_schema its_rows ≡ true
  still_whole whole = rw (same_schema, same_rows) whole

  still_suits : Suits schema before → Suits its_schema its_rows
  still_suits suits = subst (λ (s : Schema). Suits s its_rows) (sym same_schema) (subst (λ (rows : Database). Suits schema rows) (sym same_rows) suits)

  still_linked : (links : Links) → AreLinksOf schema before links → AreLinksOf its_schema its_rows links
  still_linked links linked = subst (λ (s : Schema). AreLinksOf s its_rows links) (sym same_schema) (subst (λ (rows : Database). AreLinksOf schema rows links) (sym same_rows) linked)

  still_indexed : (indexes : Indexes) → AreIndexesOf schema before indexes → AreIndexesOf its_schema its_rows indexes
  still_indexed indexes indexed = subst (λ (s : Schema). AreIndexesOf s its_rows indexes) (sym same_schema) (subst (λ (rows : Database). AreIndexesOf schema rows indexes) (sym same_rows) indexed)

pub with_indexes-stage-requires-clause-indexed : goal.with_indexes-stage-requires-clause-indexed
with_indexes-stage-requires-clause-indexed g c = still_indexed c.args.db.now.schema c.schema-schema.result.now c.args.db.now.committed c.rows-rows.result.now c.schema-schema.ensures c.rows-rows.ensures c.indexes-indexes.result.now c.indexes-indexes.ensures

pub with_indexes-stage-requires-clause-apart : goal.with_indexes-stage-requires-clause-apart
with_indexes-stage-requires-clause-apart g c =
    let schema = c.schema-schema.result.now in
    let rows = c.rows-rows.result.now in
    let whole = still_whole c.args.db.now.schema schema c.args.db.now.committed rows c.schema-schema.ensures c.rows-rows.ensures c.shows_kept.ensures.committed_whole in
    (or_parts (list_any (has_too_many rows) (entries schema.tables)) (list_any (has_duplicates rows) (entries schema.tables)) (IsWhole.limited (whole_is schema rows whole))).1

pub loop-place-init : goal.loop-place-init
loop-place-init g c =
    let draws = c.args.txn.now.draws in
    let operations = c.args.txn.now.operations in
    let version : c.version_of-version.result ≡ uuid_at draws 0 = c.version_of-version.ensures ∙ ap (λ xs. uuid_at xs 0) c.draws.ensures in
    let others : c.insert_draws.result.now ≡ drop 1 draws = c.insert_draws.ensures ∙ ap (λ xs. drop 1 xs) c.draws-2.ensures in
    let ids = inserted_are (drop 1 draws) operations (others_are draws c.requires) in
    let drawn = and_from (is_uuid (uuid_at draws 0)) (list_all is_uuid (inserted_ids (drop 1 draws) operations)) (at_is_uuid draws 0 c.requires) ids in
    let suits = still_suits c.args.db.now.schema c.schema-schema.result.now c.args.db.now.committed c.rows-rows.result.now c.schema-schema.ensures c.rows-rows.ensures c.shows_kept.ensures.committed_kept.suits in
    let inserts : ◌≡◌ {A = Naming} c.in_ok-inserts.inserts (record { ids = inserted_ids (drop 1 draws) operations; operations = operations }) =
    c.in_ok-inserts.ensures ∙ (λ i. record { ids = inserted_ids (others i) (c.operations.ensures i); operations = c.operations.ensures i }) in
    record {
      going = rw (version, c.new-results.ensures, inserts, c.with_indexes-stage.ensures, c.rows-rows.ensures, c.as_slice-operations.ensures.same, c.operations-2.ensures) (prefixed_none _);
      before = ap (λ (s : Stage). s.before) c.with_indexes-stage.ensures ∙ c.rows-rows.ensures;
      drawn = rw (version, inserts) drawn;
      suits = subst (λ (s : Stage). Suits c.schema-schema.result.now s.now) (sym c.with_indexes-stage.ensures) suits;
    }

pub returns-in-Fault : goal.returns-in-Fault
returns-in-Fault g c =
    let before = c.args.db.now.committed in
    let rows = c.loop-place.stage.now in
    let trees = c.as_slice-operations.result.now in
    let i = c.loop-place.place in
    let within : i < length trees = c.loop-place-test.true in
    let tree = c.index-operations-place.result in
    let context : Database → OpContext = λ db. record { schema = c.schema-schema.result.now; before = db; owns = g.O.Owns.owned c.args.owns.now; version = c.version_of-version.result; ids = c.in_ok-inserts.inserts.ids; operations = c.in_ok-inserts.inserts.operations; age = c.args.age } in
    let error = error_view c.in-Fault.error in
    let all : TransactionOutcome = transaction c.schema-schema.result.now before (g.O.Owns.owned c.args.owns.now) c.args.txn.now.draws c.args.age c.args.txn.now.operations in
    let fails : outcome_of (context before) i rows (view tree) ≡ Fault error = ap (λ (db : Database). outcome_of (context db) i rows (view tree)) (sym c.loop-place.invariant.before) ∙ c.in-Fault.ensures.done in
    let ends = at_fails (context before) all i rows (items_view (drop i trees)) c.loop-place.results c.loop-place.invariant.going (view tree) error (items_view (drop (i + 1) trees)) (items_at trees i tree within c.index-operations-place.is) fails in
    let given = c.in_ok-results-in-Fault.ensures ∙ ap (λ vs. nulls_after (and_item c.loop-place.results (error_tree error)) (items_view vs)) c.split_at.ensures.back in
    performed_under (g.O.Owns.owned c.args.owns.now) c.args.txn.now.draws c.args.age c.args.txn.now.operations c.args.db.now.schema c.schema-schema.result.now before (Completed c.in_ok-results-in-Fault.results c.new-in-Fault.result)
    c.schema-schema.ensures (unchanged all before c.in_ok-results-in-Fault.results c.new-in-Fault.result c.new-in-Fault.ensures (ends ∙ ap (λ rs. Completes rs before) (sym given)))

pub loop-place-preserved : goal.loop-place-preserved
loop-place-preserved g c =
    let before = c.args.db.now.committed in
    let rows = c.loop-place.stage.now in
    let trees = c.as_slice-operations.result.now in
    let i = c.loop-place.place in
    let within : i < length trees = c.loop-place-test.true in
    let tree = c.index-operations-place.result in
    let context : Database → OpContext = λ db. record { schema = c.schema-schema.result.now; before = db; owns = g.O.Owns.owned c.args.owns.now; version = c.version_of-version.result; ids = c.in_ok-inserts.inserts.ids; operations = c.in_ok-inserts.inserts.operations; age = c.args.age } in
    let all : TransactionOutcome = transaction c.schema-schema.result.now before (g.O.Owns.owned c.args.owns.now) c.args.txn.now.draws c.args.age c.args.txn.now.operations in
    let does : outcome_of (context before) i rows (view tree) ≡ Done c.in-Done.result c.run_op.new.stage.now =
    ap (λ (db : Database). outcome_of (context db) i rows (view tree)) (sym c.loop-place.invariant.before) ∙ c.in-Done.ensures.done in
    let suits = still_suits c.args.db.now.schema c.schema-schema.result.now before before c.schema-schema.ensures refl c.shows_kept.ensures.committed_kept.suits in
    let drawn = and_parts (is_uuid c.version_of-version.result) (list_all is_uuid c.in_ok-inserts.inserts.ids) c.loop-place.invariant.drawn in
    record {
      going = rw c.in_ok-push-in-Done.ensures.ok (at_does (context before) all i rows (items_view (drop i trees)) c.loop-place.results c.loop-place.invariant.going (view tree) c.in-Done.result (items_view (drop (i + 1) trees)) c.run_op.new.stage.now
          (items_at trees i tree within c.index-operations-place.is) does);
      before = c.in-Done.ensures.frame ∙ c.loop-place.invariant.before;
      drawn = c.loop-place.invariant.drawn;
      suits = subst (SuitsOutcome c.schema-schema.result.now) does
          (outcome_suits (context before) suits drawn.0 drawn.1 rows c.loop-place.invariant.suits i (view tree));
    }

-- the rows before are those of the stage
pub end-requires-clause-whole : goal.end-requires-clause-whole
end-requires-clause-whole g c =
    still_whole c.args.db.now.schema c.schema-schema.result.now c.args.db.now.committed c.loop-place.stage.before c.schema-schema.ensures c.loop-place.invariant.before c.shows_kept.ensures.committed_whole

pub end-requires-clause-linked : goal.end-requires-clause-linked
end-requires-clause-linked g c =
    still_linked c.args.db.now.schema c.schema-schema.result.now c.args.db.now.committed c.loop-place.stage.before c.schema-schema.ensures c.loop-place.invariant.before c.links.result.now c.links.ensures

pub end-requires-clause-indexed : goal.end-requires-clause-indexed
end-requires-clause-indexed g c =
    still_indexed c.args.db.now.schema c.schema-schema.result.now c.args.db.now.committed c.loop-place.stage.before c.schema-schema.ensures c.loop-place.invariant.before c.indexes-indexes.result.now c.indexes-indexes.ensures

pub returns : goal.returns
returns g c =
    let before = c.args.db.now.committed in
    let trees = c.as_slice-operations.result.now in
    let i = c.loop-place.place in
    let version = c.version_of-version.result in
    let context : OpContext = record { schema = c.schema-schema.result.now; before = before; owns = g.O.Owns.owned c.args.owns.now; version = version; ids = c.in_ok-inserts.inserts.ids; operations = c.in_ok-inserts.inserts.operations; age = c.args.age } in
    let all : TransactionOutcome = transaction c.schema-schema.result.now before (g.O.Owns.owned c.args.owns.now) c.args.txn.now.draws c.args.age c.args.txn.now.operations in
    let ends = at_end context all i c.loop-place.stage.now (items_view (drop i trees)) c.loop-place.results c.loop-place.invariant.going (ap items_view (drop_all i trees (omega arith))) in
    IfOk-weaker c.end.result _ _ (λ p h. performed_under (g.O.Owns.owned c.args.owns.now) c.args.txn.now.draws c.args.age c.args.txn.now.operations c.args.db.now.schema c.schema-schema.result.now before p c.schema-schema.ensures
    (ends_as c.schema-schema.result.now version c.loop-place.stage.before c.loop-place.stage.now before c.loop-place.results all p c.loop-place.invariant.before ends h)) c.end.ensures
