-- How a rewrite begins and ends.
use Rattle.std.proofs.Common.{◌≡◌, inl, inr, ℕ, Bool, List, codes, is_some, IsTrue, MatchBool, true, false, ap, refl, sym, subst, ◌∙◌, arith}
use Rattle.std.specs.FinMap.{empty}
use Rattle.sqlite.specs.Effect.{Database}
use Rattle.sqlite.specs.Held.{Held as Connected, state}
use Rattle.sqlite.specs.Store.{Ghosts}
use Rattle.sqlite.specs.declared.error.Error.{Error}
use Rattle.sqlite.specs.State.{State, HasCleanDisk, Survives, KeepsCommit, IsRolledBack}
use Rattle.sqlite.specs.Steps.{FailsToCommit}
use Rattle.sqlite.proofs.StateLemmas.{survives_then}
use Rattle.sqlite.proofs.Callers.{survives_begin}
use Rattle.ov_specs.specs.rows.Cells.{CellLines}
use Rattle.sqlite_schema.specs.Names.{same_name, table_named}
use Rattle.ov_tables.specs.Tables.{row_trees, cell_trees}
use Rattle.ov_tables.specs.Format.{IsMeta, stored_cells, rows_of_meta}
use Rattle.ov_tables.specs.Holding.{IsStored, HoldsLines, HoldsCells, MayBeStored, KeepsOthers}
use Rattle.ov_sqlite.specs.Changing.{MakesRows, Becomes}
use Rattle.ov_tables.specs.Making.{Fills}
use Rattle.ov_tables.specs.Querying.{IsAsBefore}
use Rattle.ov_tables.specs.Emptying.{Empties, KeepsRest}
use Rattle.ov_sqlite.specs.Rewriting.{Remakes, Rewrites, IsRewriteImage}
use Rattle.ov_tables.proofs.TableLemmas.{found_place}
use Rattle.ov_tables.proofs.RoomLemmas.{is_free}
use Rattle.ov_tables.proofs.EmptyLemmas.{not_first, not_rows}
use Rattle.ov_tables.proofs.KeepLemmas.{others_then, others_wider}
use Rattle.ov_tables.proofs.ReadLemmas.{rolled_as_before}

-- `head` is there in format 2 alone
pub by_format : (text : List ℕ) (s : State) (b : Bool) → b ≡ is_some (table_named s.now.schema (codes "head")) → IsStored text s.now → MatchBool b (HoldsCells text s.now) (HoldsLines text s.now)
by_format text s true is (inr cells) = cells
by_format text s false is (inl lines) = lines
by_format text s true is (inl lines) = absurd (let none = ap is_some (is_free s.now.schema (codes "head") lines.format.schema.head.free).table in let clash : true ≡ false = is ∙ none in cc)
by_format text s false is (inr cells) =
    absurd (let there = (found_place (λ t. same_name t.name (codes "head")) 0 s.now.schema.tables _ cells.format.schema.head.named).1 in let clash : false ≡ true = is ∙ ap is_some there in cc)

pub remade : (text : List ℕ) (f : CellLines → CellLines) (old a b new : State) → Empties old a → Fills text a b → MakesRows (Becomes f) text b new → Remakes text (f empty) old new
remade text f old a b new e filled made =
    let schema = a.now.schema in
    let trees = cell_trees schema in
    let none : stored_cells b.now.trees ≡ empty = rw filled.no_head refl in
    let fill = others_wider _ trees schema a.now.trees b.now.trees (λ t free. not_first _ _ _ t free) filled.others in
    let change = others_wider _ trees schema b.now.trees new.now.trees (λ t free. not_rows _ _ _ t free) (subst (λ s. KeepsOthers (row_trees s) s b.now.trees new.now.trees) filled.schema made.others) in
    record {
      mode = made.mode;
      was_open = e.was_open;
      stored = made.stored;
      meta = subst (IsMeta 2 text) (sym made.meta) filled.stored.format.meta;
      lines_are = made.lines_are ∙ ap f none;
      others = e.rest new.now.trees (others_then trees schema a.now.trees b.now.trees new.now.trees fill change);
    }

module _ {S : Type 0} (g : Ghosts S) (held : Connected S) (last end : State) (settled : IsTrue (state g held).is_open → (state g held).now ≡ (state g held).committed) where
  abbrev old : State
  old = state g held

  abbrev begun : State
  begun = state g (record held { in_transaction = true })

  -- what is rolled back is as it was
  pub rolled_same : KeepsCommit begun last → IsRolledBack last end → IsAsBefore old end
  rolled_same kept back = rolled_as_before old begun last end (λ up. up) (λ up. sym (settled up)) kept back

  pub refused_same : (e : Error) → KeepsCommit begun last → IsTrue last.in_transaction → FailsToCommit last end e → IsAsBefore old end
  refused_same e kept mode (inl fails) = rolled_same kept fails.3
  refused_same e kept mode (inr ends) = let ended : last.in_transaction ≡ false = ends.1 in absurd cc

  module _ (text : List ℕ) (lines : CellLines) where
    -- the commit writes the whole of it, if it gets that far
    pub rewritten_crash : Survives begun last (λ _. ⊥) → Survives last end (λ db. db ≡ last.now.trees) → (HasCleanDisk last → (t : List ℕ) → MayBeStored t old → Remakes text lines begun last)
        → Survives old end (λ trees. (t : List ℕ) → MayBeStored t old → IsRewriteImage text lines old trees)
    rewritten_crash one two made =
        survives_then old last end (λ _. ⊥) (λ db. db ≡ last.now.trees) (λ trees. (t : List ℕ) → MayBeStored t old → IsRewriteImage text lines old trees) (λ _ db none. absurd none)
        (λ clean db is t may.
        let early : HasCleanDisk last = omega (arith, two.clean) in
        let it = made early t may in
        record {
          was_open = it.was_open;
          was_settled = settled it.was_open;
          meta = subst (λ trees. IsMeta 2 text (rows_of_meta trees)) (sym is) it.meta;
          lines_are = ap stored_cells is ∙ it.lines_are;
          others = subst (KeepsRest old.now.schema old.now.trees) (sym is) it.others;
        })
        (survives_begin g held last _ one) two

    pub rewritten : Remakes text lines begun last → IsTrue last.is_open → IsTrue end.is_open → end.now ≡ last.now → end.committed ≡ last.now → Rewrites text lines old end
    rewritten it was up now committed = record {
      was_open = it.was_open;
      is_open = up;
      was_settled = settled it.was_open;
      is_settled = now ∙ sym committed;
      stored = subst (HoldsCells text) (sym now) (it.stored was);
      lines_are = ap (λ (d : Database). stored_cells d.trees) now ∙ it.lines_are;
      others = subst (λ (d : Database). KeepsRest old.now.schema old.now.trees d.trees) (sym now) it.others;
    }
