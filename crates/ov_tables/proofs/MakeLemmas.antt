-- How the making of the tables ends.
use Rattle.std.proofs.Common.{◌≡◌, ℕ, List, IsTrue, true, ap, sym, subst, ◌∙◌, arith}
use Rattle.sqlite.specs.Change.{KeepsRows}
use Rattle.sqlite.specs.Effect.{Database}
use Rattle.sqlite.specs.State.{State, HasCleanDisk, Survives}
use Rattle.sqlite.specs.Held.{Held as Connected, state}
use Rattle.sqlite.specs.Store.{Ghosts}
use Rattle.sqlite.proofs.StateLemmas.{survives_then}
use Rattle.ov_tables.specs.Format.{rows_of_head, rows_of_cell}
use Rattle.ov_tables.specs.Holding.{HoldsCells}
use Rattle.ov_tables.specs.Making.{MayMake, MakesFilled, IsNew, IsNewBeside}

-- the transaction began with what was there
pub from_begun : {S : Type 0} (g : Ghosts S) (held : Connected S) (text : List ℕ) (last : State) → MakesFilled text (state g (record held { in_transaction = true })) last → MakesFilled text (state g held) last
from_begun g held text last f = record {
  mode = f.mode;
  was_open = f.was_open;
  is_open = f.is_open;
  stored = f.stored;
  no_head = f.no_head;
  no_cell = f.no_cell;
  schema = f.schema;
  others = f.others;
}

-- what is filled is committed
pub filled_committed : (text : List ℕ) (old last end : State) → MakesFilled text old last → IsTrue old.is_open → old.now ≡ old.committed → IsTrue end.is_open → end.now ≡ last.now → end.committed ≡ last.now → IsNew text old end
filled_committed text old last end f was settled up now committed = record {
  was_open = was;
  was_settled = settled;
  is_open = up;
  settled = now ∙ sym committed;
  schema = ap (λ (d : Database). d.schema) now ∙ f.schema;
  others = subst (λ (d : Database). KeepsRows old.now.schema.tables old.now.trees d.trees) (sym now) f.others;
  stored = subst (HoldsCells text) (sym now) f.stored;
  no_head = ap (λ (d : Database). rows_of_head d.trees) now ∙ f.no_head;
  no_cell = ap (λ (d : Database). rows_of_cell d.trees) now ∙ f.no_cell;
}

-- its commit writes the whole of it, if it gets that far
pub filled_crash : (text : List ℕ) (old last end : State) → Survives old last (λ _. ⊥) → Survives last end (λ db. db ≡ last.now.trees) → (IsTrue old.is_open → old.now ≡ old.committed)
    → (HasCleanDisk last → IsTrue last.is_open → IsTrue old.is_open) → (HasCleanDisk last → MayMake old → MakesFilled text old last) → Survives old end (λ trees. MayMake old → IsNewBeside text old trees)
filled_crash text old last end one two settled opens filled =
    survives_then old last end (λ _. ⊥) (λ db. db ≡ last.now.trees) (λ trees. MayMake old → IsNewBeside text old trees) (λ _ db none. absurd none)
    (λ clean db is may.
    let early : HasCleanDisk last = omega (arith, two.clean) in
    let f = filled early may in
    let up = opens early f.is_open in
    record {
      was_open = up;
      was_settled = settled up;
      file = record { db = last.now; trees_are = is; new = record { stored = f.stored; no_head = f.no_head; no_cell = f.no_cell } };
      schema = f.schema;
      others = subst (KeepsRows old.now.schema.tables old.now.trees) (sym is) f.others;
    })
    one two
