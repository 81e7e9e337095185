-- What a CREATE TABLE does, and the tables of stored format 2 after several.
use Rattle.std.proofs.Common.{◌≡◌, ◌≢◌, ◌==◌, ◌||◌, inl, ℕ, List, [], ◌∷◌, false, None, Ok, codes, refl, sym, ap, subst, ◌∙◌, arith}
use Rattle.std.proofs.lemmas.Bool.Decides.{nat_tests}
use Rattle.std.proofs.lemmas.Bool.{or_from}
use Rattle.sqlite.specs.Table.{Table}
use Rattle.sqlite.specs.Schema.{Schema}
use Rattle.sqlite.specs.Command.TheVariants.{CreateTable}
use Rattle.sqlite.specs.Compile.{table_defined_by}
use Rattle.sqlite.specs.Change.{created, next_tree, KeepsRows}
use Rattle.sqlite.specs.Does.{Tally, lacks_sequence}
use Rattle.sqlite.specs.Listing.{understood}
use Rattle.sqlite.specs.Effect.{Database, IsDatabase}
use Rattle.sqlite.specs.State.{State, Writes, Executes}
use Rattle.sqlite.proofs.Callers.{IsPlain, command_of, statement_of, runs_as}
use Rattle.sqlite_rules.specs.Lists.{Has}
use Rattle.sqlite_rules.proofs.ListLemmas.{all_has, all_from, has_right}
use Rattle.ov_tables.specs.Tables.{meta_table, head_table, cell_table, tree_number, with_row_tables, HasFreeName, HasFreeNames, HasTable, create_meta, create_head, create_cell}
use Rattle.ov_tables.specs.Format.{rows_listed}
use Rattle.ov_tables.specs.Making.{Creates, CreatesRows, IsBare, MakesOurs, Fills, MakesFilled}
use Rattle.ov_tables.proofs.TableLemmas.{found_has, tree_is}
use Rattle.ov_tables.proofs.ListingLemmas.{rows_are}
use Rattle.ov_tables.proofs.Texts.{meta_understood, head_understood, cell_understood, meta_defined, head_defined, cell_defined}
use Rattle.ov_tables.proofs.RoomLemmas.{owned_after, is_free, counts_kept, made, kept, old_table, owned_by, tree_below, kept_then, meta_itself, head_itself, cell_itself, meta_indexed, head_indexed, cell_indexed, head_after_meta, cell_after_meta, cell_after_head}
use Rattle.ov_tables.proofs.DeleteLemmas.{went, same_value}

pub record WasCreated (before after : Schema) (tree : ℕ) (old new : State) : Type 0 where
  pub schema : new.now.schema ≡ after
  pub empty : new.now.trees tree ≡ []
  pub others : KeepsRows before.tables old.now.trees new.now.trees
  pub sound : IsDatabase new.now

module _ (text : List ℕ) (before : Schema) (table : Table) (command : command_of (understood before text) ≡ CreateTable) (whole : statement_of text (understood before text) ≡ text)
    (defined : table_defined_by text ≡ Ok table) (plain : IsPlain (understood before text)) (uncounted : lacks_sequence (created before table) ≡ false) where
  creates : (old new : State) (count : ℕ) → old.now.schema ≡ before → Executes text [] old new (Ok count) → WasCreated before (created before table) (next_tree before) old new
  creates old new count has h =
      let w = subst (λ t. Writes old new None CreateTable t [] count) whole (runs_as text [] old new before has CreateTable command plain count h) in
      let all = went w.changed in
      let first = went all.1 in
      let made = first.1 in
      let both : Ok made.table ≡ Ok table = sym made.defined ∙ defined in
      let same : made.table ≡ table = cc in
      let schema : first.0.schema ≡ created before table = made.is ∙ ap (λ s. created s made.table) has ∙ ap (created before) same in
      let quiet : lacks_sequence first.0.schema ≡ false = ap lacks_sequence schema ∙ uncounted in
      let now : new.now ≡ first.0 = ap (λ (p : Tally × Database). p.1) (same_value all.2) ∙ same_value (rw quiet at first.2) in
      record {
        schema = ap (λ (d : Database). d.schema) now ∙ schema;
        empty = subst (λ s. new.now.trees (next_tree s) ≡ []) has (ap (λ (d : Database). d.trees (next_tree old.now.schema)) now ∙ made.empty);
        others = subst (λ (d : Database). KeepsRows before.tables old.now.trees d.trees) (sym now) (subst (λ (s : Schema). KeepsRows s.tables old.now.trees first.0.trees) has made.others);
        sound = w.sound;
      }

module _ (old new : State) (count : ℕ) (counts : lacks_sequence old.now.schema ≡ false) where
  abbrev schema : Schema
  schema = old.now.schema

  pub creates_meta : HasFreeName schema (codes "meta") → Executes create_meta [] old new (Ok count) → WasCreated schema (created schema (meta_table 0)) (next_tree schema) old new
  creates_meta room h =
      let free = is_free schema (codes "meta") room.free in
      let known = meta_understood schema free.table free.index free.view in
      creates create_meta schema (meta_table 0) (ap command_of known) (ap (statement_of create_meta) known) meta_defined (subst IsPlain (sym known) (refl, refl)) (counts_kept schema (meta_table 0) refl counts) old new count refl h

  pub creates_head : HasFreeName schema (codes "head") → Executes create_head [] old new (Ok count) → WasCreated schema (created schema (head_table 0)) (next_tree schema) old new
  creates_head room h =
      let free = is_free schema (codes "head") room.free in
      let known = head_understood schema free.table free.index free.view in
      creates create_head schema (head_table 0) (ap command_of known) (ap (statement_of create_head) known) head_defined (subst IsPlain (sym known) (refl, refl)) (counts_kept schema (head_table 0) refl counts) old new count refl h

  pub creates_cell : HasFreeName schema (codes "cell") → Executes create_cell [] old new (Ok count) → WasCreated schema (created schema (cell_table 0)) (next_tree schema) old new
  creates_cell room h =
      let free = is_free schema (codes "cell") room.free in
      let known = cell_understood schema free.table free.index free.view in
      creates create_cell schema (cell_table 0) (ap command_of known) (ap (statement_of create_cell) known) cell_defined (subst IsPlain (sym known) (refl, refl)) (counts_kept schema (cell_table 0) refl counts) old new count refl h

-- ---- `head` and `cell`

-- the room for `cell`, once `head` is made
pub room_for_cell : (old mid : State) → HasFreeName old.now.schema (codes "cell") → lacks_sequence old.now.schema ≡ false → Creates (head_table 0) old mid
    → HasFreeName mid.now.schema (codes "cell") × (lacks_sequence mid.now.schema ≡ false)
room_for_cell old mid room counts head = (
  subst (λ s. HasFreeName s (codes "cell")) (sym head.schema) (cell_after_head old.now.schema room),
  subst (λ s. lacks_sequence s ≡ false) (sym head.schema) (counts_kept old.now.schema (head_table 0) refl counts),
)

pub both_created : (old mid new : State) → Creates (head_table 0) old mid → Creates (cell_table 0) mid new → CreatesRows old new
both_created old mid new head cell =
    let schema = old.now.schema in
    let n = next_tree schema in
    let whole = subst (λ (s : Schema). KeepsRows s.tables mid.now.trees new.now.trees) head.schema cell.others in
    let here = all_has _ (created schema (head_table 0)).tables (head_table n) whole (has_right schema.tables _ (head_table n) (inl refl)) in
    record {
      mode = cell.mode;
      was_open = head.was_open;
      is_open = cell.is_open;
      schema = cell.schema ∙ ap (λ s. created s (cell_table 0)) head.schema;
      head = here ∙ head.empty;
      cell = ap (λ s. new.now.trees (next_tree s)) (sym head.schema) ∙ cell.empty;
      others = kept_then schema.tables _ old.now.trees mid.now.trees new.now.trees head.others whole;
      sound = cell.sound;
    }

-- the rows of a table that has this tree
rows_at : (db : Database) (table : Table) (tree : ℕ) → HasTable db.schema table → IsDatabase db → table.tree ≡ tree → rows_listed table.name db.trees ≡ db.trees tree
rows_at db table tree has sound is = rows_are db table has sound ∙ ap db.trees is

-- beside `meta`, which has no rows, these two make up stored format 2
module _ (old new : State) (m : ℕ) (meta : HasTable old.now.schema (meta_table m)) (head_room : HasFreeName old.now.schema (codes "head")) (cell_room : HasFreeName old.now.schema (codes "cell")) (was : IsDatabase old.now) (c : CreatesRows old new) where
  abbrev first : Schema
  first = old.now.schema

  abbrev second : Schema
  second = created first (head_table 0)

  head_made : HasTable second (head_table (next_tree first))
  head_made = made first (codes "head") _ (1 ∷ 2 ∷ []) head_room head_itself (head_indexed first) (owned_by old.now was)

  pub meta_last : HasTable new.now.schema (meta_table m)
  meta_last = subst (λ s. HasTable s (meta_table m)) (sym c.schema) (kept second (codes "cell") _ (1 ∷ 2 ∷ 3 ∷ []) (meta_table m) (kept first (codes "head") _ (1 ∷ 2 ∷ []) (meta_table m) meta))

  pub head_last : HasTable new.now.schema (head_table (next_tree first))
  head_last = subst (λ s. HasTable s (head_table (next_tree first))) (sym c.schema) (kept second (codes "cell") _ (1 ∷ 2 ∷ 3 ∷ []) (head_table (next_tree first)) head_made)

  pub cell_last : HasTable new.now.schema (cell_table (next_tree second))
  cell_last = subst (λ s. HasTable s (cell_table (next_tree second))) (sym c.schema) (made second (codes "cell") _ (1 ∷ 2 ∷ 3 ∷ []) (cell_after_head first cell_room) cell_itself (cell_indexed second) (owned_after first (codes "head") _ (1 ∷ 2 ∷ []) (owned_by old.now was)))

  pub bare_rows : new.now.trees m ≡ [] → IsBare new.now
  bare_rows none = record {
    tables = record {
      meta = subst (λ n. HasTable new.now.schema (meta_table n)) (sym (tree_is new.now.schema (meta_table m) meta_last)) meta_last;
      head = subst (λ n. HasTable new.now.schema (head_table n)) (sym (tree_is new.now.schema (head_table (next_tree first)) head_last)) head_last;
      cell = subst (λ n. HasTable new.now.schema (cell_table n)) (sym (tree_is new.now.schema (cell_table (next_tree second)) cell_last)) cell_last;
    };
    meta = rows_are new.now (meta_table m) meta_last c.sound ∙ none;
    head = rows_are new.now (head_table (next_tree first)) head_last c.sound ∙ c.head;
    cell = rows_are new.now (cell_table (next_tree second)) cell_last c.sound ∙ c.cell;
    sound = c.sound;
  }

-- ---- all three

-- the room for the tables of the rows, once `meta` is made
pub room_for_rows : (old mid : State) → HasFreeNames old.now.schema → Creates (meta_table 0) old mid → HasFreeName mid.now.schema (codes "head") × HasFreeName mid.now.schema (codes "cell") × (lacks_sequence mid.now.schema ≡ false) × IsDatabase mid.now
room_for_rows old mid room meta =
    let schema = old.now.schema in (
      subst (λ s. HasFreeName s (codes "head")) (sym meta.schema) (head_after_meta schema room.head),
      subst (λ s. HasFreeName s (codes "cell")) (sym meta.schema) (cell_after_meta schema room.cell),
      subst (λ s. lacks_sequence s ≡ false) (sym meta.schema) (counts_kept schema (meta_table 0) refl room.counts),
      meta.sound,
    )

pub ours_made : (old mid new : State) → HasFreeNames old.now.schema → IsDatabase old.now → Creates (meta_table 0) old mid → CreatesRows mid new → MakesOurs old new
ours_made old mid new room was meta rows =
    let schema = old.now.schema in
    let n = next_tree schema in
    let has : HasTable mid.now.schema (meta_table n) = subst (λ s. HasTable s (meta_table n)) (sym meta.schema) (made schema (codes "meta") _ (1 ∷ []) room.meta meta_itself (meta_indexed schema) (owned_by old.now was)) in
    let free = room_for_rows old mid room meta in
    let here = all_has _ mid.now.schema.tables (meta_table n) rows.others (found_has _ mid.now.schema.tables (meta_table n) has.named) in
    record {
      mode = rows.mode;
      was_open = meta.was_open;
      is_open = rows.is_open;
      bare = bare_rows mid new n has free.0 free.1 meta.sound rows (here ∙ meta.empty);
      meta_tree = tree_is new.now.schema (meta_table n) (meta_last mid new n has free.0 free.1 meta.sound rows);
      schema = rows.schema ∙ ap with_row_tables meta.schema;
      others = kept_then schema.tables _ old.now.trees mid.now.trees new.now.trees meta.others (subst (λ (s : Schema). KeepsRows s.tables mid.now.trees new.now.trees) meta.schema rows.others);
    }

apart_from : (m t : ℕ) → t ≢ m → ((t == m) || false) ≡ false
apart_from m t other = or_from _ _ (grind (arith, nat_tests)) refl

-- what was there keeps its rows as `meta` is filled
pub filled : (text : List ℕ) (old mid new : State) → MakesOurs old mid → Fills text mid new → MakesFilled text old new
filled text old mid new m f =
    let schema = old.now.schema in
    let tables = (created schema (meta_table 0)).tables in
    record {
      mode = f.mode;
      was_open = m.was_open;
      is_open = f.is_open;
      stored = f.stored;
      no_head = f.no_head;
      no_cell = f.no_cell;
      schema = f.schema ∙ m.schema;
      others = all_from _ schema.tables (λ t h.
          let later = old_table (created schema (meta_table 0)) (codes "head") _ (1 ∷ 2 ∷ []) t (old_table schema (codes "meta") _ (1 ∷ []) t h) in
          let last = subst (λ (s : Schema). Has s.tables t) (sym m.schema) (old_table (created (created schema (meta_table 0)) (head_table 0)) (codes "cell") _ (1 ∷ 2 ∷ 3 ∷ []) t later) in
          let apart = apart_from (tree_number mid.now.schema (codes "meta")) t.tree (λ e. absurd (omega (arith, tree_below schema t h, e, m.meta_tree))) in
          all_has _ mid.now.schema.tables t f.others.tables last apart ∙ all_has _ schema.tables t m.others h);
    }
