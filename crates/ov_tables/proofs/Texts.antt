-- What `sqlite` understands the CREATE TABLE texts as, wherever the names are free.
use Rattle.std.proofs.Common.{◌≡◌, ℕ, List, ◌∷◌, [], None, false, Ok, refl, codes}
use Rattle.sqlite.specs.Schema.{Schema}
use Rattle.sqlite.specs.Command.TheVariants.{CreateTable}
use Rattle.sqlite.specs.Compile.{table_defined_by}
use Rattle.sqlite_schema.specs.Names.{same_name, table_named, index_named, view_named}
use Rattle.sqlite_ast.specs.declared.Statement.TheVariants as written
use Rattle.sqlite_ast.specs.declared.Rule.TheVariants as rule
use Rattle.sqlite_ast.specs.declared.Keyed.{Keyed}
use Rattle.sqlite_ast.specs.declared.CreateTable as ast
use Rattle.sqlite_syntax.specs.declared.statement.Parsed.{Parsed}
use Rattle.sqlite_resolve.specs.Compile.{first}
use Rattle.sqlite_resolve.specs.Define as define
use Rattle.sqlite_tied.specs.Compute.{everything}
use Rattle.sqlite.specs.Listing.{understood}
use Rattle.ov_tables.specs.Tables.{meta_table, head_table, cell_table, create_meta, create_head, create_cell}
use Rattle.ov_tables.proofs.Statements.{does}

abbrev keyed : List ℕ → Keyed
keyed name = record { name = name; collation = None; descending = false }

abbrev meta_def : ast.CreateTable
meta_def = record {
  if_missing = false;
  name = codes "meta";
  body = record { columns = (codes "k", codes "TEXT") ∷ (codes "v", codes "BLOB") ∷ []; rules = rule.PrimaryKey (keyed (codes "k") ∷ []) ∷ [] };
  is_strict = false;
  resolves = false;
}

abbrev pub meta_parsed : Parsed
meta_parsed = record { statement = written.CreateTable meta_def; names = []; formats = []; start = 0; end = 45; tail = 45 }

meta_first : first create_meta ≡ Ok meta_parsed
unfolding everything
meta_first = refl

meta_is : define.table [] meta_def ≡ Ok (meta_table 0)
unfolding everything
meta_is = refl

pub meta_defined : table_defined_by create_meta ≡ Ok (meta_table 0)
unfolding table_defined_by Rattle.sqlite_resolve.specs.Compile.table_in
meta_defined = rw (meta_first, meta_is) refl

abbrev head_def : ast.CreateTable
head_def = record {
  if_missing = false;
  name = codes "head";
  body = record { columns = (codes "tbl", codes "TEXT") ∷ (codes "id", codes "BLOB") ∷ (codes "ver", codes "BLOB") ∷ []; rules = rule.PrimaryKey (keyed (codes "tbl") ∷ keyed (codes "id") ∷ []) ∷ [] };
  is_strict = false;
  resolves = false;
}

abbrev pub head_parsed : Parsed
head_parsed = record { statement = written.CreateTable head_def; names = []; formats = []; start = 0; end = 67; tail = 67 }

head_first : first create_head ≡ Ok head_parsed
unfolding everything
head_first = refl

head_is : define.table [] head_def ≡ Ok (head_table 0)
unfolding everything
head_is = refl

pub head_defined : table_defined_by create_head ≡ Ok (head_table 0)
unfolding table_defined_by Rattle.sqlite_resolve.specs.Compile.table_in
head_defined = rw (head_first, head_is) refl

abbrev cell_def : ast.CreateTable
cell_def = record {
  if_missing = false;
  name = codes "cell";
  body = record { columns = (codes "tbl", codes "TEXT") ∷ (codes "id", codes "BLOB") ∷ (codes "col", codes "TEXT") ∷ (codes "body", codes "BLOB") ∷ []; rules = rule.PrimaryKey (keyed (codes "tbl") ∷ keyed (codes "id") ∷ keyed (codes "col") ∷ []) ∷ [] };
  is_strict = false;
  resolves = false;
}

abbrev pub cell_parsed : Parsed
cell_parsed = record { statement = written.CreateTable cell_def; names = []; formats = []; start = 0; end = 82; tail = 82 }

cell_first : first create_cell ≡ Ok cell_parsed
unfolding everything
cell_first = refl

cell_is : define.table [] cell_def ≡ Ok (cell_table 0)
unfolding everything
cell_is = refl

pub cell_defined : table_defined_by create_cell ≡ Ok (cell_table 0)
unfolding table_defined_by Rattle.sqlite_resolve.specs.Compile.table_in
cell_defined = rw (cell_first, cell_is) refl

module _ (schema : Schema) where
  pub meta_understood : table_named schema (codes "meta") ≡ None → index_named schema (codes "meta") ≡ None → view_named schema (codes "meta") ≡ None → understood schema create_meta ≡ Ok (does meta_parsed CreateTable)
  unfolding
      understood same_name Rattle.sqlite_resolve.specs.Compile.compiled Rattle.sqlite_resolve.specs.Compile.planned
      Rattle.sqlite_resolve.specs.Compile.meaning Rattle.sqlite_resolve.specs.Compile.timed Rattle.sqlite_resolve.specs.Compile.returning
      Rattle.sqlite_resolve.specs.Compile.command Rattle.sqlite_resolve.specs.Compile.create_table Rattle.sqlite_resolve.specs.Compile.is_attached
      Rattle.sqlite_resolve.specs.Compile.creates Rattle.sqlite_resolve.specs.Compile.is_reserved
  meta_understood no_table no_index no_view = rw (meta_first, no_table, no_index, no_view, meta_is) refl

  pub head_understood : table_named schema (codes "head") ≡ None → index_named schema (codes "head") ≡ None → view_named schema (codes "head") ≡ None → understood schema create_head ≡ Ok (does head_parsed CreateTable)
  unfolding
      understood same_name Rattle.sqlite_resolve.specs.Compile.compiled Rattle.sqlite_resolve.specs.Compile.planned
      Rattle.sqlite_resolve.specs.Compile.meaning Rattle.sqlite_resolve.specs.Compile.timed Rattle.sqlite_resolve.specs.Compile.returning
      Rattle.sqlite_resolve.specs.Compile.command Rattle.sqlite_resolve.specs.Compile.create_table Rattle.sqlite_resolve.specs.Compile.is_attached
      Rattle.sqlite_resolve.specs.Compile.creates Rattle.sqlite_resolve.specs.Compile.is_reserved
  head_understood no_table no_index no_view = rw (head_first, no_table, no_index, no_view, head_is) refl

  pub cell_understood : table_named schema (codes "cell") ≡ None → index_named schema (codes "cell") ≡ None → view_named schema (codes "cell") ≡ None → understood schema create_cell ≡ Ok (does cell_parsed CreateTable)
  unfolding
      understood same_name Rattle.sqlite_resolve.specs.Compile.compiled Rattle.sqlite_resolve.specs.Compile.planned
      Rattle.sqlite_resolve.specs.Compile.meaning Rattle.sqlite_resolve.specs.Compile.timed Rattle.sqlite_resolve.specs.Compile.returning
      Rattle.sqlite_resolve.specs.Compile.command Rattle.sqlite_resolve.specs.Compile.create_table Rattle.sqlite_resolve.specs.Compile.is_attached
      Rattle.sqlite_resolve.specs.Compile.creates Rattle.sqlite_resolve.specs.Compile.is_reserved
  cell_understood no_table no_index no_view = rw (cell_first, no_table, no_index, no_view, cell_is) refl
