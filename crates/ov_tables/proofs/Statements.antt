-- The statements as they are parsed. Their terms are written out, so that what they ask for needs no text.
use Rattle.std.proofs.Common.{◌≡◌, ℕ, Bool, List, [], ◌∷◌, codes, false, Option, None, Some, Ok, refl, pos, negsuc}
use Rattle.sqlite.specs.Collation.TheVariants.{Binary}
use Rattle.sqlite.specs.declared.types.Value.TheVariants.{Null, Int}
use Rattle.sqlite.specs.Term.{Term, lit, col, op2}
use Rattle.sqlite.specs.Query.{inner, end}
use Rattle.sqlite_sql.specs.declared.ops.BinaryOp.TheVariants.{Compare}
use Rattle.sqlite_sql.specs.declared.ops.CompareOp.TheVariants.{Eq}
use Rattle.sqlite_tied.specs.Compute.{everything}
use Rattle.sqlite.specs.Schema.{Schema}
use Rattle.sqlite_schema.specs.declared.command.Command.{Command}
use Rattle.sqlite_schema.specs.declared.program.Program.{Program}
use Rattle.sqlite_resolve.specs.declared.scope.Output.{Output}
use Rattle.sqlite_resolve.specs.declared.state.Carried.{Carried}
use Rattle.sqlite_resolve.specs.declared.compiled.Compiled.{Compiled}
use Rattle.sqlite_draft.specs.Query.{query_of}
use Rattle.sqlite_syntax.specs.declared.statement.Parsed.{Parsed}
use Rattle.sqlite_ast.specs.declared.Expr.{Expr}
use Rattle.sqlite_ast.specs.declared.Expr.TheVariants as expr
use Rattle.sqlite_ast.specs.declared.Binary.TheVariants as binary
use Rattle.sqlite_ast.specs.declared.Rows.TheVariants as rows
use Rattle.sqlite_ast.specs.declared.Conflict.TheVariants as conflict
use Rattle.sqlite_ast.specs.declared.Shown.{Shown}
use Rattle.sqlite_ast.specs.declared.Shown.TheVariants as shown
use Rattle.sqlite_ast.specs.declared.Origin.TheVariants as origin
use Rattle.sqlite_ast.specs.declared.Select as ast_select
use Rattle.sqlite_ast.specs.declared.Core as ast_core
use Rattle.sqlite_ast.specs.declared.Source as ast_source
use Rattle.sqlite_ast.specs.declared.Statement.TheVariants as written
use Rattle.sqlite_resolve.specs.Compile.{first}
use Rattle.sqlite_resolve.specs.Scope.{Context}
use Rattle.sqlite_draft.specs.declared.query.Draft.{Draft}
use Rattle.ov_tables.specs.Tables.{meta_insert_text, meta_select_text, meta_clear_text, line_select_text, line_clear_text, head_insert_text, head_select_text, head_clear_text, head_delete_text, head_update_text, cell_insert_text, cell_select_text, cell_clear_text, cell_delete_text, cell_update_text, cells_of_text}

abbrev pub named : List ℕ → Expr
named name = expr.Column None name

abbrev pub equals : Expr → Expr → Expr
equals a b = expr.Binary binary.Eq a b

abbrev pub key_test : Expr
key_test = expr.Binary binary.And (equals (named (codes "tbl")) (expr.Parameter 1)) (equals (named (codes "id")) (expr.Parameter 2))

abbrev pub cell_key_test : Expr
cell_key_test = expr.Binary binary.And key_test (equals (named (codes "col")) (expr.Parameter 3))

abbrev pub shows : List ℕ → Shown
shows name = shown.One (named name) None name

abbrev pub source_of : List ℕ → ast_source.Source
source_of table = ast_source.roll-Source (record { is_left = false; origin = origin.Table table; alias = None; on = None; using = [] })

abbrev pub core_where : List Shown → List ℕ → Option Expr → ast_core.Core
core_where columns table test = ast_core.roll-Core (record { distinct = false; shown = columns; from = source_of table ∷ []; filter = test; group = []; having = None })

abbrev pub core_of : List Shown → List ℕ → ast_core.Core
core_of columns table = core_where columns table None

abbrev pub selection_of : ast_core.Core → ast_select.Select
selection_of core = ast_select.roll-Select (record {
  with = [];
  first = core;
  others = [];
  order = [];
  limit = None;
  offset = None;
})

abbrev pub selection : List Shown → List ℕ → ast_select.Select
selection columns table = selection_of (core_of columns table)

abbrev pub meta_insert_parsed : Parsed
meta_insert_parsed = record { statement = written.Insert conflict.Abort (codes "meta") (codes "k" ∷ codes "v" ∷ []) (rows.Values ((expr.Parameter 1 ∷ expr.Parameter 2 ∷ []) ∷ [])) [] []; names = codes "?1" ∷ codes "?2" ∷ []; formats = []; start = 0; end = 35; tail = 35 }

pub meta_insert_first : first meta_insert_text ≡ Ok meta_insert_parsed
unfolding everything
meta_insert_first = refl

abbrev pub meta_select_parsed : Parsed
meta_select_parsed = record { statement = written.Select (selection (shows (codes "rowid") ∷ shows (codes "k") ∷ shows (codes "v") ∷ []) (codes "meta")); names = []; formats = []; start = 0; end = 26; tail = 26 }

pub meta_select_first : first meta_select_text ≡ Ok meta_select_parsed
unfolding everything
meta_select_first = refl

abbrev pub meta_clear_parsed : Parsed
meta_clear_parsed = record { statement = written.Delete (codes "meta") None []; names = []; formats = []; start = 0; end = 16; tail = 16 }

pub meta_clear_first : first meta_clear_text ≡ Ok meta_clear_parsed
unfolding everything
meta_clear_first = refl

abbrev pub line_select_parsed : Parsed
line_select_parsed = record { statement = written.Select (selection (shows (codes "rowid") ∷ shows (codes "tbl") ∷ shows (codes "id") ∷ shows (codes "ver") ∷ shows (codes "body") ∷ []) (codes "line")); names = []; formats = []; start = 0; end = 38; tail = 38 }

pub line_select_first : first line_select_text ≡ Ok line_select_parsed
unfolding everything
line_select_first = refl

abbrev pub line_clear_parsed : Parsed
line_clear_parsed = record { statement = written.Delete (codes "line") None []; names = []; formats = []; start = 0; end = 16; tail = 16 }

pub line_clear_first : first line_clear_text ≡ Ok line_clear_parsed
unfolding everything
line_clear_first = refl

abbrev pub head_insert_parsed : Parsed
head_insert_parsed = record { statement = written.Insert conflict.Abort (codes "head") (codes "tbl" ∷ codes "id" ∷ codes "ver" ∷ []) (rows.Values ((expr.Parameter 1 ∷ expr.Parameter 2 ∷ expr.Parameter 3 ∷ []) ∷ [])) [] []; names = codes "?1" ∷ codes "?2" ∷ codes "?3" ∷ []; formats = []; start = 0; end = 45; tail = 45 }

pub head_insert_first : first head_insert_text ≡ Ok head_insert_parsed
unfolding everything
head_insert_first = refl

abbrev pub head_select_parsed : Parsed
head_select_parsed = record { statement = written.Select (selection (shows (codes "rowid") ∷ shows (codes "tbl") ∷ shows (codes "id") ∷ shows (codes "ver") ∷ []) (codes "head")); names = []; formats = []; start = 0; end = 33; tail = 33 }

pub head_select_first : first head_select_text ≡ Ok head_select_parsed
unfolding everything
head_select_first = refl

abbrev pub head_clear_parsed : Parsed
head_clear_parsed = record { statement = written.Delete (codes "head") None []; names = []; formats = []; start = 0; end = 16; tail = 16 }

pub head_clear_first : first head_clear_text ≡ Ok head_clear_parsed
unfolding everything
head_clear_first = refl

abbrev pub head_delete_parsed : Parsed
head_delete_parsed = record { statement = written.Delete (codes "head") (Some key_test) []; names = codes "?1" ∷ codes "?2" ∷ []; formats = []; start = 0; end = 39; tail = 39 }

pub head_delete_first : first head_delete_text ≡ Ok head_delete_parsed
unfolding everything
head_delete_first = refl

abbrev pub head_update_parsed : Parsed
head_update_parsed = record { statement = written.Update (codes "head") ((codes "ver", expr.Parameter 3) ∷ []) (Some key_test) []; names = codes "?1" ∷ codes "?2" ∷ codes "?3" ∷ []; formats = []; start = 0; end = 45; tail = 45 }

pub head_update_first : first head_update_text ≡ Ok head_update_parsed
unfolding everything
head_update_first = refl

abbrev pub cell_insert_parsed : Parsed
cell_insert_parsed = record { statement = written.Insert conflict.Abort (codes "cell") (codes "tbl" ∷ codes "id" ∷ codes "col" ∷ codes "body" ∷ []) (rows.Values ((expr.Parameter 1 ∷ expr.Parameter 2 ∷ expr.Parameter 3 ∷ expr.Parameter 4 ∷ []) ∷ [])) [] []; names = codes "?1" ∷ codes "?2" ∷ codes "?3" ∷ codes "?4" ∷ []; formats = []; start = 0; end = 53; tail = 53 }

pub cell_insert_first : first cell_insert_text ≡ Ok cell_insert_parsed
unfolding everything
cell_insert_first = refl

abbrev pub cell_select_parsed : Parsed
cell_select_parsed = record { statement = written.Select (selection (shows (codes "rowid") ∷ shows (codes "tbl") ∷ shows (codes "id") ∷ shows (codes "col") ∷ shows (codes "body") ∷ []) (codes "cell")); names = []; formats = []; start = 0; end = 38; tail = 38 }

pub cell_select_first : first cell_select_text ≡ Ok cell_select_parsed
unfolding everything
cell_select_first = refl

abbrev pub cell_clear_parsed : Parsed
cell_clear_parsed = record { statement = written.Delete (codes "cell") None []; names = []; formats = []; start = 0; end = 16; tail = 16 }

pub cell_clear_first : first cell_clear_text ≡ Ok cell_clear_parsed
unfolding everything
cell_clear_first = refl

abbrev pub cell_delete_parsed : Parsed
cell_delete_parsed = record { statement = written.Delete (codes "cell") (Some key_test) []; names = codes "?1" ∷ codes "?2" ∷ []; formats = []; start = 0; end = 39; tail = 39 }

pub cell_delete_first : first cell_delete_text ≡ Ok cell_delete_parsed
unfolding everything
cell_delete_first = refl

abbrev pub cell_update_parsed : Parsed
cell_update_parsed = record { statement = written.Update (codes "cell") ((codes "body", expr.Parameter 4) ∷ []) (Some cell_key_test) []; names = codes "?1" ∷ codes "?2" ∷ codes "?3" ∷ codes "?4" ∷ []; formats = []; start = 0; end = 57; tail = 57 }

pub cell_update_first : first cell_update_text ≡ Ok cell_update_parsed
unfolding everything
cell_update_first = refl

abbrev pub cells_of_parsed : Parsed
cells_of_parsed = record { statement = written.Select (selection_of (core_where (shows (codes "col") ∷ shows (codes "body") ∷ []) (codes "cell") (Some key_test))); names = codes "?1" ∷ codes "?2" ∷ []; formats = []; start = 0; end = 48; tail = 48 }

pub cells_of_first : first cells_of_text ≡ Ok cells_of_parsed
unfolding everything
cells_of_first = refl

-- a statement that was parsed, with what it asks for
abbrev pub does : Parsed → Command → Compiled
does p command = record { command = command; returning = None; names = p.names; formats = []; start = p.start; end = p.end; tail = p.tail }

-- a query of one table's rows
abbrev pub drafts : ℕ → List Term → List Term → Draft
drafts tree filter project = record {
  from = inner tree end;
  filter = filter;
  group = None;
  project = project;
  distinct = false;
  collations = [];
  order = [];
  limit = lit (Int (negsuc 0));
  offset = lit (Int (pos 0));
}

abbrev pub plain_carried : Carried
plain_carried = record { collation = Some Binary; is_written = false }

abbrev pub free_carried : Carried
free_carried = record { collation = None; is_written = false }

-- one table in slot 1
abbrev pub within : Schema → ℕ → List ℕ → List Output → Bool → Bool → Context
within schema at name shown aggregate alias = record { schema = schema; levels = (record { tables = (record { name = name; table = at; slot = 1; shared = [] }) ∷ []; shown = shown }) ∷ []; may_aggregate = aggregate; may_alias = alias }

-- the two tests of the key of a row
abbrev pub key_terms : List Term
key_terms = op2 (Compare Eq Binary) (col 1 1) (col 0 0) ∷ op2 (Compare Eq Binary) (col 1 2) (col 0 1) ∷ []

-- the three tests of the key of a cell
abbrev pub cell_key_terms : List Term
cell_key_terms = op2 (Compare Eq Binary) (col 1 1) (col 0 0) ∷ op2 (Compare Eq Binary) (col 1 2) (col 0 1) ∷ op2 (Compare Eq Binary) (col 1 3) (col 0 2) ∷ []

-- the number of each row that passes these tests
abbrev pub numbers : List Term → ℕ → Draft
numbers tests tree = drafts tree tests (col 1 0 ∷ [])

-- the number of each row that passes these tests, and after it the row that these terms make of it
abbrev pub changes : List Term → List Term → ℕ → Draft
changes tests terms tree = drafts tree tests (col 1 0 ∷ terms)

-- the program of one query
abbrev pub runs : Draft → Program
runs d = record { lets = []; body = query_of d }

-- what is read of `meta`
abbrev pub meta_selects : ℕ → Draft
meta_selects tree = drafts tree [] (col 1 0 ∷ col 1 1 ∷ col 1 2 ∷ [])

abbrev pub meta_insert_terms : List Term
meta_insert_terms = lit Null ∷ col 0 0 ∷ col 0 1 ∷ []

-- what is read of `line`
abbrev pub line_selects : ℕ → Draft
line_selects tree = drafts tree [] (col 1 0 ∷ col 1 1 ∷ col 1 2 ∷ col 1 3 ∷ col 1 4 ∷ [])

-- what is read of `head`
abbrev pub head_selects : ℕ → Draft
head_selects tree = drafts tree [] (col 1 0 ∷ col 1 1 ∷ col 1 2 ∷ col 1 3 ∷ [])

abbrev pub head_insert_terms : List Term
head_insert_terms = lit Null ∷ col 0 0 ∷ col 0 1 ∷ col 0 2 ∷ []

-- a row of `head` with another version
abbrev pub head_update_terms : List Term
head_update_terms = col 1 0 ∷ col 1 1 ∷ col 1 2 ∷ col 0 2 ∷ []

-- what is read of `cell`
abbrev pub cell_selects : ℕ → Draft
cell_selects tree = drafts tree [] (col 1 0 ∷ col 1 1 ∷ col 1 2 ∷ col 1 3 ∷ col 1 4 ∷ [])

-- what is read of the cells of a key
abbrev pub key_selects : ℕ → Draft
key_selects tree = drafts tree key_terms (col 1 3 ∷ col 1 4 ∷ [])

abbrev pub cell_insert_terms : List Term
cell_insert_terms = lit Null ∷ col 0 0 ∷ col 0 1 ∷ col 0 2 ∷ col 0 3 ∷ []

-- a row of `cell` with another body
abbrev pub cell_update_terms : List Term
cell_update_terms = col 1 0 ∷ col 1 1 ∷ col 1 2 ∷ col 1 3 ∷ col 0 3 ∷ []
