-- What `sqlite` understands the text as that adds four cells, wherever `cell` stands.
use Rattle.std.proofs.Common.{◌≡◌, ℕ, List, [], ◌∷◌, map, Bool, true, false, cond, codes, Ok, refl}
use Rattle.sqlite.specs.declared.types.Value.TheVariants.{Null, Text, Blob}
use Rattle.sqlite.specs.Order.{Row}
use Rattle.sqlite.specs.declared.types.Value.{Value}
use Rattle.sqlite.specs.Ops.{unary}
use Rattle.sqlite.specs.Kind.TheVariants.{Integer}
use Rattle.sqlite.specs.Cast.{cast}
use Rattle.sqlite.specs.Term.{Term, lit, col}
use Rattle.sqlite_tied.specs.Compute.{everything}
use Rattle.sqlite.specs.Schema.{Schema}
use Rattle.sqlite_schema.specs.declared.command.Command.TheVariants.{Insert}
use Rattle.sqlite_schema.specs.declared.command.Source.TheVariants.{Values}
use Rattle.sqlite.specs.Listing.{understood}
use Rattle.sqlite_syntax.specs.declared.statement.Parsed.{Parsed}
use Rattle.sqlite_ast.specs.declared.Expr.{Expr}
use Rattle.sqlite_ast.specs.declared.Expr.TheVariants as expr
use Rattle.sqlite_ast.specs.declared.Rows.TheVariants as rows
use Rattle.sqlite_ast.specs.declared.Conflict.TheVariants as conflict
use Rattle.sqlite_ast.specs.declared.Statement.TheVariants as written
use Rattle.sqlite_resolve.specs.Compile.{first, new_rows}
use Rattle.ov_tables.specs.Tables.{cell_table}
use Rattle.ov_tables.proofs.Compiling.{lowering}
use Rattle.ov_tables.proofs.Statements.{does}
use Rattle.ov_tables.proofs.TableLemmas.{Stands}
use Rattle.ov_tables.proofs.InsertLemmas.{cell_row}
use Rattle.ov_sqlite.specs.Joining.{CellEntry}
use Rattle.ov_sqlite.proofs.ManyLemmas.{AddsAll}

abbrev pub four_cells_text : List ℕ
four_cells_text = codes "INSERT INTO cell(tbl,id,col,body) VALUES(?1,?2,?3,?4),(?1,?2,?5,?6),(?1,?2,?7,?8),(?1,?2,?9,?10)"

-- the values of a cell whose column and body are these parameters
abbrev values : ℕ → ℕ → List Expr
values column body = expr.Parameter 1 ∷ expr.Parameter 2 ∷ expr.Parameter column ∷ expr.Parameter body ∷ []

abbrev four_parts : List (List Expr)
four_parts = values 3 4 ∷ values 5 6 ∷ values 7 8 ∷ values 9 10 ∷ []

abbrev names : List (List ℕ)
names = codes "tbl" ∷ codes "id" ∷ codes "col" ∷ codes "body" ∷ []

abbrev parameters : List (List ℕ)
parameters = codes "?1" ∷ codes "?2" ∷ codes "?3" ∷ codes "?4" ∷ codes "?5" ∷ codes "?6" ∷ codes "?7" ∷ codes "?8" ∷ codes "?9" ∷ codes "?10" ∷ []

abbrev pub four_cells_parsed : Parsed
four_cells_parsed = record { statement = written.Insert conflict.Abort (codes "cell") names (rows.Values four_parts) [] []; names = parameters; formats = []; start = 0; end = 96; tail = 96 }

four_cells_first : first four_cells_text ≡ Ok four_cells_parsed
unfolding everything
four_cells_first = refl

-- the terms of a cell, before those of others
abbrev cell_terms : ℕ → ℕ → List Term → List Term
cell_terms column body more = lit Null ∷ col 0 0 ∷ col 0 1 ∷ col 0 column ∷ col 0 body ∷ more

abbrev pub four_cells_terms : List Term
four_cells_terms = cell_terms 2 3 (cell_terms 4 5 (cell_terms 6 7 (cell_terms 8 9 [])))

module _ (schema : Schema) (at l : ℕ) (it : Stands schema (cell_table l) at) where
  new_rows_is : new_rows schema (cell_table l) 10 names (rows.Values four_parts) ≡ Ok (Values four_cells_terms 5)
  unfolding everything
  new_rows_is = refl

  pub four_cells_is : understood schema four_cells_text ≡ Ok (does four_cells_parsed (Insert at (Values four_cells_terms 5)))
  unfolding lowering understood
  four_cells_is = rw (four_cells_first, it.named, it.placed, new_rows_is) refl

either : (b : Bool) (x : Value) → cond b x x ≡ x
either true x = refl
either false x = refl

cast_null : cast Integer Null ≡ Null
unfolding unary
cast_null = either _ Null

-- the values of the parameters
abbrev pub four_values : List ℕ → List ℕ → CellEntry → CellEntry → CellEntry → CellEntry → Row
four_values t i p q r s =
    Text t ∷ Blob i ∷ Text p.0 ∷ Blob p.1 ∷ Text q.0 ∷ Blob q.1 ∷ Text r.0 ∷ Blob r.1 ∷ Text s.0 ∷ Blob s.1 ∷ []

pub four_adds : (l : ℕ) (t i : List ℕ) (p q r s : CellEntry)
    → AddsAll (cell_table l) four_cells_terms 5 (four_values t i p q r s) (map (λ (e : CellEntry). cell_row t i e.0 e.1) (p ∷ q ∷ r ∷ s ∷ []))
four_adds l t i p q r s db = rw cast_null refl
