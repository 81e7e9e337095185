-- What `sqlite` understands each text over `line` as, wherever the table stands.
use Rattle.std.proofs.Common.{◌≡◌, ℕ, Bool, List, [], ◌∷◌, codes, false, true, Option, None, Some, Ok, refl, pos, negsuc}
use Rattle.sqlite.specs.Collation.TheVariants.{Binary}
use Rattle.sqlite.specs.declared.types.Value.TheVariants.{Int}
use Rattle.sqlite.specs.Term.{Term, lit, col}
use Rattle.sqlite_tied.specs.Compute.{everything}
use Rattle.sqlite.specs.Schema.{Schema}
use Rattle.sqlite_schema.specs.declared.command.Command.TheVariants.{Delete, Select}
use Rattle.sqlite_resolve.specs.declared.scope.Output.{Output}
use Rattle.sqlite_resolve.specs.declared.state.Carried.{Carried}
use Rattle.sqlite.specs.Listing.{understood, reads_listing}
use Rattle.sqlite_ast.specs.declared.Shown.{Shown}
use Rattle.sqlite_ast.specs.declared.Origin.TheVariants as origin
use Rattle.sqlite_ast.specs.declared.Select as ast_select
use Rattle.sqlite_ast.specs.declared.Core as ast_core
use Rattle.sqlite_ast.specs.declared.Source as ast_source
use Rattle.sqlite_resolve.specs.declared.state.State.{State}
use Rattle.ov_tables.proofs.Compiling.{lowering, written_parts}
use Rattle.sqlite_resolve.specs.Body.{heading, table_in, bounds, result, matching, body}
use Rattle.sqlite_resolve.specs.Select.{outermost, parts, paging}
use Rattle.sqlite_resolve.specs.Select as resolved
use Rattle.sqlite_resolve.specs.Expr.{lower}
use Rattle.sqlite_resolve.specs.Program.{Building, Shown as Query, viewing, or_view, alone, query_to, level as program_level}
use Rattle.sqlite_resolve.specs.Lowering.{fresh, max_budget}
use Rattle.sqlite_resolve.specs.declared.scope.Bound.{Bound}
use Rattle.sqlite_resolve.specs.declared.scope.Level.{Level}
use Rattle.sqlite_resolve.specs.declared.body.Body.{Body}
use Rattle.sqlite_resolve.specs.declared.select.Clauses.{Clauses}
use Rattle.sqlite_draft.specs.declared.join.Step.TheVariants.{Inner}
use Rattle.sqlite.specs.Collation.{Collation}
use Rattle.std.proofs.Common.{◌-◌, subst, sym}
use Rattle.sqlite_resolve.specs.Program.{program, query}
use Rattle.sqlite_resolve.specs.Scope.{Context, column}
use Rattle.sqlite_resolve.specs.Write.{deleted}
use Rattle.ov_tables.specs.Tables.{line_table, line_select_text, line_clear_text}
use Rattle.ov_tables.proofs.TableLemmas.{Stands}
use Rattle.ov_tables.proofs.Statements.{line_select_parsed, line_clear_parsed, line_select_first, line_clear_first, line_selects, numbers, runs, named, shows, source_of, core_of, selection, does, plain_carried, free_carried, within}

module _ (schema : Schema) (at l : ℕ) (it : Stands schema (line_table l) at) where
  abbrev cx : List Output → Bool → Bool → Context
  cx = within schema at (codes "line")

  column_tbl : (shown : List Output) (a b : Bool) (s : State) → column (cx shown a b) None (codes "tbl") s ≡ Ok (col 1 1, record s { last = plain_carried })
  unfolding everything
  column_tbl shown a b s = rw (it.placed, it.placed) refl

  heading_tbl : (shown : List Output) (a b : Bool) → heading (cx shown a b) (named (codes "tbl")) (codes "tbl") ≡ codes "tbl"
  unfolding everything
  heading_tbl shown a b = rw (it.placed, it.placed) refl

  column_id : (shown : List Output) (a b : Bool) (s : State) → column (cx shown a b) None (codes "id") s ≡ Ok (col 1 2, record s { last = plain_carried })
  unfolding everything
  column_id shown a b s = rw (it.placed, it.placed) refl

  heading_id : (shown : List Output) (a b : Bool) → heading (cx shown a b) (named (codes "id")) (codes "id") ≡ codes "id"
  unfolding everything
  heading_id shown a b = rw (it.placed, it.placed) refl

  column_ver : (shown : List Output) (a b : Bool) (s : State) → column (cx shown a b) None (codes "ver") s ≡ Ok (col 1 3, record s { last = plain_carried })
  unfolding everything
  column_ver shown a b s = rw (it.placed, it.placed) refl

  heading_ver : (shown : List Output) (a b : Bool) → heading (cx shown a b) (named (codes "ver")) (codes "ver") ≡ codes "ver"
  unfolding everything
  heading_ver shown a b = rw (it.placed, it.placed) refl

  column_body : (shown : List Output) (a b : Bool) (s : State) → column (cx shown a b) None (codes "body") s ≡ Ok (col 1 4, record s { last = plain_carried })
  unfolding everything
  column_body shown a b s = rw (it.placed, it.placed) refl

  heading_body : (shown : List Output) (a b : Bool) → heading (cx shown a b) (named (codes "body")) (codes "body") ≡ codes "body"
  unfolding everything
  heading_body shown a b = rw (it.placed, it.placed) refl

  column_rowid : (shown : List Output) (a b : Bool) (s : State) → column (cx shown a b) None (codes "rowid") s ≡ Ok (col 1 0, record s { last = free_carried })
  unfolding everything
  column_rowid shown a b s = rw (it.placed, it.low) refl

  heading_rowid : (shown : List Output) (a b : Bool) → heading (cx shown a b) (named (codes "rowid")) (codes "rowid") ≡ codes "rowid"
  unfolding everything
  heading_rowid shown a b = rw (it.placed, it.low, it.placed) refl

  table_is : (slot : ℕ) → table_in schema slot (origin.Table (codes "line")) ≡ Ok (codes "line", at)
  unfolding everything
  table_is slot = rw it.named refl

  cleared_is : deleted schema at (line_table l) None ≡ Ok (numbers [] l)
  unfolding lowering Rattle.sqlite_resolve.specs.Write.deleted
  cleared_is = refl

  clear_runs : program schema [] (numbers [] l) ≡ Ok (runs (numbers [] l))
  unfolding everything
  clear_runs = rw (it.not_high, it.alone) refl

  pub line_clear_is : understood schema line_clear_text ≡ Ok (does line_clear_parsed (Delete at (runs (numbers [] l))))
  unfolding lowering understood
  line_clear_is = rw (line_clear_first, it.named, it.placed, cleared_is, clear_runs) refl

  select_runs : program schema [] (line_selects l) ≡ Ok (runs (line_selects l))
  unfolding everything
  select_runs = rw (it.not_high, it.alone) refl

  abbrev shown_columns : List Shown
  shown_columns = shows (codes "rowid") ∷ shows (codes "tbl") ∷ shows (codes "id") ∷ shows (codes "ver") ∷ shows (codes "body") ∷ []

  abbrev shown_table : ast_select.Select
  shown_table = selection shown_columns (codes "line")

  abbrev core : ast_core.Core
  core = core_of shown_columns (codes "line")

  abbrev source : ast_source.Source
  source = source_of (codes "line")

  abbrev place : Bound
  place = record { name = codes "line"; table = at; slot = 1; shared = [] }

  abbrev out : List ℕ → ℕ → Carried → Output
  out name at carried = record { name = name; is_alias = false; is_column = true; term = col 1 at; carried = carried }

  abbrev outs : List Output
  outs = out (codes "rowid") 0 free_carried ∷ out (codes "tbl") 1 plain_carried ∷ out (codes "id") 2 plain_carried ∷ out (codes "ver") 3 plain_carried ∷ out (codes "body") 4 plain_carried ∷ []

  abbrev after : ℕ → State
  after n = record { next = 2; steps = []; aggregates = []; budget = max_budget - n; written = None; last = plain_carried }

  bounds_is : bounds schema (source ∷ []) (fresh 1 max_budget) ≡ Ok (place ∷ [], fresh 2 max_budget)
  unfolding lowering
  bounds_is = rw table_is refl

  abbrev level : List Output → Level
  level shown = record { tables = place ∷ []; shown = shown }

  result_is : result lower (outermost schema) (level []) core (fresh 2 max_budget) ≡ Ok (outs, after 5)
  unfolding lowering
  result_is = rw (column_rowid, heading_rowid, column_tbl, heading_tbl, column_id, heading_id, column_ver, heading_ver, column_body, heading_body) refl

  matching_is : matching lower (outermost schema) (level outs) core (after 5) ≡ Ok (record { steps = Inner l ∷ []; filter = [] }, after 5)
  unfolding lowering
  matching_is = rw it.placed refl

  abbrev whole : Body
  whole = record { level = level outs; steps = Inner l ∷ []; filter = [] }

  body_is : body lower (outermost schema) core (fresh 1 max_budget) ≡ Ok (whole, after 5)
  unfolding written_parts Rattle.sqlite_resolve.specs.Body.body
  body_is = rw (bounds_is, result_is, matching_is) refl

  abbrev page : Term × Term
  page = (lit (Int (negsuc 0)), lit (Int (pos 0)))

  abbrev clauses : Clauses
  clauses = record { body = whole; is_grouped = false; keys = []; collations = []; having = []; order = [] }

  parts_is : parts schema core [] (fresh 1 max_budget) ≡ Ok (clauses, after 5)
  unfolding written_parts Rattle.sqlite_resolve.specs.Select.parts Rattle.sqlite_resolve.specs.Order.keys Rattle.sqlite_resolve.specs.Order.sorts Rattle.sqlite_resolve.specs.Select.having Rattle.sqlite_resolve.specs.Body.tests
  parts_is = rw body_is refl

  abbrev columns : List (List ℕ)
  columns = codes "rowid" ∷ codes "tbl" ∷ codes "id" ∷ codes "ver" ∷ codes "body" ∷ []

  abbrev carried : List (Option Collation)
  carried = None ∷ Some Binary ∷ Some Binary ∷ Some Binary ∷ Some Binary ∷ []

  named_is : resolved.named schema core [] page ≡ Ok (line_selects l, columns, carried)
  unfolding written_parts Rattle.sqlite_resolve.specs.Select.named Rattle.sqlite_resolve.specs.Select.assembled Rattle.sqlite_resolve.specs.Select.ungrouped
  named_is = rw parts_is refl

  viewing_is : (q : Schema → ast_select.Select → Building Query) → viewing q schema core [] page 64 schema [] ≡ Ok (((line_selects l, columns, carried), schema), [])
  unfolding Rattle.sqlite_resolve.specs.Program.viewing
  viewing_is q = subst (λ r. or_view q (viewing q schema core [] page 63) schema schema r [] ≡ Ok (((line_selects l, columns, carried), schema), [])) (sym named_is) refl

  alone_is : (q : Schema → ast_select.Select → Building Query) → alone q schema core [] page [] ≡ Ok ((line_selects l, columns, carried), [])
  unfolding written_parts Rattle.sqlite_resolve.specs.Program.alone Rattle.sqlite_resolve.specs.Program.single Rattle.sqlite_resolve.specs.Program.sources Rattle.sqlite_resolve.specs.Program.source
  alone_is q = rw viewing_is refl

  paging_is : paging schema shown_table ≡ Ok page
  unfolding lowering
  paging_is = refl

  level_is : (q : Schema → ast_select.Select → Building Query) → program_level q schema shown_table [] ≡ Ok ((line_selects l, columns, carried), [])
  unfolding written_parts Rattle.sqlite_resolve.specs.Program.level Rattle.sqlite_resolve.specs.Program.with Rattle.sqlite_resolve.specs.Program.whole
  level_is q = rw (paging_is, alone_is) refl

  select_drafts : query schema shown_table ≡ Ok ((line_selects l, columns, carried), [])
  unfolding Rattle.sqlite_resolve.specs.Program.query Rattle.sqlite_resolve.specs.Program.query_to
  select_drafts = level_is (query_to 15)

  pub line_select_is : understood schema line_select_text ≡ Ok (does line_select_parsed (Select (runs (line_selects l)) (codes "rowid" ∷ codes "tbl" ∷ codes "id" ∷ codes "ver" ∷ codes "body" ∷ [])))
  unfolding lowering understood Rattle.sqlite_resolve.specs.Compile.read
  line_select_is = rw (line_select_first, select_drafts, select_runs) refl

  pub line_select_listed : reads_listing schema line_select_text ≡ false
  unfolding lowering Rattle.sqlite_resolve.specs.Compile.read
  line_select_listed = rw (line_select_first, select_drafts, select_runs) refl
