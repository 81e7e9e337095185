-- What `sqlite` understands each text over `cell` as, wherever the table stands.
use Rattle.std.proofs.Common.{◌≡◌, ℕ, Bool, List, [], ◌∷◌, codes, false, true, Option, None, Some, Ok, refl, pos, negsuc}
use Rattle.sqlite.specs.Collation.TheVariants.{Binary}
use Rattle.sqlite.specs.declared.types.Value.TheVariants.{Int}
use Rattle.sqlite.specs.Term.{Term, lit, col}
use Rattle.sqlite_tied.specs.Compute.{everything}
use Rattle.sqlite.specs.Schema.{Schema}
use Rattle.sqlite_schema.specs.declared.command.Command.TheVariants.{Insert, Update, Delete, Select}
use Rattle.sqlite_schema.specs.declared.command.Source.TheVariants.{Values}
use Rattle.sqlite_resolve.specs.declared.scope.Output.{Output}
use Rattle.sqlite_resolve.specs.declared.state.Carried.{Carried}
use Rattle.sqlite.specs.Listing.{understood, reads_listing}
use Rattle.sqlite_ast.specs.declared.Expr.TheVariants as expr
use Rattle.sqlite_ast.specs.declared.Rows.TheVariants as rows
use Rattle.sqlite_ast.specs.declared.Shown.{Shown}
use Rattle.sqlite_ast.specs.declared.Origin.TheVariants as origin
use Rattle.sqlite_ast.specs.declared.Select as ast_select
use Rattle.sqlite_ast.specs.declared.Core as ast_core
use Rattle.sqlite_ast.specs.declared.Source as ast_source
use Rattle.sqlite_resolve.specs.declared.state.State.{State}
use Rattle.ov_tables.proofs.Compiling.{lowering, written_parts}
use Rattle.sqlite_resolve.specs.Compile.{new_rows}
use Rattle.sqlite_resolve.specs.Body.{heading, table_in, bounds, result, matching, body}
use Rattle.sqlite_resolve.specs.Select.{outermost, parts, paging}
use Rattle.sqlite_resolve.specs.Select as resolved
use Rattle.sqlite_resolve.specs.Expr.{lower}
use Rattle.sqlite_resolve.specs.Program.{Building, Shown as Query, viewing, or_view, alone, query_to, level as program_level}
use Rattle.sqlite_resolve.specs.Lowering.{fresh, max_budget}
use Rattle.sqlite_resolve.specs.declared.scope.Bound.{Bound}
use Rattle.sqlite_resolve.specs.declared.scope.Level.{Level}
use Rattle.sqlite_resolve.specs.declared.body.Body.{Body}
use Rattle.sqlite_resolve.specs.declared.select.Clauses.{Clauses}
use Rattle.sqlite_draft.specs.declared.join.Step.TheVariants.{Inner}
use Rattle.sqlite.specs.Collation.{Collation}
use Rattle.std.proofs.Common.{◌-◌, subst, sym}
use Rattle.sqlite_resolve.specs.Program.{program, query}
use Rattle.sqlite_resolve.specs.Scope.{Context, column}
use Rattle.sqlite_resolve.specs.Compare.{affinity_of}
use Rattle.sqlite_resolve.specs.declared.compare.Affinity.TheVariants as affinity
use Rattle.sqlite_resolve.specs.Write.{updated, deleted}
use Rattle.ov_tables.specs.Tables.{cell_table, cell_insert_text, cell_select_text, cell_clear_text, cell_delete_text, cell_update_text, cells_of_text}
use Rattle.ov_tables.proofs.TableLemmas.{Stands}
use Rattle.ov_tables.proofs.Statements.{cell_insert_parsed, cell_select_parsed, cell_clear_parsed, cell_delete_parsed, cell_update_parsed, cell_insert_first, cell_select_first, cell_clear_first, cell_delete_first, cell_update_first, cell_selects, numbers, changes, runs, named, shows, source_of, core_of, selection, does, plain_carried, free_carried, within, cell_insert_terms, cell_update_terms, key_test, key_terms, cell_key_test, cell_key_terms, core_where, selection_of, cells_of_parsed, cells_of_first, key_selects}

module _ (schema : Schema) (at l : ℕ) (it : Stands schema (cell_table l) at) where
  abbrev cx : List Output → Bool → Bool → Context
  cx = within schema at (codes "cell")

  column_tbl : (shown : List Output) (a b : Bool) (s : State) → column (cx shown a b) None (codes "tbl") s ≡ Ok (col 1 1, record s { last = plain_carried })
  unfolding everything
  column_tbl shown a b s = rw (it.placed, it.placed) refl

  heading_tbl : (shown : List Output) (a b : Bool) → heading (cx shown a b) (named (codes "tbl")) (codes "tbl") ≡ codes "tbl"
  unfolding everything
  heading_tbl shown a b = rw (it.placed, it.placed) refl

  column_id : (shown : List Output) (a b : Bool) (s : State) → column (cx shown a b) None (codes "id") s ≡ Ok (col 1 2, record s { last = plain_carried })
  unfolding everything
  column_id shown a b s = rw (it.placed, it.placed) refl

  heading_id : (shown : List Output) (a b : Bool) → heading (cx shown a b) (named (codes "id")) (codes "id") ≡ codes "id"
  unfolding everything
  heading_id shown a b = rw (it.placed, it.placed) refl

  column_col : (shown : List Output) (a b : Bool) (s : State) → column (cx shown a b) None (codes "col") s ≡ Ok (col 1 3, record s { last = plain_carried })
  unfolding everything
  column_col shown a b s = rw (it.placed, it.placed) refl

  heading_col : (shown : List Output) (a b : Bool) → heading (cx shown a b) (named (codes "col")) (codes "col") ≡ codes "col"
  unfolding everything
  heading_col shown a b = rw (it.placed, it.placed) refl

  column_body : (shown : List Output) (a b : Bool) (s : State) → column (cx shown a b) None (codes "body") s ≡ Ok (col 1 4, record s { last = plain_carried })
  unfolding everything
  column_body shown a b s = rw (it.placed, it.placed) refl

  heading_body : (shown : List Output) (a b : Bool) → heading (cx shown a b) (named (codes "body")) (codes "body") ≡ codes "body"
  unfolding everything
  heading_body shown a b = rw (it.placed, it.placed) refl

  column_rowid : (shown : List Output) (a b : Bool) (s : State) → column (cx shown a b) None (codes "rowid") s ≡ Ok (col 1 0, record s { last = free_carried })
  unfolding everything
  column_rowid shown a b s = rw (it.placed, it.low) refl

  heading_rowid : (shown : List Output) (a b : Bool) → heading (cx shown a b) (named (codes "rowid")) (codes "rowid") ≡ codes "rowid"
  unfolding everything
  heading_rowid shown a b = rw (it.placed, it.low, it.placed) refl

  table_is : (slot : ℕ) → table_in schema slot (origin.Table (codes "cell")) ≡ Ok (codes "cell", at)
  unfolding everything
  table_is slot = rw it.named refl

  affinity_tbl : (shown : List Output) (a b : Bool) → affinity_of (cx shown a b) (col 1 1) ≡ affinity.Text
  unfolding everything
  affinity_tbl shown a b = rw it.placed refl

  affinity_id : (shown : List Output) (a b : Bool) → affinity_of (cx shown a b) (col 1 2) ≡ affinity.Blob
  unfolding everything
  affinity_id shown a b = rw it.placed refl

  affinity_one : (shown : List Output) (a b : Bool) → affinity_of (cx shown a b) (col 0 0) ≡ affinity.None
  unfolding everything
  affinity_one shown a b = refl

  affinity_two : (shown : List Output) (a b : Bool) → affinity_of (cx shown a b) (col 0 1) ≡ affinity.None
  unfolding everything
  affinity_two shown a b = refl

  affinity_col : (shown : List Output) (a b : Bool) → affinity_of (cx shown a b) (col 1 3) ≡ affinity.Text
  unfolding everything
  affinity_col shown a b = rw it.placed refl

  affinity_three : (shown : List Output) (a b : Bool) → affinity_of (cx shown a b) (col 0 2) ≡ affinity.None
  unfolding everything
  affinity_three shown a b = refl

  deleted_is : deleted schema at (cell_table l) (Some key_test) ≡ Ok (numbers key_terms l)
  unfolding lowering Rattle.sqlite_resolve.specs.Write.deleted
  deleted_is = rw (column_tbl, affinity_tbl, affinity_one, column_id, affinity_id, affinity_two) refl

  delete_runs : program schema [] (numbers key_terms l) ≡ Ok (runs (numbers key_terms l))
  unfolding everything
  delete_runs = rw (it.not_high, it.alone) refl

  pub cell_delete_is : understood schema cell_delete_text ≡ Ok (does cell_delete_parsed (Delete at (runs (numbers key_terms l))))
  unfolding lowering understood
  cell_delete_is = rw (cell_delete_first, it.named, it.placed, deleted_is, delete_runs) refl

  updated_is : updated schema at (cell_table l) ((codes "body", expr.Parameter 4) ∷ []) (Some cell_key_test) ≡ Ok (changes cell_key_terms cell_update_terms l)
  unfolding lowering Rattle.sqlite_resolve.specs.Write.updated
  updated_is = rw (column_tbl, affinity_tbl, affinity_one, column_id, affinity_id, affinity_two, column_col, affinity_col, affinity_three) refl

  update_runs : program schema [] (changes cell_key_terms cell_update_terms l) ≡ Ok (runs (changes cell_key_terms cell_update_terms l))
  unfolding everything
  update_runs = rw (it.not_high, it.alone) refl

  pub cell_update_is : understood schema cell_update_text ≡ Ok (does cell_update_parsed (Update at (runs (changes cell_key_terms cell_update_terms l))))
  unfolding lowering understood
  cell_update_is = rw (cell_update_first, it.named, it.placed, updated_is, update_runs) refl

  new_rows_is : new_rows schema (cell_table l) 4 (codes "tbl" ∷ codes "id" ∷ codes "col" ∷ codes "body" ∷ []) (rows.Values ((expr.Parameter 1 ∷ expr.Parameter 2 ∷ expr.Parameter 3 ∷ expr.Parameter 4 ∷ []) ∷ [])) ≡ Ok (Values cell_insert_terms 5)
  unfolding everything
  new_rows_is = refl

  pub cell_insert_is : understood schema cell_insert_text ≡ Ok (does cell_insert_parsed (Insert at (Values cell_insert_terms 5)))
  unfolding lowering understood
  cell_insert_is = rw (cell_insert_first, it.named, it.placed, new_rows_is) refl

  cleared_is : deleted schema at (cell_table l) None ≡ Ok (numbers [] l)
  unfolding lowering Rattle.sqlite_resolve.specs.Write.deleted
  cleared_is = refl

  clear_runs : program schema [] (numbers [] l) ≡ Ok (runs (numbers [] l))
  unfolding everything
  clear_runs = rw (it.not_high, it.alone) refl

  pub cell_clear_is : understood schema cell_clear_text ≡ Ok (does cell_clear_parsed (Delete at (runs (numbers [] l))))
  unfolding lowering understood
  cell_clear_is = rw (cell_clear_first, it.named, it.placed, cleared_is, clear_runs) refl

  select_runs : program schema [] (cell_selects l) ≡ Ok (runs (cell_selects l))
  unfolding everything
  select_runs = rw (it.not_high, it.alone) refl

  abbrev shown_columns : List Shown
  shown_columns = shows (codes "rowid") ∷ shows (codes "tbl") ∷ shows (codes "id") ∷ shows (codes "col") ∷ shows (codes "body") ∷ []

  abbrev shown_table : ast_select.Select
  shown_table = selection shown_columns (codes "cell")

  abbrev core : ast_core.Core
  core = core_of shown_columns (codes "cell")

  abbrev source : ast_source.Source
  source = source_of (codes "cell")

  abbrev place : Bound
  place = record { name = codes "cell"; table = at; slot = 1; shared = [] }

  abbrev out : List ℕ → ℕ → Carried → Output
  out name at carried = record { name = name; is_alias = false; is_column = true; term = col 1 at; carried = carried }

  abbrev outs : List Output
  outs = out (codes "rowid") 0 free_carried ∷ out (codes "tbl") 1 plain_carried ∷ out (codes "id") 2 plain_carried ∷ out (codes "col") 3 plain_carried ∷ out (codes "body") 4 plain_carried ∷ []

  abbrev after : ℕ → State
  after n = record { next = 2; steps = []; aggregates = []; budget = max_budget - n; written = None; last = plain_carried }

  bounds_is : bounds schema (source ∷ []) (fresh 1 max_budget) ≡ Ok (place ∷ [], fresh 2 max_budget)
  unfolding lowering
  bounds_is = rw table_is refl

  abbrev level : List Output → Level
  level shown = record { tables = place ∷ []; shown = shown }

  result_is : result lower (outermost schema) (level []) core (fresh 2 max_budget) ≡ Ok (outs, after 5)
  unfolding lowering
  result_is = rw (column_rowid, heading_rowid, column_tbl, heading_tbl, column_id, heading_id, column_col, heading_col, column_body, heading_body) refl

  matching_is : matching lower (outermost schema) (level outs) core (after 5) ≡ Ok (record { steps = Inner l ∷ []; filter = [] }, after 5)
  unfolding lowering
  matching_is = rw it.placed refl

  abbrev whole : Body
  whole = record { level = level outs; steps = Inner l ∷ []; filter = [] }

  body_is : body lower (outermost schema) core (fresh 1 max_budget) ≡ Ok (whole, after 5)
  unfolding written_parts Rattle.sqlite_resolve.specs.Body.body
  body_is = rw (bounds_is, result_is, matching_is) refl

  abbrev page : Term × Term
  page = (lit (Int (negsuc 0)), lit (Int (pos 0)))

  abbrev clauses : Clauses
  clauses = record { body = whole; is_grouped = false; keys = []; collations = []; having = []; order = [] }

  parts_is : parts schema core [] (fresh 1 max_budget) ≡ Ok (clauses, after 5)
  unfolding written_parts Rattle.sqlite_resolve.specs.Select.parts Rattle.sqlite_resolve.specs.Order.keys Rattle.sqlite_resolve.specs.Order.sorts Rattle.sqlite_resolve.specs.Select.having Rattle.sqlite_resolve.specs.Body.tests
  parts_is = rw body_is refl

  abbrev columns : List (List ℕ)
  columns = codes "rowid" ∷ codes "tbl" ∷ codes "id" ∷ codes "col" ∷ codes "body" ∷ []

  abbrev carried : List (Option Collation)
  carried = None ∷ Some Binary ∷ Some Binary ∷ Some Binary ∷ Some Binary ∷ []

  named_is : resolved.named schema core [] page ≡ Ok (cell_selects l, columns, carried)
  unfolding written_parts Rattle.sqlite_resolve.specs.Select.named Rattle.sqlite_resolve.specs.Select.assembled Rattle.sqlite_resolve.specs.Select.ungrouped
  named_is = rw parts_is refl

  viewing_is : (q : Schema → ast_select.Select → Building Query) → viewing q schema core [] page 64 schema [] ≡ Ok (((cell_selects l, columns, carried), schema), [])
  unfolding Rattle.sqlite_resolve.specs.Program.viewing
  viewing_is q = subst (λ r. or_view q (viewing q schema core [] page 63) schema schema r [] ≡ Ok (((cell_selects l, columns, carried), schema), [])) (sym named_is) refl

  alone_is : (q : Schema → ast_select.Select → Building Query) → alone q schema core [] page [] ≡ Ok ((cell_selects l, columns, carried), [])
  unfolding written_parts Rattle.sqlite_resolve.specs.Program.alone Rattle.sqlite_resolve.specs.Program.single Rattle.sqlite_resolve.specs.Program.sources Rattle.sqlite_resolve.specs.Program.source
  alone_is q = rw viewing_is refl

  paging_is : paging schema shown_table ≡ Ok page
  unfolding lowering
  paging_is = refl

  level_is : (q : Schema → ast_select.Select → Building Query) → program_level q schema shown_table [] ≡ Ok ((cell_selects l, columns, carried), [])
  unfolding written_parts Rattle.sqlite_resolve.specs.Program.level Rattle.sqlite_resolve.specs.Program.with Rattle.sqlite_resolve.specs.Program.whole
  level_is q = rw (paging_is, alone_is) refl

  select_drafts : query schema shown_table ≡ Ok ((cell_selects l, columns, carried), [])
  unfolding Rattle.sqlite_resolve.specs.Program.query Rattle.sqlite_resolve.specs.Program.query_to
  select_drafts = level_is (query_to 15)

  pub cell_select_is : understood schema cell_select_text ≡ Ok (does cell_select_parsed (Select (runs (cell_selects l)) (codes "rowid" ∷ codes "tbl" ∷ codes "id" ∷ codes "col" ∷ codes "body" ∷ [])))
  unfolding lowering understood Rattle.sqlite_resolve.specs.Compile.read
  cell_select_is = rw (cell_select_first, select_drafts, select_runs) refl

  pub cell_select_listed : reads_listing schema cell_select_text ≡ false
  unfolding lowering Rattle.sqlite_resolve.specs.Compile.read
  cell_select_listed = rw (cell_select_first, select_drafts, select_runs) refl

  -- ---- the cells of a key

  abbrev key_columns : List Shown
  key_columns = shows (codes "col") ∷ shows (codes "body") ∷ []

  abbrev key_core : ast_core.Core
  key_core = core_where key_columns (codes "cell") (Some key_test)

  abbrev key_outs : List Output
  key_outs = out (codes "col") 3 plain_carried ∷ out (codes "body") 4 plain_carried ∷ []

  key_result : result lower (outermost schema) (level []) key_core (fresh 2 max_budget) ≡ Ok (key_outs, after 2)
  unfolding lowering
  key_result = rw (column_col, heading_col, column_body, heading_body) refl

  abbrev tested : State
  tested = record { next = 2; steps = []; aggregates = []; budget = max_budget - 9; written = None; last = free_carried }

  key_matching : matching lower (outermost schema) (level key_outs) key_core (after 2) ≡ Ok (record { steps = Inner l ∷ []; filter = key_terms }, tested)
  unfolding lowering
  key_matching = rw (it.placed, column_tbl, affinity_tbl, affinity_one, column_id, affinity_id, affinity_two) refl

  abbrev key_whole : Body
  key_whole = record { level = level key_outs; steps = Inner l ∷ []; filter = key_terms }

  key_body : body lower (outermost schema) key_core (fresh 1 max_budget) ≡ Ok (key_whole, tested)
  unfolding written_parts Rattle.sqlite_resolve.specs.Body.body
  key_body = rw (bounds_is, key_result, key_matching) refl

  abbrev key_clauses : Clauses
  key_clauses = record { body = key_whole; is_grouped = false; keys = []; collations = []; having = []; order = [] }

  key_parts : parts schema key_core [] (fresh 1 max_budget) ≡ Ok (key_clauses, tested)
  unfolding written_parts Rattle.sqlite_resolve.specs.Select.parts Rattle.sqlite_resolve.specs.Order.keys Rattle.sqlite_resolve.specs.Order.sorts Rattle.sqlite_resolve.specs.Select.having Rattle.sqlite_resolve.specs.Body.tests
  key_parts = rw key_body refl

  abbrev key_names : List (List ℕ)
  key_names = codes "col" ∷ codes "body" ∷ []

  abbrev key_carried : List (Option Collation)
  key_carried = Some Binary ∷ Some Binary ∷ []

  key_named : resolved.named schema key_core [] page ≡ Ok (key_selects l, key_names, key_carried)
  unfolding written_parts Rattle.sqlite_resolve.specs.Select.named Rattle.sqlite_resolve.specs.Select.assembled Rattle.sqlite_resolve.specs.Select.ungrouped
  key_named = rw key_parts refl

  key_viewing : (q : Schema → ast_select.Select → Building Query) → viewing q schema key_core [] page 64 schema [] ≡ Ok (((key_selects l, key_names, key_carried), schema), [])
  unfolding Rattle.sqlite_resolve.specs.Program.viewing
  key_viewing q = subst (λ r. or_view q (viewing q schema key_core [] page 63) schema schema r [] ≡ Ok (((key_selects l, key_names, key_carried), schema), [])) (sym key_named) refl

  key_alone : (q : Schema → ast_select.Select → Building Query) → alone q schema key_core [] page [] ≡ Ok ((key_selects l, key_names, key_carried), [])
  unfolding written_parts Rattle.sqlite_resolve.specs.Program.alone Rattle.sqlite_resolve.specs.Program.single Rattle.sqlite_resolve.specs.Program.sources Rattle.sqlite_resolve.specs.Program.source
  key_alone q = rw key_viewing refl

  key_paging : paging schema (selection_of key_core) ≡ Ok page
  unfolding lowering
  key_paging = refl

  key_level : (q : Schema → ast_select.Select → Building Query) → program_level q schema (selection_of key_core) [] ≡ Ok ((key_selects l, key_names, key_carried), [])
  unfolding written_parts Rattle.sqlite_resolve.specs.Program.level Rattle.sqlite_resolve.specs.Program.with Rattle.sqlite_resolve.specs.Program.whole
  key_level q = rw (key_paging, key_alone) refl

  key_drafts : query schema (selection_of key_core) ≡ Ok ((key_selects l, key_names, key_carried), [])
  unfolding Rattle.sqlite_resolve.specs.Program.query Rattle.sqlite_resolve.specs.Program.query_to
  key_drafts = key_level (query_to 15)

  key_runs : program schema [] (key_selects l) ≡ Ok (runs (key_selects l))
  unfolding everything
  key_runs = rw (it.not_high, it.alone) refl

  pub cells_of_is : understood schema cells_of_text ≡ Ok (does cells_of_parsed (Select (runs (key_selects l)) key_names))
  unfolding lowering understood Rattle.sqlite_resolve.specs.Compile.read
  cells_of_is = rw (cells_of_first, key_drafts, key_runs) refl

  pub cells_of_listed : reads_listing schema cells_of_text ≡ false
  unfolding lowering Rattle.sqlite_resolve.specs.Compile.read
  cells_of_listed = rw (cells_of_first, key_drafts, key_runs) refl
