-- What `sqlite` understands each text over `head` as, wherever the table stands.
use Rattle.std.proofs.Common.{◌≡◌, ℕ, Bool, List, [], ◌∷◌, codes, false, true, Option, None, Some, Ok, refl, pos, negsuc}
use Rattle.sqlite.specs.Collation.TheVariants.{Binary}
use Rattle.sqlite.specs.declared.types.Value.TheVariants.{Int}
use Rattle.sqlite.specs.Term.{Term, lit, col}
use Rattle.sqlite_tied.specs.Compute.{everything}
use Rattle.sqlite.specs.Schema.{Schema}
use Rattle.sqlite_schema.specs.declared.command.Command.TheVariants.{Insert, Update, Delete, Select}
use Rattle.sqlite_schema.specs.declared.command.Source.TheVariants.{Values}
use Rattle.sqlite_resolve.specs.declared.scope.Output.{Output}
use Rattle.sqlite_resolve.specs.declared.state.Carried.{Carried}
use Rattle.sqlite.specs.Listing.{understood, reads_listing}
use Rattle.sqlite_ast.specs.declared.Expr.TheVariants as expr
use Rattle.sqlite_ast.specs.declared.Rows.TheVariants as rows
use Rattle.sqlite_ast.specs.declared.Shown.{Shown}
use Rattle.sqlite_ast.specs.declared.Origin.TheVariants as origin
use Rattle.sqlite_ast.specs.declared.Select as ast_select
use Rattle.sqlite_ast.specs.declared.Core as ast_core
use Rattle.sqlite_ast.specs.declared.Source as ast_source
use Rattle.sqlite_resolve.specs.declared.state.State.{State}
use Rattle.ov_tables.proofs.Compiling.{lowering, written_parts}
use Rattle.sqlite_resolve.specs.Compile.{new_rows}
use Rattle.sqlite_resolve.specs.Body.{heading, table_in, bounds, result, matching, body}
use Rattle.sqlite_resolve.specs.Select.{outermost, parts, paging}
use Rattle.sqlite_resolve.specs.Select as resolved
use Rattle.sqlite_resolve.specs.Expr.{lower}
use Rattle.sqlite_resolve.specs.Program.{Building, Shown as Query, viewing, or_view, alone, query_to, level as program_level}
use Rattle.sqlite_resolve.specs.Lowering.{fresh, max_budget}
use Rattle.sqlite_resolve.specs.declared.scope.Bound.{Bound}
use Rattle.sqlite_resolve.specs.declared.scope.Level.{Level}
use Rattle.sqlite_resolve.specs.declared.body.Body.{Body}
use Rattle.sqlite_resolve.specs.declared.select.Clauses.{Clauses}
use Rattle.sqlite_draft.specs.declared.join.Step.TheVariants.{Inner}
use Rattle.sqlite.specs.Collation.{Collation}
use Rattle.std.proofs.Common.{◌-◌, subst, sym}
use Rattle.sqlite_resolve.specs.Program.{program, query}
use Rattle.sqlite_resolve.specs.Scope.{Context, column}
use Rattle.sqlite_resolve.specs.Compare.{affinity_of}
use Rattle.sqlite_resolve.specs.declared.compare.Affinity.TheVariants as affinity
use Rattle.sqlite_resolve.specs.Write.{updated, deleted}
use Rattle.ov_tables.specs.Tables.{head_table, head_insert_text, head_select_text, head_clear_text, head_delete_text, head_update_text}
use Rattle.ov_tables.proofs.TableLemmas.{Stands}
use Rattle.ov_tables.proofs.Statements.{head_insert_parsed, head_select_parsed, head_clear_parsed, head_delete_parsed, head_update_parsed, head_insert_first, head_select_first, head_clear_first, head_delete_first, head_update_first, head_selects, numbers, changes, runs, named, shows, source_of, core_of, selection, does, plain_carried, free_carried, within, head_insert_terms, head_update_terms, key_test, key_terms}

module _ (schema : Schema) (at l : ℕ) (it : Stands schema (head_table l) at) where
  abbrev cx : List Output → Bool → Bool → Context
  cx = within schema at (codes "head")

  column_tbl : (shown : List Output) (a b : Bool) (s : State) → column (cx shown a b) None (codes "tbl") s ≡ Ok (col 1 1, record s { last = plain_carried })
  unfolding everything
  column_tbl shown a b s = rw (it.placed, it.placed) refl

  heading_tbl : (shown : List Output) (a b : Bool) → heading (cx shown a b) (named (codes "tbl")) (codes "tbl") ≡ codes "tbl"
  unfolding everything
  heading_tbl shown a b = rw (it.placed, it.placed) refl

  column_id : (shown : List Output) (a b : Bool) (s : State) → column (cx shown a b) None (codes "id") s ≡ Ok (col 1 2, record s { last = plain_carried })
  unfolding everything
  column_id shown a b s = rw (it.placed, it.placed) refl

  heading_id : (shown : List Output) (a b : Bool) → heading (cx shown a b) (named (codes "id")) (codes "id") ≡ codes "id"
  unfolding everything
  heading_id shown a b = rw (it.placed, it.placed) refl

  column_ver : (shown : List Output) (a b : Bool) (s : State) → column (cx shown a b) None (codes "ver") s ≡ Ok (col 1 3, record s { last = plain_carried })
  unfolding everything
  column_ver shown a b s = rw (it.placed, it.placed) refl

  heading_ver : (shown : List Output) (a b : Bool) → heading (cx shown a b) (named (codes "ver")) (codes "ver") ≡ codes "ver"
  unfolding everything
  heading_ver shown a b = rw (it.placed, it.placed) refl

  column_rowid : (shown : List Output) (a b : Bool) (s : State) → column (cx shown a b) None (codes "rowid") s ≡ Ok (col 1 0, record s { last = free_carried })
  unfolding everything
  column_rowid shown a b s = rw (it.placed, it.low) refl

  heading_rowid : (shown : List Output) (a b : Bool) → heading (cx shown a b) (named (codes "rowid")) (codes "rowid") ≡ codes "rowid"
  unfolding everything
  heading_rowid shown a b = rw (it.placed, it.low, it.placed) refl

  table_is : (slot : ℕ) → table_in schema slot (origin.Table (codes "head")) ≡ Ok (codes "head", at)
  unfolding everything
  table_is slot = rw it.named refl

  affinity_tbl : (shown : List Output) (a b : Bool) → affinity_of (cx shown a b) (col 1 1) ≡ affinity.Text
  unfolding everything
  affinity_tbl shown a b = rw it.placed refl

  affinity_id : (shown : List Output) (a b : Bool) → affinity_of (cx shown a b) (col 1 2) ≡ affinity.Blob
  unfolding everything
  affinity_id shown a b = rw it.placed refl

  affinity_one : (shown : List Output) (a b : Bool) → affinity_of (cx shown a b) (col 0 0) ≡ affinity.None
  unfolding everything
  affinity_one shown a b = refl

  affinity_two : (shown : List Output) (a b : Bool) → affinity_of (cx shown a b) (col 0 1) ≡ affinity.None
  unfolding everything
  affinity_two shown a b = refl

  deleted_is : deleted schema at (head_table l) (Some key_test) ≡ Ok (numbers key_terms l)
  unfolding lowering Rattle.sqlite_resolve.specs.Write.deleted
  deleted_is = rw (column_tbl, affinity_tbl, affinity_one, column_id, affinity_id, affinity_two) refl

  delete_runs : program schema [] (numbers key_terms l) ≡ Ok (runs (numbers key_terms l))
  unfolding everything
  delete_runs = rw (it.not_high, it.alone) refl

  pub head_delete_is : understood schema head_delete_text ≡ Ok (does head_delete_parsed (Delete at (runs (numbers key_terms l))))
  unfolding lowering understood
  head_delete_is = rw (head_delete_first, it.named, it.placed, deleted_is, delete_runs) refl

  updated_is : updated schema at (head_table l) ((codes "ver", expr.Parameter 3) ∷ []) (Some key_test) ≡ Ok (changes key_terms head_update_terms l)
  unfolding lowering Rattle.sqlite_resolve.specs.Write.updated
  updated_is = rw (column_tbl, affinity_tbl, affinity_one, column_id, affinity_id, affinity_two) refl

  update_runs : program schema [] (changes key_terms head_update_terms l) ≡ Ok (runs (changes key_terms head_update_terms l))
  unfolding everything
  update_runs = rw (it.not_high, it.alone) refl

  pub head_update_is : understood schema head_update_text ≡ Ok (does head_update_parsed (Update at (runs (changes key_terms head_update_terms l))))
  unfolding lowering understood
  head_update_is = rw (head_update_first, it.named, it.placed, updated_is, update_runs) refl

  new_rows_is : new_rows schema (head_table l) 3 (codes "tbl" ∷ codes "id" ∷ codes "ver" ∷ []) (rows.Values ((expr.Parameter 1 ∷ expr.Parameter 2 ∷ expr.Parameter 3 ∷ []) ∷ [])) ≡ Ok (Values head_insert_terms 4)
  unfolding everything
  new_rows_is = refl

  pub head_insert_is : understood schema head_insert_text ≡ Ok (does head_insert_parsed (Insert at (Values head_insert_terms 4)))
  unfolding lowering understood
  head_insert_is = rw (head_insert_first, it.named, it.placed, new_rows_is) refl

  cleared_is : deleted schema at (head_table l) None ≡ Ok (numbers [] l)
  unfolding lowering Rattle.sqlite_resolve.specs.Write.deleted
  cleared_is = refl

  clear_runs : program schema [] (numbers [] l) ≡ Ok (runs (numbers [] l))
  unfolding everything
  clear_runs = rw (it.not_high, it.alone) refl

  pub head_clear_is : understood schema head_clear_text ≡ Ok (does head_clear_parsed (Delete at (runs (numbers [] l))))
  unfolding lowering understood
  head_clear_is = rw (head_clear_first, it.named, it.placed, cleared_is, clear_runs) refl

  select_runs : program schema [] (head_selects l) ≡ Ok (runs (head_selects l))
  unfolding everything
  select_runs = rw (it.not_high, it.alone) refl

  abbrev shown_columns : List Shown
  shown_columns = shows (codes "rowid") ∷ shows (codes "tbl") ∷ shows (codes "id") ∷ shows (codes "ver") ∷ []

  abbrev shown_table : ast_select.Select
  shown_table = selection shown_columns (codes "head")

  abbrev core : ast_core.Core
  core = core_of shown_columns (codes "head")

  abbrev source : ast_source.Source
  source = source_of (codes "head")

  abbrev place : Bound
  place = record { name = codes "head"; table = at; slot = 1; shared = [] }

  abbrev out : List ℕ → ℕ → Carried → Output
  out name at carried = record { name = name; is_alias = false; is_column = true; term = col 1 at; carried = carried }

  abbrev outs : List Output
  outs = out (codes "rowid") 0 free_carried ∷ out (codes "tbl") 1 plain_carried ∷ out (codes "id") 2 plain_carried ∷ out (codes "ver") 3 plain_carried ∷ []

  abbrev after : ℕ → State
  after n = record { next = 2; steps = []; aggregates = []; budget = max_budget - n; written = None; last = plain_carried }

  bounds_is : bounds schema (source ∷ []) (fresh 1 max_budget) ≡ Ok (place ∷ [], fresh 2 max_budget)
  unfolding lowering
  bounds_is = rw table_is refl

  abbrev level : List Output → Level
  level shown = record { tables = place ∷ []; shown = shown }

  result_is : result lower (outermost schema) (level []) core (fresh 2 max_budget) ≡ Ok (outs, after 4)
  unfolding lowering
  result_is = rw (column_rowid, heading_rowid, column_tbl, heading_tbl, column_id, heading_id, column_ver, heading_ver) refl

  matching_is : matching lower (outermost schema) (level outs) core (after 4) ≡ Ok (record { steps = Inner l ∷ []; filter = [] }, after 4)
  unfolding lowering
  matching_is = rw it.placed refl

  abbrev whole : Body
  whole = record { level = level outs; steps = Inner l ∷ []; filter = [] }

  body_is : body lower (outermost schema) core (fresh 1 max_budget) ≡ Ok (whole, after 4)
  unfolding written_parts Rattle.sqlite_resolve.specs.Body.body
  body_is = rw (bounds_is, result_is, matching_is) refl

  abbrev page : Term × Term
  page = (lit (Int (negsuc 0)), lit (Int (pos 0)))

  abbrev clauses : Clauses
  clauses = record { body = whole; is_grouped = false; keys = []; collations = []; having = []; order = [] }

  parts_is : parts schema core [] (fresh 1 max_budget) ≡ Ok (clauses, after 4)
  unfolding written_parts Rattle.sqlite_resolve.specs.Select.parts Rattle.sqlite_resolve.specs.Order.keys Rattle.sqlite_resolve.specs.Order.sorts Rattle.sqlite_resolve.specs.Select.having Rattle.sqlite_resolve.specs.Body.tests
  parts_is = rw body_is refl

  abbrev columns : List (List ℕ)
  columns = codes "rowid" ∷ codes "tbl" ∷ codes "id" ∷ codes "ver" ∷ []

  abbrev carried : List (Option Collation)
  carried = None ∷ Some Binary ∷ Some Binary ∷ Some Binary ∷ []

  named_is : resolved.named schema core [] page ≡ Ok (head_selects l, columns, carried)
  unfolding written_parts Rattle.sqlite_resolve.specs.Select.named Rattle.sqlite_resolve.specs.Select.assembled Rattle.sqlite_resolve.specs.Select.ungrouped
  named_is = rw parts_is refl

  viewing_is : (q : Schema → ast_select.Select → Building Query) → viewing q schema core [] page 64 schema [] ≡ Ok (((head_selects l, columns, carried), schema), [])
  unfolding Rattle.sqlite_resolve.specs.Program.viewing
  viewing_is q = subst (λ r. or_view q (viewing q schema core [] page 63) schema schema r [] ≡ Ok (((head_selects l, columns, carried), schema), [])) (sym named_is) refl

  alone_is : (q : Schema → ast_select.Select → Building Query) → alone q schema core [] page [] ≡ Ok ((head_selects l, columns, carried), [])
  unfolding written_parts Rattle.sqlite_resolve.specs.Program.alone Rattle.sqlite_resolve.specs.Program.single Rattle.sqlite_resolve.specs.Program.sources Rattle.sqlite_resolve.specs.Program.source
  alone_is q = rw viewing_is refl

  paging_is : paging schema shown_table ≡ Ok page
  unfolding lowering
  paging_is = refl

  level_is : (q : Schema → ast_select.Select → Building Query) → program_level q schema shown_table [] ≡ Ok ((head_selects l, columns, carried), [])
  unfolding written_parts Rattle.sqlite_resolve.specs.Program.level Rattle.sqlite_resolve.specs.Program.with Rattle.sqlite_resolve.specs.Program.whole
  level_is q = rw (paging_is, alone_is) refl

  select_drafts : query schema shown_table ≡ Ok ((head_selects l, columns, carried), [])
  unfolding Rattle.sqlite_resolve.specs.Program.query Rattle.sqlite_resolve.specs.Program.query_to
  select_drafts = level_is (query_to 15)

  pub head_select_is : understood schema head_select_text ≡ Ok (does head_select_parsed (Select (runs (head_selects l)) (codes "rowid" ∷ codes "tbl" ∷ codes "id" ∷ codes "ver" ∷ [])))
  unfolding lowering understood Rattle.sqlite_resolve.specs.Compile.read
  head_select_is = rw (head_select_first, select_drafts, select_runs) refl

  pub head_select_listed : reads_listing schema head_select_text ≡ false
  unfolding lowering Rattle.sqlite_resolve.specs.Compile.read
  head_select_listed = rw (head_select_first, select_drafts, select_runs) refl
