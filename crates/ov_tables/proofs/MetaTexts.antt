-- What `sqlite` understands each text over `meta` as, wherever the table stands.
use Rattle.std.proofs.Common.{◌≡◌, ℕ, Bool, List, [], ◌∷◌, codes, false, true, Option, None, Some, Ok, refl, pos, negsuc}
use Rattle.sqlite.specs.Collation.TheVariants.{Binary}
use Rattle.sqlite.specs.declared.types.Value.TheVariants.{Int}
use Rattle.sqlite.specs.Term.{Term, lit, col}
use Rattle.sqlite_tied.specs.Compute.{everything}
use Rattle.sqlite.specs.Schema.{Schema}
use Rattle.sqlite_schema.specs.declared.command.Command.TheVariants.{Insert, Delete, Select}
use Rattle.sqlite_schema.specs.declared.command.Source.TheVariants.{Values}
use Rattle.sqlite_resolve.specs.declared.scope.Output.{Output}
use Rattle.sqlite_resolve.specs.declared.state.Carried.{Carried}
use Rattle.sqlite.specs.Listing.{understood, reads_listing}
use Rattle.sqlite_ast.specs.declared.Expr.TheVariants as expr
use Rattle.sqlite_ast.specs.declared.Rows.TheVariants as rows
use Rattle.sqlite_ast.specs.declared.Shown.{Shown}
use Rattle.sqlite_ast.specs.declared.Origin.TheVariants as origin
use Rattle.sqlite_ast.specs.declared.Select as ast_select
use Rattle.sqlite_ast.specs.declared.Core as ast_core
use Rattle.sqlite_ast.specs.declared.Source as ast_source
use Rattle.sqlite_resolve.specs.declared.state.State.{State}
use Rattle.ov_tables.proofs.Compiling.{lowering, written_parts}
use Rattle.sqlite_resolve.specs.Compile.{new_rows}
use Rattle.sqlite_resolve.specs.Body.{heading, table_in, bounds, result, matching, body}
use Rattle.sqlite_resolve.specs.Select.{outermost, parts, paging}
use Rattle.sqlite_resolve.specs.Select as resolved
use Rattle.sqlite_resolve.specs.Expr.{lower}
use Rattle.sqlite_resolve.specs.Program.{Building, Shown as Query, viewing, or_view, alone, query_to, level as program_level}
use Rattle.sqlite_resolve.specs.Lowering.{fresh, max_budget}
use Rattle.sqlite_resolve.specs.declared.scope.Bound.{Bound}
use Rattle.sqlite_resolve.specs.declared.scope.Level.{Level}
use Rattle.sqlite_resolve.specs.declared.body.Body.{Body}
use Rattle.sqlite_resolve.specs.declared.select.Clauses.{Clauses}
use Rattle.sqlite_draft.specs.declared.join.Step.TheVariants.{Inner}
use Rattle.sqlite.specs.Collation.{Collation}
use Rattle.std.proofs.Common.{◌-◌, subst, sym}
use Rattle.sqlite_resolve.specs.Program.{program, query}
use Rattle.sqlite_resolve.specs.Scope.{Context, column}
use Rattle.sqlite_resolve.specs.Write.{deleted}
use Rattle.ov_tables.specs.Tables.{meta_table, meta_insert_text, meta_select_text, meta_clear_text}
use Rattle.ov_tables.proofs.TableLemmas.{Stands}
use Rattle.ov_tables.proofs.Statements.{meta_insert_parsed, meta_select_parsed, meta_clear_parsed, meta_insert_first, meta_select_first, meta_clear_first, meta_selects, numbers, runs, named, shows, source_of, core_of, selection, does, plain_carried, free_carried, within, meta_insert_terms}

module _ (schema : Schema) (at l : ℕ) (it : Stands schema (meta_table l) at) where
  abbrev cx : List Output → Bool → Bool → Context
  cx = within schema at (codes "meta")

  column_k : (shown : List Output) (a b : Bool) (s : State) → column (cx shown a b) None (codes "k") s ≡ Ok (col 1 1, record s { last = plain_carried })
  unfolding everything
  column_k shown a b s = rw (it.placed, it.placed) refl

  heading_k : (shown : List Output) (a b : Bool) → heading (cx shown a b) (named (codes "k")) (codes "k") ≡ codes "k"
  unfolding everything
  heading_k shown a b = rw (it.placed, it.placed) refl

  column_v : (shown : List Output) (a b : Bool) (s : State) → column (cx shown a b) None (codes "v") s ≡ Ok (col 1 2, record s { last = plain_carried })
  unfolding everything
  column_v shown a b s = rw (it.placed, it.placed) refl

  heading_v : (shown : List Output) (a b : Bool) → heading (cx shown a b) (named (codes "v")) (codes "v") ≡ codes "v"
  unfolding everything
  heading_v shown a b = rw (it.placed, it.placed) refl

  column_rowid : (shown : List Output) (a b : Bool) (s : State) → column (cx shown a b) None (codes "rowid") s ≡ Ok (col 1 0, record s { last = free_carried })
  unfolding everything
  column_rowid shown a b s = rw (it.placed, it.low) refl

  heading_rowid : (shown : List Output) (a b : Bool) → heading (cx shown a b) (named (codes "rowid")) (codes "rowid") ≡ codes "rowid"
  unfolding everything
  heading_rowid shown a b = rw (it.placed, it.low, it.placed) refl

  table_is : (slot : ℕ) → table_in schema slot (origin.Table (codes "meta")) ≡ Ok (codes "meta", at)
  unfolding everything
  table_is slot = rw it.named refl

  new_rows_is : new_rows schema (meta_table l) 2 (codes "k" ∷ codes "v" ∷ []) (rows.Values ((expr.Parameter 1 ∷ expr.Parameter 2 ∷ []) ∷ [])) ≡ Ok (Values meta_insert_terms 3)
  unfolding everything
  new_rows_is = refl

  pub meta_insert_is : understood schema meta_insert_text ≡ Ok (does meta_insert_parsed (Insert at (Values meta_insert_terms 3)))
  unfolding lowering understood
  meta_insert_is = rw (meta_insert_first, it.named, it.placed, new_rows_is) refl

  cleared_is : deleted schema at (meta_table l) None ≡ Ok (numbers [] l)
  unfolding lowering Rattle.sqlite_resolve.specs.Write.deleted
  cleared_is = refl

  clear_runs : program schema [] (numbers [] l) ≡ Ok (runs (numbers [] l))
  unfolding everything
  clear_runs = rw (it.not_high, it.alone) refl

  pub meta_clear_is : understood schema meta_clear_text ≡ Ok (does meta_clear_parsed (Delete at (runs (numbers [] l))))
  unfolding lowering understood
  meta_clear_is = rw (meta_clear_first, it.named, it.placed, cleared_is, clear_runs) refl

  select_runs : program schema [] (meta_selects l) ≡ Ok (runs (meta_selects l))
  unfolding everything
  select_runs = rw (it.not_high, it.alone) refl

  abbrev shown_columns : List Shown
  shown_columns = shows (codes "rowid") ∷ shows (codes "k") ∷ shows (codes "v") ∷ []

  abbrev shown_table : ast_select.Select
  shown_table = selection shown_columns (codes "meta")

  abbrev core : ast_core.Core
  core = core_of shown_columns (codes "meta")

  abbrev source : ast_source.Source
  source = source_of (codes "meta")

  abbrev place : Bound
  place = record { name = codes "meta"; table = at; slot = 1; shared = [] }

  abbrev out : List ℕ → ℕ → Carried → Output
  out name at carried = record { name = name; is_alias = false; is_column = true; term = col 1 at; carried = carried }

  abbrev outs : List Output
  outs = out (codes "rowid") 0 free_carried ∷ out (codes "k") 1 plain_carried ∷ out (codes "v") 2 plain_carried ∷ []

  abbrev after : ℕ → State
  after n = record { next = 2; steps = []; aggregates = []; budget = max_budget - n; written = None; last = plain_carried }

  bounds_is : bounds schema (source ∷ []) (fresh 1 max_budget) ≡ Ok (place ∷ [], fresh 2 max_budget)
  unfolding lowering
  bounds_is = rw table_is refl

  abbrev level : List Output → Level
  level shown = record { tables = place ∷ []; shown = shown }

  result_is : result lower (outermost schema) (level []) core (fresh 2 max_budget) ≡ Ok (outs, after 3)
  unfolding lowering
  result_is = rw (column_rowid, heading_rowid, column_k, heading_k, column_v, heading_v) refl

  matching_is : matching lower (outermost schema) (level outs) core (after 3) ≡ Ok (record { steps = Inner l ∷ []; filter = [] }, after 3)
  unfolding lowering
  matching_is = rw it.placed refl

  abbrev whole : Body
  whole = record { level = level outs; steps = Inner l ∷ []; filter = [] }

  body_is : body lower (outermost schema) core (fresh 1 max_budget) ≡ Ok (whole, after 3)
  unfolding written_parts Rattle.sqlite_resolve.specs.Body.body
  body_is = rw (bounds_is, result_is, matching_is) refl

  abbrev page : Term × Term
  page = (lit (Int (negsuc 0)), lit (Int (pos 0)))

  abbrev clauses : Clauses
  clauses = record { body = whole; is_grouped = false; keys = []; collations = []; having = []; order = [] }

  parts_is : parts schema core [] (fresh 1 max_budget) ≡ Ok (clauses, after 3)
  unfolding written_parts Rattle.sqlite_resolve.specs.Select.parts Rattle.sqlite_resolve.specs.Order.keys Rattle.sqlite_resolve.specs.Order.sorts Rattle.sqlite_resolve.specs.Select.having Rattle.sqlite_resolve.specs.Body.tests
  parts_is = rw body_is refl

  abbrev columns : List (List ℕ)
  columns = codes "rowid" ∷ codes "k" ∷ codes "v" ∷ []

  abbrev carried : List (Option Collation)
  carried = None ∷ Some Binary ∷ Some Binary ∷ []

  named_is : resolved.named schema core [] page ≡ Ok (meta_selects l, columns, carried)
  unfolding written_parts Rattle.sqlite_resolve.specs.Select.named Rattle.sqlite_resolve.specs.Select.assembled Rattle.sqlite_resolve.specs.Select.ungrouped
  named_is = rw parts_is refl

  viewing_is : (q : Schema → ast_select.Select → Building Query) → viewing q schema core [] page 64 schema [] ≡ Ok (((meta_selects l, columns, carried), schema), [])
  unfolding Rattle.sqlite_resolve.specs.Program.viewing
  viewing_is q = subst (λ r. or_view q (viewing q schema core [] page 63) schema schema r [] ≡ Ok (((meta_selects l, columns, carried), schema), [])) (sym named_is) refl

  alone_is : (q : Schema → ast_select.Select → Building Query) → alone q schema core [] page [] ≡ Ok ((meta_selects l, columns, carried), [])
  unfolding written_parts Rattle.sqlite_resolve.specs.Program.alone Rattle.sqlite_resolve.specs.Program.single Rattle.sqlite_resolve.specs.Program.sources Rattle.sqlite_resolve.specs.Program.source
  alone_is q = rw viewing_is refl

  paging_is : paging schema shown_table ≡ Ok page
  unfolding lowering
  paging_is = refl

  level_is : (q : Schema → ast_select.Select → Building Query) → program_level q schema shown_table [] ≡ Ok ((meta_selects l, columns, carried), [])
  unfolding written_parts Rattle.sqlite_resolve.specs.Program.level Rattle.sqlite_resolve.specs.Program.with Rattle.sqlite_resolve.specs.Program.whole
  level_is q = rw (paging_is, alone_is) refl

  select_drafts : query schema shown_table ≡ Ok ((meta_selects l, columns, carried), [])
  unfolding Rattle.sqlite_resolve.specs.Program.query Rattle.sqlite_resolve.specs.Program.query_to
  select_drafts = level_is (query_to 15)

  pub meta_select_is : understood schema meta_select_text ≡ Ok (does meta_select_parsed (Select (runs (meta_selects l)) (codes "rowid" ∷ codes "k" ∷ codes "v" ∷ [])))
  unfolding lowering understood Rattle.sqlite_resolve.specs.Compile.read
  meta_select_is = rw (meta_select_first, select_drafts, select_runs) refl

  pub meta_select_listed : reads_listing schema meta_select_text ≡ false
  unfolding lowering Rattle.sqlite_resolve.specs.Compile.read
  meta_select_listed = rw (meta_select_first, select_drafts, select_runs) refl
