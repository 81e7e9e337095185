-- What an open makes of a keeper, path by path.
use Rattle.std.proofs.Common.{◌≡◌, ◌≢◌, ◌≤◌, ◌==◌, ◌&&◌, ℕ, Bool, true, false, Option, Some, None, refl, sym, ap, subst, ◌∙◌, arith}
use Rattle.std.proofs.lemmas.Bool.{cases_lt}
use Rattle.std.proofs.lemmas.Bool.Decides.{nat_tests}
use mathlib.Core.Logic.{◌⊎◌, inl, inr}
use Rattle.std.specs.Prelude.{Ok}
use Rattle.serde_json.specs.Written.{compact_text}
use Rattle.ov_specs.specs.conversion.Converted.{stored_of}
use Rattle.ov_specs.specs.integrity.Committed.{is_whole}
use Rattle.ov_specs.specs.rows.Cells.{Stored, StoredLines, Whole, InCells, format_of}
use Rattle.ov_specs.specs.rows.Database.{Database}
use Rattle.ov_specs.specs.schema.SchemaTypes.{Schema}
use Rattle.ov_specs.specs.values.Uuid.{Uuid}
use Rattle.ov_keeper.specs.declared.fault.KeepFault.{KeepFault}
use Rattle.ov_keeper.specs.declared.fault.KeepFault.TheVariants as keeping
use Rattle.ov_keeper.specs.declared.keeper.Keeper.{Ghosts}
use Rattle.ov_keeper.specs.Keeping.{HasFailed, IsCommitFault, IsLoadFault, LeavesMade, LeavesNoMore, LeavesRefused}
use Rattle.ov_stored.specs.declared.fault.OpenFault.{OpenFault}
use Rattle.ov_stored.specs.declared.fault.OpenFault.TheVariants.{SchemaDiffers, Keeping}
use Rattle.ov_db.specs.Opening.{IsOutdated, IsOpeningRefused, IsRenewed, opens_as}
use Rattle.ov_db.specs.OpensFrom.{OpensFrom, RefusesFrom}
use Rattle.ov_stored.specs.Stored.{KeepsRows}
use Rattle.ov_db.proofs.Answers.{current_stored, keeps_as, kind_as, load_commits, no_device, own_text, reads_only, tells}
use Rattle.ov_db.proofs.Keeping.{sealed_none}

-- a failure after a count that has not fallen
pub failed_since : (old mid new : ℕ) → old ≤ mid → mid ≤ new → HasFailed mid new → HasFailed old new
failed_since old mid new rises rose failed = elim (cases_lt old new) [
  | inl more ↦ inl more
  | inr same ↦ elim failed [
    | inl more ↦ absurd (omega (arith, more, same, rises))
    | inr most ↦ inr (omega (arith, most, same, rises, rose))
  ]
]

pub two_is : (n : ℕ) → (n == 2) ≡ true → n ≡ 2
two_is n h = grind (arith, nat_tests)

keeps_not_differs : (fault : KeepFault) → Keeping fault ≡ SchemaDiffers → ⊥
keeps_not_differs fault e = cc

device_is : (fault : KeepFault) → Keeping fault ≡ Keeping keeping.Device → fault ≡ keeping.Device
device_is fault e = cc

-- what a load of the keeper shows, where it has loaded this
pub record Loads {K : Type 0} (k : Ghosts K) (old new : K) (loaded : Stored) : Type 0 where
  pub ok : k.is_honest new → (held : Stored) → k.leaves old held → held ≡ loaded
  pub same : k.is_honest new → LeavesNoMore (k.leaves old) (k.leaves new)
  pub same_format : k.format new ≡ k.format old
  pub of_format : k.is_honest new → format_of loaded.lines ≡ k.format new
  pub counts : k.failed old ≤ k.failed new
  pub honest : k.is_honest new → k.is_honest old

-- ---- the load failed

module _ {K : Type 0} (k : Ghosts K) (schema : Schema) (version : Option Uuid) (old new : K) where
  pub unread : (fault : KeepFault) → IsLoadFault fault → (k.is_honest new → LeavesNoMore (k.leaves old) (k.leaves new)) → k.format new ≡ k.format old → (fault ≡ keeping.Device → HasFailed (k.failed old) (k.failed new))
      → k.failed old ≤ k.failed new → (k.is_honest new → k.is_honest old) → RefusesFrom k schema version old new (Keeping fault)
  unread fault kind same format cause counts honest = record {
    format = format;
    kinds = keeps_as version fault (load_commits fault kind);
    read_kinds = λ none now two. kind;
    tells = λ now held here. tt;
    left = λ now found here. inl (same now found here);
    one = λ now e. absurd (keeps_not_differs fault e);
    cause = λ e. cause (device_is fault e);
    counts = counts;
    honest = honest;
  }

-- ---- something was loaded

module _ {K : Type 0} (k : Ghosts K) (schema : Schema) (version : Option Uuid) (old mid : K) (loaded : Stored) (loads : Loads k old mid loaded) where
  -- what was loaded is refused
  pub refused : (fault : OpenFault) → IsOpeningRefused (opens_as schema version loaded) fault → RefusesFrom k schema version old mid fault
  refused fault is = record {
    format = loads.same_format;
    kinds = kind_as schema version loaded fault is;
    read_kinds = λ none now two. reads_only (opens_as schema version loaded) fault is;
    tells = λ now held here. tells (opens_as schema version held) fault (subst (λ (s : Stored). IsOpeningRefused (opens_as schema version s) fault) (sym (loads.ok now held here)) is);
    left = λ now found here. inl (loads.same now found here);
    one = λ now e a b is_a is_b. loads.ok now a is_a ∙ sym (loads.ok now b is_b);
    cause = λ e. absurd (no_device (opens_as schema version loaded) fault is e);
    counts = loads.counts;
    honest = loads.honest;
  }

  module _ (database : Database) (opens : opens_as schema version loaded ≡ Ok database) (whole : is_whole schema database ≡ true) where
    opens_held : k.is_honest mid → (held : Stored) → k.leaves old held → opens_as schema version held ≡ Ok database
    opens_held now held here = subst (λ (s : Stored). opens_as schema version s ≡ Ok database) (sym (loads.ok now held here)) opens

    -- it is current, and nothing is written
    pub current : loaded.schema ≡ compact_text schema.tree → format_of loaded.lines ≡ 2 → k.format mid ≡ 2 → KeepsRows schema database → OpensFrom k schema version old mid database
    current same in_cells format kept = record {
      format = format;
      kept = sealed_none schema database kept whole;
      held = opens_held;
      left = λ now found here. inl (loads.same now found here);
      found = λ now held here. inl (loads.ok now held (loads.same now held here) ∙ current_stored schema version loaded database same in_cells opens);
      honest = loads.honest;
    }

    -- ---- it is written anew

    module _ (new : K) (has_text : Bool) (is_text : (has_text ≡ true → loaded.schema ≡ compact_text schema.tree) × (loaded.schema ≡ compact_text schema.tree → has_text ≡ true))
        (not_current : (has_text && (format_of loaded.lines == 2 && k.format mid == 2)) ≡ false) (honest : k.is_honest new → k.is_honest mid) where
      outdated : k.is_honest mid → IsOutdated schema loaded
      outdated now = by has_text refl not_current
        where
          by_lines : (lines : StoredLines) → format_of lines ≡ k.format mid → (format_of lines == 2 && k.format mid == 2) ≡ false → (format_of lines ≡ 1) ⊎ (loaded.schema ≢ compact_text schema.tree)
          by_lines (Whole lines) of_format h = inl refl
          by_lines (InCells lines) of_format h = absurd (no (sym (ap (λ n. n == 2) (sym of_format)) ∙ h))
            where
              no : true ≡ false → ⊥
              no e = cc

          differs : has_text ≡ false → loaded.schema ≢ compact_text schema.tree
          differs is same = no (sym is ∙ is_text.1 same)
            where
              no : false ≡ true → ⊥
              no e = cc

          by : (t : Bool) → has_text ≡ t → (t && (format_of loaded.lines == 2 && k.format mid == 2)) ≡ false → IsOutdated schema loaded
          by false is h = inr (differs is)
          by true is h = by_lines loaded.lines (loads.of_format now) h

      renewed : k.is_honest mid → (found : Stored) → ((before : Stored) × k.leaves mid before × (found ≡ stored_of schema database)) → IsRenewed (k.leaves old) (opens_as schema version) schema database found
      renewed now found from =
          let was = loads.same now from.0 from.1 in
          record {
            before = from.0;
            was = was;
            outdated = subst (IsOutdated schema) (sym (loads.ok now from.0 was)) (outdated now);
            opened = opens_held now from.0 was;
            now = from.2;
          }

      pub written : k.format new ≡ 2 → KeepsRows schema database → (k.is_honest new → LeavesMade (λ _. stored_of schema database) (k.leaves mid) (k.leaves new)) → OpensFrom k schema version old new database
      written format kept made = record {
        format = format;
        kept = sealed_none schema database kept whole;
        held = λ now. opens_held (honest now);
        left = λ now found here. inr (renewed (honest now) found (made now found here));
        found = λ now held here. inl (made now held here).2;
        honest = λ now. loads.honest (honest now);
      }

      left_unwritten : (fault : KeepFault) → k.is_honest mid → LeavesRefused (λ _. stored_of schema database) (k.leaves mid) (k.leaves new) fault → (found : Stored) → k.leaves new found
          → k.leaves old found ⊎ ((Keeping fault ≡ Keeping keeping.Device) × ((database : Database) × IsRenewed (k.leaves old) (opens_as schema version) schema database found))
      left_unwritten keeping.Memory now left found here = inl (loads.same now found (left found here))
      left_unwritten keeping.TooLarge now left found here = inl (loads.same now found (left found here))
      left_unwritten keeping.NotOurs now left found here = absurd left
      left_unwritten keeping.Format now left found here = absurd left
      left_unwritten keeping.Device now left found here =
          elim (left found here) as (λ _. k.leaves old found ⊎ ((Keeping keeping.Device ≡ Keeping keeping.Device) × ((database : Database) × IsRenewed (k.leaves old) (opens_as schema version) schema database found))) [
            | inl same ↦ inl (loads.same now found same)
            | inr from ↦ inr (refl, (database, renewed now found from))
          ]

      -- over a keeper of format 2, an open without a conversion writes nothing
      never_written : (v : Option Uuid) → opens_as schema v loaded ≡ Ok database → v ≡ None → k.is_honest mid → k.format old ≡ 2 → ⊥
      never_written (Some version) is none now two = cc
      never_written None is none now two = elim (outdated now) [
        | inl one ↦ absurd (omega (arith, one, loads.of_format now, loads.same_format, two))
        | inr differs ↦ differs (own_text schema loaded database is)
      ]

      pub unwritten : (fault : KeepFault) → k.format new ≡ k.format mid → IsCommitFault fault → (k.is_honest new → LeavesRefused (λ _. stored_of schema database) (k.leaves mid) (k.leaves new) fault)
          → (fault ≡ keeping.Device → HasFailed (k.failed mid) (k.failed new)) → k.failed mid ≤ k.failed new → RefusesFrom k schema version old new (Keeping fault)
      unwritten fault format kind left cause counts = record {
        format = format ∙ loads.same_format;
        kinds = keeps_as version fault kind;
        read_kinds = λ none now two. absurd (never_written version opens none (honest now) two);
        tells = λ now held here. tt;
        left = λ now. left_unwritten fault (honest now) (left now);
        one = λ now e. absurd (keeps_not_differs fault e);
        cause = λ e. failed_since (k.failed old) (k.failed mid) (k.failed new) loads.counts counts (cause (device_is fault e));
        counts = omega (arith, loads.counts, counts);
        honest = λ now. loads.honest (honest now);
      }
