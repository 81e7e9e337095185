use Rattle.std.proofs.Common.{rules, ℕ, List, inl, inr, subst, sym, ◌∙◌}
use Rattle.ov_files.specs.Looking.{HasLogSize, HasSize}
use Rattle.ov_files.proofs.copies.read_both.Goals.{then-db_size-eq0, else-db_size-eq0+in_ok-lists_ours}
use Rattle.ov_files.proofs.copies.read_both.Goals as goal

pub returns-then-branch-clause-none : goal.returns-then-branch-clause-none
returns-then-branch-clause-none c = record {
  size = c.in_ok-log_size.log_size;
  log = subst (λ (p : List ℕ). HasLogSize p c.in_ok-log_size.log_size) c.requires c.in_ok-log_size.ensures.size;
  short = search rules;
  file = elim c.if-db_size-eq0.branch [
    | then-db_size-eq0 w ↦ inl (subst (HasSize c.args.db.now) w.if-db_size-eq0.true c.in_ok-db_size.ensures.size)
    | else-db_size-eq0+in_ok-lists_ours w ↦ inr (w.in_ok-lists_ours.ensures.lists (sym w.value-is ∙ c.if-branch.true))
  ];
}
