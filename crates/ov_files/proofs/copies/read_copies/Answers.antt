use Rattle.std.proofs.Common.{◌∙◌, refl, inl, inr, subst, sym, ap, Vec, Global, ℕ, List}
use Rattle.ov_files.specs.Looking.{log_of, HasBytes, HasLogSize}
use Rattle.ov_files.proofs.copies.read_copies.Goals.{then-log_size-eq0, else-log_size-eq0+in_ok-log}
use Rattle.ov_files.proofs.copies.read_copies.Goals as goal

pub returns-clause-some : goal.returns-clause-some
returns-clause-some c = (
  _,
  refl,
  record {
    file = c.in_ok-db.ensures.bytes;
    log = elim c.if-log_size-eq0.branch [
      | then-log_size-eq0 w ↦
          let here : HasLogSize (log_of c.args.db.now) c.args.log_size = subst (λ (p : List ℕ). HasLogSize p c.args.log_size) c.requires.name c.requires.size in
          inr (ap (λ (v : Vec ℕ Global). v.items) w.log-is ∙ w.new-log.ensures.items, subst (λ (n : ℕ). HasLogSize (log_of c.args.db.now) n) w.if-log_size-eq0.true here)
      | else-log_size-eq0+in_ok-log w ↦
          inl (subst (λ (v : Vec ℕ Global). HasBytes (log_of c.args.db.now) v.items) (sym w.log-is) (subst (λ (p : List ℕ). HasBytes p w.in_ok-log.log.items) c.requires.name w.in_ok-log.ensures.bytes))
    ];
  },
)
