use Rattle.std.proofs.Common.{◌≡◌, ◌&&◌, ◌||◌, Bool, drop}
use Rattle.ov_specs.specs.rows.Database.{same_key}
use Rattle.ov_specs.specs.rows.Lines.{LineKey}
use Rattle.ov_refs.specs.Linking.{without_references}
use Rattle.ov_refs.specs.Placed.{AreAlike, has_target, refers}
use Rattle.ov_refs.proofs.links.Links.place_targets.Given as goal

abbrev pub invariant-loop-target : goal.invariant-loop-target
invariant-loop-target l = record {
  back : AreAlike (without_references l.added.items l.self) (without_references l.fn.added.items l.fn.self);
  adds : (strong : Bool) (to from : LineKey) →
      (refers strong l.self to from || (same_key from l.from && has_target strong to (drop l.target-index l.targets)))
      ≡ (refers strong l.fn.self to from || (same_key from l.from && has_target strong to l.targets));
}
