use Rattle.std.proofs.Common.{◌≡◌, ◌||◌, Bool}
use Rattle.std.specs.List.{list_any}
use Rattle.ov_specs.specs.rows.Lines.{LineKey}
use Rattle.ov_refs.specs.Linking.{without_references}
use Rattle.ov_refs.specs.Placed.{AreAlike, refers}
use Rattle.ov_refs.proofs.Placing.{is_reference, puts, loses}
use Rattle.ov_refs.proofs.links.Links.place.Given as goal

abbrev pub invariant-loop-key : goal.invariant-loop-key
invariant-loop-key l = record {
  back : AreAlike (without_references l.room.added.items l.self) l.fn.self;
  adds : (strong : Bool) (to from : LineKey) →
      (refers strong l.self to from || list_any (puts strong l.schema to from) l.key-iterator)
      ≡ (refers strong l.fn.self to from || list_any (puts strong l.schema to from) l.initial.key-iterator);
  gone : (strong : Bool) (to from : LineKey) →
      (list_any (is_reference strong to from) l.room.gone.items || list_any (loses strong l.schema l.rows to from) l.key-iterator)
      ≡ list_any (loses strong l.schema l.rows to from) l.initial.key-iterator;
}
