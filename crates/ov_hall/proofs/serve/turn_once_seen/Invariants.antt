use Rattle.ov_lanes.specs.Lanes.{DeskGoesOn, IsSteady, SameLane, LooksAt, StayAs}
use Rattle.ov_hall.proofs.serve.turn_once_seen.Given as goal

abbrev pub invariant-loop : goal.invariant-loop
invariant-loop g l = record {
  goes : DeskGoesOn l.moment l.initial.desk l.desk;
  rings : StayAs SameLane l.initial.desk.lanes.items l.desk.lanes.items;
  steady : IsSteady g.K.Keeper.is_honest l.initial.desk.core l.desk.core;
  looks : StayAs LooksAt l.initial.desk.lanes.items l.desk.lanes.items;
}
